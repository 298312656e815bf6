-- What the reader's state says, without where it lies in memory.
use Rattle.std.specs.Prelude.{List, map, reverse, option_map}
use Rattle.interface_text.specs.Trees.{part_kind}
use Rattle.interface_text.specs.TypeRules.{Group, Form, array_form, open_form, fields_form, Typing, Settling, whole, next}
use Rattle.interface_text.specs.declared.frames.Fields.{Fields}
use Rattle.interface_text.specs.declared.frames.Frame.{Frame}
use Rattle.interface_text.specs.declared.frames.Frame.TheVariants as frame
use Rattle.interface_text.specs.declared.frames.Frames.{Frames}
use Rattle.interface_text.specs.declared.types.Types.{Types}
use Rattle.interface_text.specs.declared.types.Settled.{Settled}
use Rattle.interface_text.specs.declared.types.Settled.TheVariants.{Whole, Next}

abbrev pub group_of : Fields → Group
group_of g = record { names = g.names.set.keys; parts = map part_kind g.parts.items; fresh = g.fresh; times = g.times }

abbrev pub form_of : Frame → Form
form_of (frame.Array n) = array_form n
form_of (frame.Open element) = open_form (option_map part_kind element)
form_of (frame.Fields g) = fields_form (group_of g)

-- the frames stand the outermost first
unfoldable pub forms_of : Frames → List Form
forms_of frames = reverse (map form_of frames.frames.items)

abbrev pub typing_of : Types → Typing
typing_of t = record { start = t.start; times = t.times; total = t.total; deepest = t.deepest; forms = forms_of t.frames; values = t.values.names.set.keys }

abbrev pub settling_of : Settled → Settling
settling_of (Whole tree) = whole (part_kind tree)
settling_of (Next e) = next e
