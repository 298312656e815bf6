-- The innermost type stands last in the code, and first in the rules.
use Rattle.std.proofs.Common.{◌≡◌, ◌++◌, List, [], ◌∷◌, ap, ◌∙◌}
use Rattle.std.specs.Prelude.{map, reverse}
use Rattle.std.proofs.lemmas.List.{map-append, reverse-append}
use Rattle.interface_text.specs.Views.{form_of}
use Rattle.interface_text.specs.declared.frames.Frame.{Frame}

pub forms_push : (frames : List Frame) (f : Frame) → reverse (map form_of (frames ++ f ∷ [])) ≡ form_of f ∷ reverse (map form_of frames)
forms_push frames f = ap reverse (map-append form_of frames (f ∷ [])) ∙ reverse-append (map form_of frames) (form_of f ∷ [])
