-- What the names that the code keeps stand for.
use Rattle.std.specs.Prelude.{ℕ, List, map}
use Rattle.interface_text.specs.Meanings.{KnownType, Sense, a_type, an_exception, a_procedure}
use Rattle.interface_text.specs.Trees.{part_kind}
use Rattle.interface_text.specs.declared.names.Known.{Known}
use Rattle.interface_text.specs.declared.names.Meaning.{Meaning}
use Rattle.interface_text.specs.declared.names.Meaning.TheVariants as meaning
use Rattle.interface_text.specs.declared.names.Names.{Names}

abbrev pub known_of : Known → KnownType
known_of k = record { kind = part_kind k.tree; depth = k.depth; parts = k.parts }

abbrev pub sense_of : Meaning → Sense
sense_of (meaning.Type k) = a_type (known_of k)
sense_of (meaning.Exception n) = an_exception n
sense_of meaning.Procedure = a_procedure

abbrev pub named_sense : (List ℕ × Meaning) → (List ℕ × Sense)
named_sense e = (e.0, sense_of e.1)

unfoldable pub senses_of : Names → List (List ℕ × Sense)
senses_of names = map named_sense names.map.entries
