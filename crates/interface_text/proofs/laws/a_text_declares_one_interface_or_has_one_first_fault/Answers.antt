use Rattle.std.proofs.Common.{◌≡◌, ◌⊎◌, Ok, Err, inl, inr, refl}
use Rattle.interface_text.specs.Interfaces.{DeclaredInterface}
use Rattle.interface_tokens.specs.Outcome.{Outcome}
use Rattle.interface_text.specs.Texts.{read_text}
use Rattle.interface_tokens.specs.declared.fault.Cause.{Cause}
use Rattle.interface_tokens.specs.declared.place.Place.{Place}
use Rattle.interface_text.proofs.laws.a_text_declares_one_interface_or_has_one_first_fault.Goals as goal

either : (r : Outcome DeclaredInterface) → ((interface : DeclaredInterface) × (r ≡ Ok interface)) ⊎ ((place : Place) × (cause : Cause) × (r ≡ Err (place, cause)))
either (Ok interface) = inl (interface, refl)
either (Err fault) = inr (fault.0, fault.1, refl)

pub returns-clause-either : goal.returns-clause-either
returns-clause-either c = λ text. either (read_text text)
