-- The text of a source that may not tell it.
use Rattle.std.proofs.Common.{◌≡◌, ◌+◌, ℕ, List, ◌++◌, length, Option, None, Some, refl, sym, ap, subst, ◌⊎◌, inl, inr, arith, length-append}
use Rattle.std.specs.Prelude.{IfSome, unwrap_or, [], ◌==◌, if◌then◌else◌, true, false}
use Rattle.ff_io.specs.Told.{Gave}
use Rattle.ff_io.specs.declared.reading.ReadAll.{ReadAll}
use Rattle.ff_io.specs.declared.reading.ReadAll.TheVariants.{Failed, TooLong, Memory}
use Rattle.script_text.specs.declared.fault.ScriptFault.{ScriptFault}
use Rattle.script_text.specs.Reading.{IsRefusal}
use Rattle.commands.specs.declared.status.Status.TheVariants as status
use Rattle.commands.specs.Outside.{Input, ReadFailed, ReadToEnd}
use Rattle.commands.specs.declared.replay.TheConstants.{INPUT_LIMIT}
use Rattle.commands.specs.Replay.{Unread, IsWithin, IsLong}
use Rattle.commands.specs.Status.{status_of_reading, status_of_text}

-- what was left, or some text where that isn't told
abbrev pub told : Option (List ℕ) → List ℕ
told old = unwrap_or old []

pub told_is : (old : Option (List ℕ)) → IfSome old (λ left. left ≡ told old)
told_is None = tt
told_is (Some left) = refl

-- a source that gave more bytes than the limit had more left
pub long_text : (bytes : List ℕ) (old new : Option (List ℕ)) → Gave bytes old new → length bytes ≡ INPUT_LIMIT + 1
    → (text : List ℕ) × IfSome old (λ left. left ≡ text) × IsLong text
long_text bytes None new gave many = (bytes, tt, inl (omega (arith, many)))
long_text bytes (Some left) None gave many = absurd (cc gave)
long_text bytes (Some left) (Some rest) gave many =
    let is : left ≡ bytes ++ rest = cc gave in
    (left, refl, inl (omega (arith, ap length is, length-append bytes rest, many)))

pub turned : (old : Option (List ℕ)) (text : List ℕ) → IfSome old (λ left. text ≡ left) → IfSome old (λ left. left ≡ text)
turned None text p = tt
turned (Some left) text p = sym p

-- why the input wasn't read to its end
pub unread : (e : ReadAll) (from to : Input) (bytes : List ℕ) → Gave bytes from.left to.left → (e ≡ TooLong → length bytes ≡ INPUT_LIMIT + 1)
    → (e ≡ Failed → ReadFailed from to) → (text : List ℕ) × IfSome from.left (λ left. left ≡ text) × Unread (status_of_reading e) text from to
unread Failed from to bytes gave many failed = (told from.left, told_is from.left, failed refl)
unread TooLong from to bytes gave many failed = long_text bytes from.left to.left gave (many refl)
unread Memory from to bytes gave many failed = (told from.left, told_is from.left, tt)

abbrev pub memory : ScriptFault
memory = record { line = 0; number = 0 }

-- why the text is no script
pub no_script : (e : ScriptFault) (text : List ℕ) (from to : Input) → (e ≡ memory) ⊎ IsRefusal text e → IsWithin text → ReadToEnd to
    → Unread (status_of_text e) text from to
no_script e text from to (inl is) within end = subst (λ x. Unread (status_of_text x) text from to) (sym is) tt
no_script e text from to (inr refusal) within end =
    elim (e.number == 0) as (λ b. Unread (if b then status.NoMemory else status.BadText e.line e.number) text from to) [
      | true ↦ tt
      | false ↦ (refusal, within, end)
    ]
