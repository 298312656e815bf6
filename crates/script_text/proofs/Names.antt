-- Words that are names.
use Rattle.std.proofs.Common.{◌≡◌, ℕ, Bool, true, false, cond, List, [], Some, None, IsTrue, sym, refl}
use Rattle.std.proofs.lemmas.Option.{cond_some}
use Rattle.binder.specs.Names.{is_name, name_of}
use Rattle.replay_model.specs.TextFault.{name_fault}
use Rattle.replay_model.specs.declared.text_fault.TextFault.TheVariants as fault
use Rattle.script_text.proofs.Numbers.{passes}

pub name_without_fault : (w : List ℕ) → name_fault w ≡ None → IsTrue (is_name w)
unfolding name_fault
name_without_fault w e = (passes fault.Name (is_name w) [] e).0

pub name_passes : (w : List ℕ) → IsTrue (is_name w) → name_fault w ≡ None
unfolding name_fault
name_passes w e = rw e refl

name_fails : (w : List ℕ) → is_name w ≡ false → name_fault w ≡ Some fault.Name
unfolding name_fault
name_fails w e = rw e refl

cond_none : (b : Bool) (w : List ℕ) → cond b (Some w) None ≡ None → b ≡ false
cond_none true w e = cc
cond_none false w e = refl

-- what is read as a name is the word itself
pub named : (w name : List ℕ) → Some name ≡ name_of w → (name_fault w ≡ None) × (name ≡ w)
named w name e = let found = cond_some (is_name w) w name (sym e) in (name_passes w found.0, sym found.1)

pub unnamed : (w : List ℕ) → None ≡ name_of w → name_fault w ≡ Some fault.Name
unnamed w e = name_fails w (cond_none (is_name w) w (sym e))
