-- Plans that are too long, and those that aren't.
use Rattle.std.proofs.Common.{◌≡◌, ◌≤◌, ◌<◌, ◌+◌, ℕ, suc, Bool, true, false, cond, List, [], ◌∷◌, length, map, get_or, Option, Some, None, ap, sym, ◌∙◌, refl, arith}
use Rattle.std.specs.Prelude.{nat_lt, ◌||◌}
use Rattle.std.proofs.lemmas.Bool.Decides.{nat_tests}
use Rattle.std.proofs.lemmas.List.Elements.{All-nil, All-cons}
use Rattle.std.proofs.lemmas.Nat.{mul-le}
use Rattle.interface_text.specs.States.{procedure_view}
use Rattle.interface_text.specs.declared.interface.Procedure.{Procedure}
use Rattle.marshal_plans.specs.Forms.{Form, Forms, number, array, record_of, no_forms, form_then, forms_in}
use Rattle.marshal_plans.specs.Lengths.{least, least_all, largest, largest_all, clipped, too_long}
use Rattle.marshal_plans.specs.declared.fault.PlanFault.{PlanFault}
use Rattle.marshal_plans.specs.declared.fault.PlanFault.TheVariants.{TooLong, Memory}
use Rattle.marshal_plans.specs.declared.instruction.Extent.TheVariants.{Exactly, UpTo}
use Rattle.commands.specs.PlanText.{IsShort, AreShort}
use Rattle.commands.specs.Stubs.{long_line}

no_fault_here : (f : PlanFault) → Some f ≡ None → ⊥
no_fault_here f h = cc

fault_here : (f : PlanFault) → None ≡ Some f → ⊥
fault_here f h = cc

not_over : (m n : ℕ) → nat_lt m n ≡ false → n ≤ m
not_over m n h = grind (arith, nat_tests)

pub none_long : (k : ℕ) (ps : List Procedure) → too_long k ps ≡ None → AreShort ps × (long_line (map procedure_view ps) ≡ None)
none_long k [] h = (All-nil IsShort, refl)
none_long k (p ∷ ps) h =
    by (λ g. none_long (k + 1) ps g) (nat_lt 92160 (largest_all (forms_in p.arguments))) refl (nat_lt 92160 (largest_all (forms_in p.reply))) refl h
  where
    by : (too_long (k + 1) ps ≡ None → AreShort ps × (long_line (map procedure_view ps) ≡ None)) → (a : Bool) → nat_lt 92160 (largest_all (forms_in p.arguments)) ≡ a → (b : Bool) → nat_lt 92160 (largest_all (forms_in p.reply)) ≡ b
        → cond a (Some (TooLong k (clipped (largest_all (forms_in p.arguments))))) (cond b (Some (TooLong k (clipped (largest_all (forms_in p.reply))))) (too_long (k + 1) ps)) ≡ None
        → AreShort (p ∷ ps) × (cond (a || b) (Some p.line) (long_line (map procedure_view ps)) ≡ None)
    by more true e b f g = absurd (no_fault_here _ g)
    by more false e true f g = absurd (no_fault_here _ g)
    by more false e false f g =
        let rest = more g in
        (All-cons IsShort p ps (record { arguments = not_over _ _ e; reply = not_over _ _ f }) rest.0, rest.1)

abbrev number_in : Option PlanFault → ℕ
number_in (Some (TooLong n b)) = n
number_in (Some Memory) = 0
number_in None = 0

-- where the first that is too long stands
pub record FirstLong (k : ℕ) (ps : List Procedure) (n : ℕ) : Type 0 where
  pub at : ℕ
  pub some_procedure : Procedure
  pub numbered : n ≡ k + at
  pub there : at < length ps
  pub line : long_line (map procedure_view ps) ≡ Some (get_or ps at some_procedure).line

pub first_long : (k : ℕ) (ps : List Procedure) (n b : ℕ) → too_long k ps ≡ Some (TooLong n b) → FirstLong k ps n
first_long k [] n b h = absurd (fault_here _ h)
first_long k (p ∷ ps) n b h =
    by (λ g. first_long (k + 1) ps n b g) (nat_lt 92160 (largest_all (forms_in p.arguments))) (nat_lt 92160 (largest_all (forms_in p.reply))) refl refl h
  where
    here : (a c : Bool) → a || c ≡ true → nat_lt 92160 (largest_all (forms_in p.arguments)) ≡ a → nat_lt 92160 (largest_all (forms_in p.reply)) ≡ c
        → k ≡ n → FirstLong k (p ∷ ps) n
    here a c some e f is = record {
      at = 0;
      some_procedure = p;
      numbered = omega (arith, is);
      there = omega arith;
      line = ap (λ (t : Bool). cond t (Some p.line) (long_line (map procedure_view ps)))
          (ap (λ (t : Bool). t || nat_lt 92160 (largest_all (forms_in p.reply))) e ∙ ap (λ (t : Bool). a || t) f ∙ some);
    }

    by : (too_long (k + 1) ps ≡ Some (TooLong n b) → FirstLong (k + 1) ps n) → (a c : Bool) → nat_lt 92160 (largest_all (forms_in p.arguments)) ≡ a → nat_lt 92160 (largest_all (forms_in p.reply)) ≡ c
        → cond a (Some (TooLong k (clipped (largest_all (forms_in p.arguments))))) (cond c (Some (TooLong k (clipped (largest_all (forms_in p.reply))))) (too_long (k + 1) ps)) ≡ Some (TooLong n b)
        → FirstLong k (p ∷ ps) n
    by more true c e f g = here true c refl e f (ap number_in g)
    by more false true e f g = here false true refl e f (ap number_in g)
    by more false false e f g =
        let rest = more g in record {
          at = suc rest.at;
          some_procedure = rest.some_procedure;
          numbered = omega (arith, rest.numbered);
          there = omega (arith, rest.there);
          line = ap (λ (t : Bool). cond t (Some p.line) (long_line (map procedure_view ps)))
              (ap (λ (t : Bool). t || nat_lt 92160 (largest_all (forms_in p.reply))) e ∙ f) ∙ rest.line;
        }

not_memory : (n b : ℕ) → TooLong n b ≡ Memory → ⊥
not_memory n b e = cc

-- a fault that isn't want of memory is the first plan that is too long
pub long_first : (ps : List Procedure) (f : PlanFault) (n b : ℕ) → f ≡ TooLong n b → ((f ≡ Memory → ⊥) → too_long 0 ps ≡ Some f)
    → too_long 0 ps ≡ Some (TooLong n b)
long_first ps f n b is h = h (λ e. not_memory n b (sym is ∙ e)) ∙ ap (λ (g : PlanFault). Some g) is

pub long_there : (ps : List Procedure) (n b : ℕ) → too_long 0 ps ≡ Some (TooLong n b) → n < length ps
long_there ps n b h = let f = first_long 0 ps n b h in omega (arith, f.numbered, f.there)

mutual
  least_within : (f : Form) → least f ≤ largest f
  least_within (number b) = omega arith
  least_within (array (Exactly n) f) = mul-le n (least f) n (largest f) (omega arith) (least_within f)
  least_within (array (UpTo n) f) = omega arith
  least_within (record_of fs) = all_within fs

  all_within : (fs : Forms) → least_all fs ≤ largest_all fs
  all_within no_forms = omega arith
  all_within (form_then f fs) = omega (arith, least_within f, all_within fs)

-- the lengths of a plan that is short enough are told as they are
pub told_least : (fs : Forms) → largest_all fs ≤ 92160 → clipped (least_all fs) ≡ least_all fs
told_least fs h = let w = all_within fs in omega arith

pub told_largest : (fs : Forms) → largest_all fs ≤ 92160 → clipped (largest_all fs) ≡ largest_all fs
told_largest fs h = omega arith
