-- The beginning of a value, as it is read.
use Rattle.std.proofs.Common.{◌≡◌, ◌≤◌, ◌+◌, ℕ, List, Ok, refl, ap, sym, subst, ◌∙◌, arith}
use Rattle.std.specs.Borrow.{Bor}
use Rattle.marshal_plans.specs.declared.basic.Basic.{Basic}
use Rattle.marshal_plans.specs.declared.basic.Basic.TheVariants.{Byte}
use Rattle.marshal_plans.specs.declared.fault.GetFault.{GetFault}
use Rattle.marshal_plans.specs.declared.instruction.Extent.{Extent}
use Rattle.marshal_plans.specs.declared.instruction.Instruction.{Instruction}
use Rattle.marshal_plans.specs.declared.levels.Left.TheVariants.{Fields, Elements}
use Rattle.marshal_plans.specs.declared.step.Step.TheVariants as step
use Rattle.marshal_plans.specs.Basics.{width, value_of}
use Rattle.marshal_plans.specs.Data.{Data, plain, group}
use Rattle.marshal_plans.specs.Forms.{Form, number, array, record_of}
use Rattle.marshal_plans.specs.Lefts.{Todo, all_of, elements, IsLeft, todo_groups, reads_todo}
use Rattle.marshal_plans.specs.Plan.{groups}
use Rattle.marshal_plans.specs.Reading.{Read, ◌>>=◌, item, counted, reads, times}
use Rattle.marshal_plans.specs.Steps.{IsStep, Fails}
use Rattle.marshal_plans.proofs.GetTurns.{fails_through, fails_along}

module _ (total : ℕ) (bytes : List ℕ) where
  pub wrong_number : (f : Form) (b : Basic) (e : GetFault) → IsStep f (step.Item b) → Fails e (item total (width b) (value_of b) bytes) → Fails e (reads total f bytes)
  wrong_number (number c) b e is fails =
      subst (λ (x : Basic). Fails e (item total (width x) (value_of x) bytes >>= λ m behind. Ok (plain m, behind))) (sym is)
      (fails_through e (item total (width b) (value_of b) bytes) (λ m behind. Ok (plain m, behind)) fails)
  wrong_number (array x g) b e is fails = absurd is
  wrong_number (record_of fs) b e is fails = absurd is

  head_fails : (g : Form) (y x : Extent) (e : GetFault) → y ≡ x → Fails e (counted total x bytes) → Fails e (reads total (array y g) bytes)
  head_fails g y x e same fails =
      subst (λ (z : Extent). Fails e (reads total (array z g) bytes)) (sym same)
      (fails_through e (counted total x bytes) (λ m behind. times (reads total g) m behind >>= λ ds end. Ok (group ds, end)) fails)

  pub wrong_array : (f : Form) (x : Extent) (element : Bor (List Instruction)) (e : GetFault) → IsStep f (step.Array x element) → Fails e (counted total x bytes)
      → Fails e (reads total f bytes)
  wrong_array (number c) x element e is fails = absurd is
  wrong_array (array y g) x element e is fails = head_fails g y x e is.0 fails
  wrong_array (record_of fs) x element e is fails = absurd is

  pub wrong_bytes : (f : Form) (x : Extent) (e : GetFault) → IsStep f (step.Bytes x) → Fails e (counted total x bytes) → Fails e (reads total f bytes)
  wrong_bytes (number c) x e is fails = absurd is
  wrong_bytes (array y g) x e is fails = head_fails g y x e is.0 fails
  wrong_bytes (record_of fs) x e is fails = absurd is

  pub begin_record : (f : Form) (parts : Bor (List Instruction)) → IsStep f (step.Record parts)
      → (w : Todo) × IsLeft w (Fields parts) × (todo_groups w + 1 ≤ groups f) × (reads total f bytes ≡ (reads_todo total w bytes >>= λ ds end. Ok (group ds, end)))
  begin_record (number b) parts is = absurd is
  begin_record (array x g) parts is = absurd is
  begin_record (record_of fs) parts is = (all_of fs, is, omega arith, refl)

  module _ (x : Extent) (n : ℕ) (rest : List ℕ) (head : counted total x bytes ≡ Ok (n, rest)) where
    head_read : (g : Form) (y : Extent) → y ≡ x
        → reads total (array y g) bytes ≡ (times (reads total g) n rest >>= λ ds end. Ok (group ds, end))
    head_read g y same =
        ap (λ (z : Extent). reads total (array z g) bytes) same
        ∙ ap (λ (q : Read ℕ). q >>= λ m behind. times (reads total g) m behind >>= λ ds end. Ok (group ds, end)) head

    pub begin_array : (f : Form) (element : Bor (List Instruction)) → IsStep f (step.Array x element)
        → (w : Todo) × IsLeft w (Elements n element) × (todo_groups w + 1 ≤ groups f) × (reads total f bytes ≡ (reads_todo total w rest >>= λ ds end. Ok (group ds, end)))
    begin_array (number b) element is = absurd is
    begin_array (array y g) element is = (elements n g, (refl, is.1), omega arith, head_read g y is.0)
    begin_array (record_of fs) element is = absurd is

    pub begin_bytes : (f : Form) (ds : Data) (end : List ℕ) → IsStep f (step.Bytes x) → times (reads total (number Byte)) n rest ≡ Ok (ds, end)
        → reads total f bytes ≡ Ok (group ds, end)
    begin_bytes (number b) ds end is read = absurd is
    begin_bytes (array y g) ds end is read =
        head_read g y is.0
        ∙ ap (λ (h : Form). times (reads total h) n rest >>= λ ds end. Ok (group ds, end)) is.1
        ∙ ap (λ (q : Read Data). q >>= λ ds end. Ok (group ds, end)) read
    begin_bytes (record_of fs) ds end is read = absurd is

    pub wrong_text : (f : Form) (e : GetFault) → IsStep f (step.Bytes x) → Fails e (times (reads total (number Byte)) n rest) → Fails e (reads total f bytes)
    wrong_text (number b) e is fails = absurd is
    wrong_text (array y g) e is fails =
        let same : reads total (array y g) bytes ≡ (times (reads total (number Byte)) n rest >>= λ ds end. Ok (group ds, end)) =
        head_read g y is.0 ∙ ap (λ (h : Form). times (reads total h) n rest >>= λ ds end. Ok (group ds, end)) is.1 in
        fails_along e (times (reads total (number Byte)) n rest >>= λ ds end. Ok (group ds, end)) (reads total (array y g) bytes) (sym same)
        (fails_through e (times (reads total (number Byte)) n rest) (λ ds end. Ok (group ds, end)) fails)
    wrong_text (record_of fs) e is fails = absurd is
