-- One turn of writing, by what comes next.
use Rattle.std.proofs.Common.{◌≡◌, ℕ, zero, suc, List, Option, Some, None, Ok, ap, ◌∙◌, arith}
use Rattle.marshal_plans.specs.declared.putting.PutTurn.TheVariants.{Along, Down}
use Rattle.marshal_plans.specs.declared.putting.Unput.{Unput}
use Rattle.marshal_plans.specs.declared.step.Step.{Step}
use Rattle.marshal_plans.specs.Cursors.{cursor_data}
use Rattle.marshal_plans.specs.Data.{Datum, Data, datum_then}
use Rattle.marshal_plans.specs.Encoding.{enc, joined}
use Rattle.marshal_plans.specs.Forms.{Form, no_forms, form_then}
use Rattle.marshal_plans.specs.Lefts.{Todo, all_of, elements, opened, IsTurn, enc_todo}
use Rattle.marshal_plans.specs.Puts.{Onward, Started, rest_code}
use Rattle.marshal_plans.specs.Steps.{IsStep}
use Rattle.marshal_plans.specs.Writing.{Wrote}
use Rattle.marshal_plans.proofs.Nexts.{Next, next_of}
use Rattle.marshal_plans.proofs.Placing.{joined_assoc}

pub enc_next : (t : Todo) (f : Form) (u : Todo) (d : Datum) (ds : Data) → opened t ≡ Some (f, u)
    → enc_todo t (datum_then d ds) ≡ joined (enc f d) (enc_todo u ds)
enc_next (all_of no_forms) f u d ds e = absurd (cc)
enc_next (all_of (form_then g gs)) f u d ds e =
    let pairs : (g, all_of gs) ≡ (f, u) = cc in
    ap (λ (p : Form × Todo). joined (enc p.0 d) (enc_todo p.1 ds)) pairs
enc_next (elements zero g) f u d ds e = absurd (cc)
enc_next (elements (suc n) g) f u d ds e =
    let pairs : (g, elements n g) ≡ (f, u) = cc in
    ap (λ (p : Form × Todo). joined (enc p.0 d) (enc_todo p.1 ds)) pairs

module _ (t : Todo) (level : Unput) (s : Step) (d : Datum) (more : Unput) (old new : List ℕ) (at place : ℕ)
    (next : IsTurn (opened t) (Some (s, more.left))) (are : cursor_data level.values ≡ datum_then d (cursor_data more.values)) where
  here : Next t s more.left
  here = next_of t s more.left next

  code : rest_code t level ≡ joined (enc here.form d) (rest_code here.todo more)
  code = ap (enc_todo t) are ∙ enc_next t here.form here.todo d (cursor_data more.values) here.same

  pub along : ((f : Form) → IsStep f s → Started f d old new at (Ok (None, place)))
      → (bytes : List ℕ) × Wrote old new at place bytes × Onward t level bytes (Along more)
  along started =
      let p = started here.form here.step in
      (p.0, p.2, (here.todo, here.is, here.shallower, code ∙ ap (λ (c : Option (List ℕ)). joined c (rest_code here.todo more)) p.1))

  pub down : (inner : Unput) → ((f : Form) → IsStep f s → Started f d old new at (Ok (Some inner, place)))
      → (bytes : List ℕ) × Wrote old new at place bytes × Onward t level bytes (Down more inner)
  down inner started =
      let p = started here.form here.step in (
        p.1,
        p.5,
        (
          here.todo,
          p.0,
          here.is,
          p.2,
          here.shallower,
          omega (arith, p.3, here.shallow),
          code ∙ ap (λ (c : Option (List ℕ)). joined c (rest_code here.todo more)) p.4
              ∙ joined_assoc (Some p.1) (rest_code p.0 inner) (rest_code here.todo more),
        ),
      )
