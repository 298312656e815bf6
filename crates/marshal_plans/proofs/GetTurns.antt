-- One turn of reading, by what comes next.
use Rattle.std.proofs.Common.{◌≡◌, ℕ, zero, suc, List, [], ◌∷◌, ◌++◌, Some, None, Ok, Err, refl, ap, sym, ◌∙◌, subst, arith}
use Rattle.marshal_plans.specs.declared.fault.GetFault.{GetFault}
use Rattle.marshal_plans.specs.declared.fault.GetFault.TheVariants.{Short, Range, Left, Memory}
use Rattle.marshal_plans.specs.declared.getting.Begun.TheVariants.{Whole, Group}
use Rattle.marshal_plans.specs.declared.getting.GetTurn.TheVariants.{Along, Down}
use Rattle.marshal_plans.specs.declared.getting.Unread.{Unread}
use Rattle.marshal_plans.specs.declared.step.Step.{Step}
use Rattle.marshal_plans.specs.declared.value.Value.{Value}
use Rattle.marshal_plans.specs.Data.{Datum, Data, group, no_data, datum_then, datum_of, data_of, followed}
use Rattle.marshal_plans.specs.Forms.{Form, no_forms, form_then}
use Rattle.marshal_plans.specs.Gets.{Begins, GoesOn, rest_read, behind_group}
use Rattle.marshal_plans.specs.Lefts.{Todo, all_of, elements, opened, IsTurn, reads_todo}
use Rattle.marshal_plans.specs.Reading.{Read, ◌>>=◌, reads, with_front}
use Rattle.marshal_plans.specs.Steps.{IsStep, Fails}
use Rattle.marshal_plans.proofs.Nexts.{Next, next_of}

-- what fails goes on failing
pub fails_through : {A B : Type 0} (e : GetFault) (q : Read A) (f : A → List ℕ → Read B) → Fails e q → Fails e (q >>= f)
fails_through Memory q f h = tt
fails_through (Short at) q f h = ap (λ r. r >>= f) h
fails_through (Range at) q f h = ap (λ r. r >>= f) h
fails_through (Left at) q f h = ap (λ r. r >>= f) h

pub fails_along : {A : Type 0} (e : GetFault) (q r : Read A) → q ≡ r → Fails e q → Fails e r
fails_along e q r same h = subst (Fails e) same h

pub followed_assoc : (a b c : Data) → followed (followed a b) c ≡ followed a (followed b c)
followed_assoc no_data b c = refl
followed_assoc (datum_then d ds) b c = ap (datum_then d) (followed_assoc ds b c)

pub followed_nothing : (a : Data) → followed a no_data ≡ a
followed_nothing no_data = refl
followed_nothing (datum_then d ds) = ap (datum_then d) (followed_nothing ds)

-- one more value goes from what is read to what is in front
pub front_more : (front : Data) (d : Datum) (q : Read Data)
    → with_front front (q >>= λ ds end. Ok (datum_then d ds, end)) ≡ with_front (followed front (datum_then d no_data)) q
front_more front d (Ok r) = ap (λ (ds : Data). Ok (ds, r.1)) (sym (followed_assoc front (datum_then d no_data) r.0))
front_more front d (Err e) = refl

pub front_none : (q : Read Data) → with_front no_data q ≡ q
front_none (Ok r) = refl
front_none (Err e) = refl

pub data_more : (vs : List Value) (ws : List Value) (v : Value) → ws ≡ vs ++ v ∷ [] → data_of ws ≡ followed (data_of vs) (datum_then (datum_of v) no_data)
data_more vs ws v e = ap data_of e ∙ go vs
  where
    go : (us : List Value) → data_of (us ++ v ∷ []) ≡ followed (data_of us) (datum_then (datum_of v) no_data)
    go [] = refl
    go (u ∷ us) = ap (datum_then (datum_of u)) (go us)

pub reads_next : (total : ℕ) (t : Todo) (f : Form) (u : Todo) (rest : List ℕ) → opened t ≡ Some (f, u)
    → reads_todo total t rest ≡ (reads total f rest >>= λ d behind. reads_todo total u behind >>= λ ds end. Ok (datum_then d ds, end))
reads_next total (all_of no_forms) f u rest e = absurd (cc)
reads_next total (all_of (form_then g gs)) f u rest e =
    let pairs : (g, all_of gs) ≡ (f, u) = cc in
    ap (λ (p : Form × Todo). reads total p.0 rest >>= λ d behind. reads_todo total p.1 behind >>= λ ds end. Ok (datum_then d ds, end)) pairs
reads_next total (elements zero g) f u rest e = absurd (cc)
reads_next total (elements (suc n) g) f u rest e =
    let pairs : (g, elements n g) ≡ (f, u) = cc in
    ap (λ (p : Form × Todo). reads total p.0 rest >>= λ d behind. reads_todo total p.1 behind >>= λ ds end. Ok (datum_then d ds, end)) pairs

-- nothing is left to be read
pub reads_nothing : (total : ℕ) (t : Todo) (level : Unread) (rest : List ℕ) → IsTurn (opened t) None → rest_read total t level rest ≡ Ok (data_of level.values.items, rest)
reads_nothing total (all_of no_forms) level rest h = ap (λ (ds : Data). Ok (ds, rest)) (followed_nothing (data_of level.values.items))
reads_nothing total (all_of (form_then f fs)) level rest h = absurd h
reads_nothing total (elements zero f) level rest h = ap (λ (ds : Data). Ok (ds, rest)) (followed_nothing (data_of level.values.items))
reads_nothing total (elements (suc n) f) level rest h = absurd h

module _ (total : ℕ) (t : Todo) (level : Unread) (s : Step) (more : Unread) (bytes rest : List ℕ) (next : IsTurn (opened t) (Some (s, more.left))) where
  here : Next t s more.left
  here = next_of t s more.left next

  onward : Datum → List ℕ → Read Data
  onward d behind = reads_todo total here.todo behind >>= λ ds end. Ok (datum_then d ds, end)

  read_here : rest_read total t level bytes ≡ with_front (data_of level.values.items) (reads total here.form bytes
      >>= λ d behind. reads_todo total here.todo behind >>= λ ds end. Ok (datum_then d ds, end))
  read_here = ap (with_front (data_of level.values.items)) (reads_next total t here.form here.todo bytes here.same)

  pub get_along : (v : Value) → more.values.items ≡ level.values.items ++ v ∷ []
      → ((f : Form) → IsStep f s → Begins total f bytes (Ok (Whole v, rest))) → GoesOn total t level bytes rest (Along more)
  get_along v are begins = (
    here.todo,
    here.is,
    here.shallower,
    read_here
        ∙ ap (λ (q : Read Datum). with_front (data_of level.values.items) (q >>= λ d behind. reads_todo total here.todo behind >>= λ ds end. Ok (datum_then d ds, end)))
        (begins here.form here.step)
        ∙ front_more (data_of level.values.items) (datum_of v) (reads_todo total here.todo rest)
        ∙ ap (λ (front : Data). with_front front (reads_todo total here.todo rest)) (sym (data_more level.values.items more.values.items v are)),
  )

  pub get_down : (inner : Unread) → more.values.items ≡ level.values.items → inner.values.items ≡ []
      → ((f : Form) → IsStep f s → Begins total f bytes (Ok (Group inner.left, rest))) → GoesOn total t level bytes rest (Down more inner)
  get_down inner are none begins =
      let b = begins here.form here.step in (
        here.todo,
        b.0,
        here.is,
        b.1,
        here.shallower,
        omega (arith, b.2, here.shallow),
        read_here
            ∙ ap (λ (q : Read Datum). with_front (data_of level.values.items) (q >>= λ d behind. reads_todo total here.todo behind >>= λ ds end. Ok (datum_then d ds, end))) b.3
            ∙ group_first (data_of level.values.items) (reads_todo total b.0 rest)
            ∙ ap (λ (vs : List Value). with_front (data_of vs) (reads_todo total b.0 rest
            >>= λ ds behind. reads_todo total here.todo behind >>= λ es end. Ok (datum_then (group ds) es, end))) (sym are)
            ∙ ap (λ (q : Read Data). behind_group total here.todo more q) (sym (front_none (reads_todo total b.0 rest))
            ∙ ap (λ (vs : List Value). with_front (data_of vs) (reads_todo total b.0 rest)) (sym none)),
      )
    where
      group_first : (front : Data) (q : Read Data)
          → with_front front ((q >>= λ ds end. Ok (group ds, end)) >>= λ d behind. reads_todo total here.todo behind >>= λ ds end. Ok (datum_then d ds, end))
          ≡ with_front front (q >>= λ ds behind. reads_todo total here.todo behind >>= λ es end. Ok (datum_then (group ds) es, end))
      group_first front (Ok r) = refl
      group_first front (Err e) = refl

  pub get_wrong : (e : GetFault) → ((f : Form) → IsStep f s → Fails e (reads total f bytes)) → Fails e (rest_read total t level bytes)
  get_wrong e wrong =
      let first = fails_through e (reads total here.form bytes) (λ d behind. reads_todo total here.todo behind >>= λ ds end. Ok (datum_then d ds, end)) (wrong here.form here.step) in
      let all = fails_through e (reads total here.form bytes >>= λ d behind. reads_todo total here.todo behind >>= λ ds end. Ok (datum_then d ds, end))
      (λ ds end. Ok (followed (data_of level.values.items) ds, end)) first in
      fails_along e (with_front (data_of level.values.items) (reads total here.form bytes
      >>= λ d behind. reads_todo total here.todo behind >>= λ ds end. Ok (datum_then d ds, end))) (rest_read total t level bytes) (sym read_here) all
