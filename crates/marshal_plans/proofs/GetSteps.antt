-- A turn of reading leads from one state to the next, and is nearer to the end.
use Rattle.std.proofs.Common.{◌≡◌, ◌<◌, ◌≤◌, ◌-◌, ◌^◌, ℕ, suc, List, [], ◌∷◌, ◌++◌, length, map, Ok, ap, sym, ◌∙◌, subst, arith, lit<, Vec, Global}
use Rattle.std.proofs.lemmas.List.{map-append, length-map}
use Rattle.std.specs.Borrow.{Bor}
use Rattle.marshal_plans.specs.declared.fault.GetFault.{GetFault}
use Rattle.marshal_plans.specs.declared.getting.GetTurn.{GetTurn}
use Rattle.marshal_plans.specs.declared.getting.GetTurn.TheVariants.{Done, Along, Down}
use Rattle.marshal_plans.specs.declared.getting.Unread.{Unread}
use Rattle.marshal_plans.specs.declared.instruction.Instruction.{Instruction}
use Rattle.marshal_plans.specs.declared.levels.Left.TheVariants.{Fields}
use Rattle.marshal_plans.specs.declared.value.Value.{Value}
use Rattle.marshal_plans.specs.Data.{group, no_data, datum_then, data_of, followed}
use Rattle.marshal_plans.specs.Forms.{Forms}
use Rattle.marshal_plans.specs.Gets.{GoesOn, Lessens, rest_read}
use Rattle.marshal_plans.specs.Lefts.{Todo, all_of, IsLeft, left_size, left_bound}
use Rattle.marshal_plans.specs.Plan.{plans, IsPlan}
use Rattle.marshal_plans.specs.Reading.{reads_all}
use Rattle.marshal_plans.specs.Steps.{Fails}
use Rattle.marshal_plans.proofs.GetStates.{GetState, get_left, get_size, running_start, running_along, running_down, running_up, running_end, running_wrong, room}
use Rattle.marshal_plans.proofs.PutSteps.{size_within}
use Rattle.marshal_plans.proofs.Ranks.{rank, rank_along, rank_down, rank_up}
use Rattle.marshal_plans.proofs.Stacks.{Bounded, bounded_push, bounded_pop}

pub state_start : (total : ℕ) (instructions : Bor (List Instruction)) (level : Unread) (bytes : List ℕ) → level.left ≡ Fields instructions → level.values.items ≡ []
    → length instructions.now < 2 ^ 64 → GetState total instructions.now bytes [] level bytes
state_start total instructions level bytes is none small = record {
  runs = λ fs e. running_start total fs bytes level (subst (IsLeft (all_of fs)) (sym is) e) none;
  outer_bound = tt;
  bound = subst (λ l. left_bound l < 2 ^ 64) (sym is) small;
  within = omega arith;
}

module _ (total : ℕ) (instructions : List Instruction) (bytes : List ℕ) (outer : List Unread) (level : Unread) (rest : List ℕ)
    (g : GetState total instructions bytes outer level rest) where
  pub state_wrong : (e : GetFault) → ((t : Todo) → IsLeft t level.left → Fails e (rest_read total t level rest))
      → (fs : Forms) → instructions ≡ plans fs → Fails e (reads_all total fs bytes)
  state_wrong e turns fs is = let r = g.runs fs is in running_wrong total fs bytes outer level rest rest r e (turns r.todo r.left)

module _ (total : ℕ) (instructions : List Instruction) (bytes : List ℕ) (outer : List Unread) (level : Unread) (rest behind : List ℕ)
    (g : GetState total instructions bytes outer level rest) (turn : GetTurn)
    (turns : (t : Todo) → IsLeft t level.left → GoesOn total t level rest behind turn) (shorter : length behind ≤ length rest)
    (lessens : Lessens (2 ^ 32 - 1) level turn) where
  turns_as : (same : GetTurn) → turn ≡ same → (t : Todo) → IsLeft t level.left → GoesOn total t level rest behind same
  turns_as same is t left = subst (GoesOn total t level rest behind) is (turns t left)

  lessens_as : (same : GetTurn) → turn ≡ same → Lessens (2 ^ 32 - 1) level same
  lessens_as same is = subst (Lessens (2 ^ 32 - 1) level) is lessens

  pub state_along : (more : Unread) → turn ≡ Along more → GetState total instructions bytes outer more behind
  state_along more is = record {
    runs = λ fs e. let r = g.runs fs e in running_along total fs bytes outer level rest behind r more (turns_as (Along more) is r.todo r.left);
    outer_bound = g.outer_bound;
    bound = omega (arith, g.bound, (lessens_as (Along more) is).1);
    within = omega (arith, g.within);
  }

  pub smaller_along : (more : Unread) → turn ≡ Along more
      → rank (2 ^ 65) 16 (map get_size outer ++ get_size more ∷ []) < rank (2 ^ 65) 16 (map get_size outer ++ get_size level ∷ [])
  smaller_along more is = rank_along (2 ^ 65) (lit< tt) 16 (map get_size outer) (get_size more) (get_size level) (lessens_as (Along more) is).0

  pub room_down : (more inner : Unread) → IsPlan instructions → turn ≡ Down more inner → length outer < 16
  room_down more inner made is =
      let r = g.runs made.forms made.made in
      omega (arith, room total made.forms bytes outer level rest behind r more inner (turns_as (Down more inner) is r.todo r.left), made.shallow)

  inner_bound : (more inner : Unread) → turn ≡ Down more inner → left_bound inner.left < 2 ^ 64
  inner_bound more inner is = omega (arith, g.bound, (lessens_as (Down more inner) is).2)

  pub state_down : (more inner : Unread) (outermost : List Unread) → turn ≡ Down more inner → outermost ≡ outer ++ more ∷ []
      → GetState total instructions bytes outermost inner behind
  state_down more inner outermost is are = subst (λ (ls : List Unread). GetState total instructions bytes ls inner behind) (sym are) (record {
    runs = λ fs e. let r = g.runs fs e in running_down total fs bytes outer level rest behind r more inner (turns_as (Down more inner) is r.todo r.left);
    outer_bound = bounded_push get_left outer more g.outer_bound (omega (arith, g.bound, (lessens_as (Down more inner) is).1));
    bound = inner_bound more inner is;
    within = omega (arith, g.within);
  })

  pub smaller_down : (more inner : Unread) (outermost : List Unread) → IsPlan instructions → turn ≡ Down more inner → outermost ≡ outer ++ more ∷ []
      → rank (2 ^ 65) 16 (map get_size outermost ++ get_size inner ∷ []) < rank (2 ^ 65) 16 (map get_size outer ++ get_size level ∷ [])
  smaller_down more inner outermost made is are =
      let split : map get_size outermost ≡ map get_size outer ++ get_size more ∷ [] =
      ap (map get_size) are ∙ map-append get_size outer (more ∷ []) in
      let fits : suc (length (map get_size outer)) ≤ 16 = omega (arith, length-map outer get_size, room_down more inner made is) in
      let small : suc (get_size inner) < 2 ^ 65 = omega (arith, size_within inner.left, inner_bound more inner is) in
      let less = rank_down (2 ^ 65) (lit< tt) 16 (map get_size outer) (get_size more) (get_size level) (get_size inner) (lessens_as (Down more inner) is).0 small fits in
      subst (λ (ns : List ℕ). rank (2 ^ 65) 16 (ns ++ get_size inner ∷ []) < rank (2 ^ 65) 16 (map get_size outer ++ get_size level ∷ [])) (sym split) less

  pub state_up : (others : List Unread) (more next : Unread) (values : List Value) → outer ≡ others ++ more ∷ []
      → ((t : Todo) → IsLeft t level.left → rest_read total t level rest ≡ Ok (data_of values, behind))
      → next.left ≡ more.left → data_of next.values.items ≡ followed (data_of more.values.items) (datum_then (group (data_of values)) no_data)
      → GetState total instructions bytes others next behind
  state_up others more next values are read left_is values_are =
      let b = bounded_pop get_left others more (subst (Bounded get_left) are g.outer_bound) in
      record {
        runs = λ fs e. let r = g.runs fs e in
            running_up total fs bytes outer level rest behind r others more next values are (read r.todo r.left) left_is values_are;
        outer_bound = b.0;
        bound = subst (λ l. left_bound l < 2 ^ 64) (sym left_is) b.1;
        within = omega (arith, g.within);
      }

  pub smaller_up : (others : List Unread) (more next : Unread) → outer ≡ others ++ more ∷ [] → next.left ≡ more.left
      → rank (2 ^ 65) 16 (map get_size others ++ get_size next ∷ []) < rank (2 ^ 65) 16 (map get_size outer ++ get_size level ∷ [])
  smaller_up others more next are left_is =
      let same : get_size next ≡ get_size more = ap left_size left_is in
      let split : map get_size outer ≡ map get_size others ++ get_size next ∷ [] =
      ap (map get_size) are ∙ map-append get_size others (more ∷ []) ∙ ap (λ (n : ℕ). map get_size others ++ n ∷ []) (sym same) in
      subst (λ (ns : List ℕ). rank (2 ^ 65) 16 ns < rank (2 ^ 65) 16 (map get_size outer ++ get_size level ∷ [])) split
      (rank_up (2 ^ 65) (lit< tt) 16 (map get_size outer) (get_size level))

  pub state_end : (values : List Value) → outer ≡ [] → ((t : Todo) → IsLeft t level.left → rest_read total t level rest ≡ Ok (data_of values, behind))
      → (fs : Forms) → instructions ≡ plans fs → reads_all total fs bytes ≡ Ok (data_of values, behind)
  state_end values are read fs e =
      let r = g.runs fs e in running_end total fs bytes outer level rest behind r values are (read r.todo r.left)

  -- the values of a group that is whole
  pub whole_group : (values : Vec Value Global) → turn ≡ Done values → (t : Todo) → IsLeft t level.left → rest_read total t level rest ≡ Ok (data_of values.items, behind)
  whole_group values is t left = turns_as (Done values) is t left
