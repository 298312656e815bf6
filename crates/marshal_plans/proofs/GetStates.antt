-- How far the reading of a plan has come.
use Rattle.std.proofs.Common.{◌≡◌, ◌<◌, ◌≤◌, ◌+◌, ◌^◌, ℕ, suc, List, [], ◌∷◌, ◌++◌, length, Ok, refl, ap, sym, ◌∙◌, subst, arith, length-append}
use Rattle.marshal_plans.specs.declared.fault.GetFault.{GetFault}
use Rattle.marshal_plans.specs.declared.instruction.Instruction.{Instruction}
use Rattle.marshal_plans.specs.declared.getting.GetTurn.TheVariants.{Along, Down}
use Rattle.marshal_plans.specs.declared.getting.Unread.{Unread}
use Rattle.marshal_plans.specs.declared.levels.Left.{Left}
use Rattle.marshal_plans.specs.declared.value.Value.{Value}
use Rattle.marshal_plans.specs.Data.{Data, group, no_data, datum_then, data_of, followed}
use Rattle.marshal_plans.specs.Forms.{Forms}
use Rattle.marshal_plans.specs.Gets.{GoesOn, rest_read, behind_group}
use Rattle.marshal_plans.specs.Lefts.{Todo, all_of, IsLeft, todo_groups, reads_todo, left_size, left_bound}
use Rattle.marshal_plans.specs.Plan.{plans, groups_all}
use Rattle.marshal_plans.specs.Reading.{Read, ◌>>=◌, reads_all, with_front}
use Rattle.marshal_plans.specs.Steps.{Fails}
use Rattle.marshal_plans.proofs.GetTurns.{fails_through, fails_along, front_more, front_none}
use Rattle.marshal_plans.proofs.Stacks.{Stack, Bounded, pushed, popped}

abbrev pub get_left : Unread → Left
get_left level = level.left

abbrev pub get_size : Unread → ℕ
get_size level = left_size level.left

-- what is read of groups in one another, of which the innermost is read so
abbrev pub inside : ℕ → List Todo → List Unread → Read Data → Read Data
inside total [] levels inner = inner
inside total (t ∷ ts) [] inner = inner
inside total (t ∷ ts) (level ∷ levels) inner = behind_group total t level (inside total ts levels inner)

inside_more : (total most begun : ℕ) (ts : List Todo) (levels : List Unread) (t : Todo) (level : Unread) (inner : Read Data) → Stack get_left most begun ts levels
    → inside total (ts ++ t ∷ []) (levels ++ level ∷ []) inner ≡ inside total ts levels (behind_group total t level inner)
inside_more total most begun [] [] t level inner s = refl
inside_more total most begun [] (x ∷ xs) t level inner s = absurd s
inside_more total most begun (u ∷ us) [] t level inner s = absurd s
inside_more total most begun (u ∷ us) (x ∷ xs) t level inner s =
    ap (behind_group total u x) (inside_more total most (suc begun) us xs t level inner s.2)

fails_behind : (total : ℕ) (t : Todo) (level : Unread) (e : GetFault) (q : Read Data) → Fails e q → Fails e (behind_group total t level q)
fails_behind total t level e q h =
    fails_through e (q >>= λ ds rest. reads_todo total t rest >>= λ es end. Ok (datum_then (group ds) es, end))
    (λ ds end. Ok (followed (data_of level.values.items) ds, end))
    (fails_through e q (λ ds rest. reads_todo total t rest >>= λ es end. Ok (datum_then (group ds) es, end)) h)

fails_inside : (total : ℕ) (ts : List Todo) (levels : List Unread) (e : GetFault) (q : Read Data) → Fails e q → Fails e (inside total ts levels q)
fails_inside total [] levels e q h = h
fails_inside total (t ∷ ts) [] e q h = h
fails_inside total (t ∷ ts) (level ∷ levels) e q h =
    fails_behind total t level e (inside total ts levels q) (fails_inside total ts levels e q h)

-- what is left to be read is read as all is
pub record Running (total : ℕ) (fs : Forms) (bytes : List ℕ) (outer : List Unread) (level : Unread) (rest : List ℕ) : Type 0 where
  pub todos : List Todo
  pub todo : Todo
  pub stack : Stack get_left (groups_all fs) 0 todos outer
  pub left : IsLeft todo level.left
  pub deep : length outer + todo_groups todo ≤ groups_all fs
  pub same : inside total todos outer (rest_read total todo level rest) ≡ reads_all total fs bytes

pub running_start : (total : ℕ) (fs : Forms) (bytes : List ℕ) (level : Unread) → IsLeft (all_of fs) level.left → level.values.items ≡ []
    → Running total fs bytes [] level bytes
running_start total fs bytes level is none = record {
  todos = [];
  todo = all_of fs;
  stack = tt;
  left = is;
  deep = omega arith;
  same = ap (λ (vs : List Value). with_front (data_of vs) (reads_all total fs bytes)) none ∙ front_none (reads_all total fs bytes);
}

module _ (total : ℕ) (fs : Forms) (bytes : List ℕ) (outer : List Unread) (level : Unread) (rest behind : List ℕ) (g : Running total fs bytes outer level rest) where
  pub running_along : (more : Unread) → GoesOn total g.todo level rest behind (Along more) → Running total fs bytes outer more behind
  running_along more u = record {
    todos = g.todos;
    todo = u.0;
    stack = g.stack;
    left = u.1;
    deep = omega (arith, g.deep, u.2);
    same = sym (ap (inside total g.todos outer) u.3) ∙ g.same;
  }

  pub running_down : (more inner : Unread) → GoesOn total g.todo level rest behind (Down more inner) → Running total fs bytes (outer ++ more ∷ []) inner behind
  running_down more inner u =
      let long : length (outer ++ more ∷ []) ≡ length outer + 1 = length-append outer (more ∷ []) in
      record {
        todos = g.todos ++ u.0 ∷ [];
        todo = u.1;
        stack = pushed get_left (groups_all fs) 0 g.todos outer u.0 more g.stack u.2 (omega (arith, g.deep, u.4));
        left = u.3;
        deep = omega (arith, g.deep, u.5, long);
        same = inside_more total (groups_all fs) 0 g.todos outer u.0 more (rest_read total u.1 inner behind) g.stack
            ∙ sym (ap (inside total g.todos outer) u.6) ∙ g.same;
      }

  -- where a group begins, there is room for one more
  pub room : (more inner : Unread) → GoesOn total g.todo level rest behind (Down more inner) → length outer + 1 ≤ groups_all fs
  room more inner u = omega (arith, g.deep, u.5)

  pub running_up : (others : List Unread) (more next : Unread) (values : List Value) → outer ≡ others ++ more ∷ []
      → rest_read total g.todo level rest ≡ Ok (data_of values, behind)
      → next.left ≡ more.left → data_of next.values.items ≡ followed (data_of more.values.items) (datum_then (group (data_of values)) no_data)
      → Running total fs bytes others next behind
  running_up others more next values are read left_is values_are =
      let p = popped get_left (groups_all fs) 0 g.todos others more (subst (Stack get_left (groups_all fs) 0 g.todos) are g.stack) in
      let done : Read Data = Ok (data_of values, behind) in
      let here : behind_group total p.todo more done ≡ rest_read total p.todo next behind =
      front_more (data_of more.values.items) (group (data_of values)) (reads_todo total p.todo behind)
      ∙ ap (λ (front : Data). with_front front (reads_todo total p.todo behind)) (sym values_are) in
      record {
        todos = p.outer;
        todo = p.todo;
        stack = p.stack;
        left = subst (IsLeft p.todo) (sym left_is) p.is;
        deep = omega (arith, p.deep);
        same = sym (ap (inside total p.outer others) here)
            ∙ sym (inside_more total (groups_all fs) 0 p.outer others p.todo more done p.stack)
            ∙ sym (ap (λ (ts : List Todo). inside total ts (others ++ more ∷ []) done) p.all)
            ∙ sym (ap (λ (ls : List Unread). inside total g.todos ls done) are)
            ∙ sym (ap (inside total g.todos outer) read)
            ∙ g.same;
      }

  ended : (ts : List Todo) (q : Read Data) → Stack get_left (groups_all fs) 0 ts [] → inside total ts [] q ≡ q
  ended [] q s = refl
  ended (t ∷ ts) q s = absurd s

  pub running_end : (values : List Value) → outer ≡ [] → rest_read total g.todo level rest ≡ Ok (data_of values, behind)
      → reads_all total fs bytes ≡ Ok (data_of values, behind)
  running_end values are read =
      let done : Read Data = Ok (data_of values, behind) in
      sym g.same ∙ ap (inside total g.todos outer) read ∙ ap (λ (ls : List Unread). inside total g.todos ls done) are
      ∙ ended g.todos done (subst (Stack get_left (groups_all fs) 0 g.todos) are g.stack)

  pub running_wrong : (e : GetFault) → Fails e (rest_read total g.todo level rest) → Fails e (reads_all total fs bytes)
  running_wrong e h =
      fails_along e (inside total g.todos outer (rest_read total g.todo level rest)) (reads_all total fs bytes) g.same
      (fails_inside total g.todos outer e (rest_read total g.todo level rest) h)

-- the same by the plan's instructions alone, with bounds of what is left
pub record GetState (total : ℕ) (instructions : List Instruction) (bytes : List ℕ) (outer : List Unread) (level : Unread) (rest : List ℕ) : Type 0 where
  pub runs : (fs : Forms) → instructions ≡ plans fs → Running total fs bytes outer level rest
  pub outer_bound : Bounded get_left outer
  pub bound : left_bound level.left < 2 ^ 64
  pub within : length rest ≤ length bytes
