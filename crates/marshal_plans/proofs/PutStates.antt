-- How far the writing of a plan has come.
use Rattle.std.proofs.Common.{◌≡◌, ◌<◌, ◌≤◌, ◌+◌, ◌^◌, ℕ, suc, List, [], ◌∷◌, ◌++◌, length, Option, Some, None, Ok, Err, refl, ap, sym, ◌∙◌, subst, arith, length-append}
use Rattle.marshal_plans.specs.declared.fault.PutFault.{PutFault}
use Rattle.marshal_plans.specs.declared.fault.PutFault.TheVariants.{Shape, Room}
use Rattle.marshal_plans.specs.declared.instruction.Instruction.{Instruction}
use Rattle.marshal_plans.specs.declared.levels.Left.{Left}
use Rattle.marshal_plans.specs.declared.putting.PutTurn.TheVariants.{Done, Along, Down}
use Rattle.marshal_plans.specs.declared.putting.Unput.{Unput}
use Rattle.marshal_plans.specs.Data.{Data}
use Rattle.marshal_plans.specs.Encoding.{enc_all, joined}
use Rattle.marshal_plans.specs.Forms.{Forms}
use Rattle.marshal_plans.specs.Lefts.{Todo, all_of, IsLeft, todo_groups, left_size, left_bound}
use Rattle.marshal_plans.specs.Plan.{plans, groups_all}
use Rattle.marshal_plans.specs.Puts.{Turned, rest_code}
use Rattle.marshal_plans.specs.Writing.{Wrote, Puts}
use Rattle.marshal_plans.proofs.Placing.{joined_assoc, joined_empty, joined_nothing, wrote_nothing, wrote_more}
use Rattle.marshal_plans.proofs.Stacks.{Stack, Bounded, pushed, popped}

abbrev pub put_left : Unput → Left
put_left level = level.left

-- the encoding of what is left of groups in one another, of the innermost first
abbrev pub outer_code : List Todo → List Unput → Option (List ℕ)
outer_code [] levels = Some []
outer_code (t ∷ ts) [] = Some []
outer_code (t ∷ ts) (level ∷ levels) = joined (outer_code ts levels) (rest_code t level)

behind_nothing : (c : Option (List ℕ)) → joined c (Some []) ≡ c
behind_nothing None = refl
behind_nothing (Some a) = joined_nothing a

code_more : (most begun : ℕ) (ts : List Todo) (levels : List Unput) (t : Todo) (level : Unput) → Stack put_left most begun ts levels
    → outer_code (ts ++ t ∷ []) (levels ++ level ∷ []) ≡ joined (rest_code t level) (outer_code ts levels)
code_more most begun [] [] t level s = joined_empty (rest_code t level) ∙ sym (behind_nothing (rest_code t level))
code_more most begun [] (x ∷ xs) t level s = absurd s
code_more most begun (u ∷ us) [] t level s = absurd s
code_more most begun (u ∷ us) (x ∷ xs) t level s =
    ap (λ (c : Option (List ℕ)). joined c (rest_code u x)) (code_more most (suc begun) us xs t level s.2)
    ∙ joined_assoc (rest_code t level) (outer_code us xs) (rest_code u x)

-- what is written, with the encoding of what is left, is the encoding of all
pub record Running (fs : Forms) (all : Data) (outer : List Unput) (level : Unput) (old new : List ℕ) (place : ℕ) : Type 0 where
  pub todos : List Todo
  pub todo : Todo
  pub stack : Stack put_left (groups_all fs) 0 todos outer
  pub left : IsLeft todo level.left
  pub deep : length outer + todo_groups todo ≤ groups_all fs
  pub bytes : List ℕ
  pub same : enc_all fs all ≡ joined (Some bytes) (joined (rest_code todo level) (outer_code todos outer))
  pub wrote : Wrote old new 0 place bytes

pub running_start : (fs : Forms) (all : Data) (level : Unput) (old : List ℕ) → IsLeft (all_of fs) level.left → rest_code (all_of fs) level ≡ enc_all fs all
    → Running fs all [] level old old 0
running_start fs all level old is code = record {
  todos = [];
  todo = all_of fs;
  stack = tt;
  left = is;
  deep = omega arith;
  bytes = [];
  same = sym (joined_empty (joined (rest_code (all_of fs) level) (Some [])) ∙ behind_nothing (rest_code (all_of fs) level) ∙ code);
  wrote = wrote_nothing old 0;
}

module _ (fs : Forms) (all : Data) (outer : List Unput) (level : Unput) (old new newer : List ℕ) (place next : ℕ)
    (g : Running fs all outer level old new place) where
  behind : Option (List ℕ)
  behind = outer_code g.todos outer

  pub running_along : (more : Unput) → Turned g.todo level new newer place (Ok (Along more, next)) → Running fs all outer more old newer next
  running_along more t =
      let u = t.2 in
      record {
        todos = g.todos;
        todo = u.0;
        stack = g.stack;
        left = u.1;
        deep = omega (arith, g.deep, u.2);
        bytes = g.bytes ++ t.0;
        same = g.same ∙ ap (λ (c : Option (List ℕ)). joined (Some g.bytes) (joined c (outer_code g.todos outer))) u.3
            ∙ ap (joined (Some g.bytes)) (joined_assoc (Some t.0) (rest_code u.0 more) (outer_code g.todos outer))
            ∙ sym (joined_assoc (Some g.bytes) (Some t.0) (joined (rest_code u.0 more) (outer_code g.todos outer)));
        wrote = wrote_more old new newer 0 place next g.bytes t.0 g.wrote t.1;
      }

  pub running_down : (more inner : Unput) → Turned g.todo level new newer place (Ok (Down more inner, next))
      → Running fs all (outer ++ more ∷ []) inner old newer next
  running_down more inner t =
      let u = t.2 in
      let long : length (outer ++ more ∷ []) ≡ length outer + 1 = length-append outer (more ∷ []) in
      record {
        todos = g.todos ++ u.0 ∷ [];
        todo = u.1;
        stack = pushed put_left (groups_all fs) 0 g.todos outer u.0 more g.stack u.2 (omega (arith, g.deep, u.4));
        left = u.3;
        deep = omega (arith, g.deep, u.5, long);
        bytes = g.bytes ++ t.0;
        same = g.same ∙ ap (λ (c : Option (List ℕ)). joined (Some g.bytes) (joined c (outer_code g.todos outer))) u.6
            ∙ ap (joined (Some g.bytes)) (joined_assoc (Some t.0) (joined (rest_code u.1 inner) (rest_code u.0 more)) (outer_code g.todos outer))
            ∙ ap (λ (c : Option (List ℕ)). joined (Some g.bytes) (joined (Some t.0) c))
            (joined_assoc (rest_code u.1 inner) (rest_code u.0 more) (outer_code g.todos outer)
            ∙ ap (joined (rest_code u.1 inner)) (sym (code_more (groups_all fs) 0 g.todos outer u.0 more g.stack)))
            ∙ sym (joined_assoc (Some g.bytes) (Some t.0) (joined (rest_code u.1 inner) (outer_code (g.todos ++ u.0 ∷ []) (outer ++ more ∷ []))));
        wrote = wrote_more old new newer 0 place next g.bytes t.0 g.wrote t.1;
      }

  -- where a group begins, there is room for one more
  pub room : (more inner : Unput) → Turned g.todo level new newer place (Ok (Down more inner, next)) → length outer + 1 ≤ groups_all fs
  room more inner t = omega (arith, g.deep, t.2.5)

  done_code : Turned g.todo level new newer place (Ok (Done, next)) → (bytes : List ℕ) × Wrote old newer 0 next bytes
      × (enc_all fs all ≡ joined (Some bytes) (outer_code g.todos outer))
  done_code t = (
    g.bytes ++ t.0,
    wrote_more old new newer 0 place next g.bytes t.0 g.wrote t.1,
    g.same ∙ ap (λ (c : Option (List ℕ)). joined (Some g.bytes) (joined c (outer_code g.todos outer))) t.2
        ∙ sym (joined_assoc (Some g.bytes) (Some t.0) (outer_code g.todos outer)),
  )

  pub running_up : (others : List Unput) (more : Unput) → outer ≡ others ++ more ∷ [] → Turned g.todo level new newer place (Ok (Done, next))
      → Running fs all others more old newer next
  running_up others more are t =
      let d = done_code t in
      let p = popped put_left (groups_all fs) 0 g.todos others more (subst (Stack put_left (groups_all fs) 0 g.todos) are g.stack) in
      record {
        todos = p.outer;
        todo = p.todo;
        stack = p.stack;
        left = p.is;
        deep = omega (arith, p.deep);
        bytes = d.0;
        same = d.2 ∙ ap (λ (ls : List Unput). joined (Some d.0) (outer_code g.todos ls)) are
            ∙ ap (λ (ts : List Todo). joined (Some d.0) (outer_code ts (others ++ more ∷ []))) p.all
            ∙ ap (joined (Some d.0)) (code_more (groups_all fs) 0 p.outer others p.todo more p.stack);
        wrote = d.1;
      }

  ended : (ts : List Todo) → Stack put_left (groups_all fs) 0 ts [] → outer_code ts [] ≡ Some []
  ended [] s = refl
  ended (t ∷ ts) s = absurd s

  pub running_end : outer ≡ [] → Turned g.todo level new newer place (Ok (Done, next)) → Puts old newer 0 (Ok next) (enc_all fs all)
  running_end are t =
      let d = done_code t in (
        d.0,
        d.2 ∙ ap (λ (ls : List Unput). joined (Some d.0) (outer_code g.todos ls)) are
            ∙ ap (joined (Some d.0)) (ended g.todos (subst (Stack put_left (groups_all fs) 0 g.todos) are g.stack)) ∙ joined_nothing d.0,
        d.1,
      )

  pub running_wrong : (e : PutFault) → Turned g.todo level new newer place (Err e) → Puts old newer 0 (Err e) (enc_all fs all)
  running_wrong Shape t =
      g.same ∙ ap (λ (c : Option (List ℕ)). joined (Some g.bytes) (joined c (outer_code g.todos outer))) t
  running_wrong Room t = absurd t

abbrev pub put_size : Unput → ℕ
put_size level = left_size level.left

-- the same by the plan's instructions alone, with bounds of what is left
pub record PutState (plan : List Instruction) (all : Data) (outer : List Unput) (level : Unput) (old new : List ℕ) (place : ℕ) : Type 0 where
  pub runs : (fs : Forms) → plan ≡ plans fs → Running fs all outer level old new place
  pub outer_bound : Bounded put_left outer
  pub bound : left_bound level.left < 2 ^ 64
