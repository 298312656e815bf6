-- A turn of writing leads from one state to the next, and is nearer to the end.
use Rattle.std.proofs.Common.{◌≡◌, ◌<◌, ◌≤◌, ◌-◌, ◌^◌, ℕ, suc, List, [], ◌∷◌, ◌++◌, length, map, Ok, Err, refl, ap, sym, ◌∙◌, subst, arith, lit<}
use Rattle.std.proofs.lemmas.List.{map-append, length-map}
use Rattle.std.specs.Borrow.{Bor}
use Rattle.marshal_plans.specs.declared.cursor.Cursor.{Cursor}
use Rattle.marshal_plans.specs.declared.fault.PutFault.{PutFault}
use Rattle.marshal_plans.specs.declared.instruction.Instruction.{Instruction}
use Rattle.marshal_plans.specs.declared.levels.Left.{Left}
use Rattle.marshal_plans.specs.declared.levels.Left.TheVariants.{Fields, Elements}
use Rattle.marshal_plans.specs.declared.putting.PutTurn.{PutTurn}
use Rattle.marshal_plans.specs.declared.putting.PutTurn.TheVariants.{Done, Along, Down}
use Rattle.marshal_plans.specs.declared.putting.Unput.{Unput}
use Rattle.marshal_plans.specs.Cursors.{cursor_data}
use Rattle.marshal_plans.specs.Data.{Data}
use Rattle.marshal_plans.specs.Encoding.{enc_all}
use Rattle.marshal_plans.specs.Forms.{Forms}
use Rattle.marshal_plans.specs.Lefts.{Todo, IsLeft, left_size, left_bound}
use Rattle.marshal_plans.specs.Plan.{plans, IsPlan}
use Rattle.marshal_plans.specs.Puts.{Turned, Falls}
use Rattle.marshal_plans.specs.Writing.{Puts}
use Rattle.marshal_plans.proofs.PutStates.{PutState, put_left, put_size, running_start, running_along, running_down, running_up, running_end, running_wrong, room}
use Rattle.marshal_plans.proofs.Ranks.{rank, rank_along, rank_down, rank_up}
use Rattle.marshal_plans.proofs.Stacks.{Bounded, bounded_push, bounded_pop}

pub size_within : (l : Left) → left_size l ≤ left_bound l
size_within (Fields p) = omega arith
size_within (Elements n element) = omega arith

pub state_start : (instructions : Bor (List Instruction)) (values : Cursor) (level : Unput) (old : List ℕ) → level ≡ record { left = Fields instructions; values = values }
    → length instructions.now < 2 ^ 64 → PutState instructions.now (cursor_data values) [] level old old 0
state_start instructions values level old is small = subst (λ (l : Unput). PutState instructions.now (cursor_data values) [] l old old 0) (sym is) (record {
  runs = λ fs e. running_start fs (cursor_data values) (record { left = Fields instructions; values = values }) old e refl;
  outer_bound = tt;
  bound = small;
})

module _ (instructions : List Instruction) (all : Data) (outer : List Unput) (level : Unput) (old new newer : List ℕ) (place : ℕ)
    (g : PutState instructions all outer level old new place) where
  pub state_wrong : (e : PutFault) → ((t : Todo) → IsLeft t level.left → Turned t level new newer place (Err e))
      → (fs : Forms) → instructions ≡ plans fs → Puts old newer 0 (Err e) (enc_all fs all)
  state_wrong e turns fs is =
      let r = g.runs fs is in running_wrong fs all outer level old new newer place 0 r e (turns r.todo r.left)

module _ (instructions : List Instruction) (all : Data) (outer : List Unput) (level : Unput) (old new newer : List ℕ) (place next : ℕ)
    (g : PutState instructions all outer level old new place) (turn : PutTurn)
    (turns : (t : Todo) → IsLeft t level.left → Turned t level new newer place (Ok (turn, next))) (falls : Falls (2 ^ 32 - 1) level turn) where
  turns_as : (same : PutTurn) → turn ≡ same → (t : Todo) → IsLeft t level.left → Turned t level new newer place (Ok (same, next))
  turns_as same is t left = subst (λ (w : PutTurn). Turned t level new newer place (Ok (w, next))) is (turns t left)

  falls_as : (same : PutTurn) → turn ≡ same → Falls (2 ^ 32 - 1) level same
  falls_as same is = subst (Falls (2 ^ 32 - 1) level) is falls

  pub state_along : (more : Unput) → turn ≡ Along more → PutState instructions all outer more old newer next
  state_along more is = record {
    runs = λ fs e. let r = g.runs fs e in running_along fs all outer level old new newer place next r more (turns_as (Along more) is r.todo r.left);
    outer_bound = g.outer_bound;
    bound = omega (arith, g.bound, (falls_as (Along more) is).1);
  }

  pub smaller_along : (more : Unput) → turn ≡ Along more
      → rank (2 ^ 65) 16 (map put_size outer ++ put_size more ∷ []) < rank (2 ^ 65) 16 (map put_size outer ++ put_size level ∷ [])
  smaller_along more is = rank_along (2 ^ 65) (lit< tt) 16 (map put_size outer) (put_size more) (put_size level) (falls_as (Along more) is).0

  pub room_down : (more inner : Unput) → IsPlan instructions → turn ≡ Down more inner → length outer < 16
  room_down more inner made is =
      let r = g.runs made.forms made.made in
      omega (arith, room made.forms all outer level old new newer place next r more inner (turns_as (Down more inner) is r.todo r.left), made.shallow)

  inner_bound : (more inner : Unput) → turn ≡ Down more inner → left_bound inner.left < 2 ^ 64
  inner_bound more inner is = omega (arith, g.bound, (falls_as (Down more inner) is).2)

  pub state_down : (more inner : Unput) (outermost : List Unput) → turn ≡ Down more inner → outermost ≡ outer ++ more ∷ []
      → PutState instructions all outermost inner old newer next
  state_down more inner outermost is are = subst (λ (ls : List Unput). PutState instructions all ls inner old newer next) (sym are) (record {
    runs = λ fs e. let r = g.runs fs e in running_down fs all outer level old new newer place next r more inner (turns_as (Down more inner) is r.todo r.left);
    outer_bound = bounded_push put_left outer more g.outer_bound (omega (arith, g.bound, (falls_as (Down more inner) is).1));
    bound = inner_bound more inner is;
  })

  pub smaller_down : (more inner : Unput) (outermost : List Unput) → IsPlan instructions → turn ≡ Down more inner → outermost ≡ outer ++ more ∷ []
      → rank (2 ^ 65) 16 (map put_size outermost ++ put_size inner ∷ []) < rank (2 ^ 65) 16 (map put_size outer ++ put_size level ∷ [])
  smaller_down more inner outermost made is are =
      let split : map put_size outermost ≡ map put_size outer ++ put_size more ∷ [] =
      ap (map put_size) are ∙ map-append put_size outer (more ∷ []) in
      let fits : suc (length (map put_size outer)) ≤ 16 = omega (arith, length-map outer put_size, room_down more inner made is) in
      let small : suc (put_size inner) < 2 ^ 65 = omega (arith, size_within inner.left, inner_bound more inner is) in
      let less = rank_down (2 ^ 65) (lit< tt) 16 (map put_size outer) (put_size more) (put_size level) (put_size inner) (falls_as (Down more inner) is).0 small fits in
      subst (λ (ns : List ℕ). rank (2 ^ 65) 16 (ns ++ put_size inner ∷ []) < rank (2 ^ 65) 16 (map put_size outer ++ put_size level ∷ [])) (sym split) less

  pub state_up : (others : List Unput) (more : Unput) → outer ≡ others ++ more ∷ [] → turn ≡ Done → PutState instructions all others more old newer next
  state_up others more are is =
      let b = bounded_pop put_left others more (subst (Bounded put_left) are g.outer_bound) in
      record {
        runs = λ fs e. let r = g.runs fs e in running_up fs all outer level old new newer place next r others more are (turns_as Done is r.todo r.left);
        outer_bound = b.0;
        bound = b.1;
      }

  pub smaller_up : (others : List Unput) (more : Unput) → outer ≡ others ++ more ∷ []
      → rank (2 ^ 65) 16 (map put_size others ++ put_size more ∷ []) < rank (2 ^ 65) 16 (map put_size outer ++ put_size level ∷ [])
  smaller_up others more are =
      let split : map put_size outer ≡ map put_size others ++ put_size more ∷ [] = ap (map put_size) are ∙ map-append put_size others (more ∷ []) in
      subst (λ (ns : List ℕ). rank (2 ^ 65) 16 ns < rank (2 ^ 65) 16 (map put_size outer ++ put_size level ∷ [])) split
      (rank_up (2 ^ 65) (lit< tt) 16 (map put_size outer) (put_size level))

  pub state_end : outer ≡ [] → turn ≡ Done → (fs : Forms) → instructions ≡ plans fs → Puts old newer 0 (Ok next) (enc_all fs all)
  state_end are is fs e =
      let r = g.runs fs e in running_end fs all outer level old new newer place next r are (turns_as Done is r.todo r.left)
