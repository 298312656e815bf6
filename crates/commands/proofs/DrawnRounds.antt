-- What is drawn, and which round it makes.
use Rattle.std.proofs.Common.{◌≡◌, ℕ, ◌+◌, ◌-◌, ◌*◌, ◌≤◌, ◌<◌, ◌^◌, Bool, true, false, List, [], ◌∷◌, length, Option, Some, None, cond, refl, ap, sym, ◌∙◌, arith}
use Rattle.std.proofs.lemmas.Bool.{cond-true, cond-false, eq-eqb, ne_eqb, lt-ltb, le-ltb, lt-leb}
use Rattle.std.proofs.lemmas.Grind.{common_steps}
use Rattle.std.proofs.lemmas.Option.{gets}
use Rattle.std.specs.List.{Contains}
use Rattle.std.specs.Option.{option_map}
use Rattle.std.specs.Prelude.{◌==◌, ◌&&◌, min, codes, nat_lt, slice_get, if◌then◌else◌}
use Rattle.call_rules.specs.Packet.{Packet}
use Rattle.replay_model.specs.declared.event.CallWord.{CallWord}
use Rattle.replay_model.specs.declared.event.CallWord.TheVariants as word
use Rattle.replay_model.specs.declared.event.Event.{Event}
use Rattle.replay_model.specs.declared.event.Event.TheVariants as event
use Rattle.replay_model.specs.World.{World, packet_at}
use Rattle.replay_world.specs.Kept.{kept_at}
use Rattle.replay_model.specs.Draws.{Drawn, draw}
use Rattle.replay_model.specs.Rounds.{Round, asks, calls_with, damage_round, damages, deliver_round, is_idle_at, machine_of, process_of, restart_round, round, round_of, starts_round, tick_round, when, work_round}
use Rattle.commands.specs.Rounds.{asked_events, frame_length}

-- a number that was drawn, with the generator's state behind it
abbrev pub drawn_at : (value x : ℕ) → Drawn
drawn_at value x = record { value = value; x = x }

-- a round of so many events
abbrev pub made_of : (x : ℕ) → List Event → Round
made_of x events = record { events = events; x = x }

abbrev pub none : (x : ℕ) → Round
none x = record { events = []; x = x }

abbrev pub one : (e : Event) → (x : ℕ) → Round
one e x = record { events = e ∷ []; x = x }

abbrev pub two : (d e : Event) → (x : ℕ) → Round
two d e x = record { events = d ∷ e ∷ []; x = x }

-- What is asked of a process.

abbrev asking : (calls : ℕ) → World → (machine process : ℕ) → Option CallWord → (x : ℕ) → Round
asking calls w machine process what x = record { events = asked_events calls w machine process what; x = x }

at_kind : (calls : ℕ) (w : World) (machine process : ℕ) (d : Drawn) (v x k : ℕ) → drawn_at v x ≡ d → v ≡ k
    → asks calls w machine process d ≡ asks calls w machine process (drawn_at k x)
at_kind calls w machine process d v x k e is =
    ap (asks calls w machine process) (sym e) ∙ ap (λ (n : ℕ). asks calls w machine process (drawn_at n x)) is

pub asks_null : (calls : ℕ) (w : World) (machine process : ℕ) (d : Drawn) (v x : ℕ) → drawn_at v x ≡ d → v ≡ 0
    → asks calls w machine process d ≡ asking calls w machine process (Some word.Null) x
unfolding asks
asks_null calls w machine process d v x e is = at_kind calls w machine process d v x 0 e is

pub asks_add : (calls : ℕ) (w : World) (machine process : ℕ) (d : Drawn) (v x a y b z : ℕ) → drawn_at v x ≡ d → v ≡ 1
    → drawn_at a y ≡ draw x (2 ^ 31) → drawn_at b z ≡ draw y (2 ^ 31)
    → asks calls w machine process d ≡ asking calls w machine process (Some (word.Add a b)) z
unfolding asks
asks_add calls w machine process d v x a y b z e is first second =
    let sum : Drawn → Drawn → Round = λ f s. asking calls w machine process (Some (word.Add f.value s.value)) s.x in
    at_kind calls w machine process d v x 1 e is
    ∙ (ap (λ (f : Drawn). sum f (draw f.x (2 ^ 31))) (sym first) ∙ ap (sum (drawn_at a y)) (sym second))

pub asks_bump : (calls : ℕ) (w : World) (machine process : ℕ) (d : Drawn) (v x : ℕ) → drawn_at v x ≡ d → v ≡ 2
    → asks calls w machine process d ≡ asking calls w machine process (Some (word.Bump 1)) x
unfolding asks
asks_bump calls w machine process d v x e is = at_kind calls w machine process d v x 2 e is

pub asks_max_arg : (calls : ℕ) (w : World) (machine process : ℕ) (d : Drawn) (v x n y : ℕ) → drawn_at v x ≡ d → v ≡ 3
    → drawn_at n y ≡ draw x 3000 → asks calls w machine process d ≡ asking calls w machine process (Some (word.MaxArg n)) y
unfolding asks
asks_max_arg calls w machine process d v x n y e is bytes =
    at_kind calls w machine process d v x 3 e is
    ∙ ap (λ (b : Drawn). asking calls w machine process (Some (word.MaxArg b.value)) b.x) (sym bytes)

pub asks_bind : (calls : ℕ) (w : World) (machine process : ℕ) (d : Drawn) (v x : ℕ) → drawn_at v x ≡ d → v ≡ 4
    → asks calls w machine process d ≡ asking calls w machine process None x
unfolding asks
asks_bind calls w machine process d v x e is = at_kind calls w machine process d v x 4 e is

pub starts_round_is : (calls : ℕ) (w : World) (x machine process y z : ℕ) (what : Option CallWord)
    → machine ≡ machine_of (draw x 64).value → process ≡ process_of (draw x 64).value → y ≡ (draw x 64).x
    → asks calls w machine process (draw y 5) ≡ asking calls w machine process what z
    → asking calls w machine process what z ≡ starts_round calls w x
unfolding starts_round
starts_round_is calls w x machine process y z what m p is asked_is =
    sym asked_is
    ∙ (ap (λ (n : ℕ). asks calls w n process (draw y 5)) m
    ∙ (ap (λ (n : ℕ). asks calls w (machine_of (draw x 64).value) n (draw y 5)) p
    ∙ ap (λ (n : ℕ). asks calls w (machine_of (draw x 64).value) (process_of (draw x 64).value) (draw n 5)) is))

-- Whether a process is asked at all.

pub busy : (b : Bool) (e : Event) → b ≡ false → [] ≡ when b e
busy b e is = sym (ap (λ (c : Bool). when c e) is)

pub not_busy : (b : Bool) (e : Event) → b ≡ true → e ∷ [] ≡ when b e
not_busy b e is = sym (ap (λ (c : Bool). when c e) is)

pub both : (a b : Bool) → a ≡ true → b ≡ true → (a && b) ≡ true
both a b p q = ap (λ (c : Bool). c && b) p ∙ q

pub not_first : (a b : Bool) → a ≡ false → (a && b) ≡ false
not_first a b p = ap (λ (c : Bool). c && b) p

pub not_second : (a b : Bool) → a ≡ true → b ≡ false → (a && b) ≡ false
not_second a b p q = ap (λ (c : Bool). c && b) p ∙ q

-- Packets.

pub deliver_nothing : (w : World) (x : ℕ) → length w.bag ≡ 0 → none x ≡ deliver_round w x
unfolding deliver_round
deliver_nothing w x h = sym (cond-true _ _ _ (eq-eqb (length w.bag) 0 h))

pub deliver_some : (w : World) (x sent packet y : ℕ) → sent ≡ length w.bag → (sent ≡ 0 → ⊥) → packet ≡ sent - (draw x (min 64 sent)).value
    → y ≡ (draw x (min 64 sent)).x → one (event.Deliver packet) y ≡ deliver_round w x
unfolding deliver_round
deliver_some w x sent packet y all some is behind =
    ap (λ (k : ℕ). one (event.Deliver k) y) is
    ∙ (ap (one (event.Deliver (sent - (draw x (min 64 sent)).value))) behind
    ∙ (ap (λ (n : ℕ). one (event.Deliver (n - (draw x (min 64 n)).value)) (draw x (min 64 n)).x) all
    ∙ sym (cond-false _ _ _ (ne_eqb (length w.bag) 0 (λ e. some (all ∙ e))))))

pub damage_nothing : (w : World) (x : ℕ) → length w.bag ≡ 0 → none x ≡ damage_round w x
unfolding damage_round
damage_nothing w x h = sym (cond-true _ _ _ (eq-eqb (length w.bag) 0 h))

abbrev damaged : World → (number x : ℕ) → Round
damaged w k x = damages k (packet_at w.bag k) x

pub damage_some : (w : World) (x sent packet y : ℕ) → sent ≡ length w.bag → (sent ≡ 0 → ⊥) → packet ≡ sent - (draw x (min 64 sent)).value
    → y ≡ (draw x (min 64 sent)).x → damages packet (packet_at w.bag packet) y ≡ damage_round w x
unfolding damage_round
damage_some w x sent packet y all some is behind =
    ap (λ (k : ℕ). damaged w k y) is
    ∙ (ap (damaged w (sent - (draw x (min 64 sent)).value)) behind
    ∙ (ap (λ (n : ℕ). damaged w (n - (draw x (min 64 n)).value) (draw x (min 64 n)).x) all
    ∙ sym (cond-false _ _ _ (ne_eqb (length w.bag) 0 (λ e. some (all ∙ e))))))

-- a packet that isn't forgotten
pub kept : (forgotten : ℕ) (bag : List Packet) (k : ℕ) → forgotten < k → kept_at forgotten bag k ≡ packet_at bag k
kept forgotten bag k h = cond-false _ _ _ (lt-leb k forgotten h)

pub kept_length : (forgotten : ℕ) (bag : List Packet) (k n : ℕ) (len : Option ℕ) → forgotten < k → n ≡ k
    → len ≡ option_map frame_length (kept_at forgotten bag n) → len ≡ option_map frame_length (packet_at bag k)
kept_length forgotten bag k n len h is e =
    e ∙ (ap (λ (m : ℕ). option_map frame_length (kept_at forgotten bag m)) is ∙ ap (option_map frame_length) (kept forgotten bag k h))

in_list : (xs : List Packet) (i : ℕ) (p : Packet) → slice_get xs i ≡ Some p → Contains xs p
in_list xs i p h = grind (arith, common_steps, gets)

-- the packet of a number stands in the bag
pub in_bag : (bag : List Packet) (k : ℕ) (p : Packet) → 1 ≤ k → packet_at bag k ≡ Some p → Contains bag p
in_bag bag k p some at = in_list bag (k - 1) p (sym (cond-false _ _ _ (le-ltb k 1 some)) ∙ at)

damages_nothing : (o : Option Packet) (k x : ℕ) → None ≡ option_map frame_length o → none x ≡ damages k o x
damages_nothing None k x h = refl
damages_nothing (Some p) k x h = cc

pub damages_none : (bag : List Packet) (k x : ℕ) (len : Option ℕ) → len ≡ option_map frame_length (packet_at bag k) → ((n : ℕ) → len ≡ Some n → ⊥)
    → none x ≡ damages k (packet_at bag k) x
damages_none bag k x None h never = damages_nothing (packet_at bag k) k x h
damages_none bag k x (Some n) h never = absurd (never n refl)

damages_some : (o : Option Packet) (k x len bit y : ℕ) → Some len ≡ option_map frame_length o → drawn_at bit y ≡ draw x (8 * len)
    → one (event.Damage k bit) y ≡ damages k o x
damages_some None k x len bit y h e = cc
damages_some (Some p) k x len bit y h e =
    let same : len ≡ frame_length p = one_number len (frame_length p) h in
    ap (λ (d : Drawn). one (event.Damage k d.value) d.x) (e ∙ ap (λ (n : ℕ). draw x (8 * n)) same)
  where
    one_number : (a b : ℕ) → Some a ≡ Some b → a ≡ b
    one_number a b h = cc

pub damages_bit : (bag : List Packet) (k x n len bit y : ℕ) → Some len ≡ option_map frame_length (packet_at bag k) → n ≡ 8 * len
    → drawn_at bit y ≡ draw x n → one (event.Damage k bit) y ≡ damages k (packet_at bag k) x
damages_bit bag k x n len bit y h is e = damages_some (packet_at bag k) k x len bit y h (e ∙ ap (draw x) is)

-- Workers, ticks and restarts.

pub work_is : (x v y n : ℕ) → drawn_at v y ≡ draw x n → n ≡ 4 → one (event.Work (1 + v)) y ≡ work_round x
unfolding work_round
work_is x v y n e is = ap (λ (d : Drawn). one (event.Work (1 + d.value)) d.x) (e ∙ ap (draw x) is)

pub tick_is : (x machine process y : ℕ) → machine ≡ machine_of (draw x 64).value → process ≡ process_of (draw x 64).value
    → y ≡ (draw x 64).x → one (event.Tick machine process 4) y ≡ tick_round x
unfolding tick_round
tick_is x machine process y m p is =
    ap (λ (n : ℕ). one (event.Tick n process 4) y) m
    ∙ (ap (λ (n : ℕ). one (event.Tick (machine_of (draw x 64).value) n 4) y) p
    ∙ ap (one (event.Tick (machine_of (draw x 64).value) (process_of (draw x 64).value) 4)) is)

-- a restart, or a worker's step, by the number that decides
abbrev restarts : World → Drawn → Round
restarts w d =
    if d.value == 0
    then (let m : Drawn = draw d.x 9 in two (event.Second (w.second + 1)) (event.Restart (1 + m.value)) m.x)
    else work_round d.x

pub no_restart : (w : World) (x v y : ℕ) → drawn_at v y ≡ draw x 1000 → (v ≡ 0 → ⊥) → work_round y ≡ restart_round w x
unfolding restart_round
no_restart w x v y e some =
    sym (cond-false _ _ _ (ne_eqb v 0 some)) ∙ ap (restarts w) e

pub a_restart : (w : World) (x v y m z n second : ℕ) → drawn_at v y ≡ draw x 1000 → v ≡ 0 → drawn_at m z ≡ draw y n → n ≡ 9 → second ≡ w.second
    → two (event.Second (second + 1)) (event.Restart (1 + m)) z ≡ restart_round w x
unfolding restart_round
a_restart w x v y m z n second e zero machine nine is =
    ap (λ (s : ℕ). two (event.Second (s + 1)) (event.Restart (1 + m)) z) is
    ∙ (ap (λ (d : Drawn). two (event.Second (w.second + 1)) (event.Restart (1 + d.value)) d.x) (machine ∙ ap (draw y) nine)
    ∙ (sym (cond-true _ _ _ (eq-eqb v 0 zero)) ∙ ap (restarts w) e))

-- The kind of a round, below 16.

pub kind_of_start : (calls : ℕ) (w : World) (k x : ℕ) → k < 3 → starts_round calls w x ≡ round_of calls w (drawn_at k x)
unfolding round_of
kind_of_start calls w k x h = sym (cond-true _ _ _ (lt-ltb k 3 h))

pub kind_of_delivery : (calls : ℕ) (w : World) (k x : ℕ) → 3 ≤ k → k < 8 → deliver_round w x ≡ round_of calls w (drawn_at k x)
unfolding round_of
kind_of_delivery calls w k x l h = sym (cond-false _ _ _ (le-ltb k 3 l) ∙ cond-true _ _ _ (lt-ltb k 8 h))

pub kind_of_work : (calls : ℕ) (w : World) (k x : ℕ) → 8 ≤ k → k < 12 → work_round x ≡ round_of calls w (drawn_at k x)
unfolding round_of
kind_of_work calls w k x l h =
    sym (cond-false _ _ _ (le-ltb k 3 (omega (arith, l))) ∙ (cond-false _ _ _ (le-ltb k 8 l) ∙ cond-true _ _ _ (lt-ltb k 12 h)))

pub kind_of_tick : (calls : ℕ) (w : World) (k x : ℕ) → 12 ≤ k → k < 14 → tick_round x ≡ round_of calls w (drawn_at k x)
unfolding round_of
kind_of_tick calls w k x l h =
    sym (cond-false _ _ _ (le-ltb k 3 (omega (arith, l)))
    ∙ (cond-false _ _ _ (le-ltb k 8 (omega (arith, l))) ∙ (cond-false _ _ _ (le-ltb k 12 l) ∙ cond-true _ _ _ (lt-ltb k 14 h))))

pub kind_of_damage : (calls : ℕ) (w : World) (k x : ℕ) → k ≡ 14 → damage_round w x ≡ round_of calls w (drawn_at k x)
unfolding round_of
kind_of_damage calls w k x is = sym (ap (λ (n : ℕ). round_of calls w (drawn_at n x)) is)

pub kind_of_restart : (calls : ℕ) (w : World) (k x : ℕ) → 14 < k → restart_round w x ≡ round_of calls w (drawn_at k x)
unfolding round_of
kind_of_restart calls w k x l =
    sym (cond-false _ _ _ (le-ltb k 3 (omega (arith, l)))
    ∙ (cond-false _ _ _ (le-ltb k 8 (omega (arith, l)))
    ∙ (cond-false _ _ _ (le-ltb k 12 (omega (arith, l))) ∙ (cond-false _ _ _ (le-ltb k 14 (omega (arith, l))) ∙ cond-false _ _ _ (ne_eqb k 14 (λ e. omega (arith, l, e)))))))

pub round_is : (calls : ℕ) (w : World) (x y k z : ℕ) → x ≡ y → drawn_at k z ≡ draw x 16 → round_of calls w (drawn_at k z) ≡ round calls w y
unfolding round
round_is calls w x y k z same e = ap (round_of calls w) (e ∙ ap (λ (n : ℕ). draw n 16) same)
