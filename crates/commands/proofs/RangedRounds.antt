-- Each event of a storm is one that a line of a script can have, and the world that it reaches stays small.
use Rattle.std.specs.Prelude.{All, Contains, min, nat_lt, ◌==◌, ◌&&◌}
use Rattle.std.proofs.Common.{◌≡◌, ℕ, zero, suc, ◌+◌, ◌*◌, ◌-◌, ◌≤◌, ◌<◌, ◌^◌, Bool, true, false, cond, List, [], ◌∷◌, ◌++◌, length, Option, Some, None, refl, sym, subst, arith}
use Rattle.std.proofs.lemmas.Bool.{eqb-false}
use Rattle.std.proofs.lemmas.List.Elements.{All-nil, All-cons, All-head, All-tail, All-append}
use Rattle.call_rules.specs.Packet.{Packet}
use Rattle.replay_model.specs.declared.event.CallWord.TheVariants as word
use Rattle.replay_model.specs.declared.event.Event.{Event}
use Rattle.replay_model.specs.declared.event.Event.TheVariants as event
use Rattle.replay_model.specs.declared.limits.TheConstants.{LAST_BIT}
use Rattle.replay_model.specs.Forms.{InRange, IsProcess}
use Rattle.replay_model.specs.Step.{run, step}
use Rattle.replay_model.specs.World.{World, packet_at}
use Rattle.replay_model.specs.declared.options.TheConstants.{MOST_CALLS}
use Rattle.replay_model.specs.Draws.{Drawn, draw}
use Rattle.replay_model.specs.Rounds.{Storm, Round, after_round, after_rounds, asks, calm, damage_round, damages, deliver_round, machine_of, process_of, restart_round, round, round_of, rounds_of, starts_round, storm, tick_round, when, work_round, world_of}
use Rattle.commands.specs.Rounds.{frame_length}
use Rattle.commands.proofs.DrawnRounds.{in_bag}
use Rattle.commands.proofs.Growth.{Grown, IsUpTo, step-grown}
use Rattle.commands.proofs.PlayedRounds.{PacketsHaveSpellings, SpellingIsShort, frame_fits, run-append}

-- each packet of a world can be named, damaged in any bit, and its second can pass
pub record IsSmall (w : World) : Type 0 where
  pub packets : length w.bag < 2 ^ 32
  pub second : w.second + 1 < 2 ^ 32
  pub frames : (p : Packet) → Contains w.bag p → (1 ≤ frame_length p) × (8 * frame_length p ≤ LAST_BIT + 1)

-- the events of a round over a world
pub record Fits (w : World) (events : List Event) : Type 0 where
  pub in_range : All InRange events
  pub up_to : All (IsUpTo (w.second + 1)) events
  pub few : length events ≤ 2

fits_none : (w : World) → Fits w []
fits_none w = record { in_range = All-nil InRange; up_to = All-nil (IsUpTo (w.second + 1)); few = omega arith }

fits_one : (w : World) (e : Event) → InRange e → IsUpTo (w.second + 1) e → Fits w (e ∷ [])
fits_one w e in_range up_to = record {
  in_range = All-cons InRange e [] in_range (All-nil InRange);
  up_to = All-cons (IsUpTo (w.second + 1)) e [] up_to (All-nil (IsUpTo (w.second + 1)));
  few = omega arith;
}

fits_two : (w : World) (d e : Event) → InRange d → IsUpTo (w.second + 1) d → InRange e → IsUpTo (w.second + 1) e → Fits w (d ∷ e ∷ [])
fits_two w d e in_d up_d in_e up_e =
    let last = fits_one w e in_e up_e in
    record {
      in_range = All-cons InRange d (e ∷ []) in_d last.in_range;
      up_to = All-cons (IsUpTo (w.second + 1)) d (e ∷ []) up_d last.up_to;
      few = omega arith;
    }

fits_when : (w : World) (b : Bool) (e : Event) → InRange e → IsUpTo (w.second + 1) e → Fits w (when b e)
fits_when w true e in_range up_to = fits_one w e in_range up_to
fits_when w false e in_range up_to = fits_none w

fits_either : (w : World) (b : Bool) (r s : Round) → Fits w r.events → Fits w s.events → Fits w (cond b r s).events
fits_either w true r s p q = p
fits_either w false r s p q = q

fits_unless_none : (w : World) (n : ℕ) (r s : Round) → Fits w r.events → ((n ≡ 0 → ⊥) → Fits w s.events) → Fits w (cond (n == 0) r s).events
fits_unless_none w n r s p q = by (n == 0) refl
  where
    by : (b : Bool) → (n == 0) ≡ b → Fits w (cond b r s).events
    by true e = p
    by false e = q (eqb-false n 0 e)

positive : (n : ℕ) → (n ≡ 0 → ⊥) → 1 ≤ n
positive zero h = absurd (h refl)
positive (suc n) h = omega arith

below : (x n : ℕ) → 1 ≤ n → (draw x n).value < n
unfolding draw
below x n some = omega arith

is_process : (x : ℕ) → IsProcess (machine_of (draw x 64).value) (process_of (draw x 64).value)
is_process x =
    let a = below x 64 (omega arith) in (omega arith, omega (arith, a), omega arith, omega (arith, a))

asks_fits : (calls : ℕ) (w : World) (machine process : ℕ) (kind : Drawn) → IsProcess machine process → Fits w (asks calls w machine process kind).events
unfolding asks
asks_fits calls w machine process kind at =
    let first = below kind.x (2 ^ 31) (omega arith) in
    let second = below (draw kind.x (2 ^ 31)).x (2 ^ 31) (omega arith) in
    let bytes = below kind.x 3000 (omega arith) in
    fits_either w (kind.value == 0) _ _ (fits_when w _ (event.Call machine process word.Null) (at, tt) tt)
    (fits_either w (kind.value == 1) _ _
    (fits_when w _ (event.Call machine process (word.Add (draw kind.x (2 ^ 31)).value (draw (draw kind.x (2 ^ 31)).x (2 ^ 31)).value)) (at, (omega (arith, first), omega (arith, second))) tt)
    (fits_either w (kind.value == 2) _ _ (fits_when w _ (event.Call machine process (word.Bump 1)) (at, omega arith) tt)
    (fits_either w (kind.value == 3) _ _ (fits_when w _ (event.Call machine process (word.MaxArg (draw kind.x 3000).value)) (at, omega (arith, bytes)) tt)
    (fits_when w _ (event.Bind machine process (109 ∷ 97 ∷ 105 ∷ 110 ∷ [])) (at, refl) tt))))

starts_fits : (calls : ℕ) (w : World) (x : ℕ) → Fits w (starts_round calls w x).events
unfolding starts_round
starts_fits calls w x = asks_fits calls w (machine_of (draw x 64).value) (process_of (draw x 64).value) (draw (draw x 64).x 5) (is_process x)

deliver_fits : (w : World) (x : ℕ) → IsSmall w → Fits w (deliver_round w x).events
unfolding deliver_round
deliver_fits w x small =
    fits_unless_none w (length w.bag) _ _ (fits_none w)
    (λ some. let n : ℕ = length w.bag in
    let least = positive n some in
    let back = below x (min 64 n) (omega (arith, least)) in
    fits_one w (event.Deliver (n - (draw x (min 64 n)).value)) (omega (arith, back, least), omega (arith, small.packets)) tt)

damages_fit : (w : World) (k : ℕ) (o : Option Packet) (x : ℕ) → IsSmall w → 1 ≤ k → k < 2 ^ 32 → packet_at w.bag k ≡ o → Fits w (damages k o x).events
damages_fit w k None x small some few at = fits_none w
damages_fit w k (Some p) x small some few at =
    let fits = small.frames p (in_bag w.bag k p some at) in
    let bit = below x (8 * frame_length p) (omega (arith, fits)) in
    fits_one w (event.Damage k (draw x (8 * frame_length p)).value) (some, omega (arith, few), omega (arith, bit, fits)) tt

damage_fits : (w : World) (x : ℕ) → IsSmall w → Fits w (damage_round w x).events
unfolding damage_round
damage_fits w x small =
    fits_unless_none w (length w.bag) _ _ (fits_none w)
    (λ some. let n : ℕ = length w.bag in
    let least = positive n some in
    let back = below x (min 64 n) (omega (arith, least)) in
    damages_fit w (n - (draw x (min 64 n)).value) (packet_at w.bag (n - (draw x (min 64 n)).value)) (draw x (min 64 n)).x small
    (omega (arith, back, least)) (omega (arith, small.packets)) refl)

work_fits : (w : World) (x : ℕ) → Fits w (work_round x).events
unfolding work_round
work_fits w x = let a = below x 4 (omega arith) in fits_one w (event.Work (1 + (draw x 4).value)) (omega arith, omega (arith, a)) tt

tick_fits : (w : World) (x : ℕ) → Fits w (tick_round x).events
unfolding tick_round
tick_fits w x =
    fits_one w (event.Tick (machine_of (draw x 64).value) (process_of (draw x 64).value) 4) (is_process x, omega arith, omega arith) (omega arith)

restart_fits : (w : World) (x : ℕ) → IsSmall w → Fits w (restart_round w x).events
unfolding restart_round
restart_fits w x small =
    let y : ℕ = (draw x 1000).x in
    let a = below y 9 (omega arith) in
    fits_either w ((draw x 1000).value == 0) _ _
    (fits_two w (event.Second (w.second + 1)) (event.Restart (1 + (draw y 9).value)) (omega arith, omega (arith, small.second)) (omega arith) (omega arith, omega (arith, a)) tt)
    (work_fits w y)

kind_fits : (calls : ℕ) (w : World) (kind : Drawn) → IsSmall w → Fits w (round_of calls w kind).events
unfolding round_of
kind_fits calls w kind small =
    fits_either w (nat_lt kind.value 3) _ _ (starts_fits calls w kind.x)
    (fits_either w (nat_lt kind.value 8) _ _ (deliver_fits w kind.x small)
    (fits_either w (nat_lt kind.value 12) _ _ (work_fits w kind.x)
    (fits_either w (nat_lt kind.value 14) _ _ (tick_fits w kind.x)
    (fits_either w (kind.value == 14) _ _ (damage_fits w kind.x small) (restart_fits w kind.x small)))))

round_fits : (calls : ℕ) (w : World) (x : ℕ) → IsSmall w → Fits w (round calls w x).events
unfolding round
round_fits calls w x small = kind_fits calls w (draw x 16) small

-- what some events leave of a world
events-grown : (n : ℕ) (w : World) (events : List Event) → w.second ≤ n → All (IsUpTo n) events → Grown n (4 * length events) w (run w events)
events-grown n w [] few up_to = record { second = few; bag = omega arith; most = omega arith }
events-grown n w (e ∷ events) few up_to =
    let first = step-grown n w e few (All-head (IsUpTo n) e events up_to) in
    let rest = events-grown n (step w e) events first.second (All-tail (IsUpTo n) e events up_to) in
    record { second = rest.second; bag = omega (arith, first.bag, rest.bag); most = omega (arith, first.most, rest.most) }

-- so many rounds of a storm
record Ranged (rounds : ℕ) (s : Storm) : Type 0 where
  pub in_range : All InRange s.played
  pub second : (world_of s).second ≤ 1 + rounds
  pub packets : length (world_of s).bag ≤ 8 * rounds

world-small : SpellingIsShort → PacketsHaveSpellings → (rounds : ℕ) (s : Storm) → rounds < 2 ^ 24 → Ranged rounds s → IsSmall (world_of s)
world-small count spelled rounds s few ranged = record {
  packets = omega (arith, few, ranged.packets);
  second = omega (arith, few, ranged.second);
  frames = λ p there. frame_fits count spelled s.played ranged.in_range p there;
}

one_more : SpellingIsShort → PacketsHaveSpellings → (calls rounds : ℕ) (s : Storm) → rounds < 2 ^ 24 → Ranged rounds s → Ranged (suc rounds) (after_round calls s)
one_more count spelled calls rounds s few ranged =
    let w : World = world_of s in
    let r : Round = round calls w s.x in
    let fits : Fits w r.events = round_fits calls w s.x (world-small count spelled rounds s few ranged) in
    let grown = events-grown (w.second + 1) w r.events (omega arith) fits.up_to in
    let same : run calm (s.played ++ r.events) ≡ run w r.events = run-append calm s.played r.events in
    let second : (run calm (s.played ++ r.events)).second ≤ w.second + 1 = subst (λ (v : World). v.second ≤ w.second + 1) (sym same) grown.second in
    let packets : length (run calm (s.played ++ r.events)).bag ≤ length w.bag + 4 * length r.events =
    subst (λ (v : World). length v.bag ≤ length w.bag + 4 * length r.events) (sym same) grown.most in
    record {
      in_range = All-append InRange s.played r.events ranged.in_range fits.in_range;
      second = omega (arith, second, ranged.second);
      packets = omega (arith, packets, ranged.packets, fits.few);
    }

ranged : SpellingIsShort → PacketsHaveSpellings → (seed calls rounds : ℕ) → rounds ≤ 2 ^ 24 → Ranged rounds (after_rounds seed calls rounds)
ranged count spelled seed calls zero few = record { in_range = All-nil InRange; second = omega arith; packets = omega arith }
ranged count spelled seed calls (suc n) few =
    one_more count spelled calls n (after_rounds seed calls n) (omega (arith, few)) (ranged count spelled seed calls n (omega (arith, few)))

pub storm_in_range : SpellingIsShort → PacketsHaveSpellings → (seed calls rounds : ℕ) → calls ≤ MOST_CALLS → rounds ≤ rounds_of calls
    → All InRange (after_rounds seed calls rounds).played
storm_in_range count spelled seed calls rounds most within = (ranged count spelled seed calls rounds (omega (arith, most, within))).in_range
