-- From the events of a round to the rounds of a storm.
use Rattle.std.specs.Prelude.{All, Contains, IfSome, Option, Some, None, min, Result, Ok, Err, OnOk}
use Rattle.std.specs.declared.alloc.AllocError.{AllocError}
use Rattle.std.proofs.Common.{◌≡◌, ℕ, suc, ◌+◌, ◌-◌, ◌*◌, ◌≤◌, ◌<◌, ◌^◌, List, [], ◌∷◌, ◌++◌, length, map, drop, refl, ap, sym, subst, ◌∙◌, arith, add-zero, add_assoc}
use Rattle.std.proofs.lemmas.List.{length-drop, length-map, length-append}
use Rattle.std.proofs.lemmas.List.Elements.{All-nil, All-cons, All-append}
use Rattle.std.specs.Option.{option_map}
use Rattle.rpc_header.specs.declared.Header.{Header}
use Rattle.rpc_header.specs.Limits.{header_len}
use Rattle.rpc_header.specs.Spelling.{HasSpelling, spelling}
use Rattle.call_rules.specs.Packet.{Packet}
use Rattle.replay_model.specs.declared.event.Event.{Event}
use Rattle.replay_model.specs.declared.limits.TheConstants.{LAST_BIT, SMALL_BUFFERS, LONG_BUFFERS}
use Rattle.replay_model.specs.Arrival.{frame_of, header_of}
use Rattle.replay_model.specs.Record.{Counts, counts_of, no_records}
use Rattle.replay_model.specs.Forms.{InRange}
use Rattle.replay_model.specs.Step.{run, step}
use Rattle.replay_model.specs.World.{World, first_world, packet_at}
use Rattle.replay_packets.specs.Sent.{sent_of}
use Rattle.replay_world.specs.Kept.{forgets}
use Rattle.replay_world.specs.Stands.{Stands}
use Rattle.replay_world.specs.Stored.{Stored, AllBelow, RoseByAtMost, packets_of}
use Rattle.replay_model.specs.declared.options.StormOptions.{StormOptions}
use Rattle.replay_model.specs.OpenCalls.{lost_in, lost_over}
use Rattle.replay_model.specs.Rounds.{Storm, Round, after_round, after_rounds, calm, round, rounds_of, storm, world_of}
use Rattle.commands.specs.declared.rounds.Player.{Player}
use Rattle.commands.specs.Rounds.{HasLast, frame_length, Plays, Reached, storm_at, world_at}
use Rattle.commands.proofs.DrawnRounds.{in_bag}
use Rattle.commands.proofs.Growth.{IsUpTo, step-grown}

-- the laws of spellings and of packets
abbrev pub SpellingIsShort : Type 0
SpellingIsShort = (h : Header) (len : ℕ) → length (spelling h len) ≡ header_len

abbrev pub PacketsHaveSpellings : Type 0
PacketsHaveSpellings =
    (small long : ℕ) (events : List Event) (p : Packet) → All InRange events → Contains (run (first_world small long) events).bag p
    → HasSpelling (header_of p.header) (length p.payload)

-- the packets that were sent, by those that aren't forgotten
pub packets_are : (s : Stored) (w : World) → Stands s w → packets_of s ≡ length w.bag
packets_are s w stands =
    let kept : length s.bag ≡ length w.bag - s.forgotten =
    ap length stands.bag ∙ (length-drop s.forgotten (map sent_of w.bag) ∙ ap (λ (n : ℕ). n - s.forgotten) (length-map w.bag sent_of)) in
    omega (arith, kept, stands.few)

-- none of the last packets is forgotten where more are sent
last_of_more : (s s' : Stored) → HasLast s → packets_of s ≤ packets_of s' → s'.forgotten ≡ s.forgotten → HasLast s'
last_of_more s s' last more kept = omega (arith, last, more, kept)

pub last_of_forgetting : (s : Stored) → HasLast s → HasLast (forgets s)
last_of_forgetting s last = omega (arith, last, length-drop (length s.bag - 64) s.bag)

pub below_of_forgetting : (n : ℕ) (s : Stored) → AllBelow n s → AllBelow n (forgets s)
below_of_forgetting n s b =
    let kept = length-drop (length s.bag - 64) s.bag in
    (omega (arith, b.0, kept), b.1, b.2, b.3, b.4, b.5, b.6, b.7)

none_rose : (n : ℕ) (s : Stored) → RoseByAtMost n s s
none_rose n s = (omega arith, (omega arith, omega arith, omega arith, omega arith, omega arith), omega arith, omega arith)

pub rose_more : (m n : ℕ) (a b : Stored) → m ≤ n → RoseByAtMost m a b → RoseByAtMost n a b
rose_more m n a b h r = (
  omega (arith, h, r.0),
  (omega (arith, h, r.1.0), omega (arith, h, r.1.1), omega (arith, h, r.1.2), omega (arith, h, r.1.3), omega (arith, h, r.1.4)),
  omega (arith, h, r.2),
  omega (arith, h, r.3),
)

pub rose_twice : (m n : ℕ) (a b c : Stored) → RoseByAtMost m a b → RoseByAtMost n b c → RoseByAtMost (m + n) a c
rose_twice m n a b c r q = (
  omega (arith, r.0, q.0),
  (omega (arith, r.1.0, q.1.0), omega (arith, r.1.1, q.1.1), omega (arith, r.1.2, q.1.2), omega (arith, r.1.3, q.1.3), omega (arith, r.1.4, q.1.4)),
  omega (arith, r.2, q.2),
  omega (arith, r.3, q.3),
)

pub below_risen : (m n : ℕ) (a b : Stored) → AllBelow m a → RoseByAtMost n a b → AllBelow (m + n) b
below_risen m n a b h r = (
  omega (arith, h.0, r.0),
  omega (arith, h.1, r.1.0),
  omega (arith, h.2, r.1.1),
  omega (arith, h.3, r.1.2),
  omega (arith, h.4, r.1.3),
  omega (arith, h.5, r.1.4),
  omega (arith, h.6, r.2),
  omega (arith, h.7, r.3),
)

pub below_more : (m n : ℕ) (s : Stored) → m ≤ n → AllBelow m s → AllBelow n s
below_more m n s h b = (
  omega (arith, h, b.0),
  omega (arith, h, b.1),
  omega (arith, h, b.2),
  omega (arith, h, b.3),
  omega (arith, h, b.4),
  omega (arith, h, b.5),
  omega (arith, h, b.6),
  omega (arith, h, b.7),
)

pub run-append : (w : World) (these those : List Event) → run w (these ++ those) ≡ run (run w these) those
run-append w [] those = refl
run-append w (e ∷ these) those = run-append (step w e) these those

lost_over-append : (w : World) (these those : List Event) → lost_over w (these ++ those) ≡ lost_over w these + lost_over (run w these) those
lost_over-append w [] those = omega arith
lost_over-append w (e ∷ these) those =
    let more = lost_over-append (step w e) these those in omega (arith, more)

-- the frame of a packet that was sent is as long as its headers and its data
frame_size : SpellingIsShort → (p : Packet) → length (frame_of p) ≡ 74 + length p.payload
unfolding frame_of
frame_size count p =
    let carried = length-append (spelling (header_of p.header) (length p.payload)) p.payload in
    let head = count (header_of p.header) (length p.payload) in
    omega (arith, carried, head)

-- the frame of a packet in the bag is no longer than the largest
pub frame_fits : SpellingIsShort → PacketsHaveSpellings → (played : List Event) → All InRange played → (packet : Packet) → Contains (run calm played).bag packet
    → (1 ≤ frame_length packet) × (8 * frame_length packet ≤ LAST_BIT + 1)
frame_fits count spelled played in_range packet there =
    let spelling = spelled SMALL_BUFFERS LONG_BUFFERS played packet in_range there in
    let size = frame_size count packet in
    (omega (arith, size), omega (arith, size, spelling.data_length))

pub lengths_fit : SpellingIsShort → PacketsHaveSpellings → (p : Player) → Reached p → (k : ℕ) → 1 ≤ k → (o : Option Packet) → packet_at (world_at p).bag k ≡ o
    → IfSome (option_map frame_length o) (λ len. (1 ≤ len) × (8 * len ≤ LAST_BIT + 1))
lengths_fit count spelled p reached k some None at = tt
lengths_fit count spelled p reached k some (Some packet) at =
    frame_fits count spelled (storm_at p).played reached.in_range packet (in_bag (world_at p).bag k packet some at)

-- the same round, drawn by another way
pub plays_same : (p new : Player) (x : ℕ) (r r' : Round) → r ≡ r' → Plays p new x r → Plays p new x r'
plays_same p new x r r' same plays = subst (Plays p new x) same plays

-- a round in which nothing happens
pub nothing_played : (p : Player) (x : ℕ) → Reached p → Plays p p x (record { events = []; x = x })
nothing_played p x reached = record {
  options = refl;
  rounds = refl;
  draws = refl;
  stands = reached.stands;
  in_range = All-nil InRange;
  lost = omega arith;
  few = none_rose 2000 p.world;
  second = omega arith;
  last = reached.last;
}

-- what an event leaves of a stored world
pub record Leaves (old new : Stored) (w w' : World) (n : ℕ) : Type 0 where
  pub second : new.second ≤ n
  pub last : HasLast new

pub leaves : (old new : Stored) (w : World) (e : Event) (n : ℕ) → Stands old w → HasLast old → old.second ≤ n → IsUpTo n e
    → Stands new (step w e) → new.forgotten ≡ old.forgotten → Leaves old new w (step w e) n
leaves old new w e n before last few up after kept =
    let grown = step-grown n w e (subst (λ (m : ℕ). m ≤ n) before.second few) up in
    record {
      second = subst (λ (m : ℕ). m ≤ n) (sym after.second) grown.second;
      last = last_of_more old new last (omega (arith, packets_are old w before, packets_are new (step w e) after, grown.bag)) kept;
    }

-- a round in which one event is played
pub one_played : (p : Player) (new : Stored) (e : Event) (x : ℕ) → Reached p → InRange e → IsUpTo (p.world.second + 1) e
    → Stands new (step (world_at p) e) → new.lost ≡ p.world.lost + lost_in (world_at p) e → new.forgotten ≡ p.world.forgotten
    → RoseByAtMost 1000 p.world new → Plays p (record p { world = new }) x (record { events = e ∷ []; x = x })
one_played p new e x reached in_range up stands lost kept rose =
    let left = leaves p.world new (world_at p) e (p.world.second + 1) reached.stands reached.last (omega arith) up stands kept in
    record {
      options = refl;
      rounds = refl;
      draws = refl;
      stands = stands;
      in_range = All-cons InRange e [] in_range (All-nil InRange);
      lost = omega (arith, lost);
      few = rose_more 1000 2000 p.world new (omega arith) rose;
      second = left.second;
      last = left.last;
    }

-- the packets that were sent are few
pub few_packets : (p : Player) → Reached p → packets_of p.world < 2 ^ 32
few_packets p reached = omega (arith, reached.few.0, reached.rounds, reached.most_calls)

-- one of the last packets isn't forgotten
pub recent_is_kept : (p : Player) (sent k : ℕ) → Reached p → sent ≡ length (world_at p).bag → sent < k + min 64 sent → p.world.forgotten < k
recent_is_kept p sent k reached all last =
    let packets : packets_of p.world ≡ length (world_at p).bag = packets_are p.world (world_at p) reached.stands in
    omega (arith, reached.last, packets, all, last)

-- an event was played, unless memory was short
pub event_played : (r : Result (Unit {0}) AllocError) (p : Player) (new : Stored) (e : Event) (x : ℕ) (round : Round) → Reached p → InRange e
    → IsUpTo (p.world.second + 1) e → OnOk r (Stands new (step (world_at p) e)) → OnOk r (new.lost ≡ p.world.lost + lost_in (world_at p) e)
    → OnOk r (new.forgotten ≡ p.world.forgotten) → OnOk r (RoseByAtMost 1000 p.world new) → record { events = e ∷ []; x = x } ≡ round
    → OnOk r (Plays p (record p { world = new }) x round)
event_played (Ok u) p new e x round reached in_range up stands lost kept rose same =
    plays_same p (record p { world = new }) x (record { events = e ∷ []; x = x }) round same (one_played p new e x reached in_range up stands lost kept rose)
event_played (Err why) p new e x round reached in_range up stands lost kept rose same = tt

-- the same of two events
pub two_played : (p : Player) (mid new : Stored) (d e : Event) (x : ℕ) → Reached p → InRange d → InRange e → IsUpTo (p.world.second + 1) d → IsUpTo (p.world.second + 1) e
    → Stands mid (step (world_at p) d) → mid.lost ≡ p.world.lost + lost_in (world_at p) d → mid.forgotten ≡ p.world.forgotten → RoseByAtMost 1000 p.world mid
    → Stands new (step (step (world_at p) d) e) → new.lost ≡ mid.lost + lost_in (step (world_at p) d) e → new.forgotten ≡ mid.forgotten → RoseByAtMost 1000 mid new
    → Plays p (record p { world = new }) x (record { events = d ∷ e ∷ []; x = x })
two_played p mid new d e x reached in_d in_e up_d up_e stands_d lost_d kept_d rose_d stands_e lost_e kept_e rose_e =
    let w : World = world_at p in
    let half = leaves p.world mid w d (p.world.second + 1) reached.stands reached.last (omega arith) up_d stands_d kept_d in
    let left = leaves mid new (step w d) e (p.world.second + 1) stands_d half.last half.second up_e stands_e kept_e in
    record {
      options = refl;
      rounds = refl;
      draws = refl;
      stands = stands_e;
      in_range = All-cons InRange d (e ∷ []) in_d (All-cons InRange e [] in_e (All-nil InRange));
      lost = omega (arith, lost_d, lost_e);
      few = rose_twice 1000 1000 p.world mid new rose_d rose_e;
      second = left.second;
      last = left.last;
    }

-- a second event was played, unless memory was short
pub second_played : (r : Result (Unit {0}) AllocError) (p : Player) (mid new : Stored) (d e : Event) (x : ℕ) (round : Round) → Reached p → InRange d → InRange e
    → IsUpTo (p.world.second + 1) d → IsUpTo (p.world.second + 1) e
    → Stands mid (step (world_at p) d) → mid.lost ≡ p.world.lost + lost_in (world_at p) d → mid.forgotten ≡ p.world.forgotten → RoseByAtMost 1000 p.world mid
    → OnOk r (Stands new (step (step (world_at p) d) e)) → OnOk r (new.lost ≡ mid.lost + lost_in (step (world_at p) d) e)
    → OnOk r (new.forgotten ≡ mid.forgotten) → OnOk r (RoseByAtMost 1000 mid new) → record { events = d ∷ e ∷ []; x = x } ≡ round
    → OnOk r (Plays p (record p { world = new }) x round)
second_played (Ok u) p mid new d e x round reached in_d in_e up_d up_e stands_d lost_d kept_d rose_d stands_e lost_e kept_e rose_e same =
    plays_same p (record p { world = new }) x (record { events = d ∷ e ∷ []; x = x }) round same
    (two_played p mid new d e x reached in_d in_e up_d up_e stands_d lost_d kept_d rose_d stands_e lost_e kept_e rose_e)
second_played (Err why) p mid new d e x round reached in_d in_e up_d up_e stands_d lost_d kept_d rose_d stands_e lost_e kept_e rose_e same = tt

-- the storm behind one more round
storm-more : (p mid : Player) (x : ℕ) (r : Round) → Plays p mid x r → after_rounds mid.options.seed mid.options.calls (mid.rounds + 1) ≡ after_round p.options.calls (storm_at p)
storm-more p mid x r plays =
    ap (λ (o : StormOptions). after_rounds o.seed o.calls (mid.rounds + 1)) plays.options
    ∙ (ap (λ (n : ℕ). after_rounds p.options.seed p.options.calls (n + 1)) plays.rounds
    ∙ ap (after_rounds p.options.seed p.options.calls) (one_more p.rounds))
  where
    one_more : (n : ℕ) → n + 1 ≡ suc n
    one_more n = omega arith

-- one round more was played
pub record IsNext (p new : Player) (x : ℕ) : Type 0 where
  pub reached : Reached new
  pub draws : x ≡ (storm_at new).x

pub next_reached : (p mid : Player) (x : ℕ) → Reached p → p.rounds < rounds_of p.options.calls
    → Plays p mid x (round p.options.calls (world_at p) (storm_at p).x) → IsNext p (record mid { rounds = mid.rounds + 1 }) x
next_reached p mid x reached more plays =
    let s : Storm = storm_at p in
    let r : Round = round p.options.calls (world_of s) s.x in
    let new : Player = record mid { rounds = mid.rounds + 1 } in
    let same : storm_at new ≡ after_round p.options.calls s = storm-more p mid x r plays in
    let world : world_at new ≡ run (world_of s) r.events = ap world_of same ∙ run-append calm s.played r.events in
    let calls : mid.options.calls ≡ p.options.calls = ap (λ (o : StormOptions). o.calls) plays.options in
    let rounds : mid.rounds ≡ p.rounds = plays.rounds in
    record {
      reached = record {
        some_calls = omega (arith, calls, reached.some_calls);
        most_calls = omega (arith, calls, reached.most_calls);
        rounds = omega (arith, calls, rounds, more);
        stands = subst (Stands mid.world) (sym world) plays.stands;
        in_range = subst (λ (t : Storm). All InRange t.played) (sym same) (All-append InRange s.played r.events reached.in_range plays.in_range);
        lost = plays.lost
            ∙ (ap (λ (n : ℕ). n + lost_over (world_of s) r.events) reached.lost
            ∙ (sym (lost_over-append calm s.played r.events) ∙ ap (λ (t : Storm). lost_over calm t.played) (sym same)));
        few = below_more (2000 * p.rounds + 1 + 2000) (2000 * (mid.rounds + 1) + 1) mid.world (omega (arith, rounds)) (below_risen (2000 * p.rounds + 1) 2000 p.world mid.world reached.few plays.few);
        second = omega (arith, plays.second, reached.second, rounds);
        last = plays.last;
      };
      draws = plays.draws ∙ ap (λ (t : Storm). t.x) (sym same);
    }

-- the same storm by the same options and rounds
pub storm_same : (p q : Player) → (q.options ≡ p.options) × (q.rounds ≡ p.rounds) → storm_at p ≡ storm_at q
storm_same p q same =
    sym (ap (λ (o : StormOptions). after_rounds o.seed o.calls q.rounds) same.0 ∙ ap (after_rounds p.options.seed p.options.calls) same.1)

-- all rounds were played
pub all_rounds : (p : Player) (o : StormOptions) (rounds : ℕ) → Reached p → p.options ≡ o → rounds ≡ rounds_of o.calls → rounds ≤ p.rounds → storm_at p ≡ storm o.seed o.calls
unfolding storm
all_rounds p o rounds reached same all over =
    let calls : p.options.calls ≡ o.calls = ap (λ (q : StormOptions). q.calls) same in
    let last : p.rounds ≡ rounds_of o.calls = omega (arith, reached.rounds, calls, all, over) in
    ap (λ (q : StormOptions). after_rounds q.seed q.calls p.rounds) same ∙ ap (after_rounds o.seed o.calls) last
