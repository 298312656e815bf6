-- What a process sends: its number in the bag, its room in a frame, and that it is a request.
use Rattle.std.proofs.Common.{◌≡◌, ℕ, zero, suc, ◌+◌, ◌-◌, ◌<◌, ◌≤◌, ◌^◌, List, [], ◌∷◌, ◌++◌, length, Some, None, Bool, true, false, cond, refl, ap, sym, ◌∙◌, subst, arith, ltb}
use Rattle.std.specs.Prelude.{slice_get, All, ◌==◌}
use Rattle.std.proofs.lemmas.Bool.{le-ltb}
use Rattle.std.proofs.lemmas.Bool.Decides.{nat_tests}
use Rattle.std.proofs.lemmas.Option.{none-some}
use Rattle.item_list.specs.Bytes.{AreBytes}
use Rattle.fragments.specs.Pieces.{last_piece, piece}
use Rattle.rpc_header.specs.declared.Activity.{Activity}
use Rattle.rpc_header.specs.declared.Kind.{Kind}
use Rattle.rpc_header.specs.declared.Kind.TheVariants as kind
use Rattle.rpc_header.specs.Spelling.{HasSpelling}
use Rattle.call_rules.specs.Packet.{Call, Packet, Fields}
use Rattle.call_rules.specs.Caller.{caller_header, bind}
use Rattle.replay_model.specs.Arrival.{header_of}
use Rattle.replay_model.specs.Once.{IsTransmission}
use Rattle.replay_model.specs.Process.{Line, packet_from}
use Rattle.replay_model.specs.World.{packet_at, is_entry_activity}
use Rattle.lawful_rules.specs.Known.{Known}
use Rattle.lawful_rules.specs.Facts.{Requests, IsRequest, IsCall, HasRoom}
use Rattle.lawful_rules.proofs.Pieces.{PieceLaws}
use Rattle.lawful_rules.proofs.Framing.{no_bytes, full_or_last}

get_behind : {A : Type 0} (xs : List A) (x : A) → slice_get (xs ++ x ∷ []) (length xs) ≡ Some x
get_behind [] x = refl
get_behind (y ∷ ys) x = get_behind ys x

get_before : {A : Type 0} (xs : List A) (x : A) (n : ℕ) (y : A) → slice_get xs n ≡ Some y → slice_get (xs ++ x ∷ []) n ≡ Some y
get_before [] x n y h = absurd (none-some y h)
get_before (z ∷ zs) x zero y h = h
get_before (z ∷ zs) x (suc n) y h = get_before zs x n y h

-- a packet that is sent has the next number
pub sent_is_there : (bag : List Packet) (q : Packet) → packet_at (bag ++ q ∷ []) (length bag + 1) ≡ Some q
sent_is_there bag q =
    let place : length bag + 1 - 1 ≡ length bag = omega arith in
    rw (le-ltb (length bag + 1) 1 (omega arith)) (subst (λ n. slice_get (bag ++ q ∷ []) n ≡ Some q) (sym place) (get_behind bag q))

-- and each other keeps its own
pub still_there : (bag : List Packet) (q : Packet) (n : ℕ) (p : Packet) → packet_at bag n ≡ Some p → packet_at (bag ++ q ∷ []) n ≡ Some p
still_there bag q n p h = go (ltb n 1) h
  where
    go : (b : Bool) → cond b None (slice_get bag (n - 1)) ≡ Some p → cond b None (slice_get (bag ++ q ∷ []) (n - 1)) ≡ Some p
    go true g = absurd (none-some p g)
    go false g = get_before bag q (n - 1) p g

pub transmissions_stay : (bag : List Packet) (q : Packet) (call : Call) (k : Kind) (fragment : ℕ) (sent : List ℕ) → All (IsTransmission bag call k fragment) sent → All (IsTransmission (bag ++ q ∷ []) call k fragment) sent
transmissions_stay bag q call k fragment sent h i d l =
    let t = h i d l in
    record { packet = t.packet; is_there = still_there bag q _ t.packet t.is_there; same_call = t.same_call; same_kind = t.same_kind; same_fragment = t.same_fragment }

pub record InRange (a : Activity) : Type 0 where
  pub first_machine : 2 ≤ a.machine
  pub last_machine : a.machine ≤ 9
  pub first_process : 1 ≤ a.process
  pub last_process : a.process ≤ 8

pub in_range : (a : Activity) → is_entry_activity a ≡ true → InRange a
in_range a h =
    record {
      first_machine = grind (arith, nat_tests);
      last_machine = grind (arith, nat_tests);
      first_process = grind (arith, nat_tests);
      last_process = grind (arith, nat_tests);
    }

-- a process of machine m
pub record IsOwn (m process : ℕ) (l : Line) : Type 0 where
  pub own_activity : l.caller.activity ≡ record { machine = m; process = process }
  pub has_entry : is_entry_activity l.caller.activity ≡ true
  pub has_room : HasRoom l

-- a packet of its call
own_request : (k : Known) {m process : ℕ} {l : Line} (h : Fields) (bytes : List ℕ) → IsOwn m process l → h.call.activity ≡ l.caller.activity → h.hint ≡ l.caller.hint → h.call.number ≡ l.caller.number → h.export.identifier < 256 ^ 4 → h.export.index < 256 ^ 2 → h.procedure < 256 ^ 2 → HasSpelling (header_of h) (length bytes) → AreBytes bytes → Requests k (packet_from m h bytes) h.kind → IsRequest k (packet_from m h bytes)
own_request k {m} {process} {l} h bytes own same hint number identifier index procedure spelling are_bytes requests =
    let r = in_range l.caller.activity own.has_entry in
    let machine : l.caller.activity.machine ≡ m = ap (λ a. a.machine) own.own_activity in
    let its_machine : h.call.activity.machine ≡ l.caller.activity.machine = ap (λ a. a.machine) same in
    let its_process : h.call.activity.process ≡ l.caller.activity.process = ap (λ a. a.process) same in
    record {
      from_client = λ e. absurd (omega (arith, r.first_machine, machine, e));
      to_server = refl;
      names_sender = its_machine ∙ machine;
      has_entry = ap is_entry_activity same ∙ own.has_entry;
      requests = requests;
      framed = record {
        from_machine = (omega (arith, r.first_machine, machine), omega (arith, r.last_machine, machine));
        to_machine = (omega arith, omega arith);
        fits_fields = record {
          machine = omega (arith, r.last_machine, its_machine);
          process = omega (arith, r.last_process, its_process);
          hint = subst (λ n. n < 256 ^ 2) (sym hint) own.has_room.hint;
          identifier = identifier;
          index = index;
          procedure = procedure;
        };
        fits_number = subst (λ n. n < 2 ^ 48) (sym number) own.has_room.number;
        has_spelling = spelling;
        are_bytes = are_bytes;
      };
    }

-- a piece of the arguments of the call that the process has open
pub piece_request : PieceLaws → (k : Known) {m process : ℕ} {l : Line} (please_ack : Bool) (i : ℕ) → IsOwn m process l → IsCall k l → i ≤ l.caller.final → IsRequest k (packet_from m (caller_header l.caller kind.Call please_ack (i == l.caller.final) i) (piece l.arguments i))
piece_request laws k {m} {process} {l} please_ack i own call within =
    let room = own.has_room in
    let last : (i == l.caller.final) ≡ (i == last_piece (length l.arguments)) = ap (λ f. i == f) call.final_is in
    let low : i ≤ last_piece (length l.arguments) = subst (λ f. i ≤ f) call.final_is within in
    own_request k (caller_header l.caller kind.Call please_ack (i == l.caller.final) i) (piece l.arguments i) own refl refl refl room.identifier room.index room.procedure
    (record {
      reason = refl;
      data_length = laws.fits l.arguments i;
      fullness = rw last (full_or_last laws kind.Call l.arguments i low);
      fragment = omega (arith, low, room.arguments.fits);
    })
    (laws.bytes l.arguments i room.arguments.are_bytes)
    (record { arguments = l.arguments; was_started = call.was_started; carries = record { payload = refl; is_last = last; within = low } })

-- an acknowledgement of a piece of the reply
pub ack_request : (k : Known) {m process : ℕ} {l : Line} (i : ℕ) → IsOwn m process l → IsCall k l → i < 64 → IsRequest k (packet_from m (caller_header l.caller kind.Ack false true i) [])
ack_request k {m} {process} {l} i own call low =
    let room = own.has_room in
    own_request k (caller_header l.caller kind.Ack false true i) [] own refl refl refl room.identifier room.index room.procedure
    (record { reason = refl; data_length = omega arith; fullness = refl; fragment = low }) no_bytes
    (record { arguments = l.arguments; was_started = call.was_started })

-- a probe
pub probe_request : (k : Known) {m process : ℕ} {l : Line} → IsOwn m process l → IsCall k l → IsRequest k (packet_from m (caller_header l.caller kind.Probe true true l.caller.final) [])
probe_request k {m} {process} {l} own call =
    let room = own.has_room in
    own_request k (caller_header l.caller kind.Probe true true l.caller.final) [] own refl refl refl room.identifier room.index room.procedure
    (record { reason = refl; data_length = omega arith; fullness = refl; fragment = omega (arith, call.final_is, room.arguments.fits) }) no_bytes
    (record { arguments = l.arguments; was_started = call.was_started })

-- a bind, whose name is one piece
pub bind_request : PieceLaws → (k : Known) {m process : ℕ} {l : Line} → IsOwn m process l → IsRequest k (packet_from m (bind l.caller) (piece l.arguments 0))
bind_request laws k {m} {process} {l} own =
    own_request k (bind l.caller) (piece l.arguments 0) own refl refl refl (omega arith) (omega arith) (omega arith)
    (record { reason = refl; data_length = laws.fits l.arguments 0; fullness = refl; fragment = omega arith })
    (laws.bytes l.arguments 0 own.has_room.arguments.are_bytes) tt
