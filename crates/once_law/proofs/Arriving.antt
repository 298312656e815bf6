-- What comes of a packet's frame, whole or with one bit flipped: the packet itself, or nothing.
use Rattle.std.proofs.Common.{◌≡◌, ◌∙◌, ℕ, ◌<◌, length, Bool, true, false, cond, eqb, eqb-true, refl, ap, sym, subst, arith}
use Rattle.std.specs.Prelude.{Result, Ok, Err, IfOk}
use Rattle.std.proofs.lemmas.Bool.{eq-eqb, eqb-false}
use Rattle.std.proofs.lemmas.List.{length-append}
use Rattle.std.proofs.lemmas.List.Elements.{All-append}
use Rattle.udp_frames.specs.declared.fault.FrameFault.{FrameFault}
use Rattle.udp_frames.specs.Damage.{IsPayload, flipped}
use Rattle.udp_frames.specs.Reading.{Datagram, reads}
use Rattle.once_law.proofs.Laws.{FrameLaws}
use Rattle.rpc_header.specs.declared.Kind.{Kind}
use Rattle.rpc_header.specs.declared.Kind.TheVariants as kind
use Rattle.rpc_header.specs.Spelling.{spelling}
use Rattle.rpc_header.specs.Reading.{read_of}
use Rattle.call_rules.specs.Packet.{Packet}
use Rattle.replay_model.specs.declared.discard.Discard.TheVariants as why
use Rattle.lawful_rules.specs.Known.{Known}
use Rattle.lawful_rules.specs.Facts.{CanBeFramed, Requests, IsRequest, Answers, IsAnswer, IsSent}
use Rattle.replay_model.specs.Arrival.{header_of, datagram_of, frame_of, Arrival, Comes, Dropped, server_takes_kind, client_takes_kind, takes_kind, calling_machine, arrival_of, arrival_of_read, arrival_of_frame, arrives}

-- a packet that its frame tells whole, of a kind that its receiver takes, and of a call of the client of the two
pub record CanArrive (p : Packet) : Type 0 where
  pub framed : CanBeFramed p
  pub kind_is_taken : takes_kind p.to p.header.kind ≡ true
  pub names_client : p.header.call.activity.machine ≡ calling_machine p.to p.from

-- if a packet comes, it is this one
abbrev pub ComesAs : Packet → Arrival → Type 0
ComesAs p (Comes q) = q ≡ p
ComesAs p (Dropped why) = Unit {0}

-- what the frame of a packet says
abbrev said : Packet → Datagram
said p = record { sender = p.from; payload = datagram_of p }

payload_of : FrameLaws → (p : Packet) → CanBeFramed p → IsPayload (datagram_of p)
payload_of laws p h =
    let both = length-append (spelling (header_of p.header) (length p.payload)) p.payload in (
      omega (arith, both, laws.spelling_count (header_of p.header) (length p.payload), h.has_spelling.data_length),
      All-append (λ byte. byte < 256) (spelling (header_of p.header) (length p.payload)) p.payload (laws.spelling_bytes (header_of p.header) (length p.payload)) h.are_bytes,
    )

request_taken : (k : Known) (p : Packet) (kd : Kind) → Requests k p kd → server_takes_kind kd ≡ true
request_taken k p kind.Call h = refl
request_taken k p kind.Ack h = refl
request_taken k p kind.Probe h = refl
request_taken k p kind.Bind h = refl
request_taken k p _ h = absurd h

-- a caller's packet can arrive at the server
request_can_arrive : {k : Known} {p : Packet} → eqb p.to 1 ≡ true → IsRequest k p → CanArrive p
request_can_arrive {k} {p} to h =
    record {
      framed = h.framed;
      kind_is_taken = ap (λ b. cond b (server_takes_kind p.header.kind) (client_takes_kind p.header.kind)) to ∙ request_taken k p p.header.kind h.requests;
      names_client = h.names_sender ∙ sym (ap (λ b. cond b p.from p.to) to);
    }

answer_taken : (k : Known) (n : ℕ) (p : Packet) (kd : Kind) → Answers k n p kd → client_takes_kind kd ≡ true
answer_taken k n p kind.Result h = refl
answer_taken k n p kind.Signal h = refl
answer_taken k n p kind.Reject h = refl
answer_taken k n p kind.Ack h = refl
answer_taken k n p kind.Bound h = refl
answer_taken k n p _ h = absurd h

-- an answer can arrive at its client
answer_can_arrive : {k : Known} {n : ℕ} {p : Packet} → eqb p.to 1 ≡ false → IsAnswer k n p → CanArrive p
answer_can_arrive {k} {n} {p} to h =
    record {
      framed = h.framed;
      kind_is_taken = ap (λ b. cond b (server_takes_kind p.header.kind) (client_takes_kind p.header.kind)) to ∙ answer_taken k n p p.header.kind h.answers;
      names_client = h.names_receiver ∙ sym (ap (λ b. cond b p.from p.to) to);
    }

-- each packet that was sent can arrive
pub sent_can_arrive : {k : Known} {n : ℕ} {p : Packet} → IsSent k n p → CanArrive p
sent_can_arrive {k} {n} {p} h = go (eqb p.to 1) refl
  where
    go : (b : Bool) → eqb p.to 1 ≡ b → CanArrive p
    go true e = request_can_arrive e (h.to_server (eqb-true p.to 1 e))
    go false e = answer_can_arrive e (h.to_client (eqb-false p.to 1 e))

-- a packet that can arrive is taken by its receiver
taken : (p : Packet) → CanArrive p → arrival_of p.to p ≡ Comes p
taken p h =
    let own : Bool = eqb p.header.call.activity.machine (calling_machine p.to p.from) in
    ap (λ b. cond b (cond own (Comes p) (Dropped why.Foreign)) (Dropped why.Kind)) h.kind_is_taken
    ∙ ap (λ b. cond b (Comes p) (Dropped why.Foreign)) (eq-eqb p.header.call.activity.machine (calling_machine p.to p.from) h.names_client)

-- from the data of its frame the packet's own header and data are read
own_datagram : FrameLaws → (p : Packet) → CanArrive p → arrival_of_read p.to p.from (read_of (datagram_of p)) ≡ Comes p
own_datagram laws p h =
    ap (λ r. arrival_of_read p.to p.from r) (laws.header_is_read (header_of p.header) p.payload h.framed.fits_fields h.framed.has_spelling)
    ∙ ap (λ f. arrival_of p.to (record { from = p.from; to = p.to; header = f; payload = p.payload })) (laws.fields_are_back p.header h.framed.fits_number)
    ∙ taken p h

-- the frame of a packet is read as the packet
pub frame_comes : FrameLaws → (p : Packet) → CanArrive p → arrives p.to (frame_of p) ≡ Comes p
unfolding frame_of arrives
frame_comes laws p h =
    ap (λ r. arrival_of_frame p.to r) (laws.written_is_read p.from p.to (datagram_of p) h.framed.from_machine h.framed.to_machine (payload_of laws p h.framed).0)
    ∙ own_datagram laws p h

-- a frame was refused, or says what the packet's frame says
own_frame : FrameLaws → (p : Packet) → CanArrive p → (r : Result Datagram FrameFault) → IfOk r (λ seen. seen ≡ said p) → ComesAs p (arrival_of_frame p.to r)
own_frame laws p h (Err fault) e = tt
own_frame laws p h (Ok seen) e = subst (λ a. ComesAs p a) (sym (ap (λ d. arrival_of_frame p.to (Ok d)) e ∙ own_datagram laws p h)) refl

-- whichever bit is flipped
pub damaged_frame_comes : FrameLaws → (p : Packet) (bit : ℕ) → CanArrive p → ComesAs p (arrives p.to (flipped (frame_of p) bit))
unfolding frame_of arrives
damaged_frame_comes laws p bit h =
    own_frame laws p h (reads (flipped (frame_of p) bit) p.to)
    (laws.flipped_bit_never_forges p.from p.to (datagram_of p) bit h.framed.from_machine h.framed.to_machine (payload_of laws p h.framed))
