-- What a machine makes of a frame's bytes, by what they say as a frame and as a header.
use Rattle.std.proofs.Common.{◌≡◌, ℕ, List, true, false, Result, Ok, Err, ap, sym, subst, ◌∙◌}
use Rattle.std.specs.Result.{IsErrAnd, MatchResult}
use Rattle.std.proofs.lemmas.Bool.{cond-true, cond-false, eq-eqb, ne_eqb}
use Rattle.rpc_header.specs.declared.Header.{Header}
use Rattle.rpc_header.specs.declared.HeaderFault.{HeaderFault}
use Rattle.rpc_header.specs.Reading.{Accepted, Refused, read_of}
use Rattle.udp_frames.specs.declared.fault.FrameFault.{FrameFault}
use Rattle.udp_frames.specs.Reading.{Datagram, reads}
use Rattle.call_rules.specs.Packet.{Packet, fields_of}
use Rattle.replay_model.specs.declared.discard.Discard.{Discard}
use Rattle.replay_model.specs.declared.discard.Discard.TheVariants as why
use Rattle.replay_packets.specs.declared.packet.Arrived.{Arrived}
use Rattle.replay_packets.specs.Packet.{packet_of}
use Rattle.replay_model.specs.Arrival.{Comes, Dropped, arrives, arrival_of, arrival_of_frame, arrival_of_read, takes_kind, calling_machine}

-- what a `?` hands on
pub dropped_by : (r : Result Arrived Discard) (me : ℕ) (bytes : List ℕ) (reason : Discard) → IsErrAnd r (λ y. y ≡ reason) → arrives me bytes ≡ Dropped reason → MatchResult r (λ packet. arrives me bytes ≡ Comes (packet_of packet)) (λ y. arrives me bytes ≡ Dropped y)
dropped_by (Ok packet) me bytes reason h e = elim h [ ]
dropped_by (Err y) me bytes reason h e = subst (λ (x : Discard). arrives me bytes ≡ Dropped x) (sym h) e

pub no_frame : (me : ℕ) (bytes : List ℕ) (fault : FrameFault) → reads bytes me ≡ Err fault → arrives me bytes ≡ Dropped (why.Frame fault)
unfolding arrives
no_frame me bytes fault e = ap (arrival_of_frame me) e

pub no_header : (me : ℕ) (bytes : List ℕ) (d : Datagram) (fault : HeaderFault) → reads bytes me ≡ Ok d → read_of d.payload ≡ Refused fault → arrives me bytes ≡ Dropped (why.Header fault)
unfolding arrives
no_header me bytes d fault e f = ap (arrival_of_frame me) e ∙ ap (arrival_of_read me d.sender) f

-- the packet of a header and its data
abbrev packet_read : (me from : ℕ) → Header → List ℕ → Packet
packet_read me from h data_bytes = record { from = from; to = me; header = fields_of h; payload = data_bytes }

read_whole : (me : ℕ) (bytes : List ℕ) (d : Datagram) (h : Header) (data_bytes : List ℕ) → reads bytes me ≡ Ok d → read_of d.payload ≡ Accepted h data_bytes → arrives me bytes ≡ arrival_of me (packet_read me d.sender h data_bytes)
unfolding arrives
read_whole me bytes d h data_bytes e f = ap (arrival_of_frame me) e ∙ ap (arrival_of_read me d.sender) f

pub wrong_kind : (me : ℕ) (bytes : List ℕ) (d : Datagram) (h : Header) (data_bytes : List ℕ) → reads bytes me ≡ Ok d → read_of d.payload ≡ Accepted h data_bytes → takes_kind me h.kind ≡ false → arrives me bytes ≡ Dropped why.Kind
wrong_kind me bytes d h data_bytes e f k = read_whole me bytes d h data_bytes e f ∙ cond-false _ _ _ k

pub foreign : (me : ℕ) (bytes : List ℕ) (d : Datagram) (h : Header) (data_bytes : List ℕ) → reads bytes me ≡ Ok d → read_of d.payload ≡ Accepted h data_bytes → takes_kind me h.kind ≡ true → (h.call.activity.machine ≡ calling_machine me d.sender → ⊥) → arrives me bytes ≡ Dropped why.Foreign
foreign me bytes d h data_bytes e f k m =
    read_whole me bytes d h data_bytes e f ∙ (cond-true _ _ _ k ∙ cond-false _ _ _ (ne_eqb h.call.activity.machine (calling_machine me d.sender) m))

pub comes : (me : ℕ) (bytes : List ℕ) (d : Datagram) (h : Header) (data_bytes : List ℕ) → reads bytes me ≡ Ok d → read_of d.payload ≡ Accepted h data_bytes → takes_kind me h.kind ≡ true → h.call.activity.machine ≡ calling_machine me d.sender → arrives me bytes ≡ Comes (packet_read me d.sender h data_bytes)
comes me bytes d h data_bytes e f k m =
    read_whole me bytes d h data_bytes e f ∙ (cond-true _ _ _ k ∙ cond-true _ _ _ (eq-eqb h.call.activity.machine (calling_machine me d.sender) m))
