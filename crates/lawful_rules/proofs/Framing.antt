-- What can be framed: the answers of a server to a packet that can.
use Rattle.std.proofs.Common.{◌≡◌, ℕ, ◌<◌, ◌≤◌, ◌^◌, List, [], length, Bool, true, false, refl, arith, eqb, inl, inr}
use Rattle.std.specs.Prelude.{IsTrue, not, ◌&&◌, ◌==◌, Option, Some, None}
use Rattle.std.proofs.lemmas.Bool.{eq-eqb}
use Rattle.std.proofs.lemmas.Bool.Decides.{eqb_tells}
use Rattle.std.proofs.lemmas.List.Elements.{All-nil}
use Rattle.item_list.specs.Bytes.{AreBytes}
use Rattle.fragments.specs.Pieces.{last_piece, piece}
use Rattle.rpc_header.specs.declared.Export.{Export}
use Rattle.rpc_header.specs.declared.Kind.{Kind}
use Rattle.rpc_header.specs.declared.Kind.TheVariants as kind
use Rattle.rpc_header.specs.Fields.{has_pieces, is_reason}
use Rattle.rpc_header.specs.Limits.{data_limit}
use Rattle.rpc_header.specs.Spelling.{HasSpelling, is_short_fragment}
use Rattle.call_rules.specs.Packet.{Packet, Fields}
use Rattle.call_rules.specs.Worker.{Answer, answer_header, answer_kind, answer_to, ack_packet, reject_packet, bound_packet, reply_packet}
use Rattle.replay_model.specs.Arrival.{header_of}
use Rattle.lawful_rules.specs.Facts.{CanBeFramed, HasReply}
use Rattle.lawful_rules.proofs.Pieces.{PieceLaws}

pub no_bytes : AreBytes []
no_bytes = All-nil (λ byte. byte < 256)

not_short : (pieces last : Bool) (len : ℕ) → (last ≡ false → len ≡ data_limit) → IsTrue (not (pieces && not last && not (len == data_limit)))
not_short false last len h = refl
not_short true true len h = refl
not_short true false len h = rw (eq-eqb len data_limit (h refl)) refl

-- a piece that isn't the last is full
pub full_or_last : PieceLaws → (k : Kind) (text : List ℕ) (i : ℕ) → i ≤ last_piece (length text) → IsTrue (not (is_short_fragment k (i == last_piece (length text)) (length (piece text i))))
full_or_last laws k text i within =
    not_short (has_pieces k) (eqb i (last_piece (length text))) (length (piece text i))
    (λ e. elim (eqb_tells i (last_piece (length text))) [
      | inl t ↦ absurd (cc)
      | inr t ↦ laws.full text i (omega (arith, within, t.1))
    ])

-- an answer to a packet, with fields that have room
pub answer_framed : (p : Packet) (h : Fields) (bytes : List ℕ) → CanBeFramed p → h.call ≡ p.header.call → h.hint ≡ p.header.hint → h.procedure ≡ p.header.procedure → h.export.identifier < 256 ^ 4 → h.export.index < 256 ^ 2 → HasSpelling (header_of h) (length bytes) → AreBytes bytes → CanBeFramed (answer_to p h bytes)
answer_framed p h bytes f call hint procedure identifier index spelling are_bytes =
    record {
      from_machine = f.to_machine;
      to_machine = f.from_machine;
      fits_fields = record {
        machine = rw call f.fits_fields.machine;
        process = rw call f.fits_fields.process;
        hint = rw hint f.fits_fields.hint;
        identifier = identifier;
        index = index;
        procedure = rw procedure f.fits_fields.procedure;
      };
      fits_number = rw call f.fits_number;
      has_spelling = spelling;
      are_bytes = are_bytes;
    }

pub ack_framed : (p : Packet) → CanBeFramed p → CanBeFramed (ack_packet p)
ack_framed p f =
    answer_framed p (answer_header p kind.Ack true p.header.fragment) [] f refl refl refl f.fits_fields.identifier f.fits_fields.index
    (record { reason = refl; data_length = omega arith; fullness = refl; fragment = f.has_spelling.fragment }) no_bytes

pub reject_framed : (p : Packet) (reason : ℕ) → IsTrue (is_reason kind.Reject reason) → CanBeFramed p → CanBeFramed (reject_packet p reason)
reject_framed p reason is_reason f =
    answer_framed p (record (answer_header p kind.Reject true 0) { reason = reason }) [] f refl refl refl f.fits_fields.identifier f.fits_fields.index
    (record { reason = is_reason; data_length = omega arith; fullness = refl; fragment = omega arith }) no_bytes

pub bound_framed : (p : Packet) (found : Option Export) → ((x : Export) → found ≡ Some x → (x.identifier < 256 ^ 4) × (x.index < 256 ^ 2)) → CanBeFramed p → CanBeFramed (bound_packet p found)
bound_framed p None room f =
    answer_framed p (bound_packet p None).header [] f refl refl refl (omega arith) (omega arith)
    (record { reason = refl; data_length = omega arith; fullness = refl; fragment = omega arith }) no_bytes
bound_framed p (Some x) room f =
    answer_framed p (bound_packet p (Some x)).header [] f refl refl refl (room x refl).0 (room x refl).1
    (record { reason = refl; data_length = omega arith; fullness = refl; fragment = omega arith }) no_bytes

reply_reason : (signal : Bool) → IsTrue (is_reason (answer_kind signal) 0)
reply_reason true = refl
reply_reason false = refl

pub reply_framed : PieceLaws → (p : Packet) (answer : Answer) (i : ℕ) → HasReply answer.signal answer.reply → i ≤ last_piece (length answer.reply) → CanBeFramed p → CanBeFramed (reply_packet p answer i)
reply_framed laws p answer i reply within f =
    answer_framed p (reply_packet p answer i).header (piece answer.reply i) f refl refl refl f.fits_fields.identifier f.fits_fields.index
    (record {
      reason = reply_reason answer.signal;
      data_length = laws.fits answer.reply i;
      fullness = full_or_last laws (answer_kind answer.signal) answer.reply i within;
      fragment = omega (arith, within, reply.has_length.fits);
    })
    (laws.bytes answer.reply i reply.has_length.are_bytes)
