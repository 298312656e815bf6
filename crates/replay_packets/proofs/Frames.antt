-- The frame that is built around a header and a payload is the packet's frame.
use Rattle.std.proofs.Common.{◌≡◌, ℕ, ◌+◌, ◌≤◌, List, [], ◌++◌, length, take, drop, replicate, ap, sym, ◌∙◌, arith}
use Rattle.std.proofs.lemmas.List.{append-nil, length-append}
use Rattle.std.proofs.Math.Seq.{take-length, take-append_seam, drop-append_seam}
use Rattle.std.proofs.Math.ListN.{drop_of_length-le}
use Rattle.rpc_header.specs.declared.Header.{Header}
use Rattle.rpc_header.specs.Spelling.{spelling}
use Rattle.udp_frames.specs.Frame.{frame}
use Rattle.call_rules.specs.Packet.{fields_of}
use Rattle.replay_model.specs.Arrival.{frame_of, header_of}
use Rattle.replay_packets.specs.Sent.{packet_in}

frame_length : (from to : ℕ) (carried : List ℕ) → length (frame from to carried) ≡ 42 + length carried
frame_length from to carried = omega arith

pub unframed_length : (spelled payload items : List ℕ) → length spelled ≡ 32 → items ≡ replicate 42 0 ++ (spelled ++ payload) → length items ≡ 42 + (32 + length payload)
unframed_length spelled payload items count e =
    let carried = length-append spelled payload in
    let all = length-append (replicate 42 0) (spelled ++ payload) in
    omega (arith, ap length e, all, carried, count)

-- what the writer of frame headers makes of room in front of what the frame carries, where nothing stands behind
pub headers_written : (from to n : ℕ) (carried buffer : List ℕ) → n ≡ length carried → buffer ≡ frame from to (take n (drop 42 (replicate 42 0 ++ carried))) ++ drop (42 + n) (replicate 42 0 ++ carried) → buffer ≡ frame from to carried
headers_written from to n carried buffer count e =
    let whole : take n (drop 42 (replicate 42 0 ++ carried)) ≡ carried = ap (λ (k : ℕ). take k carried) count ∙ take-length carried in
    let all : length (replicate 42 0 ++ carried) ≤ 42 + n = omega (arith, count, length-append (replicate 42 0) carried) in
    let none : drop (42 + n) (replicate 42 0 ++ carried) ≡ [] = drop_of_length-le (replicate 42 0 ++ carried) all in
    e ∙ (ap (λ (t : List ℕ). frame from to t ++ drop (42 + n) (replicate 42 0 ++ carried)) whole
    ∙ (ap (λ (t : List ℕ). frame from to carried ++ t) none ∙ append-nil (frame from to carried)))

-- a text that was written back whole
pub written_back : (n : ℕ) (buffer rest whole : List ℕ) → buffer ≡ whole → n ≡ length whole → take n (buffer ++ rest) ≡ whole
written_back n buffer rest whole e count =
    ap (λ (k : ℕ). take k (buffer ++ rest)) (count ∙ ap length (sym e)) ∙ (take-append_seam buffer rest ∙ e)

-- the payload of the packet that stands in its frame
payload_in : (from to : ℕ) (h : Header) (payload items : List ℕ) → length (spelling h (length payload)) ≡ 32 → items ≡ frame from to (spelling h (length payload) ++ payload) → drop 74 items ≡ payload
payload_in from to h payload items count e =
    ap (drop 74) e ∙ (ap (λ (k : ℕ). drop k (spelling h (length payload) ++ payload)) (sym count) ∙ drop-append_seam (spelling h (length payload)) payload)

pub packet_framed : (from to : ℕ) (h : Header) (payload items : List ℕ) → length (spelling h (length payload)) ≡ 32 → items ≡ frame from to (spelling h (length payload) ++ payload) → packet_in from to h items ≡ record { from = from; to = to; header = fields_of h; payload = payload }
packet_framed from to h payload items count e =
    ap (λ (t : List ℕ). record { from = from; to = to; header = fields_of h; payload = t }) (payload_in from to h payload items count e)

pub own_frame : (from to : ℕ) (h : Header) (payload items : List ℕ) → header_of (fields_of h) ≡ h → length (spelling h (length payload)) ≡ 32 → items ≡ frame from to (spelling h (length payload) ++ payload) → items ≡ frame_of (packet_in from to h items)
unfolding frame_of
own_frame from to h payload items same count e =
    e ∙ (ap (λ (k : Header). frame from to (spelling k (length payload) ++ payload)) (sym same)
    ∙ ap frame_of (sym (packet_framed from to h payload items count e)))

-- the frame that is written over room and what it carries
pub framed_back : (from to len : ℕ) (spelled payload items old buffer rest : List ℕ) → length spelled ≡ 32 → items ≡ replicate 42 0 ++ (spelled ++ payload) → old ≡ items → len ≡ length items → buffer ≡ frame from to (take (32 + length payload) (drop 42 old)) ++ drop (42 + (32 + length payload)) old → take len (buffer ++ rest) ≡ frame from to (spelled ++ payload)
framed_back from to len spelled payload items old buffer rest count e same whole w =
    let carried = length-append spelled payload in
    let all = unframed_length spelled payload items count e in
    let n : 32 + length payload ≡ length (spelled ++ payload) = omega (arith, carried, count) in
    written_back len buffer rest (frame from to (spelled ++ payload))
    (headers_written from to (32 + length payload) (spelled ++ payload) buffer n
    (w ∙ ap (λ (xs : List ℕ). frame from to (take (32 + length payload) (drop 42 xs)) ++ drop (42 + (32 + length payload)) xs) (same ∙ e)))
    (omega (arith, whole, all, n, frame_length from to (spelled ++ payload)))
