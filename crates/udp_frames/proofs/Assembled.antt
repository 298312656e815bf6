-- The headers that are written around data, put together.
use Rattle.std.proofs.Common.{◌≡◌, ℕ, ◌+◌, ◌-◌, ◌≤◌, List, ◌++◌, length, take, drop, Ok, refl, ap, ◌∙◌, arith}
use Rattle.std.proofs.lemmas.List.{length-take, length-drop, take_at}
use Rattle.lane_checksum.specs.PlainSum.{csum, finish_of}
use Rattle.udp_frames.specs.Frame as written
use Rattle.udp_frames.specs.Frame.{two_bytes, ethernet_header, internet_header, udp_header, internet_checksum, frame, IsMachine}
use Rattle.udp_frames.specs.Reading as read
use Rattle.udp_frames.specs.Reading.{part, udp_datagram, reads}
use Rattle.udp_frames.specs.Writing.{with_part}
use Rattle.udp_frames.proofs.Damaged.{written_is_read}
use Rattle.udp_frames.proofs.WithPart.{then_part, length-part_written}

-- the headers one behind the other, each checksum 0
unsummed : (from to total udp : ℕ) (old ethernet internet new : List ℕ) → 42 ≤ length old
    → ethernet ≡ with_part 0 (ethernet_header from to) old
    → internet ≡ with_part 14 (internet_header from to (length ethernet - 14) 0) ethernet
    → new ≡ with_part 34 (udp_header (length internet - 34) 0) internet
    → total ≡ length old - 14 → udp ≡ length old - 34
    → new ≡ ethernet_header from to ++ internet_header from to total 0 ++ udp_header udp 0 ++ drop 42 old
unfolding with_part
unsummed from to total udp old ethernet internet new room e i u total-is udp-is =
    let ethernet_len : length ethernet ≡ length old = length-part_written 0 (ethernet_header from to) old ethernet e (omega arith) in
    let total_same : length ethernet - 14 ≡ total = omega arith in
    let two = then_part 0 14 (ethernet_header from to) (internet_header from to (length ethernet - 14) 0) (internet_header from to total 0) old ethernet internet
    (ap (λ (n : ℕ). internet_header from to n 0) total_same) e i refl (omega arith) in
    let internet_len : length internet ≡ length old =
    length-part_written 0 (ethernet_header from to ++ internet_header from to total 0) old internet two (omega arith) in
    let udp_same : length internet - 34 ≡ udp = omega arith in
    then_part 0 34 (ethernet_header from to ++ internet_header from to total 0) (udp_header (length internet - 34) 0) (udp_header udp 0) old internet new
    (ap (λ (n : ℕ). udp_header n 0) udp_same) two u refl (omega arith)

-- the checksums that were summed in place are those of the frame
pub assembled : (from to : ℕ) (old ethernet internet udp summed new : List ℕ) (sum checksum udp_sum udp_checksum : ℕ) → 42 ≤ length old
    → ethernet ≡ with_part 0 (ethernet_header from to) old
    → internet ≡ with_part 14 (internet_header from to (length ethernet - 14) 0) ethernet
    → udp ≡ with_part 34 (udp_header (length internet - 34) 0) internet
    → sum ≡ csum (part 14 20 udp) → checksum ≡ 65535 - sum → summed ≡ with_part 24 (two_bytes checksum) udp
    → udp_sum ≡ csum (read.pseudo_header summed ++ udp_datagram summed) → udp_checksum ≡ finish_of udp_sum
    → new ≡ with_part 40 (two_bytes udp_checksum) summed
    → new ≡ frame from to (drop 42 old)
unfolding with_part
assembled from to old ethernet internet udp summed new sum checksum udp_sum udp_checksum room e i u sum-is checksum-is summed-is udp_sum-is udp_checksum-is new-is =
    let payload : List ℕ = drop 42 old in
    let total : ℕ = 28 + length payload in
    let len : ℕ = 8 + length payload in
    let size : length (drop 42 old) ≡ length old - 42 = length-drop 42 old in
    let plain : udp ≡ ethernet_header from to ++ internet_header from to total 0 ++ udp_header len 0 ++ payload =
    unsummed from to total len old ethernet internet udp room e i u (omega arith) (omega arith) in
    let right : checksum ≡ internet_checksum from to total =
    checksum-is ∙ ap (λ (n : ℕ). 65535 - n) (sum-is ∙ ap (λ (xs : List ℕ). csum (part 14 20 xs)) plain) in
    let half : summed ≡ ethernet_header from to ++ internet_header from to total (internet_checksum from to total) ++ udp_header len 0 ++ payload =
    summed-is ∙ ap (with_part 24 (two_bytes checksum)) plain
    ∙ ap (λ (n : ℕ). ethernet_header from to ++ internet_header from to total n ++ udp_header len 0 ++ payload) right in
    let udp_right : udp_checksum ≡ written.udp_checksum from to len payload =
    udp_checksum-is ∙ ap finish_of (udp_sum-is ∙ ap (λ (xs : List ℕ). csum (read.pseudo_header xs ++ udp_datagram xs)) half) in
    new-is ∙ ap (with_part 40 (two_bytes udp_checksum)) half
    ∙ ap (λ (n : ℕ). ethernet_header from to ++ internet_header from to total (internet_checksum from to total) ++ udp_header len n ++ payload) udp_right

-- its receiver reads what was written
pub assembled_is_read : (from to data_len : ℕ) (old new : List ℕ) → IsMachine from → IsMachine to → 42 + data_len ≤ length old →
    new ≡ frame from to (take data_len (drop 42 old)) ++ drop (42 + data_len) old →
    reads (take (42 + data_len) new) to ≡ Ok (record { sender = from; payload = take data_len (drop 42 old) })
assembled_is_read from to data_len old new is_from is_to room whole =
    let payload = take data_len (drop 42 old) in
    let data-is : length payload ≡ data_len = omega (arith, length-take data_len (drop 42 old), length-drop 42 old) in
    let len : length (frame from to payload) ≡ 42 + data_len = omega (arith, data-is) in
    let front : take (42 + data_len) new ≡ frame from to payload =
    ap (take (42 + data_len)) whole ∙ take_at (frame from to payload) (drop (42 + data_len) old) (42 + data_len) len in
    rw front (written_is_read from to payload is_from is_to)
