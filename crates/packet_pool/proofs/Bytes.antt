-- Bytes that are written into a packet, and read from it.
use Rattle.std.proofs.Common.{◌≡◌, ℕ, ◌+◌, ◌≤◌, List, ◌++◌, length, take, drop, append_assoc, Result, Ok, Option, Some, None, sym, ap, ◌∙◌, arith}
use Rattle.std.proofs.lemmas.List.{length-append, length-take-le, length-drop, drop-take, drop-drop}
use Rattle.std.proofs.Math.Seq.{take-append_seam, drop-append_seam, take-append-add, drop-append-add}
use Rattle.udp_frames.specs.declared.fault.FrameFault.{FrameFault}
use Rattle.udp_frames.specs.Frame.{frame}
use Rattle.udp_frames.specs.Reading.{Datagram, reads, reads_unless, first_fault, checks, source_machine}

-- a list that is written back whole
pub whole_items : (n : ℕ) (ws xs : List ℕ) → length ws ≡ n → take n (ws ++ drop (length ws) xs) ≡ ws
whole_items n ws xs e = ap (λ (k : ℕ). take k (ws ++ drop (length ws) xs)) (sym e) ∙ take-append_seam ws (drop (length ws) xs)

-- behind what was written in the middle of a list
pub past_front : (n : ℕ) (xs ys : List ℕ) → n ≤ length xs → drop n (take n xs ++ ys) ≡ ys
past_front n xs ys room = ap (λ (k : ℕ). drop k (take n xs ++ ys)) (sym (length-take-le n xs room)) ∙ drop-append_seam (take n xs) ys

pub part_read : (n : ℕ) (xs p ys : List ℕ) → n ≤ length xs → take (length p) (drop n (take n xs ++ p ++ ys)) ≡ p
part_read n xs p ys room = ap (λ (z : List ℕ). take (length p) (drop n z)) (append_assoc (take n xs) p ys) ∙ (ap (λ (z : List ℕ). take (length p) z) (past_front n xs (p ++ ys) room) ∙ take-append_seam p ys)

drop_more : (n m : ℕ) (xs : List ℕ) → drop m (drop n xs) ≡ drop (n + m) xs
drop_more n m xs = drop-drop m n xs

-- A frame that is written round a header and data: S is what the header was written into, and B what was there before
module _ (from to len : ℕ) (spelled B S W : List ℕ) (count : length spelled ≡ 32) (room : 74 + len ≤ length B) (written : S ≡ take 42 B ++ spelled ++ drop 74 B)
    (framed : W ≡ frame from to (take (32 + len) (drop 42 S)) ++ drop (42 + (32 + len)) S) where
  abbrev pub data_of : List ℕ
  data_of = take len (drop 74 B)

  pub data_length : length data_of ≡ len
  data_length = length-take-le len (drop 74 B) (let d = length-drop 74 B in omega (arith, d, room))

  pub carried : take (32 + len) (drop 42 S) ≡ spelled ++ data_of
  carried = ap (λ (z : List ℕ). take (32 + len) (drop 42 z)) (written ∙ append_assoc (take 42 B) spelled (drop 74 B)) ∙ (ap (λ (z : List ℕ). take (32 + len) z) (past_front 42 B (spelled ++ drop 74 B) (omega (arith, room)))
      ∙ (ap (λ (z : ℕ). take (z + len) (spelled ++ drop 74 B)) (sym count) ∙ take-append-add spelled (drop 74 B) len))

  left : drop (42 + (32 + len)) S ≡ drop (74 + len) B
  left = let front : length (take 42 B ++ spelled) ≡ 74 = let a = length-append (take 42 B) spelled in let t = length-take-le 42 B (omega (arith, room)) in omega (arith, a, t, count) in
      ap (λ (z : List ℕ). drop (42 + (32 + len)) z) written ∙ (ap (λ (z : ℕ). drop z (take 42 B ++ spelled ++ drop 74 B)) (let e : 42 + (32 + len) ≡ length (take 42 B ++ spelled) + len = omega (arith, front) in e)
      ∙ (drop-append-add (take 42 B ++ spelled) (drop 74 B) len ∙ drop_more 74 len B))

  pub after : W ≡ frame from to (spelled ++ data_of) ++ drop (74 + len) B
  after = framed ∙ (λ i. frame from to (carried i) ++ left i)

  pub frame_length : length (frame from to (spelled ++ data_of)) ≡ 74 + len
  frame_length = let a = length-append spelled data_of in let d = data_length in omega (arith, a, d, count)

  pub frame_front : take (74 + len) W ≡ frame from to (spelled ++ data_of)
  frame_front = ap (λ (z : List ℕ). take (74 + len) z) after ∙ (ap (λ (z : ℕ). take z (frame from to (spelled ++ data_of) ++ drop (74 + len) B)) (sym frame_length) ∙ take-append_seam (frame from to (spelled ++ data_of)) (drop (74 + len) B))

  pub frame_behind : drop (74 + len) W ≡ drop (74 + len) B
  frame_behind = ap (λ (z : List ℕ). drop (74 + len) z) after ∙ (ap (λ (z : ℕ). drop z (frame from to (spelled ++ data_of) ++ drop (74 + len) B)) (sym frame_length) ∙ drop-append_seam (frame from to (spelled ++ data_of)) (drop (74 + len) B))

  pub data_stays : take len (drop 74 W) ≡ data_of
  data_stays = let T : List ℕ = drop (74 + len) B in ap (λ (z : List ℕ). take len (drop 74 z)) after ∙ (ap (λ (z : List ℕ). take len (drop 32 z)) (append_assoc spelled data_of T) ∙ (ap (λ (z : ℕ). take len (drop z (spelled ++ (data_of ++ T)))) (sym count)
      ∙ (ap (λ (z : List ℕ). take len z) (drop-append_seam spelled (data_of ++ T)) ∙ (ap (λ (z : ℕ). take z (data_of ++ T)) (sym data_length) ∙ take-append_seam data_of T))))

-- what is read from a frame stands behind its headers
abbrev pub made_of : Datagram → Result Datagram FrameFault
made_of d = Ok d

payload_unless : (fault : Option FrameFault) (bytes : List ℕ) (d : Datagram) → reads_unless fault bytes ≡ Ok d → d.payload ≡ drop 42 bytes
payload_unless None bytes d e = let made : Datagram = record { sender = source_machine bytes; payload = drop 42 bytes } in let whole : made_of made ≡ made_of d = e in let same : made ≡ d = cc in ap (λ (z : Datagram). z.payload) (sym same)
payload_unless (Some fault) bytes d e = absurd (cc)

pub payload_read : (bytes : List ℕ) (me : ℕ) (d : Datagram) → reads bytes me ≡ Ok d → d.payload ≡ drop 42 bytes
payload_read bytes me d e = payload_unless (first_fault (checks bytes me)) bytes d e

-- and what is read from it as a header with its data, behind that header
pub data_read : (bytes payload spelled data_bytes : List ℕ) → payload ≡ drop 42 bytes → payload ≡ spelled ++ data_bytes → length spelled ≡ 32 → data_bytes ≡ drop 74 bytes
data_read bytes payload spelled data_bytes e f count = sym (drop-append_seam spelled data_bytes) ∙ (ap (λ (z : ℕ). drop z (spelled ++ data_bytes)) count ∙ (ap (λ (z : List ℕ). drop 32 z) (sym f ∙ e) ∙ drop_more 42 32 bytes))

-- the data in the first bytes of a buffer
pub data_in : (n len : ℕ) (xs : List ℕ) → 74 + len ≡ length (take n xs) → n ≤ length xs → take len (drop 74 xs) ≡ drop 74 (take n xs)
data_in n len xs e room = let l = length-take-le n xs room in sym (drop-take 74 len xs) ∙ ap (λ (k : ℕ). drop 74 (take k xs)) (let same : 74 + len ≡ n = omega (arith, e, l) in same)
