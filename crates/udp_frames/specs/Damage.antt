-- The damage of one bit of a frame, and that it never forges a datagram.
use Rattle.std.specs.Prelude.{◌≡◌, ◌≢◌, ◌⊎◌, ℕ, ◌+◌, ◌-◌, ◌*◌, ◌/◌, ◌%◌, ◌^◌, ◌<◌, ◌≤◌, List, length, slice_index, slice_set, bit_xor, Ok, IfOk}
use Rattle.item_list.specs.Bytes.{AreBytes}
use Rattle.lane_checksum.specs.PlainSum.{word_total, csum}
use Rattle.udp_frames.specs.Frame.{largest_payload, frame, IsMachine}
use Rattle.udp_frames.specs.Reading.{reads}

-- data that a frame carries
abbrev pub IsPayload : List ℕ → Type 0
IsPayload bytes = (length bytes ≤ largest_payload) × AreBytes bytes

-- the bytes with one bit flipped; bit 0 is the highest of the first byte
abbrev pub flipped : List ℕ → ℕ → List ℕ
flipped bytes bit =
    let place = bit / 8 in
    slice_set bytes place (bit_xor (slice_index bytes place) (128 / 2 ^ (bit % 8)))

-- the weight of a bit in its word of 16 bits: 2^15 for the highest of the word, 1 for the lowest
abbrev pub weight_of : ℕ → ℕ
weight_of bit = 2 ^ (15 - bit % 16)

-- two numbers lie so far apart
abbrev pub AreApart : (gap : ℕ) → ℕ → ℕ → Type 0
AreApart gap old new = (new ≡ old + gap) ⊎ (old ≡ new + gap)

-- what flipping a bit does to the plain total of a text, and so to its sum
pub record ChangesSum (bytes : List ℕ) (bit : ℕ) : Type 0 where
  -- the total rises or falls by the bit's weight
  pub moves : AreApart (weight_of bit) (word_total bytes) (word_total (flipped bytes bit))
  -- which isn't 0 modulo 65535
  pub weight : weight_of bit % 65535 ≢ 0
  -- so the sum changes
  pub sum : csum (flipped bytes bit) ≢ csum bytes

-- each flipped bit of a text changes its sum: this is why a checksum finds it
abbrev pub FlippedBitChangesSum : Type 0
FlippedBitChangesSum = (bytes : List ℕ) (bit : ℕ) → bit < 8 * length bytes → ChangesSum bytes bit

-- what was written is read: the receiver of a frame sees its sender and its data
abbrev pub WrittenIsRead : Type 0
WrittenIsRead = (from to : ℕ) (bytes : List ℕ) → IsMachine from → IsMachine to → length bytes ≤ largest_payload →
    reads (frame from to bytes) to ≡ Ok (record { sender = from; payload = bytes })

-- a frame with one bit flipped is refused by its receiver, or says what was sent
abbrev pub FlippedBitNeverForges : Type 0
FlippedBitNeverForges = (from to : ℕ) (bytes : List ℕ) (bit : ℕ) → IsMachine from → IsMachine to → IsPayload bytes →
    IfOk (reads (flipped (frame from to bytes) bit) to) (λ seen. seen ≡ record { sender = from; payload = bytes })
