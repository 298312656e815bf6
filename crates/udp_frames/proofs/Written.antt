-- The frame that is written, whatever its Ethernet source, is a frame for its receiver.
use Rattle.std.proofs.Common.{◌≡◌, ℕ, ◌+◌, ◌-◌, ◌<◌, List, [], ◌∷◌, ◌++◌, length, refl, inl, inr, lit<, arith}
use Rattle.std.proofs.lemmas.Bool.{cases_eq, eq-eqb, ne_eqb}
use Rattle.lane_checksum.specs.PlainSum.{word_total, csum, finish_of}
use Rattle.udp_frames.specs.Frame.{ethernet_address, internet_header, udp_header, pseudo_header, internet_checksum, udp_checksum, IsMachine}
use Rattle.udp_frames.proofs.Accepting.{IsFrameFor}
use Rattle.udp_frames.proofs.OnesComplement.{complement-full, finish_of-full}

-- a frame with any six bytes for its Ethernet source
abbrev pub frame_via : (s₀ s₁ s₂ s₃ s₄ s₅ from to : ℕ) → List ℕ → List ℕ
frame_via s₀ s₁ s₂ s₃ s₄ s₅ from to payload =
    let total = 28 + length payload in
    let udp = 8 + length payload in
    ethernet_address to ++ (s₀ ∷ s₁ ∷ s₂ ∷ s₃ ∷ s₄ ∷ s₅ ∷ 8 ∷ 0 ∷ [])
    ++ internet_header from to total (internet_checksum from to total)
    ++ udp_header udp (udp_checksum from to udp payload)
    ++ payload

-- a checksum in an IP header adds to the total of its words
internet_total : (from to total_length checksum : ℕ) → word_total (internet_header from to total_length checksum) ≡ word_total (internet_header from to total_length 0) + checksum
internet_total from to total_length checksum = omega arith

pub internet_sum : (from to total_length : ℕ) → csum (internet_header from to total_length (internet_checksum from to total_length)) ≡ 65535
internet_sum from to total_length =
    rw (internet_total from to total_length (internet_checksum from to total_length)) (complement-full (word_total (internet_header from to total_length 0)) (omega arith))

udp_total : (from to udp_length checksum : ℕ) (payload : List ℕ) → word_total (pseudo_header from to udp_length ++ udp_header udp_length checksum ++ payload) ≡ word_total (pseudo_header from to udp_length ++ udp_header udp_length 0 ++ payload) + checksum
udp_total from to udp_length checksum payload = omega arith

pub udp_sum : (from to udp_length : ℕ) (payload : List ℕ) → csum (pseudo_header from to udp_length ++ udp_header udp_length (udp_checksum from to udp_length payload) ++ payload) ≡ 65535
udp_sum from to udp_length payload =
    rw (udp_total from to udp_length (udp_checksum from to udp_length payload) payload) (finish_of-full (word_total (pseudo_header from to udp_length ++ udp_header udp_length 0 ++ payload)))

finish_of-above : (n : ℕ) → 0 < finish_of n
unfolding finish_of
finish_of-above n =
    elim (cases_eq (65535 - n) 0) [
      | inl none ↦ rw (eq-eqb (65535 - n) 0 none) (lit< tt)
      | inr some ↦ rw (ne_eqb (65535 - n) 0 some) (omega arith)
    ]

pub IsFrameFor-frame_via : (s₀ s₁ s₂ s₃ s₄ s₅ from to : ℕ) (payload : List ℕ) → IsMachine from → IsMachine to → IsFrameFor (frame_via s₀ s₁ s₂ s₃ s₄ s₅ from to payload) to
IsFrameFor-frame_via s₀ s₁ s₂ s₃ s₄ s₅ from to payload is_from is_to = record {
  long = omega arith;
  for_us = refl;
  ip = refl;
  version_4 = refl;
  no_options = refl;
  whole = omega arith;
  unfragmented = refl;
  udp = refl;
  internet_sum = internet_sum from to (28 + length payload);
  sender = is_from;
  source = refl;
  destination = refl;
  from_port = refl;
  to_port = refl;
  datagram_length = omega arith;
  checksum = λ none. absurd (omega (arith, finish_of-above (csum (pseudo_header from to (8 + length payload) ++ udp_header (8 + length payload) 0 ++ payload)), none));
  udp_sum = udp_sum from to (8 + length payload) payload;
}
