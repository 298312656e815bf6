-- A frame that was written, with one bit flipped, never says anything else.
use Rattle.std.proofs.Common.{◌≡◌, ℕ, zero, suc, ◌+◌, ◌-◌, ◌/◌, ◌%◌, ◌^◌, ◌<◌, ◌≤◌, List, length, get_or, Ok, refl, inl, inr, arith}
use Rattle.std.specs.Prelude.{IfOk, bit_xor}
use Rattle.std.proofs.lemmas.Bool.{cases_lt}
use Rattle.std.proofs.lemmas.List.{set_past}
use Rattle.std.proofs.Math.ListN.{set}
use Rattle.udp_frames.specs.Damage.{IsPayload, flipped}
use Rattle.udp_frames.specs.Frame.{frame, IsMachine}
use Rattle.udp_frames.specs.Reading.{reads}
use Rattle.udp_frames.proofs.Accepting.{reads-frame}
use Rattle.udp_frames.proofs.Changed.{Changes, one_change_refused}
use Rattle.udp_frames.proofs.Flipping.{byte_moves}
use Rattle.udp_frames.proofs.Written.{frame_via, IsFrameFor-frame_via}

-- the frame with any Ethernet source is read
via_is_read : (s₀ s₁ s₂ s₃ s₄ s₅ from to : ℕ) (payload : List ℕ) → IsMachine from → IsMachine to → reads (frame_via s₀ s₁ s₂ s₃ s₄ s₅ from to payload) to ≡ Ok (record { sender = from; payload = payload })
via_is_read s₀ s₁ s₂ s₃ s₄ s₅ from to payload is_from is_to =
    reads-frame (frame_via s₀ s₁ s₂ s₃ s₄ s₅ from to payload) to (IsFrameFor-frame_via s₀ s₁ s₂ s₃ s₄ s₅ from to payload is_from is_to)

source_read : (from to : ℕ) (payload : List ℕ) (inner new : ℕ) → IsMachine from → IsMachine to → inner < 6 → reads (set (frame from to payload) (6 + inner) new) to ≡ Ok (record { sender = from; payload = payload })
source_read from to payload zero new is_from is_to within = via_is_read new 0 10 0 0 from from to payload is_from is_to
source_read from to payload (suc zero) new is_from is_to within = via_is_read 2 new 10 0 0 from from to payload is_from is_to
source_read from to payload (suc (suc zero)) new is_from is_to within = via_is_read 2 0 new 0 0 from from to payload is_from is_to
source_read from to payload (suc (suc (suc zero))) new is_from is_to within = via_is_read 2 0 10 new 0 from from to payload is_from is_to
source_read from to payload (suc (suc (suc (suc zero)))) new is_from is_to within = via_is_read 2 0 10 0 new from from to payload is_from is_to
source_read from to payload (suc (suc (suc (suc (suc zero))))) new is_from is_to within = via_is_read 2 0 10 0 0 new from to payload is_from is_to
source_read from to payload (suc (suc (suc (suc (suc (suc inner)))))) new is_from is_to within = absurd (omega arith)

pub written_is_read : (from to : ℕ) (payload : List ℕ) → IsMachine from → IsMachine to → reads (frame from to payload) to ≡ Ok (record { sender = from; payload = payload })
written_is_read from to payload is_from is_to =
    via_is_read 2 0 10 0 0 from from to payload is_from is_to

-- one byte of the Ethernet source changed: what was written is read
source_is_read : (from to : ℕ) (payload : List ℕ) (place new : ℕ) → IsMachine from → IsMachine to → 6 ≤ place → place < 12 →
    IfOk (reads (set (frame from to payload) place new) to) (λ seen. seen ≡ record { sender = from; payload = payload })
source_is_read from to payload place new is_from is_to low high =
    let inner = place - 6 in
    let e : place ≡ 6 + inner = omega arith in
    rw (e, source_read from to payload inner new is_from is_to (omega arith)) refl

change_never_forges : (from to : ℕ) (payload : List ℕ) (place new : ℕ) → IsMachine from → IsMachine to → Changes (frame from to payload) place new →
    IfOk (reads (set (frame from to payload) place new) to) (λ seen. seen ≡ record { sender = from; payload = payload })
change_never_forges from to payload place new is_from is_to change =
    let is = IsFrameFor-frame_via 2 0 10 0 0 from from to payload is_from is_to in
    elim (cases_lt place 6) [
      | inl front ↦ one_change_refused (frame from to payload) to place new is change (inl front) (λ seen. seen ≡ record { sender = from; payload = payload })
      | inr past ↦ elim (cases_lt place 12) [
        | inl source ↦ source_is_read from to payload place new is_from is_to past source
        | inr back ↦ one_change_refused (frame from to payload) to place new is change (inr back) (λ seen. seen ≡ record { sender = from; payload = payload })
      ]
    ]

pub flipped_bit_never_forges : (from to : ℕ) (payload : List ℕ) (bit : ℕ) → IsMachine from → IsMachine to → IsPayload payload →
    IfOk (reads (flipped (frame from to payload) bit) to) (λ seen. seen ≡ record { sender = from; payload = payload })
flipped_bit_never_forges from to payload bit is_from is_to is_payload =
    let place = bit / 8 in
    let new = bit_xor (get_or (frame from to payload) place 0) (128 / 2 ^ (bit % 8)) in
    elim (cases_lt place (length (frame from to payload))) [
      | inl within ↦
          change_never_forges from to payload place new is_from is_to
          (record { within = within; bit = 7 - bit % 8; low = omega arith; moves = byte_moves (frame from to payload) bit })
      | inr past ↦ rw (set_past (frame from to payload) place new past, written_is_read from to payload is_from is_to) refl
    ]
