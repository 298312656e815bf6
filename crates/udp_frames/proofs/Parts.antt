-- The parts of a frame that the UDP checksum covers, as they are summed.
use Rattle.std.proofs.Common.{◌≡◌, ℕ, zero, suc, ◌<◌, ◌≤◌, List, [], ◌∷◌, ◌++◌, length, get_or, take, drop, refl, sym, ap, ◌∙◌, arith}
use Rattle.std.proofs.lemmas.List.{length-take, length-drop, drop-drop}
use Rattle.std.proofs.Math.Seq.{take-add}
use Rattle.udp_frames.specs.Reading.{part, pseudo_header}

-- a part of two bytes
part_two : (bytes : List ℕ) (place : ℕ) → suc place < length bytes → part place 2 bytes ≡ get_or bytes place 0 ∷ get_or bytes (suc place) 0 ∷ []
part_two (x ∷ y ∷ bytes) zero within = refl
part_two (x ∷ bytes) (suc place) within = part_two bytes place (omega arith)
part_two [] place within = absurd (omega arith)
part_two (x ∷ []) zero within = absurd (omega arith)

addresses : (bytes : List ℕ) → part 26 4 bytes ++ part 30 4 bytes ≡ part 26 8 bytes
addresses bytes = sym (take-add 4 4 (drop 26 bytes) ∙ ap (λ (rest : List ℕ). take 4 (drop 26 bytes) ++ take 4 rest) (drop-drop 4 26 bytes))

pub pseudo_header-parts : (bytes : List ℕ) → 42 ≤ length bytes → pseudo_header bytes ≡ part 26 8 bytes ++ (0 ∷ 17 ∷ get_or bytes 38 0 ∷ get_or bytes 39 0 ∷ [])
pseudo_header-parts bytes long = rw (addresses bytes, part_two bytes 38 (omega arith)) refl

pub length-addresses : (bytes : List ℕ) → 42 ≤ length bytes → length (part 26 8 bytes) ≡ 8
length-addresses bytes long = omega (arith, length-take 8 (drop 26 bytes), length-drop 26 bytes)
