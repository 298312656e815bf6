-- A spelling is bytes, one after another, and 32 of them.
use Rattle.std.proofs.Common.{◌≡◌, ◌+◌, ◌<◌, ℕ, List, [], ◌∷◌, length, refl, arith}
use Rattle.std.specs.Prelude.{All}
use Rattle.std.specs.List.{flat_map}
use Rattle.std.proofs.lemmas.List.{length-append}
use Rattle.std.proofs.lemmas.List.Elements.{All-append, All-nil}
use Rattle.byteorder.specs.Endian.{big_bytes}
use Rattle.byteorder.specs.Numbers.{length-bytes_high_first}
use Rattle.rpc_header.specs.declared.Header.{Header}
use Rattle.rpc_header.specs.Fields.{Field, fields, place_of}
use Rattle.rpc_header.specs.Spelling.{value_in, spelling}
use Rattle.rpc_header.proofs.Bytes.{bytes-high_first}

-- how many bytes so many fields have
abbrev bytes_of : List Field → ℕ
bytes_of [] = 0
bytes_of (f ∷ fs) = (place_of f).bytes + bytes_of fs

fields_count : (h : Header) (len : ℕ) (fs : List Field) → length (flat_map (λ f. big_bytes (place_of f).bytes (value_in h len f)) fs) ≡ bytes_of fs
fields_count h len [] = refl
fields_count h len (f ∷ fs) =
    let one = length-bytes_high_first (place_of f).bytes (value_in h len f) in
    let rest = fields_count h len fs in
    let both = length-append (big_bytes (place_of f).bytes (value_in h len f)) (flat_map (λ f. big_bytes (place_of f).bytes (value_in h len f)) fs) in
    omega (arith, one, rest, both)

fields_bytes : (h : Header) (len : ℕ) (fs : List Field) → All (λ byte. byte < 256) (flat_map (λ f. big_bytes (place_of f).bytes (value_in h len f)) fs)
fields_bytes h len [] = All-nil (λ byte. byte < 256)
fields_bytes h len (f ∷ fs) =
    All-append (λ byte. byte < 256) (big_bytes (place_of f).bytes (value_in h len f)) (flat_map (λ f. big_bytes (place_of f).bytes (value_in h len f)) fs)
    (bytes-high_first (place_of f).bytes (value_in h len f)) (fields_bytes h len fs)

pub spelling_count : (h : Header) (len : ℕ) → length (spelling h len) ≡ 32
unfolding spelling
spelling_count h len = fields_count h len fields

pub spelling_bytes : (h : Header) (len : ℕ) → All (λ byte. byte < 256) (spelling h len)
unfolding spelling
spelling_bytes h len = fields_bytes h len fields
