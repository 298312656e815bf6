-- A frame with one bit flipped, outside its Ethernet source, is refused.
use Rattle.std.proofs.Common.{◌≡◌, ◌≢◌, ℕ, ◌+◌, ◌-◌, ◌^◌, ◌<◌, ◌≤◌, ◌⊎◌, List, ◌++◌, length, get_or, take, drop, refl, sym, ap, subst, ◌∙◌, inl, inr, arith}
use Rattle.std.specs.Prelude.{IfOk}
use Rattle.std.proofs.lemmas.Bool.{cases_lt}
use Rattle.std.proofs.lemmas.List.{length-take, length-drop, length-append, get_or-set_same, get_or-set_other, get_or-take, get_or-drop, get_or-append-add, take-set-le, drop-set-lt, drop-set-add, set-append_right}
use Rattle.std.proofs.Math.ListN.{set}
use Rattle.std.proofs.Math.Seq.{take-set-lt}
use Rattle.lane_checksum.specs.PlainSum.{csum}
use Rattle.udp_frames.specs.Damage.{AreApart}
use Rattle.udp_frames.specs.Frame.{ethernet_address}
use Rattle.udp_frames.specs.Reading.{number, part, ethernet_destination, ethernet_type, total_length, internet_header, pseudo_header, udp_datagram, reads}
use Rattle.udp_frames.proofs.Accepting.{IsFrameFor, IsRefused, refused_not_for_us, refused_not_ip, refused_internet_sum, refused_udp_length, refused_udp_sum}
use Rattle.udp_frames.proofs.Flipping.{apart_differ}
use Rattle.udp_frames.proofs.OnesComplement.{csum-set}

-- a byte of a text and in its place one that a flipped bit made of it
pub record Changes (bytes : List ℕ) (place new : ℕ) : Type 0 where
  pub within : place < length bytes
  pub bit : ℕ
  pub low : bit < 8
  pub moves : AreApart (2 ^ bit) (get_or bytes place 0) new

differs : (bytes : List ℕ) (place new : ℕ) → Changes bytes place new → new ≢ get_or bytes place 0
differs bytes place new change = apart_differ change.bit (get_or bytes place 0) new change.moves

-- a number of 16 bits changes with either of its bytes
number_differs : (bytes : List ℕ) (at place new : ℕ) → Changes bytes place new → (place ≡ at) ⊎ (place ≡ at + 1) → number at (set bytes place new) ≢ number at bytes
number_differs bytes at place new change (inl high) same =
    let here : get_or (set bytes at new) at 0 ≡ new = get_or-set_same bytes at new 0 (omega (arith, change.within)) in
    let there : get_or (set bytes at new) (at + 1) 0 ≡ get_or bytes (at + 1) 0 = get_or-set_other bytes at (at + 1) new 0 (omega arith) in
    let moved : number at (set bytes at new) ≡ number at bytes = rw high at same in
    let old : new ≢ get_or bytes at 0 = (let apart = differs bytes place new change in rw high at apart) in
    old (omega arith)
number_differs bytes at place new change (inr low) same =
    let here : get_or (set bytes (at + 1) new) (at + 1) 0 ≡ new = get_or-set_same bytes (at + 1) new 0 (omega (arith, change.within)) in
    let there : get_or (set bytes (at + 1) new) at 0 ≡ get_or bytes at 0 = get_or-set_other bytes (at + 1) at new 0 (omega arith) in
    let moved : number at (set bytes (at + 1) new) ≡ number at bytes = rw low at same in
    let old : new ≢ get_or bytes (at + 1) 0 = (let apart = differs bytes place new change in rw low at apart) in
    old (omega arith)

-- and with no other
number_same : (bytes : List ℕ) (at place new : ℕ) → at ≢ place → at + 1 ≢ place → number at (set bytes place new) ≡ number at bytes
number_same bytes at place new high low =
    rw (get_or-set_other bytes place at new 0 high, get_or-set_other bytes place (at + 1) new 0 low) refl

-- a part in front of the change, or behind it
part_behind : (bytes : List ℕ) (at count place new : ℕ) → place < at → part at count (set bytes place new) ≡ part at count bytes
part_behind bytes at count place new behind = ap (take count) (drop-set-lt at bytes place new behind)

part_in_front : (bytes : List ℕ) (at count past new : ℕ) → part at count (set bytes (at + count + past) new) ≡ part at count bytes
part_in_front bytes at count past new =
    let split : at + count + past ≡ at + (count + past) = omega arith in
    rw (split, drop-set-add at bytes (count + past) new) (take-set-le count (drop at bytes) (count + past) new (omega arith))

-- the part that holds the change
part_changed : (bytes : List ℕ) (at count inner new : ℕ) → inner < count → part at count (set bytes (at + inner) new) ≡ set (part at count bytes) inner new
part_changed bytes at count inner new within =
    rw (drop-set-add at bytes inner new) (take-set-lt count (drop at bytes) inner new within)

get_or-part : (bytes : List ℕ) (at count inner : ℕ) → inner < count → get_or (part at count bytes) inner 0 ≡ get_or bytes (at + inner) 0
get_or-part bytes at count inner within =
    get_or-take count (drop at bytes) inner 0 within ∙ get_or-drop at bytes inner 0

length-part : (bytes : List ℕ) (at count : ℕ) → at + count ≤ length bytes → length (part at count bytes) ≡ count
length-part bytes at count within = omega (arith, length-take count (drop at bytes), length-drop at bytes)

destination_changed : (bytes : List ℕ) (me place new : ℕ) → IsFrameFor bytes me → Changes bytes place new → place < 6 → ethernet_destination (set bytes place new) ≢ ethernet_address me
destination_changed bytes me place new is change within same =
    let moved : ethernet_destination (set bytes place new) ≡ set (ethernet_destination bytes) place new = take-set-lt 6 bytes place new within in
    let len : length (ethernet_destination bytes) ≡ 6 = ap length is.for_us in
    let here : get_or (set (ethernet_destination bytes) place new) place 0 ≡ new = get_or-set_same (ethernet_destination bytes) place new 0 (omega arith) in
    let before : get_or (ethernet_destination bytes) place 0 ≡ get_or bytes place 0 = get_or-take 6 bytes place 0 within in
    let equal : set (ethernet_destination bytes) place new ≡ ethernet_destination bytes = sym moved ∙ same ∙ sym is.for_us in
    differs bytes place new change (sym here ∙ ap (λ (xs : List ℕ). get_or xs place 0) equal ∙ before)

internet_changed : (bytes : List ℕ) (me inner new : ℕ) → IsFrameFor bytes me → Changes bytes (14 + inner) new → inner < 20 → csum (internet_header (set bytes (14 + inner) new)) ≢ 65535
internet_changed bytes me inner new is change within =
    let before : get_or (internet_header bytes) inner 0 ≡ get_or bytes (14 + inner) 0 = get_or-part bytes 14 20 inner within in
    let len : length (internet_header bytes) ≡ 20 = length-part bytes 14 20 (omega (arith, is.long)) in
    rw (part_changed bytes 14 20 inner new within)
    (csum-set (internet_header bytes) inner new change.bit (omega arith) change.low
    (subst (λ (old : ℕ). AreApart (2 ^ change.bit) old new) (sym before) change.moves) is.internet_sum)

-- a change of the UDP datagram that leaves the pseudo header as it was
udp_changed : (bytes : List ℕ) (me inner new : ℕ) → IsFrameFor bytes me → Changes bytes (34 + inner) new → pseudo_header (set bytes (34 + inner) new) ≡ pseudo_header bytes →
    csum (pseudo_header (set bytes (34 + inner) new) ++ udp_datagram (set bytes (34 + inner) new)) ≢ 65535
udp_changed bytes me inner new is change pseudo =
    let front = length (pseudo_header bytes) in
    let moved : udp_datagram (set bytes (34 + inner) new) ≡ set (udp_datagram bytes) inner new = drop-set-add 34 bytes inner new in
    let place : front + inner - front ≡ inner = omega arith in
    let whole : set (pseudo_header bytes ++ udp_datagram bytes) (front + inner) new ≡ pseudo_header bytes ++ set (udp_datagram bytes) inner new =
    set-append_right (pseudo_header bytes) (udp_datagram bytes) front (front + inner) new refl (omega arith)
    ∙ ap (λ (n : ℕ). pseudo_header bytes ++ set (udp_datagram bytes) n new) place in
    let before : get_or (pseudo_header bytes ++ udp_datagram bytes) (front + inner) 0 ≡ get_or bytes (34 + inner) 0 =
    get_or-append-add (pseudo_header bytes) (udp_datagram bytes) inner 0 ∙ get_or-drop 34 bytes inner 0 in
    let len : length (pseudo_header bytes ++ udp_datagram bytes) ≡ front + (length bytes - 34) =
    length-append (pseudo_header bytes) (udp_datagram bytes) ∙ ap (λ (n : ℕ). front + n) (length-drop 34 bytes) in
    let apart = csum-set (pseudo_header bytes ++ udp_datagram bytes) (front + inner) new change.bit (omega (arith, change.within)) change.low
    (subst (λ (old : ℕ). AreApart (2 ^ change.bit) old new) (sym before) change.moves) is.udp_sum in
    rw (pseudo, moved, ← whole) apart

-- the pseudo header holds the addresses and the UDP length
pseudo_same : (bytes : List ℕ) (inner new : ℕ) → (inner < 4) ⊎ (6 ≤ inner) → pseudo_header (set bytes (34 + inner) new) ≡ pseudo_header bytes
pseudo_same bytes inner new side =
    let source : part 26 4 (set bytes (34 + inner) new) ≡ part 26 4 bytes =
    ap (λ (n : ℕ). part 26 4 (set bytes n new)) (let e : 34 + inner ≡ 26 + 4 + (4 + inner) = omega arith in e) ∙ part_in_front bytes 26 4 (4 + inner) new in
    let destination : part 30 4 (set bytes (34 + inner) new) ≡ part 30 4 bytes =
    ap (λ (n : ℕ). part 30 4 (set bytes n new)) (let e : 34 + inner ≡ 30 + 4 + inner = omega arith in e) ∙ part_in_front bytes 30 4 inner new in
    let udp_len : part 38 2 (set bytes (34 + inner) new) ≡ part 38 2 bytes =
    elim side [
      | inl front ↦ part_behind bytes 38 2 (34 + inner) new (omega arith)
      | inr back ↦ ap (λ (n : ℕ). part 38 2 (set bytes n new)) (let e : 34 + inner ≡ 38 + 2 + (inner - 6) = omega arith in e) ∙ part_in_front bytes 38 2 (inner - 6) new
    ] in
    rw (source, destination, udp_len) refl

type_refused : (bytes : List ℕ) (me place new : ℕ) → IsFrameFor bytes me → Changes bytes place new → (place ≡ 12) ⊎ (place ≡ 13) → IsRefused (set bytes place new) me
type_refused bytes me place new is change side =
    refused_not_ip (set bytes place new) me (λ same. number_differs bytes 12 place new change side (same ∙ sym is.ip))

internet_refused : (bytes : List ℕ) (me inner new : ℕ) → IsFrameFor bytes me → Changes bytes (14 + inner) new → inner < 20 → IsRefused (set bytes (14 + inner) new) me
internet_refused bytes me inner new is change within =
    refused_internet_sum (set bytes (14 + inner) new) me (internet_changed bytes me inner new is change within)

udp_length_refused : (bytes : List ℕ) (me place new : ℕ) → IsFrameFor bytes me → Changes bytes place new → (place ≡ 38) ⊎ (place ≡ 39) → IsRefused (set bytes place new) me
udp_length_refused bytes me place new is change side =
    let total : total_length (set bytes place new) ≡ total_length bytes =
    elim side [
      | inl high ↦ number_same bytes 16 place new (omega arith) (omega arith)
      | inr low ↦ number_same bytes 16 place new (omega arith) (omega arith)
    ] in
    refused_udp_length (set bytes place new) me
    (λ same. number_differs bytes 38 place new change side (same ∙ ap (λ (n : ℕ). n - 20) total ∙ sym is.datagram_length))

udp_refused : (bytes : List ℕ) (me inner new : ℕ) → IsFrameFor bytes me → Changes bytes (34 + inner) new → (inner < 4) ⊎ (6 ≤ inner) → IsRefused (set bytes (34 + inner) new) me
udp_refused bytes me inner new is change side =
    refused_udp_sum (set bytes (34 + inner) new) me (udp_changed bytes me inner new is change (pseudo_same bytes inner new side))

behind_type : (bytes : List ℕ) (me place new : ℕ) → IsFrameFor bytes me → Changes bytes place new → 14 ≤ place → IsRefused (set bytes place new) me
behind_type bytes me place new is change back P =
    elim (cases_lt place 34) [
      | inl internet ↦
          let e : place ≡ 14 + (place - 14) = omega arith in
          let moved : Changes bytes (14 + (place - 14)) new = subst (λ (p : ℕ). Changes bytes p new) e change in
          subst (λ (p : ℕ). IfOk (reads (set bytes p new) me) P) (sym e) (internet_refused bytes me (place - 14) new is moved (omega arith) P)
      | inr udp ↦
          let e : place ≡ 34 + (place - 34) = omega arith in
          let moved : Changes bytes (34 + (place - 34)) new = subst (λ (p : ℕ). Changes bytes p new) e change in
          elim (cases_lt place 38) [
            | inl ports ↦ subst (λ (p : ℕ). IfOk (reads (set bytes p new) me) P) (sym e) (udp_refused bytes me (place - 34) new is moved (inl (omega arith)) P)
            | inr past_ports ↦ elim (cases_lt place 40) [
              | inl len ↦ udp_length_refused bytes me place new is change (grind arith) P
              | inr rest ↦ subst (λ (p : ℕ). IfOk (reads (set bytes p new) me) P) (sym e) (udp_refused bytes me (place - 34) new is moved (inr (omega arith)) P)
            ]
          ]
    ]

pub one_change_refused : (bytes : List ℕ) (me place new : ℕ) → IsFrameFor bytes me → Changes bytes place new → (place < 6) ⊎ (12 ≤ place) → IsRefused (set bytes place new) me
one_change_refused bytes me place new is change (inl front) P =
    refused_not_for_us (set bytes place new) me (destination_changed bytes me place new is change front) P
one_change_refused bytes me place new is change (inr back) P =
    elim (cases_lt place 14) [
      | inl ethernet_type ↦ type_refused bytes me place new is change (grind arith) P
      | inr behind ↦ behind_type bytes me place new is change behind P
    ]
