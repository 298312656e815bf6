-- When bytes are a frame for a machine, test by test, and that a test that fails refuses them.
use Rattle.std.proofs.Common.{◌≡◌, ◌≢◌, ℕ, zero, suc, ◌-◌, ◌<◌, ◌≤◌, true, false, eqb, leb, List, [], ◌∷◌, ◌++◌, length, get_or, drop, Option, Some, None, Ok, refl, lit<, arith}
use Rattle.std.specs.Prelude.{IfOk, IsSome}
use Rattle.std.specs.Str.{bytes_eq}
use Rattle.std.proofs.lemmas.Bool.{eq-eqb, ne_eqb, le-leb, and_from, or_left, not_from_false, false_from_ne_true}
use Rattle.std.proofs.lemmas.Slice.Eq.{bytes_eq-Decides}
use Rattle.lane_checksum.specs.PlainSum.{csum}
use Rattle.udp_frames.specs.declared.fault.FrameFault.{FrameFault}
use Rattle.udp_frames.specs.declared.fault.FrameFault.TheVariants.{Short}
use Rattle.udp_frames.specs.Frame.{ethernet_address, internet_address, port, IsMachine}
use Rattle.udp_frames.specs.Reading.{Datagram, Checks, ethernet_destination, ethernet_type, version, header_length, total_length, flags_and_offset, protocol, source_address, destination_address, source_machine, source_port, destination_port, udp_length, udp_checksum, internet_header, pseudo_header, udp_datagram, ethernet_checks, internet_checks, udp_checks, checks, first_fault, reads_unless, reads}

-- what a frame for this machine is
pub record IsFrameFor (bytes : List ℕ) (me : ℕ) : Type 0 where
  pub long : 42 ≤ length bytes
  pub for_us : ethernet_destination bytes ≡ ethernet_address me
  pub ip : ethernet_type bytes ≡ 0x0800
  pub version_4 : version bytes ≡ 4
  pub no_options : header_length bytes ≡ 5
  pub whole : total_length bytes ≡ length bytes - 14
  pub unfragmented : flags_and_offset bytes ≡ 0
  pub udp : protocol bytes ≡ 17
  pub internet_sum : csum (internet_header bytes) ≡ 65535
  pub sender : IsMachine (source_machine bytes)
  pub source : source_address bytes ≡ internet_address (source_machine bytes)
  pub destination : destination_address bytes ≡ internet_address me
  pub from_port : source_port bytes ≡ port
  pub to_port : destination_port bytes ≡ port
  pub datagram_length : udp_length bytes ≡ total_length bytes - 20
  pub checksum : udp_checksum bytes ≢ 0
  pub udp_sum : csum (pseudo_header bytes ++ udp_datagram bytes) ≡ 65535

same_bytes : (xs ys : List ℕ) → xs ≡ ys → bytes_eq xs ys ≡ true
same_bytes xs ys same = (bytes_eq-Decides xs ys).1 same

-- each row's test passes
abbrev AllPass : Checks → Type 0
AllPass [] = Unit {0}
AllPass ((fault, passes) ∷ rows) = (passes ≡ true) × AllPass rows

no_fault : (rows : Checks) → AllPass rows → first_fault rows ≡ None
no_fault [] all = refl
no_fault ((fault, passes) ∷ rows) all = rw all.0 (no_fault rows all.1)

ethernet_passes : (bytes : List ℕ) (me : ℕ) → IsFrameFor bytes me → AllPass (ethernet_checks bytes me)
ethernet_passes bytes me is = (
  same_bytes (ethernet_destination bytes) (ethernet_address me) is.for_us,
  (eq-eqb (ethernet_type bytes) 0x0800 is.ip, tt),
)

internet_passes : (bytes : List ℕ) (me : ℕ) → IsFrameFor bytes me → AllPass (internet_checks bytes me)
internet_passes bytes me is = (
  eq-eqb (version bytes) 4 is.version_4,
  (
    eq-eqb (header_length bytes) 5 is.no_options,
    (
      and_from _ _ (eq-eqb (total_length bytes) (length bytes - 14) is.whole) (le-leb 28 (total_length bytes) (omega (arith, is.whole, is.long))),
      (
        or_left (eqb (flags_and_offset bytes) 0) (eqb (flags_and_offset bytes) 0x4000) (eq-eqb (flags_and_offset bytes) 0 is.unfragmented),
        (
          eq-eqb (protocol bytes) 17 is.udp,
          (
            eq-eqb (csum (internet_header bytes)) 65535 is.internet_sum,
            (
              and_from _ _ (and_from _ _ (and_from _ _ (le-leb 1 (source_machine bytes) is.sender.0) (le-leb (source_machine bytes) 254 is.sender.1))
                  (same_bytes (source_address bytes) (internet_address (source_machine bytes)) is.source))
                  (same_bytes (destination_address bytes) (internet_address me) is.destination),
              tt,
            ),
          ),
        ),
      ),
    ),
  ),
)

udp_passes : (bytes : List ℕ) (me : ℕ) → IsFrameFor bytes me → AllPass (udp_checks bytes)
udp_passes bytes me is = (
  and_from _ _ (eq-eqb (source_port bytes) port is.from_port) (eq-eqb (destination_port bytes) port is.to_port),
  (
    eq-eqb (udp_length bytes) (total_length bytes - 20) is.datagram_length,
    (
      not_from_false (eqb (udp_checksum bytes) 0) (ne_eqb (udp_checksum bytes) 0 is.checksum),
      (eq-eqb (csum (pseudo_header bytes ++ udp_datagram bytes)) 65535 is.udp_sum, tt),
    ),
  ),
)

AllPass-append : (xs ys : Checks) → AllPass xs → AllPass ys → AllPass (xs ++ ys)
AllPass-append [] ys all_xs all_ys = all_ys
AllPass-append ((fault, passes) ∷ xs) ys all_xs all_ys = (all_xs.0, AllPass-append xs ys all_xs.1 all_ys)

pub reads-frame : (bytes : List ℕ) (me : ℕ) → IsFrameFor bytes me → reads bytes me ≡ Ok (record { sender = source_machine bytes; payload = drop 42 bytes })
reads-frame bytes me is =
    let ethernet : AllPass ((Short, leb 42 (length bytes)) ∷ ethernet_checks bytes me) =
    (le-leb 42 (length bytes) is.long, ethernet_passes bytes me is) in
    let internet : AllPass (((Short, leb 42 (length bytes)) ∷ ethernet_checks bytes me) ++ internet_checks bytes me) =
    AllPass-append ((Short, leb 42 (length bytes)) ∷ ethernet_checks bytes me) (internet_checks bytes me) ethernet (internet_passes bytes me is) in
    let all : AllPass (checks bytes me) =
    AllPass-append (((Short, leb 42 (length bytes)) ∷ ethernet_checks bytes me) ++ internet_checks bytes me) (udp_checks bytes) internet (udp_passes bytes me is) in
    rw (no_fault (checks bytes me) all) refl

-- a row whose test fails
some_fault : (rows : Checks) (row : ℕ) → row < length rows → (get_or rows row (Short, true)).1 ≡ false → IsSome (first_fault rows)
some_fault [] row within fails = absurd (omega arith)
some_fault ((fault, false) ∷ rows) row within fails = refl
some_fault ((fault, true) ∷ rows) zero within fails = absurd cc
some_fault ((fault, true) ∷ rows) (suc row) within fails = some_fault rows row (omega arith) fails

refused : (fault : Option FrameFault) (bytes : List ℕ) (P : Datagram → Type 0) → IsSome fault → IfOk (reads_unless fault bytes) P
refused None bytes P some = absurd cc
refused (Some fault) bytes P some = tt

-- whatever is asked of what the bytes say, since they say nothing
abbrev pub IsRefused : List ℕ → ℕ → Type 1
IsRefused bytes me = (P : Datagram → Type 0) → IfOk (reads bytes me) P

pub refused_not_for_us : (bytes : List ℕ) (me : ℕ) → ethernet_destination bytes ≢ ethernet_address me → IsRefused bytes me
refused_not_for_us bytes me other P =
    refused (first_fault (checks bytes me)) bytes P (some_fault (checks bytes me) 1 (lit< tt) (false_from_ne_true _ (λ same. other ((bytes_eq-Decides (ethernet_destination bytes) (ethernet_address me)).0 same))))

pub refused_not_ip : (bytes : List ℕ) (me : ℕ) → ethernet_type bytes ≢ 0x0800 → IsRefused bytes me
refused_not_ip bytes me other P =
    refused (first_fault (checks bytes me)) bytes P (some_fault (checks bytes me) 2 (lit< tt) (ne_eqb (ethernet_type bytes) 0x0800 other))

pub refused_internet_sum : (bytes : List ℕ) (me : ℕ) → csum (internet_header bytes) ≢ 65535 → IsRefused bytes me
refused_internet_sum bytes me other P =
    refused (first_fault (checks bytes me)) bytes P (some_fault (checks bytes me) 8 (lit< tt) (ne_eqb (csum (internet_header bytes)) 65535 other))

pub refused_udp_length : (bytes : List ℕ) (me : ℕ) → udp_length bytes ≢ total_length bytes - 20 → IsRefused bytes me
refused_udp_length bytes me other P =
    refused (first_fault (checks bytes me)) bytes P (some_fault (checks bytes me) 11 (lit< tt) (ne_eqb (udp_length bytes) (total_length bytes - 20) other))

pub refused_udp_sum : (bytes : List ℕ) (me : ℕ) → csum (pseudo_header bytes ++ udp_datagram bytes) ≢ 65535 → IsRefused bytes me
refused_udp_sum bytes me other P =
    refused (first_fault (checks bytes me)) bytes P (some_fault (checks bytes me) 13 (lit< tt) (ne_eqb (csum (pseudo_header bytes ++ udp_datagram bytes)) 65535 other))
