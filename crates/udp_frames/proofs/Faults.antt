-- The first fault of a frame, header by header.
use Rattle.std.proofs.Common.{◌≡◌, ℕ, ◌≤◌, true, false, leb, List, [], ◌∷◌, ◌++◌, length, drop, Some, None, Ok, Err, refl, ◌∙◌}
use Rattle.std.proofs.lemmas.Bool.{le-leb}
use Rattle.udp_frames.specs.declared.fault.FrameFault.{FrameFault}
use Rattle.udp_frames.specs.declared.fault.FrameFault.TheVariants.{Short}
use Rattle.udp_frames.specs.Reading.{Checks, source_machine, ethernet_checks, internet_checks, udp_checks, checks, first_fault, reads}

first_fault-append_none : (xs ys : Checks) → first_fault xs ≡ None → first_fault (xs ++ ys) ≡ first_fault ys
first_fault-append_none [] ys none = refl
first_fault-append_none ((fault, true) ∷ xs) ys none = first_fault-append_none xs ys none
first_fault-append_none ((fault, false) ∷ xs) ys none = absurd cc

first_fault-append_some : (xs ys : Checks) (found : FrameFault) → first_fault xs ≡ Some found → first_fault (xs ++ ys) ≡ Some found
first_fault-append_some [] ys found some = absurd cc
first_fault-append_some ((fault, true) ∷ xs) ys found some = first_fault-append_some xs ys found some
first_fault-append_some ((fault, false) ∷ xs) ys found some = some

-- the rows up to the Ethernet header, and up to the IP header
abbrev ethernet_rows : List ℕ → ℕ → Checks
ethernet_rows bytes me = (Short, leb 42 (length bytes)) ∷ ethernet_checks bytes me

abbrev internet_rows : List ℕ → ℕ → Checks
internet_rows bytes me = ethernet_rows bytes me ++ internet_checks bytes me

long_first : (bytes : List ℕ) (me : ℕ) → 42 ≤ length bytes → first_fault (ethernet_rows bytes me) ≡ first_fault (ethernet_checks bytes me)
long_first bytes me long = rw (le-leb 42 (length bytes) long) refl

pub ethernet_fault : (bytes : List ℕ) (me : ℕ) (fault : FrameFault) → 42 ≤ length bytes → first_fault (ethernet_checks bytes me) ≡ Some fault → reads bytes me ≡ Err fault
ethernet_fault bytes me fault long found =
    let rows : first_fault (ethernet_rows bytes me) ≡ Some fault = long_first bytes me long ∙ found in
    let more : first_fault (internet_rows bytes me) ≡ Some fault = first_fault-append_some (ethernet_rows bytes me) (internet_checks bytes me) fault rows in
    let all : first_fault (checks bytes me) ≡ Some fault = first_fault-append_some (internet_rows bytes me) (udp_checks bytes) fault more in
    rw all refl

pub internet_fault : (bytes : List ℕ) (me : ℕ) (fault : FrameFault) → 42 ≤ length bytes → first_fault (ethernet_checks bytes me) ≡ None → first_fault (internet_checks bytes me) ≡ Some fault → reads bytes me ≡ Err fault
internet_fault bytes me fault long ethernet found =
    let more : first_fault (internet_rows bytes me) ≡ Some fault =
    first_fault-append_none (ethernet_rows bytes me) (internet_checks bytes me) (long_first bytes me long ∙ ethernet) ∙ found in
    let all : first_fault (checks bytes me) ≡ Some fault = first_fault-append_some (internet_rows bytes me) (udp_checks bytes) fault more in
    rw all refl

internet_passed : (bytes : List ℕ) (me : ℕ) → 42 ≤ length bytes → first_fault (ethernet_checks bytes me) ≡ None → first_fault (internet_checks bytes me) ≡ None → first_fault (checks bytes me) ≡ first_fault (udp_checks bytes)
internet_passed bytes me long ethernet internet =
    first_fault-append_none (internet_rows bytes me) (udp_checks bytes)
    (first_fault-append_none (ethernet_rows bytes me) (internet_checks bytes me) (long_first bytes me long ∙ ethernet) ∙ internet)

pub udp_fault : (bytes : List ℕ) (me : ℕ) (fault : FrameFault) → 42 ≤ length bytes → first_fault (ethernet_checks bytes me) ≡ None → first_fault (internet_checks bytes me) ≡ None → first_fault (udp_checks bytes) ≡ Some fault → reads bytes me ≡ Err fault
udp_fault bytes me fault long ethernet internet found =
    rw (internet_passed bytes me long ethernet internet ∙ found) refl

pub no_fault : (bytes : List ℕ) (me : ℕ) → 42 ≤ length bytes → first_fault (ethernet_checks bytes me) ≡ None → first_fault (internet_checks bytes me) ≡ None → first_fault (udp_checks bytes) ≡ None →
    reads bytes me ≡ Ok (record { sender = source_machine bytes; payload = drop 42 bytes })
no_fault bytes me long ethernet internet udp =
    rw (internet_passed bytes me long ethernet internet ∙ udp) refl
