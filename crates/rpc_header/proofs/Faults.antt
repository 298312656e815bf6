-- What the first fault that applies says of reading.
use Rattle.std.proofs.Common.{◌≡◌, ◌<◌, ◌≤◌, ◌-◌, List, ◌++◌, ℕ, length, drop, take, Option, Some, None, nat_lt, Bool, true, false, if◌then◌else◌, ap, ◌∙◌, arith, refl, sym, rules}
use Rattle.std.specs.List.{find}
use Rattle.std.specs.Option.{option_or}
use Rattle.std.proofs.lemmas.Bool.{le-ltb}
use Rattle.std.proofs.lemmas.List.{take_all, length-drop}
use Rattle.std.proofs.lemmas.List.Folds.{find-append}
use Rattle.rpc_header.specs.declared.Header.{Header}
use Rattle.rpc_header.specs.declared.HeaderFault.{HeaderFault}
use Rattle.rpc_header.specs.declared.HeaderFault.TheVariants as fault
use Rattle.rpc_header.specs.Reading.{Accepted, Refused, applies, faults, front_faults, back_faults, piece_faults, first_fault, header_in, read_of, read_or}

-- fewer than 32 bytes are refused first
pub short_read : (xs : List ℕ) → length xs < 32 → read_of xs ≡ Refused fault.Short
unfolding read_of applies
short_read xs h = let e : nat_lt (length xs) 32 ≡ true = search rules in rw e refl

-- with 32 bytes and more the other faults are looked for
long_enough : (xs : List ℕ) → 32 ≤ length xs → first_fault faults xs ≡ first_fault (front_faults ++ back_faults ++ piece_faults) xs
unfolding applies
long_enough xs h = let e : nat_lt (length xs) 32 ≡ false = le-ltb (length xs) 32 h in rw e refl

-- among two rows of faults, one of the second is found where none of the first is
found_in_first : (a b : List HeaderFault) (xs : List ℕ) (f : HeaderFault) → first_fault a xs ≡ Some f → first_fault (a ++ b) xs ≡ Some f
found_in_first a b xs f e = find-append (applies xs) a b ∙ ap (λ (o : Option HeaderFault). option_or o (find (applies xs) b)) e

none_in_first : (a b : List HeaderFault) (xs : List ℕ) → first_fault a xs ≡ None → first_fault (a ++ b) xs ≡ first_fault b xs
none_in_first a b xs e = find-append (applies xs) a b ∙ ap (λ (o : Option HeaderFault). option_or o (find (applies xs) b)) e

refused : (xs : List ℕ) (f : HeaderFault) → first_fault faults xs ≡ Some f → read_of xs ≡ Refused f
unfolding read_of
refused xs f first = ap (read_or xs) first

-- where a fault applies, the first one is given: it is in the first row of faults, or in a later one behind none
pub refused_front : (xs : List ℕ) (f : HeaderFault) → 32 ≤ length xs → first_fault front_faults xs ≡ Some f → read_of xs ≡ Refused f
refused_front xs f long front =
    refused xs f (long_enough xs long ∙ found_in_first front_faults (back_faults ++ piece_faults) xs f front)

pub refused_back : (xs : List ℕ) (f : HeaderFault) → 32 ≤ length xs → first_fault front_faults xs ≡ None
    → first_fault back_faults xs ≡ Some f → read_of xs ≡ Refused f
refused_back xs f long front back =
    refused xs f
    (long_enough xs long ∙ none_in_first front_faults (back_faults ++ piece_faults) xs front
    ∙ found_in_first back_faults piece_faults xs f back)

pub refused_piece : (xs : List ℕ) (f : HeaderFault) → 32 ≤ length xs → first_fault front_faults xs ≡ None
    → first_fault back_faults xs ≡ None → first_fault piece_faults xs ≡ Some f → read_of xs ≡ Refused f
refused_piece xs f long front back piece =
    refused xs f
    (long_enough xs long ∙ none_in_first front_faults (back_faults ++ piece_faults) xs front
    ∙ none_in_first back_faults piece_faults xs back ∙ piece)

-- where no row has a fault that applies, none applies
pub none_found : (xs : List ℕ) → 32 ≤ length xs → first_fault front_faults xs ≡ None → first_fault back_faults xs ≡ None
    → first_fault piece_faults xs ≡ None → first_fault faults xs ≡ None
none_found xs long front back piece =
    long_enough xs long ∙ none_in_first front_faults (back_faults ++ piece_faults) xs front
    ∙ none_in_first back_faults piece_faults xs back ∙ piece

-- where no fault applies, the header and the data are what the bytes say
pub accepted_read : (xs : List ℕ) (h : Header) → first_fault faults xs ≡ None → header_in xs ≡ h
    → read_of xs ≡ Accepted h (take (length xs - 32) (drop 32 xs))
unfolding read_of
accepted_read xs h none same =
    let whole : take (length xs - 32) (drop 32 xs) ≡ drop 32 xs =
    take_all (length xs - 32) (drop 32 xs) (omega (arith, length-drop 32 xs)) in
    ap (read_or xs) none ∙ ap (λ (g : Header). Accepted g (drop 32 xs)) same
    ∙ ap (λ (ys : List ℕ). Accepted h ys) (sym whole)

-- no fault applies
pub record NoFault (xs : List ℕ) : Type 0 where
  pub short : applies xs fault.Short ≡ false
  pub version : applies xs fault.Version ≡ false
  pub kind : applies xs fault.Kind ≡ false
  pub flags : applies xs fault.Flags ≡ false
  pub reason : applies xs fault.Reason ≡ false
  pub data_length : applies xs fault.Length ≡ false
  pub reserved : applies xs fault.Reserved ≡ false
  pub short_fragment : applies xs fault.ShortFragment ≡ false
  pub fragment_number : applies xs fault.FragmentNumber ≡ false

-- nothing is found behind what is not found
not_found : (f : HeaderFault) (b : Bool) (rest : Option HeaderFault)
    → (if b then Some f else rest) ≡ None → (b ≡ false) × (rest ≡ None)
not_found f true rest e = absurd (cc)
not_found f false rest e = (refl, e)

pub no_fault : (xs : List ℕ) → first_fault faults xs ≡ None → NoFault xs
no_fault xs none =
    let a = not_found fault.Short (applies xs fault.Short) _ none in
    let b = not_found fault.Version (applies xs fault.Version) _ a.1 in
    let c = not_found fault.Kind (applies xs fault.Kind) _ b.1 in
    let d = not_found fault.Flags (applies xs fault.Flags) _ c.1 in
    let e = not_found fault.Reason (applies xs fault.Reason) _ d.1 in
    let f = not_found fault.Length (applies xs fault.Length) _ e.1 in
    let g = not_found fault.Reserved (applies xs fault.Reserved) _ f.1 in
    let h = not_found fault.ShortFragment (applies xs fault.ShortFragment) _ g.1 in
    let i = not_found fault.FragmentNumber (applies xs fault.FragmentNumber) _ h.1 in
    record {
      short = a.0;
      version = b.0;
      kind = c.0;
      flags = d.0;
      reason = e.0;
      data_length = f.0;
      reserved = g.0;
      short_fragment = h.0;
      fragment_number = i.0;
    }

pub none_applies : (xs : List ℕ) → NoFault xs → first_fault faults xs ≡ None
none_applies xs n =
    rw (n.short, n.version, n.kind, n.flags, n.reason, n.data_length, n.reserved, n.short_fragment, n.fragment_number) refl

-- what was accepted: no fault applied, and the header and the data are what the bytes say
pub record IsAccepted (xs : List ℕ) (h : Header) (d : List ℕ) : Type 0 where
  pub none : first_fault faults xs ≡ None
  pub header : header_in xs ≡ h
  pub rest : drop 32 xs ≡ d

accepted_from : (xs : List ℕ) (h : Header) (d : List ℕ) (found : Option HeaderFault) → first_fault faults xs ≡ found
    → read_or xs found ≡ Accepted h d → IsAccepted xs h d
accepted_from xs h d None first e = record { none = first; header = cc; rest = cc }
accepted_from xs h d (Some f) first e = absurd (cc)

pub accepted : (xs : List ℕ) (h : Header) (d : List ℕ) → read_of xs ≡ Accepted h d → IsAccepted xs h d
unfolding read_of
accepted xs h d e = accepted_from xs h d (first_fault faults xs) refl e
