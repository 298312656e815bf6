-- What is written, and what is then written behind it.
use Rattle.std.proofs.Common.{◌≡◌, ◌<◌, ◌≤◌, ◌+◌, ℕ, List, [], ◌++◌, length, take, drop, Option, Some, None, Result, Ok, Err, refl, ap, sym, ◌∙◌, arith, append_assoc, length-append}
use Rattle.std.proofs.lemmas.List.{append-nil, length-take, take-append-drop, drop-drop}
use Rattle.std.proofs.Math.Seq.{take-append_seam, drop-append_seam}
use Rattle.marshal_plans.specs.declared.fault.PutFault.{PutFault}
use Rattle.marshal_plans.specs.declared.fault.PutFault.TheVariants.{Shape, Room}
use Rattle.marshal_plans.specs.Encoding.{joined}
use Rattle.marshal_plans.specs.Writing.{Wrote, Puts}

pub joined_assoc : (a b c : Option (List ℕ)) → joined (joined a b) c ≡ joined a (joined b c)
joined_assoc None b c = refl
joined_assoc (Some a) None c = refl
joined_assoc (Some a) (Some b) None = refl
joined_assoc (Some a) (Some b) (Some c) = ap Some (append_assoc a b c)

pub joined_none : (a : Option (List ℕ)) → joined a None ≡ None
joined_none None = refl
joined_none (Some a) = refl

pub joined_empty : (a : Option (List ℕ)) → joined (Some []) a ≡ a
joined_empty None = refl
joined_empty (Some a) = refl

pub joined_nothing : (a : List ℕ) → joined (Some a) (Some []) ≡ Some a
joined_nothing a = ap Some (append-nil a)

-- nothing is written
pub wrote_nothing : (room : List ℕ) (at : ℕ) → Wrote room room at at []
wrote_nothing room at =
    let here : at + 0 ≡ at = omega arith in
    record {
      same_room = refl;
      fitting = λ h. (sym here, sym (ap (λ (k : ℕ). take at room ++ drop k room) here ∙ take-append-drop at room));
      too_long = λ h. omega arith;
    }

module _ (one two three : List ℕ) (at mid end : ℕ) (a b : List ℕ) (p : Wrote one two at mid a) (q : Wrote two three mid end b) where
  fits_more : at + length (a ++ b) ≤ length one → (end ≡ at + length (a ++ b)) × (three ≡ take at one ++ ((a ++ b) ++ drop (at + length (a ++ b)) one))
  fits_more h =
      let both : length (a ++ b) ≡ length a + length b = length-append a b in
      let first = p.fitting (omega arith) in
      let mid_is : mid ≡ at + length a = first.0 in
      let second = q.fitting (omega (arith, p.same_room)) in
      let end_is : end ≡ mid + length b = second.0 in
      let front = take at one in
      let rest = drop (at + length a) one in
      let front_len : length front ≡ at = length-take at one ∙ omega arith in
      let x = front ++ a in
      let x_len : length x ≡ mid = length-append front a ∙ omega arith in
      let two_is : two ≡ x ++ rest = first.1 ∙ sym (append_assoc front a rest) in
      let taken : take mid two ≡ x =
      ap (λ (k : ℕ). take k two) (sym x_len) ∙ ap (take (length x)) two_is ∙ take-append_seam x rest in
      let dropped : drop mid two ≡ rest =
      ap (λ (k : ℕ). drop k two) (sym x_len) ∙ ap (drop (length x)) two_is ∙ drop-append_seam x rest in
      let place : at + length a + length b ≡ at + length (a ++ b) = omega arith in
      let behind : drop (mid + length b) two ≡ drop (at + length (a ++ b)) one =
      sym (drop-drop (length b) mid two) ∙ ap (drop (length b)) dropped ∙ drop-drop (length b) (at + length a) one
      ∙ ap (λ (k : ℕ). drop k one) place in
      let last = drop (at + length (a ++ b)) one in (
        omega arith,
        second.1
            ∙ ap (λ (l : List ℕ). l ++ (b ++ drop (mid + length b) two)) taken
            ∙ ap (λ (l : List ℕ). x ++ (b ++ l)) behind
            ∙ append_assoc front a (b ++ last)
            ∙ ap (λ (l : List ℕ). front ++ l) (sym (append_assoc a b last)),
      )

  over_more : length one < at + length (a ++ b) → length one < end
  over_more h =
      let both : length (a ++ b) ≡ length a + length b = length-append a b in
      let first : at + length a ≤ length one → mid ≡ at + length a = λ g. (p.fitting g).0 in
      let over_first : length one < at + length a → length one < mid = p.too_long in
      let over_second : length two < mid + length b → length two < end = q.too_long in
      let same : length two ≡ length one = p.same_room in
      grind arith

  pub wrote_more : Wrote one three at end (a ++ b)
  wrote_more = record { same_room = q.same_room ∙ p.same_room; fitting = fits_more; too_long = over_more }

-- what is written behind a text
pub puts_then : (old mid new : List ℕ) (at m : ℕ) (a : List ℕ) (r : Result ℕ PutFault) (e : Option (List ℕ))
    → Wrote old mid at m a → Puts mid new m r e → Puts old new at r (joined (Some a) e)
puts_then old mid new at m a (Ok next) e w p =
    (a ++ p.0, ap (joined (Some a)) p.1, wrote_more old mid new at m next a p.0 w p.2)
puts_then old mid new at m a (Err Shape) e w p = ap (joined (Some a)) p
puts_then old mid new at m a (Err Room) e w p = absurd p

pub last_is : (o : Option (List ℕ)) (bytes : List ℕ) → joined o (Some []) ≡ Some bytes → o ≡ Some bytes
last_is None bytes e = absurd (cc)
last_is (Some a) bytes e = sym (joined_nothing a) ∙ e

pub last_isnt : (o : Option (List ℕ)) → joined o (Some []) ≡ None → o ≡ None
last_isnt None e = refl
last_isnt (Some a) e = absurd (cc)
