-- Lemmas on what is in a seat's hands, for the proofs of a law and of calls: hands that changed at one number, and what an exchange gives and takes.
use Rattle.std.proofs.Common.{◌≡◌, ◌≢◌, ℕ, ◌≤◌, eq-eqb, ne_eqb, if◌then◌else◌, List, [], ◌∷◌, Option, Some, None, refl, sym, ap, ◌∙◌, subst, arith}
use mathlib.Core.Option.{none, some, some-ne-none}
use mathlib.Core.Option as maybe
use mathlib.Core.Logic.{dite}
use native.Mathlib.Decide.{ℕ_discrete}
use lib.ListN.{get_elem?}
use Rattle.atomic_table.proofs.Lists.{set_else}
use Rattle.packet_board.specs.declared.buffer.Buffer.{Buffer}
use Rattle.packet_board.specs.Words.{names, times}
use Rattle.packet_board.specs.Hands.{takes_of, placed, Held, Slots, lookup, keys, updated}
use Rattle.packet_board.specs.Weights.{one_same, chosen}

-- Hands that changed at one number

pub updated_here : (n : ℕ) (new : maybe.Option (Option Buffer)) (h : Held) → updated n new h n ≡ new
updated_here n new h = chosen n n new (h n) new (λ _. refl) (λ ne. absurd (ne refl))

-- a second change there
pub updated_twice : (n : ℕ) (new old : maybe.Option (Option Buffer)) (h : Held) → updated n new (updated n old h) ≡ updated n new h
updated_twice n new old h = λ i m. twice_at m i
  where
    twice_at : (m : ℕ) → updated n new (updated n old h) m ≡ updated n new h m
    twice_at m = chosen n m new (updated n old h m) (updated n new h m) (λ e. sym (chosen n m new (h m) new (λ _. refl) (λ ne. absurd (ne e))))
        (λ ne. chosen n m old (h m) (h m) (λ e. absurd (ne e)) (λ _. refl) ∙ sym (chosen n m new (h m) (h m) (λ e. absurd (ne e)) (λ _. refl)))

-- the hands with what they have there
pub updated_same : (n : ℕ) (new : maybe.Option (Option Buffer)) (h : Held) → h n ≡ new → updated n new h ≡ h
updated_same n new h e = λ i m. chosen n m new (h m) (h m) (λ p. sym e ∙ ap h p) (λ _. refl) i

-- a number that came and went
pub updated_back : (n : ℕ) (old : maybe.Option (Option Buffer)) (h : Held) → h n ≡ none → updated n none (updated n old h) ≡ h
updated_back n old h e = updated_twice n none old h ∙ updated_same n none h e

-- a number whose slot has a content is one of the hands'
pub counted_key : (c : Slots) (n : ℕ) (y : Option Buffer) → lookup c n ≡ some y → 1 ≤ times n (keys c)
counted_key [] n y e = absurd (some-ne-none y (sym e))
counted_key (x ∷ xs) n y e = dite (ℕ_discrete x.0 n) (λ is. let o = one_same x.0 n is in omega (arith, o))
    (λ ne. let o : lookup xs n ≡ some y = subst (λ t. (if t then some x.1 else lookup xs n) ≡ some y) (ne_eqb x.0 n ne) e in let r = counted_key xs n y o in omega (arith, r))

-- What an exchange gives and takes

full_or_not : {A : Type 0} → Option A → Type 0
full_or_not None = ⊥
full_or_not (Some x) = Unit {0}

pub none_not_some : {A : Type 0} (x : A) → None ≡ Some x → ⊥
unfolding full_or_not
none_not_some x e = subst (λ z. full_or_not z) (sym e) tt

value_or : {A : Type 0} → A → Option A → A
value_or d None = d
value_or d (Some x) = x

pub same_value : {A : Type 0} (x y : A) → Some x ≡ Some y → x ≡ y
unfolding value_or
same_value x y e = ap (value_or x) e

pub same_takes : (o n : ℕ) → o ≡ n → takes_of (Some o) (Some n) ≡ None
same_takes o n e = subst (λ t. (if t then None else Some o) ≡ None) (sym (eq-eqb o n e)) refl

pub other_takes : (o n : ℕ) → o ≢ n → takes_of (Some o) (Some n) ≡ Some o
other_takes o n ne = subst (λ t. (if t then None else Some o) ≡ Some o) (sym (ne_eqb o n ne)) refl

-- what is taken stood in the old word
pub takes_from : (old new : Option ℕ) (n : ℕ) → takes_of old new ≡ Some n → old ≡ Some n
takes_from None None n e = e
takes_from None (Some m) n e = absurd (none_not_some n e)
takes_from (Some x) None n e = e
takes_from (Some x) (Some m) n e = dite (ℕ_discrete x m) (λ p. absurd (none_not_some n (sym (same_takes x m p) ∙ e))) (λ ne. sym (other_takes x m ne) ∙ e)

-- an item at another number stays
pub placed_else : {A : Type 0} (g : Option ℕ) (a : A) (l : List A) (b : ℕ) → names b g ≡ 0 → get_elem? (placed g a l) b ≡ get_elem? l b
placed_else None a l b h = refl
placed_else (Some n) a l b h = set_else l n b a (λ e. let o = one_same n b (sym e) in absurd (omega (arith, o, h)))
