-- How lines come onto a page.
use Rattle.std.proofs.Common.{◌≡◌, List, ℕ, [], ◌++◌, Bool, true, false, cond, refl, ap, ◌∙◌, sym, append_assoc, Option, Some, None}
use Rattle.std.proofs.lemmas.List.{append-nil}
use Rattle.std.specs.Prelude.{IfSome}
use Rattle.replay_lines.specs.Page.{Page, page_of, blank_page, written}

text-joined : (blank : Bool) (t a b : List ℕ) → cond blank (cond blank t (t ++ a)) (cond blank t (t ++ a) ++ b) ≡ cond blank t (t ++ (a ++ b))
text-joined true t a b = refl
text-joined false t a b = append_assoc t a b

text-nothing : (blank : Bool) (t : List ℕ) → cond blank t (t ++ []) ≡ t
text-nothing true t = refl
text-nothing false t = append-nil t

text-blank : (blank : Bool) (t a : List ℕ) → blank ≡ true → cond blank t (t ++ a) ≡ t
text-blank blank t a is = ap (λ (b : Bool). cond b t (t ++ a)) is

text-writing : (blank : Bool) (t a : List ℕ) → blank ≡ false → cond blank t (t ++ a) ≡ t ++ a
text-writing blank t a is = ap (λ (b : Bool). cond b t (t ++ a)) is

pub written-joined : (p : Page) (a b : List ℕ) → written (written p a) b ≡ written p (a ++ b)
unfolding written
written-joined p a b = ap (λ (t : List ℕ). record p { text = t }) (text-joined p.blank p.text a b)

pub written-nothing : (p : Page) → written p [] ≡ p
unfolding written
written-nothing p = ap (λ (t : List ℕ). record p { text = t }) (text-nothing p.blank p.text)

pub written-text : (text lines : List ℕ) → written (page_of text) lines ≡ page_of (text ++ lines)
unfolding written
written-text text lines = refl

pub written-blank_page : (lines : List ℕ) → written blank_page lines ≡ blank_page
unfolding written
written-blank_page lines = refl

-- nothing comes onto a blank page, whatever is printed
pub blank_is_written : (p : Page) → p.blank ≡ true → (o : Option (List ℕ)) → IfSome o (λ bytes. p ≡ written p bytes)
unfolding written
blank_is_written p is None = tt
blank_is_written p is (Some bytes) = sym (ap (λ (t : List ℕ). record p { text = t }) (text-blank p.blank p.text bytes is))

-- on another a text grows
pub text_is_written : (p : Page) → p.blank ≡ false → (t bytes : List ℕ) → t ≡ p.text ++ bytes → record { text = t; blank = p.blank } ≡ written p bytes
unfolding written
text_is_written p is t bytes grown = ap (λ (t : List ℕ). record p { text = t }) (grown ∙ sym (text-writing p.blank p.text bytes is))
