-- Lines that come onto a page one after another.
use Rattle.std.proofs.Common.{◌≡◌, ℕ, List, [], ◌++◌, cond, Bool, true, false, refl, ap}
use Rattle.std.proofs.lemmas.List.{append-nil, append_assoc}
use Rattle.replay_lines.specs.Page.{Page, page_of, written}

text-joined : (blank : Bool) (t a b : List ℕ) → cond blank (cond blank t (t ++ a)) (cond blank t (t ++ a) ++ b) ≡ cond blank t (t ++ (a ++ b))
text-joined true t a b = refl
text-joined false t a b = append_assoc t a b

text-nothing : (blank : Bool) (t : List ℕ) → cond blank t (t ++ []) ≡ t
text-nothing true t = refl
text-nothing false t = append-nil t

pub written-joined : (p : Page) (a b : List ℕ) → written (written p a) b ≡ written p (a ++ b)
unfolding written
written-joined p a b = ap (λ (t : List ℕ). record p { text = t }) (text-joined p.blank p.text a b)

pub written-nothing : (p : Page) → written p [] ≡ p
unfolding written
written-nothing p = ap (λ (t : List ℕ). record p { text = t }) (text-nothing p.blank p.text)

-- the text of a page that isn't blank
pub written-text : (text lines : List ℕ) (after : Page) → after ≡ written (page_of text) lines → after.text ≡ text ++ lines
unfolding written
written-text text lines after e = ap (λ (p : Page). p.text) e
