-- What a text declares is in the grammar.
use Rattle.std.proofs.Common.{◌≡◌, ℕ, Bool, true, false, cond, List, [], ◌∷◌, Result, Ok, Err, refl, ap, sym, subst}
use Rattle.std.specs.Prelude.{if◌then◌else◌}
use Rattle.interface_tokens.specs.Outcome.{Outcome, ◌>>=◌}
use Rattle.interface_text.specs.Interfaces.{DeclaredInterface}
use Rattle.interface_text.specs.Grammar.{Symbol, interface, Derives, nothing, by_word, by_sign, by_name, tokens_in}
use Rattle.interface_tokens.specs.Syntax.{act_of, is_word, is_sign, name_of}
use Rattle.interface_tokens.specs.Tokens.{Tokens, tokens_of}
use Rattle.interface_text.specs.Rules.{Reading, take, take_all, act_or_fault, at_end, finish, beginning}
use Rattle.interface_text.specs.Texts.{Declares, first, first_line, at_place, read_text}
use Rattle.interface_tokens.specs.declared.place.Place.{Place}
use Rattle.interface_tokens.specs.declared.fault.Cause.{Cause}
use Rattle.interface_tokens.specs.declared.fault.Cause.TheVariants as cause
use Rattle.interface_tokens.specs.declared.token.Word.TheVariants as word
use Rattle.interface_tokens.specs.declared.token.Sign.TheVariants as sign
use Rattle.interface_tokens.specs.declared.token.Token.{Token}
use Rattle.interface_tokens.specs.declared.token.Spot.{Spot}
use Rattle.interface_tokens.specs.declared.scanner.Ending.{Ending}
use Rattle.interface_tokens.specs.declared.scanner.Ending.TheVariants as ending
use Rattle.interface_tokens.specs.declared.expect.Expect.{Expect}
use Rattle.interface_tokens.specs.declared.expect.Expect.TheVariants as expect
use Rattle.interface_tokens.specs.declared.expect.AtTop.TheVariants as at_top
use Rattle.interface_tokens.specs.declared.expect.Act.{Act}
use Rattle.interface_text.proofs.Residue.{residue, to_come, the_end}
use Rattle.interface_text.proofs.Rows.{row_derives}
use Rattle.interface_text.proofs.Keeping.{acts, bound, fine, bad, not_bad, same}

taken : (r n : Reading) (spot : Spot) (us : List Token) (o : Result Act Cause) → act_of r.expect spot.token ≡ o
    → act_or_fault r spot.place o ≡ fine n → Derives (residue n) us → Derives (residue r) (spot.token ∷ us)
taken r n spot us (Ok a) e h d =
    row_derives r.types.forms r.within us spot.token a r.expect (subst (λ (γ : List Symbol). Derives γ us) (acts r n a spot.place h) d) e
taken r n spot us (Err c) e h d = absurd (not_bad _ n h)

took : (r n : Reading) (spot : Spot) (us : List Token) → take r spot ≡ fine n → Derives (residue n) us → Derives (residue r) (spot.token ∷ us)
unfolding take
took r n spot us h d = taken r n spot us (act_of r.expect spot.token) refl h d

took_all : (r n : Reading) (spots : List Spot) → take_all r spots ≡ fine n → Derives (residue n) [] → Derives (residue r) (tokens_in spots)
took_all r n [] h d = subst (λ (m : Reading). Derives (residue m) []) (sym (same r n h)) d
took_all r n (s ∷ ss) h d =
    let b = bound (take r s) (λ (m : Reading). take_all m ss) n h in
    took r b.0 s (tokens_in ss) b.1 (took_all b.0 n ss b.2 d)

at_end_comes : (r : Reading) (e : Expect) (place : Place) (i : DeclaredInterface) → at_end r e place ≡ fine i → to_come e r.types.forms r.within ≡ []
at_end_comes r (expect.Top at_top.Nothing) place i h = refl
at_end_comes r (expect.Top at_top.Declaration) place i h = absurd (not_bad _ i h)
at_end_comes r (expect.Top at_top.TypeName) place i h = absurd (not_bad _ i h)
at_end_comes r (expect.Top at_top.Equals) place i h = absurd (not_bad _ i h)
at_end_comes r (expect.Top at_top.ExceptionName) place i h = absurd (not_bad _ i h)
at_end_comes r (expect.Top at_top.Semicolon) place i h = absurd (not_bad _ i h)
at_end_comes r (expect.Top at_top.EndName) place i h = absurd (not_bad _ i h)
at_end_comes r (expect.Top at_top.FullStop) place i h = absurd (not_bad _ i h)
at_end_comes r (expect.Procedure at) place i h = absurd (not_bad _ i h)
at_end_comes r (expect.Type at) place i h = absurd (not_bad _ i h)

finished : (r : Reading) (e : Ending) (place : Place) (i : DeclaredInterface) → finish r e place ≡ fine i → residue r ≡ []
unfolding finish
finished r ending.Character place i h = absurd (not_bad _ i h)
finished r ending.OpenComment place i h = absurd (not_bad _ i h)
finished r ending.Text place i h = at_end_comes r r.expect place i h

module _ {X : Type 0} where
  so : (b : Bool) (e : Place × Cause) (o : Outcome X) (y : X) → cond b o (bad e) ≡ fine y → (b ≡ true) × (o ≡ fine y)
  so true e o y h = (refl, h)
  so false e o y h = absurd (not_bad e y h)

first_is : (tk : Tokens) (spots : List Spot) (x : Spot × List Spot) → first tk spots ≡ fine x → spots ≡ x.0 ∷ x.1
unfolding first
first_is tk [] x h = absurd (not_bad _ x h)
first_is tk (s ∷ ss) x h = ap (λ (y : Spot × List Spot). y.0 ∷ y.1) (same (s, ss) x h)

placed : (place : Place) (o : Result (List ℕ) Cause) (n : List ℕ) → at_place place o ≡ fine n → o ≡ Ok n
placed place (Ok m) n h = ap (λ (k : List ℕ). let r : Result (List ℕ) Cause = Ok k in r) (same m n h)
placed place (Err c) n h = absurd (not_bad _ n h)

put : (spots : List Spot) (x : Spot × List Spot) (γ : List Symbol) → spots ≡ x.0 ∷ x.1 → Derives γ (x.0.token ∷ tokens_in x.1) → Derives γ (tokens_in spots)
put spots x γ e d = subst (λ (ss : List Spot). Derives γ (tokens_in ss)) (sym e) d

abbrev semicolon_line : List ℕ → Spot × List Spot → Outcome (List ℕ × List Spot)
semicolon_line name c = if is_sign c.0.token sign.Semicolon then Ok (name, c.1) else Err (c.0.place, cause.Expected)

abbrev name_line : Tokens → Spot × List Spot → Outcome (List ℕ × List Spot)
name_line tk b = at_place b.0.place (name_of b.0.token) >>= λ name. (first tk b.1 >>= λ c. semicolon_line name c)

abbrev word_line : Tokens → Spot × List Spot → Outcome (List ℕ × List Spot)
word_line tk a = if is_word a.0.token word.Interface then (first tk a.1 >>= λ b. name_line tk b) else Err (a.0.place, cause.Expected)

line_derives : (tk : Tokens) (line : List ℕ × List Spot) → first_line tk ≡ fine line → Derives the_end (tokens_in line.1) → Derives interface (tokens_in tk.spots)
unfolding first_line
line_derives tk line h d =
    let a = bound (first tk tk.spots) (word_line tk) line h in
    let p = so (is_word a.0.0.token word.Interface) (a.0.0.place, cause.Expected) (first tk a.0.1 >>= λ b. name_line tk b) line a.2 in
    let b = bound (first tk a.0.1) (name_line tk) line p.1 in
    let n = bound (at_place b.0.0.place (name_of b.0.0.token)) (λ (name : List ℕ). first tk b.0.1 >>= λ c. semicolon_line name c) line b.2 in
    let c = bound (first tk b.0.1) (semicolon_line n.0) line n.2 in
    let q = so (is_sign c.0.0.token sign.Semicolon) (c.0.0.place, cause.Expected) (fine (n.0, c.0.1)) line c.2 in
    let rest = ap (λ (x : List ℕ × List Spot). x.1) (same (n.0, c.0.1) line q.1) in
    let d' = subst (λ (ss : List Spot). Derives the_end (tokens_in ss)) (sym rest) d in
    put tk.spots a.0 interface (first_is tk tk.spots a.0 a.1) (by_word word.Interface a.0.0.token _ (tokens_in a.0.1) p.0
    (put a.0.1 b.0 _ (first_is tk a.0.1 b.0 b.1) (by_name n.0 b.0.0.token _ (tokens_in b.0.1) (placed b.0.0.place _ n.0 n.1)
    (put b.0.1 c.0 _ (first_is tk b.0.1 c.0 c.1) (by_sign sign.Semicolon c.0.0.token the_end (tokens_in c.0.1) q.0 d')))))

pub declared_derives : (text : List ℕ) (i : DeclaredInterface) → Declares text i → Derives interface (tokens_in (tokens_of text).spots)
unfolding read_text
declared_derives text i h =
    let tk = tokens_of text in
    let ends = λ (r : Reading). finish r tk.ending tk.end in
    let l = bound (first_line tk) (λ (line : List ℕ × List Spot). take_all (beginning line.0) line.1 >>= ends) i h in
    let r = bound (take_all (beginning l.0.0) l.0.1) ends i l.2 in
    line_derives tk l.0 l.1 (took_all (beginning l.0.0) r.0 l.0.1 r.1
    (subst (λ (γ : List Symbol). Derives γ []) (sym (finished r.0 tk.ending tk.end i r.2)) nothing))
