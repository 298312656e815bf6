-- What the grammar has behind tokens that were read is to come, and the syntax has what is next.
use Rattle.std.proofs.Common.{◌≡◌, List, [], ◌∷◌, ◌++◌, ℕ, Result, Ok, Err, sym, subst}
use Rattle.interface_text.specs.Grammar.{Symbol, Derives, behind_first_line, tokens_in}
use Rattle.interface_tokens.specs.Syntax.{act_of}
use Rattle.interface_text.specs.Rules.{Reading, take, take_all, act_or_fault, beginning}
use Rattle.interface_tokens.specs.declared.fault.Cause.{Cause}
use Rattle.interface_tokens.specs.declared.token.Token.{Token}
use Rattle.interface_tokens.specs.declared.token.Spot.{Spot}
use Rattle.interface_tokens.specs.declared.expect.Act.{Act}
use Rattle.interface_text.proofs.Residue.{residue}
use Rattle.interface_text.proofs.Keeping.{acts, bound, fine, same}
use Rattle.interface_text.proofs.Forward.{next_act}

pub stepped_on : (r n : Reading) (spot : Spot) (us : List Token) → take r spot ≡ fine n → Derives (residue r) (spot.token ∷ us) → Derives (residue n) us
unfolding take
stepped_on r n spot us h d =
    let x = next_act spot.token us r.types.forms r.within r.expect d in
    let done = subst (λ (o : Result Act Cause). act_or_fault r spot.place o ≡ fine n) x.1 h in
    subst (λ (γ : List Symbol). Derives γ us) (sym (acts r n x.0 spot.place done)) x.2

read_on : (r n : Reading) (spots : List Spot) (ts : List Token) → take_all r spots ≡ fine n → Derives (residue r) (tokens_in spots ++ ts) → Derives (residue n) ts
read_on r n [] ts h d = subst (λ (m : Reading). Derives (residue m) ts) (same r n h) d
read_on r n (s ∷ ss) ts h d =
    let b = bound (take r s) (λ (m : Reading). take_all m ss) n h in
    read_on b.0 n ss ts b.2 (stepped_on r b.0 s (tokens_in ss ++ ts) b.1 d)

clash : (r : Result Act Cause) (a : Act) (c : Cause) → r ≡ Ok a → r ≡ Err c → ⊥
clash r a c h k = cc

-- a token that the syntax refuses is no next token of the grammar
pub refused_next : (name : List ℕ) (spots : List Spot) (r : Reading) (spot : Spot) (c : Cause) (us : List Token)
    → take_all (beginning name) spots ≡ Ok r → act_of r.expect spot.token ≡ Err c
    → Derives behind_first_line (tokens_in spots ++ spot.token ∷ us) → ⊥
refused_next name spots r spot c us h e d =
    let x = next_act spot.token us r.types.forms r.within r.expect (read_on (beginning name) r spots (spot.token ∷ us) h d) in
    clash (act_of r.expect spot.token) x.0 c x.1 e
