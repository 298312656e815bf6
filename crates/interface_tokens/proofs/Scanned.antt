-- A text is read a byte at a time.
use Rattle.std.proofs.Common.{◌≡◌, ◌+◌, ◌≤◌, ◌<◌, ℕ, Bool, true, false, cond, List, length, get_or, drop, sym, ap, ◌∙◌, eqb, arith}
use Rattle.std.proofs.lemmas.List.{at_drop_more}
use Rattle.interface_tokens.specs.Tokens.{Scan, read_from, take, behind}
use Rattle.interface_tokens.specs.declared.place.Place.{Place}

pub read_next : (s n : Scan) (text : List ℕ) (i : ℕ) → i < length text → n ≡ take s (get_or text i 0)
    → read_from n (drop (i + 1) text) ≡ read_from s (drop i text)
read_next s n text i lt h =
    ap (λ (m : Scan). read_from m (drop (i + 1) text)) h ∙ sym (at_drop_more (read_from s) text i 0 lt)

-- each byte moves the line or the column on by one at the most
pub moves : (p q : Place) (byte n : ℕ) → q ≡ behind p byte → p.line ≤ n → p.column ≤ n → (q.line ≤ n + 1) × (q.column ≤ n + 1)
moves p q byte n h l c = by (eqb byte 10) h
  where
    by : (b : Bool) → q ≡ cond b (record { line = p.line + 1; column = 1 }) (record { line = p.line; column = p.column + 1 }) → (q.line ≤ n + 1) × (q.column ≤ n + 1)
    by true e = (omega (arith, ap (λ (x : Place). x.line) e), omega (arith, ap (λ (x : Place). x.column) e))
    by false e = (omega (arith, ap (λ (x : Place). x.line) e), omega (arith, ap (λ (x : Place). x.column) e))
