-- A text by its digest, and a journal line by line.
use Rattle.std.proofs.Common.{◌≡◌, ℕ, ◌+◌, ◌/◌, ◌%◌, ◌≤◌, ◌<◌, List, [], ◌∷◌, ◌++◌, length, map, take, ap, sym, ◌∙◌, arith, add-zero, get_or}
use Rattle.std.specs.Prelude.{codes}
use Rattle.std.specs.Fmt.{decimal}
use Rattle.std.proofs.lemmas.List.{append_assoc, append-nil, take_more, take_all, flat_map_more, length-take-le}
use Rattle.std.proofs.lemmas.Bool.{le-leb, lt-leb, cond-true, cond-false}
use Rattle.lane_checksum.specs.declared.Digest.{Digest}
use Rattle.replay_model.specs.Digests.{RunDigest, run_digest}
use Rattle.replay_model.specs.Lines.{blank, newline, bytes_text, run_text, hex, hex_byte, run_line, run_lines, journal_lines}
use Rattle.call_rules.specs.Worker.{Run}
use Rattle.replay_lines.specs.Page.{Page, written}
use Rattle.replay_lines.proofs.Pages.{written-joined}

-- a short text's bytes, and a long one's sum
pub short_text : (d : Digest) → d.len ≤ 16 → (head : List ℕ) → head ≡ take d.len d.head → decimal d.len ++ (codes ":" ++ hex head) ≡ bytes_text d
unfolding bytes_text
short_text d h head is =
    ap (λ (t : List ℕ). decimal d.len ++ (codes ":" ++ hex t)) is
    ∙ (sym (append_assoc (decimal d.len) (codes ":") (hex (take d.len d.head)))
    ∙ ap (λ (t : List ℕ). decimal d.len ++ codes ":" ++ t) (sym (cond-true _ _ _ (le-leb d.len 16 h))))

pub long_text : (d : Digest) → 16 < d.len → (sum : List ℕ) → sum ≡ d.sum / 256 ∷ d.sum % 256 ∷ [] → decimal d.len ++ (codes ":#" ++ hex sum) ≡ bytes_text d
unfolding bytes_text
long_text d h sum is =
    ap (λ (t : List ℕ). decimal d.len ++ (codes ":#" ++ hex t)) is
    ∙ (sym (append_assoc (decimal d.len) (codes ":") (codes "#" ++ hex (d.sum / 256 ∷ d.sum % 256 ∷ [])))
    ∙ ap (λ (t : List ℕ). decimal d.len ++ codes ":" ++ t) (sym (cond-false _ _ _ (lt-leb d.len 16 h))))

-- the texts of a line, regrouped
pub regroup_eleven : (a r b n d s f m g q e : List ℕ) → a ++ (r ++ (b ++ (n ++ (d ++ (s ++ (f ++ (m ++ (g ++ (q ++ e))))))))) ≡ a ++ r ++ b ++ n ++ d ++ s ++ f ++ m ++ g ++ q ++ e
regroup_eleven a r b n d s f m g q e = simp append_assoc

pub regroup_five : (a i b r e : List ℕ) → a ++ (i ++ (b ++ (r ++ e))) ≡ a ++ i ++ b ++ r ++ e
regroup_five a i b r e = simp append_assoc

-- one byte more
pub hex-push : (bytes : List ℕ) (i byte : ℕ) → i < length bytes → byte ≡ get_or bytes i byte → hex (take i bytes) ++ hex_byte byte ≡ hex (take (i + 1) bytes)
hex-push bytes i byte h is =
    flat_map_more hex_byte [] (take i bytes) byte ∙ ap hex (ap (λ (x : ℕ). take i bytes ++ x ∷ []) is ∙ sym (take_more bytes i byte h))

-- the lines of one more run
run_lines-push : (i : ℕ) (rs : List RunDigest) (r : RunDigest) → run_lines i (rs ++ r ∷ []) ≡ run_lines i rs ++ run_line (i + length rs) r
run_lines-push i [] r = append-nil (run_line i r) ∙ ap (λ (n : ℕ). run_line n r) (sym (add-zero i))
run_lines-push i (x ∷ rs) r =
    let e : i + 1 + length rs ≡ i + length (x ∷ rs) = omega arith in
    ap (λ (t : List ℕ). run_line i x ++ t) (run_lines-push (i + 1) rs r)
    ∙ (sym (append_assoc (run_line i x) (run_lines (i + 1) rs) (run_line (i + 1 + length rs) r))
    ∙ ap (λ (n : ℕ). run_lines i (x ∷ rs) ++ run_line n r) e)

-- the journal with one more of its lines
pub runs_added : (o o1 o2 : Page) (rs : List RunDigest) (i : ℕ) (r : RunDigest) → i < length rs → r ≡ get_or rs i r
    → o1 ≡ written o (run_lines 1 (take i rs)) → o2 ≡ written o1 (codes "run " ++ (decimal (i + 1) ++ (blank ++ (run_text r ++ newline))))
    → o2 ≡ written o (run_lines 1 (take (i + 1) rs))
runs_added o o1 o2 rs i r h is e f =
    let n : 1 + length (take i rs) ≡ i + 1 = omega (arith, length-take-le i rs (omega arith)) in
    f
    ∙ (ap (written o1) (regroup_five (codes "run ") (decimal (i + 1)) blank (run_text r) newline)
    ∙ ap (λ (p : Page). written p (run_line (i + 1) r)) e
    ∙ (written-joined o (run_lines 1 (take i rs)) (run_line (i + 1) r)
    ∙ ap (written o)
    (ap (λ (m : ℕ). run_lines 1 (take i rs) ++ run_line m r) (sym n)
    ∙ (sym (run_lines-push 1 (take i rs) r) ∙ ap (run_lines 1) (ap (λ (x : RunDigest). take i rs ++ x ∷ []) is ∙ sym (take_more rs i r h))))))

-- a journal that isn't empty, by all its lines
pub all_runs : (o o1 : Page) (rs : List RunDigest) (i : ℕ) (journal : List Run) → 0 < length rs → length rs ≤ i
    → o1 ≡ written o (run_lines 1 (take i rs)) → rs ≡ map run_digest journal → o1 ≡ written o (journal_lines (map run_digest journal))
all_runs o o1 [] i journal some all e is = elim some [ ]
all_runs o o1 (r ∷ rs) i journal some all e is =
    e ∙ (ap (λ (xs : List RunDigest). written o (run_lines 1 xs)) (take_all i (r ∷ rs) all) ∙ ap (λ (xs : List RunDigest). written o (journal_lines xs)) is)
