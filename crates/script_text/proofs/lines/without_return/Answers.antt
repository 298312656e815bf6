-- The line ends with a carriage return, which is cut off, or is whole.
use Rattle.std.proofs.Common.{◌≡◌, ◌≢◌, ◌++◌, ℕ, List, [], ◌∷◌, Bor, Option, Some, None, MatchOption, sym}
use Rattle.std.specs.Option.{unwrap_or}
use Rattle.std.proofs.lemmas.Bool.Decides.{Decides-eqb}
use Rattle.std.proofs.lemmas.Slice.Eq.{strip_suffix_is}
use Rattle.replay_model.specs.Script.{without_return}
use Rattle.script_text.proofs.FirstLine.{whole_line, shorter_line}
use Rattle.script_text.proofs.lines.without_return.Goals as goal

stripped : (line : Bor (List ℕ)) (r : Option (Bor (List ℕ))) → MatchOption r ((front : List ℕ) → line.now ≢ front ++ (13 ∷ [])) (λ x. line.now ≡ x.now ++ (13 ∷ [])) → (unwrap_or r line).now ≡ without_return line.now
stripped line None h = sym (whole_line line.now h)
stripped line (Some x) h = rw h (sym (shorter_line x.now))

pub returns : goal.returns
returns c =
    let found = strip_suffix_is Decides-eqb c.args.line.now (13 ∷ []) c.strip_suffix.result c.strip_suffix.ensures.cases in
    rw c.unwrap_or.ensures (stripped c.args.line c.strip_suffix.result found)
