use Rattle.std.proofs.Common.{◌≡◌, ℕ, List, ◌++◌, ap, ◌∙◌, append_assoc}
use Rattle.std.specs.Prelude.{codes}
use Rattle.std.specs.Fmt.{decimal}
use Rattle.std.proofs.lemmas.Result.{on_ok_weaker}
use Rattle.replay_model.specs.Summary.{count_line, newline}
use Rattle.commands.proofs.summary.put_count.Goals as goal

regroup : (name : List ℕ) (n : ℕ) → name ++ (codes " " ++ (decimal n ++ newline)) ≡ count_line name n
regroup name n = simp append_assoc

pub returns : goal.returns
returns c =
    on_ok_weaker c.writeln.result (λ e. e ∙ ap (λ (t : List ℕ). c.args.out.now.items ++ t) (regroup c.args.name.now c.args.count)) c.writeln.ensures
