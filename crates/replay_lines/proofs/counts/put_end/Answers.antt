use Rattle.std.proofs.Common.{◌∙◌, ap}
use Rattle.std.specs.Prelude.{codes}
use Rattle.std.specs.Fmt.{decimal}
use Rattle.std.proofs.lemmas.Result.{on_ok_weaker}
use Rattle.replay_model.specs.Lines.{newline}
use Rattle.replay_lines.specs.Page.{written}
use Rattle.replay_lines.proofs.Texts.{regroup_eleven}
use Rattle.replay_lines.proofs.counts.put_end.Goals as goal

pub returns : goal.returns
returns c =
    let n = c.counts.inside in
    rw (← c.counts.view_is)
    (on_ok_weaker c.writeln.result (λ e. e ∙ ap (written c.args.out.now)
    (regroup_eleven (codes "end runs ") (decimal n.runs) (codes " returned ") (decimal n.returned) (codes " signalled ") (decimal n.signalled)
    (codes " failed ") (decimal n.failed) (codes " refused ") (decimal n.refused) newline)) c.writeln.ensures)
