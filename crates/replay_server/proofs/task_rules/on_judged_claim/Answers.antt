use Rattle.std.proofs.Common.{ap, sym}
use Rattle.call_rules.specs.declared.entry.Judged.{Judged}
use Rattle.call_rules.specs.Worker.{on_judged_claim}
use Rattle.replay_model.specs.World.{has_buffer}
use Rattle.replay_server.proofs.Rows.{exchanges_as}
use Rattle.replay_server.proofs.task_rules.on_judged_claim.Goals as goal

pub returns-in-Admit : goal.returns-in-Admit
returns-in-Admit c =
    exchanges_as c.args.carrier.now _ _ c.args.entry.now c.admits.new.entry c.admits.result
    (ap (λ (j : Judged). on_judged_claim j has_buffer c.args.carrier.now c.args.entry.now) (sym c.in-Admit.is)) (c.admits.ensures c.args.entry.now)
