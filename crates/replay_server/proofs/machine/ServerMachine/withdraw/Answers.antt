use Rattle.replay_server.proofs.Outcomes.{withdraws_as}
use Rattle.replay_server.proofs.machine.ServerMachine.withdraw.Goals as goal

pub returns : goal.returns
returns c w =
    rw (← c.self.view_is)
    (withdraws_as w _ c.args.name c.test_name.result c.withdraw_name.new.exports c.withdraw_name.result c.test_name.ensures c.withdraw_name.ensures.index c.withdraw_name.ensures.exports)
