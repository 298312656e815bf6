use Rattle.std.proofs.Common.{arith}
use Rattle.replay_client.proofs.OpenCalls.{open_of_lines-more}
use Rattle.replay_client.proofs.machine.ClientMachine.open_calls.Goals as goal

pub loop-line-preserved : goal.loop-line-preserved
loop-line-preserved c =
    let more = open_of_lines-more c.deref-line-items.result.now c.loop-line.line-index c.line-item.result c.loop-line-test.true c.line-item.is in
    (omega (arith, more, c.open_calls-open.ensures.exact), omega (arith, c.open_calls-open.ensures.few))
