use Rattle.std.proofs.Common.{◌<◌, length, arith, sym}
use Rattle.replay_lines.proofs.Pages.{written-nothing}
use Rattle.replay_lines.proofs.Texts.{runs_added, all_runs}
use Rattle.replay_lines.proofs.runs.put_runs.Goals as goal

pub returns : goal.returns
returns c journal is =
    let some : 0 < length c.args.runs.now = grind arith in
    all_runs c.args.out.now c.loop-i.out c.args.runs.now c.loop-i.i journal some c.loop-i-test.false c.loop-i.invariant is

pub loop-i-init : goal.loop-i-init
loop-i-init c = sym (written-nothing c.args.out.now)

pub loop-i-preserved : goal.loop-i-preserved
loop-i-preserved c =
    runs_added c.args.out.now c.loop-i.out c.writeln-in-loop-i.new.self c.args.runs.now c.loop-i.i c.index-runs-i.result
    c.loop-i-test.true c.index-runs-i.is c.loop-i.invariant c.in_ok-writeln.ensures
