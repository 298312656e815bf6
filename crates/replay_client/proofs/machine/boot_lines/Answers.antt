use Rattle.std.proofs.Common.{◌≡◌, ℕ, ◌+◌, map, ap, ◌∙◌, arith}
use Rattle.std.specs.List.{range_with_len}
use Rattle.replay_model.specs.World.{booted_line}
use Rattle.replay_client.proofs.Boot.{made_more}
use Rattle.replay_client.proofs.machine.boot_lines.Goals as goal

pub loop-cell-preserved : goal.loop-cell-preserved
loop-cell-preserved c =
    let n : c.loop-cell.cell + 1 ≡ 1 + c.loop-cell.cell = omega arith in
    made_more (booted_line c.args.boot c.args.machine) 1 c.loop-cell.cell c.loop-cell.lines.items c.push.new.self.items _ c.loop-cell.invariant
    (c.boot.ensures ∙ ap (booted_line c.args.boot c.args.machine) n) c.in_ok-push.ensures.items

pub returns : goal.returns
returns c =
    let n : c.loop-cell.cell ≡ 8 = omega arith in
    c.loop-cell.invariant ∙ ap (λ (k : ℕ). map (booted_line c.args.boot c.args.machine) (range_with_len 1 k)) n
