use Rattle.std.proofs.Common.{◌≡◌, ◌<◌, ◌≤◌, ℕ, ap, subst, ◌∙◌, lit≤, arith}
use Rattle.std.proofs.lemmas.Result.{on_ok_weaker}
use Rattle.replay_model.specs.Record.{Counts, ListsRuns, Ends, counts_of}
use Rattle.replay_model.specs.Lines.{lines_of_act}
use Rattle.replay_model.specs.Forms.{InRange}
use Rattle.replay_model.specs.declared.event.Event.{Event}
use Rattle.replay_lines.specs.Page.{Page, written}
use Rattle.replay_world.specs.Kept.{HasNamed}
use Rattle.replay_world.specs.Stored.{Stored}
use Rattle.replay_world.proofs.Standing.{plays_one, rose_more, none_lost, on_ok_always}
use Rattle.replay_world.proofs.world.World.advance.Goals as goal

pub returns-in-Second-clause-played : goal.returns-in-Second-clause-played
returns-in-Second-clause-played c w stands named = rw c.in-Second.is (c.pass.ensures.played w stands)

pub returns-in-Second-clause-lost : goal.returns-in-Second-clause-lost
returns-in-Second-clause-lost c w stands = rw c.in-Second.is (none_lost c.pass.result c.args.self.now c.pass.new.self c.pass.ensures.keeps)

pub returns-in-Second-clause-keeps : goal.returns-in-Second-clause-keeps
returns-in-Second-clause-keeps c = on_ok_weaker c.pass.result (λ k. k.0) c.pass.ensures.keeps

pub returns-in-Second-clause-few : goal.returns-in-Second-clause-few
returns-in-Second-clause-few c = rose_more c.pass.result 1 c.args.self.now c.pass.new.self (lit≤ tt) c.pass.ensures.few

pub returns-in-Call-clause-played : goal.returns-in-Call-clause-played
returns-in-Call-clause-played c w stands named = rw c.in-Call.is (c.call.ensures.played w stands)

pub returns-in-Call-clause-lost : goal.returns-in-Call-clause-lost
returns-in-Call-clause-lost c w stands = rw c.in-Call.is (none_lost c.call.result c.args.self.now c.call.new.self c.call.ensures.keeps)

pub returns-in-Call-clause-keeps : goal.returns-in-Call-clause-keeps
returns-in-Call-clause-keeps c = on_ok_weaker c.call.result (λ k. k.0) c.call.ensures.keeps

pub returns-in-Call-clause-few : goal.returns-in-Call-clause-few
returns-in-Call-clause-few c = rose_more c.call.result 2 c.args.self.now c.call.new.self (lit≤ tt) c.call.ensures.few

pub returns-in-Bind-clause-played : goal.returns-in-Bind-clause-played
returns-in-Bind-clause-played c w stands named = rw c.in-Bind.is (c.bind.ensures.played w stands)

pub returns-in-Bind-clause-lost : goal.returns-in-Bind-clause-lost
returns-in-Bind-clause-lost c w stands = rw c.in-Bind.is (none_lost c.bind.result c.args.self.now c.bind.new.self c.bind.ensures.keeps)

pub returns-in-Bind-clause-keeps : goal.returns-in-Bind-clause-keeps
returns-in-Bind-clause-keeps c = on_ok_weaker c.bind.result (λ k. k.0) c.bind.ensures.keeps

pub returns-in-Bind-clause-few : goal.returns-in-Bind-clause-few
returns-in-Bind-clause-few c = rose_more c.bind.result 1 c.args.self.now c.bind.new.self (lit≤ tt) c.bind.ensures.few

pub returns-in-Tick-clause-played : goal.returns-in-Tick-clause-played
returns-in-Tick-clause-played c w stands named = rw c.in-Tick.is (c.ticks.ensures.played w stands)

pub returns-in-Tick-clause-lost : goal.returns-in-Tick-clause-lost
returns-in-Tick-clause-lost c w stands = rw c.in-Tick.is (none_lost c.ticks.result c.args.self.now c.ticks.new.self c.ticks.ensures.keeps)

pub returns-in-Tick-clause-keeps : goal.returns-in-Tick-clause-keeps
returns-in-Tick-clause-keeps c = on_ok_weaker c.ticks.result (λ k. k.0) c.ticks.ensures.keeps

pub returns-in-Tick-clause-few : goal.returns-in-Tick-clause-few
returns-in-Tick-clause-few c =
    let range = subst InRange c.in-Tick.is c.requires.in_range in
    rose_more c.ticks.result c.in-Tick.times c.args.self.now c.ticks.new.self range.2 c.ticks.ensures.few

pub returns-in-Deliver-clause-played : goal.returns-in-Deliver-clause-played
returns-in-Deliver-clause-played c w stands named =
    let within : c.args.self.now.forgotten < c.in-Deliver.packet = subst (HasNamed c.args.self.now) c.in-Deliver.is named in
    rw c.in-Deliver.is (c.deliver.ensures.played w stands within)

pub returns-in-Deliver-clause-lost : goal.returns-in-Deliver-clause-lost
returns-in-Deliver-clause-lost c w stands = rw c.in-Deliver.is (none_lost c.deliver.result c.args.self.now c.deliver.new.self c.deliver.ensures.keeps)

pub returns-in-Deliver-clause-keeps : goal.returns-in-Deliver-clause-keeps
returns-in-Deliver-clause-keeps c = on_ok_weaker c.deliver.result (λ k. k.0) c.deliver.ensures.keeps

pub returns-in-Deliver-clause-few : goal.returns-in-Deliver-clause-few
returns-in-Deliver-clause-few c = rose_more c.deliver.result 1 c.args.self.now c.deliver.new.self (lit≤ tt) c.deliver.ensures.few

pub returns-in-Damage-clause-played : goal.returns-in-Damage-clause-played
returns-in-Damage-clause-played c w stands named =
    let within : c.args.self.now.forgotten < c.in-Damage.packet = subst (HasNamed c.args.self.now) c.in-Damage.is named in
    rw c.in-Damage.is (c.damage.ensures.played w stands within)

pub returns-in-Damage-clause-lost : goal.returns-in-Damage-clause-lost
returns-in-Damage-clause-lost c w stands = rw c.in-Damage.is (none_lost c.damage.result c.args.self.now c.damage.new.self c.damage.ensures.keeps)

pub returns-in-Damage-clause-keeps : goal.returns-in-Damage-clause-keeps
returns-in-Damage-clause-keeps c = on_ok_weaker c.damage.result (λ k. k.0) c.damage.ensures.keeps

pub returns-in-Damage-clause-few : goal.returns-in-Damage-clause-few
returns-in-Damage-clause-few c = rose_more c.damage.result 1 c.args.self.now c.damage.new.self (lit≤ tt) c.damage.ensures.few

pub returns-in-Export-clause-played : goal.returns-in-Export-clause-played
returns-in-Export-clause-played c w stands named = rw c.in-Export.is (c.export.ensures.played w stands)

pub returns-in-Export-clause-lost : goal.returns-in-Export-clause-lost
returns-in-Export-clause-lost c w stands = rw c.in-Export.is (none_lost c.export.result c.args.self.now c.export.new.self c.export.ensures.keeps)

pub returns-in-Export-clause-keeps : goal.returns-in-Export-clause-keeps
returns-in-Export-clause-keeps c = on_ok_weaker c.export.result (λ k. k.0) c.export.ensures.keeps

pub returns-in-Export-clause-few : goal.returns-in-Export-clause-few
returns-in-Export-clause-few c = rose_more c.export.result 1 c.args.self.now c.export.new.self (lit≤ tt) c.export.ensures.few

pub returns-in-Withdraw-clause-played : goal.returns-in-Withdraw-clause-played
returns-in-Withdraw-clause-played c w stands named = rw c.in-Withdraw.is (c.withdraw.ensures.played w stands)

pub returns-in-Withdraw-clause-lost : goal.returns-in-Withdraw-clause-lost
returns-in-Withdraw-clause-lost c w stands = rw c.in-Withdraw.is (none_lost c.withdraw.result c.args.self.now c.withdraw.new.self c.withdraw.ensures.keeps)

pub returns-in-Withdraw-clause-keeps : goal.returns-in-Withdraw-clause-keeps
returns-in-Withdraw-clause-keeps c = on_ok_weaker c.withdraw.result (λ k. k.0) c.withdraw.ensures.keeps

pub returns-in-Withdraw-clause-few : goal.returns-in-Withdraw-clause-few
returns-in-Withdraw-clause-few c = rose_more c.withdraw.result 1 c.args.self.now c.withdraw.new.self (lit≤ tt) c.withdraw.ensures.few

pub returns-in-Skip-clause-played : goal.returns-in-Skip-clause-played
returns-in-Skip-clause-played c w stands named = rw c.in-Skip.is (c.skip.ensures.played w stands)

pub returns-in-Skip-clause-lost : goal.returns-in-Skip-clause-lost
returns-in-Skip-clause-lost c w stands = rw c.in-Skip.is (none_lost c.skip.result c.args.self.now c.skip.new.self c.skip.ensures.keeps)

pub returns-in-Skip-clause-keeps : goal.returns-in-Skip-clause-keeps
returns-in-Skip-clause-keeps c = on_ok_weaker c.skip.result (λ k. k.0) c.skip.ensures.keeps

pub returns-in-Skip-clause-few : goal.returns-in-Skip-clause-few
returns-in-Skip-clause-few c = rose_more c.skip.result 1 c.args.self.now c.skip.new.self (lit≤ tt) c.skip.ensures.few

pub returns-in-Work-clause-played : goal.returns-in-Work-clause-played
returns-in-Work-clause-played c w stands named = rw c.in-Work.is (c.work.ensures.played w stands)

pub returns-in-Work-clause-lost : goal.returns-in-Work-clause-lost
returns-in-Work-clause-lost c w stands = rw c.in-Work.is (none_lost c.work.result c.args.self.now c.work.new.self c.work.ensures.keeps)

pub returns-in-Work-clause-keeps : goal.returns-in-Work-clause-keeps
returns-in-Work-clause-keeps c = on_ok_weaker c.work.result (λ k. k.0) c.work.ensures.keeps

pub returns-in-Work-clause-few : goal.returns-in-Work-clause-few
returns-in-Work-clause-few c = rose_more c.work.result 1 c.args.self.now c.work.new.self (lit≤ tt) c.work.ensures.few

pub returns-in-Restart-clause-played : goal.returns-in-Restart-clause-played
returns-in-Restart-clause-played c w stands named = rw c.in-Restart.is (c.restart.ensures.played w stands)

pub returns-in-Restart-clause-lost : goal.returns-in-Restart-clause-lost
returns-in-Restart-clause-lost c w stands = rw c.in-Restart.is (c.restart.ensures.lost w stands)

pub returns-in-Restart-clause-few : goal.returns-in-Restart-clause-few
returns-in-Restart-clause-few c = rose_more c.restart.result 8 c.args.self.now c.restart.new.self (lit≤ tt) c.restart.ensures.few

pub returns-in-Show-clause-played : goal.returns-in-Show-clause-played
returns-in-Show-clause-played c w stands named =
    let within : c.args.self.now.forgotten < c.in-Show.packet = subst (HasNamed c.args.self.now) c.in-Show.is named in
    rw c.in-Show.is (c.show.ensures w stands within)

pub returns-in-Show-clause-lost : goal.returns-in-Show-clause-lost
returns-in-Show-clause-lost c w stands = rw c.in-Show.is (on_ok_always c.show.result (omega arith))

pub returns-in-Journal-clause-played : goal.returns-in-Journal-clause-played
returns-in-Journal-clause-played c w stands named =
    let before : Page = c.args.out.now in
    let after : Page = c.put_runs.new.out in
    let self : Stored = c.args.self.now in
    rw c.in-Journal.is (on_ok_weaker c.put_runs.result (λ e. plays_one before after self w w.records (ListsRuns w.records.journal) e stands)
    (c.put_runs.ensures w.records.journal (c.as_slice.ensures.value ∙ (ap (λ (s : Stored). s.runs) c.self.view_is ∙ stands.runs))))

pub returns-in-Journal-clause-lost : goal.returns-in-Journal-clause-lost
returns-in-Journal-clause-lost c w stands = rw c.in-Journal.is (on_ok_always c.put_runs.result (omega arith))

pub returns-in-End-clause-played : goal.returns-in-End-clause-played
returns-in-End-clause-played c w stands named =
    let before : Page = c.args.out.now in
    let after : Page = c.put_end.new.out in
    let self : Stored = c.args.self.now in
    rw c.in-End.is (on_ok_weaker c.put_end.result (λ e. plays_one before after self w w.records (Ends (counts_of w.records))
    (e ∙ ap (written before) (ap (λ (x : Counts). lines_of_act (Ends x)) (ap (λ (s : Stored). s.counts) c.self-in-End.view_is ∙ stands.counts))) stands) c.put_end.ensures)

pub returns-in-End-clause-lost : goal.returns-in-End-clause-lost
returns-in-End-clause-lost c w stands = rw c.in-End.is (on_ok_always c.put_end.result (omega arith))
