use Rattle.std.proofs.Common.{ℕ, List, sym, subst}
use Rattle.std.proofs.lemmas.Result.{on_ok_weaker}
use Rattle.call_rules.specs.Packet.{Call, call_of}
use Rattle.replay_model.specs.Record.{Counts, Fails, Unanswered, RefusedFor}
use Rattle.replay_lines.specs.Counts.{counts_failure, counts_refusal}
use Rattle.replay_client.specs.declared.told.Cause.{Cause}
use Rattle.replay_client.specs.Told.{cause_of}
use Rattle.replay_lines.specs.Page.{Page}
use Rattle.replay_world.specs.Stored.{Stored}
use Rattle.replay_world.specs.Stands.{Stands}
use Rattle.replay_world.specs.Played.{Plays, fails}
use Rattle.replay_world.specs.contracts.world.World.{the_view}
use Rattle.replay_world.proofs.Standing.{plays_one, stands-failure, stands-refusal}
use Rattle.replay_world.proofs.Rising.{keeps_all}
use Rattle.replay_world.proofs.world.World.tell_failure.Goals as goal

pub returns-in-Unanswered-clause-played : goal.returns-in-Unanswered-clause-played
returns-in-Unanswered-clause-played c w h =
    let s : Stored = the_view c.self.inside in
    let call : Call = call_of c.args.call in
    let before : Page = c.args.out.now in
    let after : Page = c.put_failure.new.out in
    let kept : Stands s w = subst (λ (x : Stored). Stands x w) (sym c.self.view_is) h in
    on_ok_weaker c.put_failure.result (λ e. subst (λ (n : Counts). Plays before after (record s { counts = n }) w.records (fails w call (cause_of c.args.cause))) (sym c.count_failure.ensures)
    (subst (λ (x : Cause). Plays before after (record s { counts = counts_failure s.counts }) w.records (fails w call (cause_of x))) (sym c.in-Unanswered.is)
    (plays_one before after (record s { counts = counts_failure s.counts }) w w.records (Fails call Unanswered) e (stands-failure s w call kept)))) c.put_failure.ensures

pub returns-in-Refused-clause-played : goal.returns-in-Refused-clause-played
returns-in-Refused-clause-played c w h =
    let s : Stored = the_view c.self.inside in
    let call : Call = call_of c.args.call in
    let reason : ℕ = c.in-Refused.reason in
    let before : Page = c.args.out.now in
    let after : Page = c.put_refusal.new.out in
    let kept : Stands s w = subst (λ (x : Stored). Stands x w) (sym c.self.view_is) h in
    on_ok_weaker c.put_refusal.result (λ e. subst (λ (n : Counts). Plays before after (record s { counts = n }) w.records (fails w call (cause_of c.args.cause))) (sym c.count_refusal.ensures)
    (subst (λ (x : Cause). Plays before after (record s { counts = counts_refusal s.counts }) w.records (fails w call (cause_of x))) (sym c.in-Refused.is)
    (plays_one before after (record s { counts = counts_refusal s.counts }) w w.records (Fails call (RefusedFor reason)) e (stands-refusal s w call reason kept)))) c.put_refusal.ensures

pub returns-in-Unanswered-clause-keeps : goal.returns-in-Unanswered-clause-keeps
returns-in-Unanswered-clause-keeps c = keeps_all c.put_failure.result (the_view c.self.inside) c.args.self.now c.self.view_is

pub returns-in-Refused-clause-keeps : goal.returns-in-Refused-clause-keeps
returns-in-Refused-clause-keeps c = keeps_all c.put_refusal.result (the_view c.self.inside) c.args.self.now c.self.view_is
