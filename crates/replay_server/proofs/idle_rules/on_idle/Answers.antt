use Rattle.std.proofs.Common.{◌≡◌, Option, ap}
use Rattle.std.specs.Option.{option_map}
use Rattle.std.proofs.lemmas.Result.{IfOk-weaker}
use Rattle.call_rules.specs.Packet.{Fields}
use Rattle.call_rules.specs.Entry.{Entry, word_of, word_seen}
use Rattle.call_rules.specs.Worker.{on_kind}
use Rattle.replay_model.specs.Step.{asked_of}
use Rattle.replay_server.specs.Rules.{Keeps}
use Rattle.replay_server.specs.declared.step.Step.{Step}
use Rattle.replay_server.proofs.Rows.{keeps_as, idle_as}
use Rattle.replay_server.proofs.idle_rules.on_idle.Goals as goal

pub returns : goal.returns
returns c =
    let P : Step → Type 0 = λ step. (e : Option Entry) → option_map word_of e ≡ option_map word_seen c.args.seen → Keeps c.args.packet.now (on_kind c.header.result.now.kind (asked_of c.args.exports.now.rows c.args.packet.now) e c.args.packet.now) step in
    IfOk-weaker _ P _ (λ step h e seen. keeps_as c.args.packet.now _ _ step (idle_as _ e c.args.packet.now _ (ap (λ (x : Fields). x.kind) c.header.ensures.fields)) (h e seen)) c.on_kind.ensures
