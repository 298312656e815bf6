use Rattle.std.proofs.Common.{ap, refl, ◌∙◌}
use Rattle.call_rules.specs.Packet.{Fields}
use Rattle.call_rules.specs.Entry.{Running}
use Rattle.replay_server.proofs.task_rules.admits.Goals as goal

pub returns : goal.returns
returns c old =
    record {
      worker = refl;
      entry = c.new.ensures ∙ ap (λ (x : Fields). Running x.call.number) c.header.ensures.fields;
      did = refl;
      adds = refl;
    }
