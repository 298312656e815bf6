use Rattle.std.proofs.Common.{◌∙◌, ap}
use Rattle.std.specs.Prelude.{codes}
use Rattle.std.specs.Fmt.{decimal}
use Rattle.std.proofs.lemmas.Result.{on_ok_weaker}
use Rattle.call_rules.specs.Packet.{call_of}
use Rattle.call_rules.specs.declared.caller.TheConstants.{TRIES}
use Rattle.replay_model.specs.Lines.{blank, newline, call_text}
use Rattle.replay_lines.specs.Page.{written}
use Rattle.replay_lines.proofs.Texts.{regroup_five}
use Rattle.replay_lines.proofs.calls.put_bind_failure.Goals as goal

pub returns : goal.returns
returns c =
    on_ok_weaker c.writeln.result (λ e. e ∙ ap (written c.args.out.now)
    (regroup_five (codes "bindfailed ") (call_text (call_of c.args.call)) blank (decimal TRIES) newline)) c.writeln.ensures
