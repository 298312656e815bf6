use Rattle.std.proofs.Common.{◌∙◌, ap}
use Rattle.std.specs.Prelude.{codes}
use Rattle.std.specs.Fmt.{decimal}
use Rattle.std.proofs.lemmas.Result.{on_ok_weaker}
use Rattle.call_rules.specs.Packet.{fields_of}
use Rattle.replay_model.specs.Lines.{blank, newline, header_text}
use Rattle.replay_lines.specs.Page.{written}
use Rattle.replay_lines.proofs.Texts.{regroup_eleven}
use Rattle.replay_lines.proofs.packets.put_packet.Goals as goal

pub returns : goal.returns
returns c =
    on_ok_weaker c.writeln.result (λ e. e ∙ ap (written c.args.out.now)
    (regroup_eleven (codes "packet ") (decimal c.args.number) blank (decimal c.args.from) (codes ">") (decimal c.args.to) blank
    (header_text (fields_of c.args.header.now)) blank (decimal c.args.len) newline)) c.writeln.ensures
