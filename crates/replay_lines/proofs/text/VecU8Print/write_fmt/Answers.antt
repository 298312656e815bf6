use Rattle.std.proofs.Common.{rules, sym, Some}
use Rattle.std.proofs.KnownBytes.{Appends-of_writes}
use Rattle.std.proofs.Output.{if_some_weaken}
use Rattle.replay_lines.proofs.text.VecU8Print.write_fmt.Goals as goal

pub returns-in-Ok : goal.returns-in-Ok
returns-in-Ok g c =
    if_some_weaken (g.D.Display.output c.args.value) _ _ (λ bs written.
    let appended = Appends-of_writes (λ s. s.text.ghost_name) (λ s. Some s.text.now.items) _ bs _ written in
    let same = sym appended.0 in
    let bytes = appended.1 in
    search rules) c.in-Ok.ensures.writes
