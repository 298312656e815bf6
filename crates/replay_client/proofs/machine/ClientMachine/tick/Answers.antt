use Rattle.std.proofs.Common.{ℕ, ◌-◌, get_or, set, ap, ◌∙◌, arith, ◌≡◌, Option, Some, sym, subst}
use Rattle.replay_model.specs.World.{Client, World, numbered}
use Rattle.replay_model.specs.Process.{Line, ticked}
use Rattle.replay_model.specs.Step.{does, ticks_line, with_client, with_line}
use Rattle.replay_client.specs.contracts.machine.ClientMachine.{the_view}
use Rattle.replay_client.specs.declared.told.Told.{Told}
use Rattle.replay_client.specs.Told.{StepsAs, TellsAs}
use Rattle.replay_client.proofs.Steps.{told_outcome}
use Rattle.replay_client.proofs.Numbered.{numbered-some}
use Rattle.replay_client.proofs.machine.ClientMachine.tick.Goals as goal

ticked_line : (w : World) (machine process : ℕ) (c after : Client) (l new : Line) (told : Told) → numbered 1 c.lines process ≡ Some l → after ≡ with_line c process new → StepsAs new told (ticked machine l) → TellsAs (with_client w machine after) told (ticks_line w machine process c (numbered 1 c.lines process))
ticked_line w machine process c after l new told h client steps =
    subst (λ (o : Option Line). TellsAs (with_client w machine after) told (ticks_line w machine process c o)) (sym h)
    (subst (λ (x : Client). TellsAs (with_client w machine x) told (does w machine process c (ticked machine l))) (sym client)
    (told_outcome w machine process c new told (ticked machine l) steps))

pub returns-clause-outcome : goal.returns-clause-outcome
returns-clause-outcome c w =
    let items = c.self.inside.lines.items in
    let self : Client = the_view c.self.inside in
    let line = c.index_mut.result.now in
    let some = numbered-some 1 items c.args.process line (omega arith) (omega (arith, c.self.inside.lines.ok.0)) (c.index_mut.ensures.value ∙ ap (λ (i : ℕ). get_or items (i - 1) line) c.from-place.ensures) in
    rw (← c.self.view_is)
    (ticked_line w c.args.me.machine c.args.process self _ line c.tick.new.self c.in_ok-told.told some
    (ap (λ (i : ℕ). record self { lines = set items (i - 1) c.tick.new.self }) c.from-place.ensures)
    c.in_ok-told.ensures)
