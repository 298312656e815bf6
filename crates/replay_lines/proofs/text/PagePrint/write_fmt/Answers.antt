use Rattle.std.proofs.Common.{ap, sym, ◌∙◌}
use Rattle.std.proofs.Output.{if_some_weaken}
use Rattle.std.proofs.lemmas.Result.{on_ok_weaker}
use Rattle.replay_lines.specs.Page.{Page}
use Rattle.replay_lines.specs.contracts.text.Page.{the_view}
use Rattle.replay_lines.proofs.Pages.{blank_is_written, text_is_written}
use Rattle.replay_lines.proofs.text.PagePrint.write_fmt.Goals as goal

pub returns-then-self : goal.returns-then-self
returns-then-self g c =
    blank_is_written c.args.self.now (ap (λ (p : Page). p.blank) (sym c.self.view_is) ∙ c.if-self.true) (g.D.Display.output c.args.value)

pub returns : goal.returns
returns g c =
    rw (← c.self.view_is)
    (on_ok_weaker c.write_fmt.result
    (λ appended. if_some_weaken (g.D.Display.output c.args.value) _ _ (λ bytes grown. text_is_written (the_view c.self.inside) c.if-self.false c.write_fmt.new.self.items bytes grown) appended)
    c.write_fmt.ensures)
