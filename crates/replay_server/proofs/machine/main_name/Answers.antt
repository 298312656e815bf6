use Rattle.std.proofs.Common.{List, ℕ, [], Option, ap, sym, subst, refl, ◌∙◌}
use Rattle.std.specs.Prelude.{unwrap_or}
use Rattle.std.specs.Option.{IsSome}
use Rattle.replay_model.specs.World.{test_name}
use Rattle.replay_server.proofs.machine.main_name.Goals as goal

pub unwrap-requires : goal.unwrap-requires
unwrap-requires c = subst (λ (o : Option (List ℕ)). IsSome o) (sym c.read_name.ensures) refl

pub returns : goal.returns
returns c =
    c.test_name.ensures ∙ ap (λ (o : Option (List ℕ)). test_name (unwrap_or o [])) (sym c.unwrap.ensures ∙ c.read_name.ensures)
