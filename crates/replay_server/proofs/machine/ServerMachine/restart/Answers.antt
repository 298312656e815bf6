use Rattle.std.proofs.Common.{ℕ, ◌≤◌, ◌<◌, [], ◌∷◌, ap, sym, subst, refl, ◌∙◌}
use Rattle.std.proofs.lemmas.Bool.{cond-true, cond-false, le-ltb, lt-ltb}
use Rattle.replay_model.specs.declared.limits.TheConstants.{SERVER_MACHINE}
use Rattle.replay_model.specs.Record.{Restarts}
use Rattle.replay_model.specs.World.{World, Server}
use Rattle.replay_model.specs.Step.{Outcome}
use Rattle.replay_server.proofs.machine.ServerMachine.restart.Goals as goal

pub returns-then-second-self : goal.returns-then-second-self
returns-then-second-self c w =
    let early : c.args.second ≤ c.args.self.now.read = subst (λ (n : ℕ). c.args.second ≤ n) (ap (λ (s : Server). s.read) c.self.view_is) c.if-second-self.true in
    (cond-false _ _ _ (le-ltb c.args.self.now.read c.args.second early), refl)

pub returns : goal.returns
returns c w =
    let late : c.args.self.now.read < c.args.second = subst (λ (n : ℕ). n < c.args.second) (ap (λ (s : Server). s.read) c.self.view_is) c.if-second-self.false in
    let w' : World = record w { second = c.args.second; server = c.args.self.now } in
    let outcome : Server → Outcome = λ s. record { world = record w' { server = s }; acts = Restarts SERVER_MACHINE c.args.second ∷ [] } in
    cond-true _ _ _ (lt-ltb c.args.self.now.read c.args.second late)
    ∙ ap outcome (sym c.in_ok-boot_anew.ensures)
