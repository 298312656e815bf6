use Rattle.std.proofs.Common.{◌≡◌, ℕ, ◌+◌, ◌-◌, Option, ap, subst, arith}
use Rattle.std.proofs.lemmas.Result.{IfOk-weaker}
use Rattle.replay_model.specs.World.{World, Server}
use Rattle.replay_model.specs.Step.{claims_next}
use Rattle.replay_server.specs.declared.step.Stepped.{Stepped}
use Rattle.replay_server.specs.declared.step.Worked.{Worked}
use Rattle.replay_server.specs.GoesOn.{GoesOnAt}
use Rattle.replay_server.specs.Stepped.{WorksAs, KeepsIdle}
use Rattle.replay_server.proofs.Served.{no_worker, task_works, idle_works, is_idle, as_before}
use Rattle.replay_server.proofs.machine.ServerMachine.work.Goals as goal

pub returns-then-place-worker_count-clause-outcome : goal.returns-then-place-worker_count-clause-outcome
returns-then-place-worker_count-clause-outcome c w =
    no_worker (record w { server = c.args.self.now }) c.args.self.now.workers c.args.number (c.args.number - 1) c.requires (omega arith) (omega (arith, c.worker_count.ensures, c.from-place.ensures, c.if-place-worker_count.true))

pub returns-in-Some-clause-outcome : goal.returns-in-Some-clause-outcome
returns-in-Some-clause-outcome c w =
    task_works w c.args.self.now c.go_on.new.self c.args.number (c.from-place.result - 1) c.in-Some.stepped c.requires
    (ap (λ (n : ℕ). n - 1) c.from-place.ensures) (subst (λ (x : Option Stepped). GoesOnAt (c.from-place.result - 1) c.args.self.now c.go_on.new.self x) c.in-Some.is c.in_ok-done.ensures)

pub returns-in-None-clause-outcome : goal.returns-in-None-clause-outcome
returns-in-None-clause-outcome c =
    let same : c.go_on.new.self ≡ c.args.self.now = as_before c.args.self.now c.go_on.new.self (c.from-place.result - 1) (subst (λ (x : Option Stepped). GoesOnAt (c.from-place.result - 1) c.args.self.now c.go_on.new.self x) c.in-None.is c.in_ok-done.ensures) in
    let P : Worked → Type 0 = λ worked. (w : World) → WorksAs (record w { server = c.go_on.new.self }) (c.from-place.result - 1 + 1) c.claim_next.new.self worked (claims_next (record w { server = c.go_on.new.self }) (c.from-place.result - 1 + 1) c.go_on.new.self.ready) in
    IfOk-weaker _ P _
    (λ worked h w. idle_works worked w c.args.self.now c.go_on.new.self c.claim_next.new.self c.args.number (c.from-place.result - 1) c.requires (ap (λ (n : ℕ). n - 1) c.from-place.ensures)
    (is_idle c.args.self.now c.go_on.new.self (c.from-place.result - 1) (subst (λ (x : Option Stepped). GoesOnAt (c.from-place.result - 1) c.args.self.now c.go_on.new.self x) c.in-None.is c.in_ok-done.ensures)) same (h w))
    c.claim_next.ensures.outcome

pub returns-in-None-clause-idle : goal.returns-in-None-clause-idle
returns-in-None-clause-idle c =
    let same : c.go_on.new.self ≡ c.args.self.now = as_before c.args.self.now c.go_on.new.self (c.from-place.result - 1) (subst (λ (x : Option Stepped). GoesOnAt (c.from-place.result - 1) c.args.self.now c.go_on.new.self x) c.in-None.is c.in_ok-done.ensures) in
    IfOk-weaker _ _ _ (λ worked h. subst (λ (s : Server). KeepsIdle worked s c.claim_next.new.self) same h) c.claim_next.ensures.idle
