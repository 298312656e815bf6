use Rattle.std.proofs.Common.{◌≡◌, ℕ, List, [], ◌∷◌, ◌++◌, replicate, ap, ◌∙◌, arith}
use Rattle.std.proofs.lemmas.List.{replicate-append-replicate}
use Rattle.call_rules.specs.Worker.{Worker, Resting}
use Rattle.replay_model.specs.declared.limits.TheConstants.{LAST_WORKER}
use Rattle.replay_server.proofs.machine.boot_workers.Goals as goal

pub loop-worker-init : goal.loop-worker-init
loop-worker-init c = c.new-workers.ensures.items

pub loop-worker-preserved : goal.loop-worker-preserved
loop-worker-preserved c =
    c.in_ok-push.ensures.items
    ∙ (ap (λ (ws : List Worker). ws ++ c.idle.result ∷ []) c.loop-worker.invariant
    ∙ (ap (λ (w : Worker). replicate c.loop-worker._worker Resting ++ w ∷ []) c.idle.ensures
    ∙ replicate-append-replicate c.loop-worker._worker 1 Resting))

pub returns : goal.returns
returns c =
    let all : c.loop-worker._worker ≡ LAST_WORKER = omega arith in
    c.loop-worker.invariant ∙ ap (λ (n : ℕ). replicate n Resting) all
