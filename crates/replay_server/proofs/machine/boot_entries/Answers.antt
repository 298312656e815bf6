use Rattle.std.proofs.Common.{◌≡◌, ℕ, ◌*◌, List, [], ◌∷◌, ◌++◌, replicate, ap, ◌∙◌, arith}
use Rattle.std.proofs.lemmas.List.{replicate-append-replicate}
use Rattle.call_rules.specs.Entry.{Entry, Empty}
use Rattle.replay_model.specs.declared.limits.TheConstants.{CLIENTS, LAST_PROCESS}
use Rattle.replay_server.proofs.machine.boot_entries.Goals as goal

pub loop-entry-init : goal.loop-entry-init
loop-entry-init c = c.new-entries.ensures.items

pub loop-entry-preserved : goal.loop-entry-preserved
loop-entry-preserved c =
    c.in_ok-push.ensures.items
    ∙ (ap (λ (es : List Entry). es ++ c.empty.result ∷ []) c.loop-entry.invariant
    ∙ (ap (λ (e : Entry). replicate c.loop-entry._entry Empty ++ e ∷ []) c.empty.ensures
    ∙ replicate-append-replicate c.loop-entry._entry 1 Empty))

pub returns : goal.returns
returns c =
    let all : c.loop-entry._entry ≡ CLIENTS * LAST_PROCESS = omega arith in
    c.loop-entry.invariant ∙ ap (λ (n : ℕ). replicate n Empty) all
