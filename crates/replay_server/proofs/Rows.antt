-- Steps that are rows' steps.
use Rattle.std.proofs.Common.{◌≡◌, ℕ, ◌+◌, ◌<◌, ◌==◌, List, ◌++◌, Option, Bool, true, false, ap, sym, subst, ◌∙◌, refl, arith}
use Rattle.std.specs.Prelude.{unwrap_or}
use Rattle.std.proofs.lemmas.Bool.{cond-true, cond-false, eq-eqb, le-ltb, lt-ltb}
use Rattle.std.proofs.lemmas.Bool.Decides.{nat_tests}
use Rattle.rpc_header.specs.declared.Kind.{Kind}
use Rattle.call_rules.specs.Packet.{Packet}
use Rattle.call_rules.specs.Entry.{Entry, Gather, Filling, Word, word_of, is_same_word, judge}
use Rattle.call_rules.specs.declared.entry.Judged.{Judged}
use Rattle.call_rules.specs.declared.worker.Did.{Did}
use Rattle.call_rules.specs.declared.worker.Did.TheVariants as did
use Rattle.call_rules.specs.declared.worker.Unfit.{Unfit}
use Rattle.call_rules.specs.declared.worker.Unfit.TheVariants as unfit
use Rattle.call_rules.specs.Worker.{Asked, admits, drops, on_idle, on_kind, on_claimed, on_judged_claim, on_took}
use Rattle.call_rules.specs.Worker as rules
use Rattle.replay_server.specs.Rules.{Keeps, Exchanges}
use Rattle.replay_server.specs.Stepped.{StandsFor}
use Rattle.replay_server.specs.Worker.{worker_after}
use Rattle.replay_server.specs.declared.step.Adds.{Adds}
use Rattle.replay_server.specs.declared.step.Adds.TheVariants as added
use Rattle.replay_server.specs.declared.step.Step.{Step}

pub keeps_as : (p : Packet) (a b : rules.Step) (step : Step) → a ≡ b → Keeps p a step → Keeps p b step
keeps_as p a b step e h = subst (λ (row : rules.Step). Keeps p row step) e h

pub exchanges_as : (p : Packet) (a b : rules.Step) (old new : Entry) (step : Step) → a ≡ b → Exchanges p a old new step → Exchanges p b old new step
exchanges_as p a b old new step e h = subst (λ (row : rules.Step). Exchanges p row old new step) e h

-- a packet was dropped
pub keeps_dropped : (p : Packet) (why : Unfit) (step : Step) → worker_after p step.next ≡ rules.Resting → step.did ≡ did.Drops why → step.adds ≡ added.Nothing → Keeps p (drops why) step
keeps_dropped p why step worker what nothing =
    record { worker = worker; entry = refl; did = what; adds = subst (λ (a : Adds). StandsFor a rules.Nothing) (sym nothing) refl }

-- a row that leaves the entry
pub keeps_entry : (p : Packet) (row : rules.Step) (e : Entry) (step : Step) → Keeps p row step → Exchanges p row e e step
keeps_entry p row e step h =
    record { worker = h.worker; entry = ap (λ (o : Option Entry). unwrap_or o e) (sym h.entry); did = h.did; adds = h.adds }

-- an idle worker's row, by the packet's kind
pub idle_as : (asked : Asked) (e : Option Entry) (p : Packet) (k : Kind) → k ≡ p.header.kind → on_kind k asked e p ≡ on_idle asked e p
unfolding on_idle
idle_as asked e p k h = ap (λ (x : Kind). on_kind x asked e p) h

-- the row of a claimed packet whose entry has changed since
pub claim_lost : (long : Bool) (p : Packet) (seen : Word) (e : Entry) → is_same_word (word_of e) seen ≡ false → drops unfit.Lost ≡ on_claimed long p seen e
unfolding on_claimed
claim_lost long p seen e h = sym (cond-false _ _ _ h)

-- the row of a claimed packet, by its judgement
pub claim_judged : (long : Bool) (p : Packet) (seen : Word) (e : Entry) (j : Judged) → is_same_word (word_of e) seen ≡ true → j ≡ judge seen p.header → on_judged_claim j long p e ≡ on_claimed long p seen e
unfolding on_claimed
claim_judged long p seen e j same h =
    ap (λ (x : Judged). on_judged_claim x long p e) h ∙ sym (cond-true _ _ _ same)

-- the entry is exchanged, and the packet is dropped
pub exchanges_dropped : (p : Packet) (why : Unfit) (e old new : Entry) (step : Step) → new ≡ e → worker_after p step.next ≡ rules.Resting → step.did ≡ did.Drops why → step.adds ≡ added.Nothing → Exchanges p (rules.exchanges rules.Resting e (did.Drops why)) old new step
exchanges_dropped p why e old new step entry worker what nothing =
    record { worker = worker; entry = entry; did = what; adds = subst (λ (a : Adds). StandsFor a rules.Nothing) (sym nothing) refl }

-- the entry is exchanged, and a packet is sent
pub exchanges_sent : (p sent answer : Packet) (what : Did) (e old new : Entry) (step : Step) → new ≡ e → worker_after p step.next ≡ rules.Resting → step.did ≡ what → step.adds ≡ added.Packet sent → sent ≡ answer → Exchanges p (rules.exchanges_and_sends e what answer) old new step
exchanges_sent p sent answer what e old new step entry worker did sends is =
    record { worker = worker; entry = entry; did = did; adds = subst (λ (a : Adds). StandsFor a (rules.APacket answer)) (sym sends) (ap (λ (x : Packet). rules.APacket x) (sym is)) }

-- The row of a worker that adds its packet's piece: of the last piece, of another that is due, of one that was gathered
-- before, and of one that isn't due yet.
pub took_whole : (p : Packet) (n : ℕ) (bytes whole : List ℕ) (next : ℕ) → p.header.fragment ≡ next → p.header.last ≡ true → whole ≡ bytes ++ p.payload → admits p whole ≡ on_took p (Filling n bytes next)
unfolding on_took
took_whole p n bytes whole next due last added =
    ap (λ (xs : List ℕ). admits p xs) added
    ∙ (sym (cond-true _ _ _ last) ∙ sym (cond-true (p.header.fragment == next) (rules.on_due p n bytes next) (rules.on_other p n bytes next) (eq-eqb _ _ due)))

pub took_more : (p : Packet) (n : ℕ) (bytes more : List ℕ) (next after : ℕ) → p.header.fragment ≡ next → p.header.last ≡ false → more ≡ bytes ++ p.payload → after ≡ next + 1 → rules.exchanges_and_sends (Gather n more after) did.Rests (rules.ack_packet p) ≡ on_took p (Filling n bytes next)
unfolding on_took
took_more p n bytes more next after due last added counted =
    ap (λ (xs : List ℕ). rules.exchanges_and_sends (Gather n xs after) did.Rests (rules.ack_packet p)) added
    ∙ (ap (λ (k : ℕ). rules.exchanges_and_sends (Gather n (bytes ++ p.payload) k) did.Rests (rules.ack_packet p)) counted
    ∙ (sym (cond-false _ _ _ last) ∙ sym (cond-true (p.header.fragment == next) (rules.on_due p n bytes next) (rules.on_other p n bytes next) (eq-eqb _ _ due))))

is_other : (a b : ℕ) → ¬ (a ≡ b) → (a == b) ≡ false
is_other a b other = grind (arith, nat_tests)

pub took_again : (p : Packet) (n : ℕ) (bytes same : List ℕ) (next kept : ℕ) → p.header.fragment < next → same ≡ bytes → kept ≡ next → rules.exchanges_and_sends (Gather n same kept) did.Rests (rules.ack_packet p) ≡ on_took p (Filling n bytes next)
unfolding on_took
took_again p n bytes same next kept past is still =
    ap (λ (xs : List ℕ). rules.exchanges_and_sends (Gather n xs kept) did.Rests (rules.ack_packet p)) is
    ∙ (ap (λ (k : ℕ). rules.exchanges_and_sends (Gather n bytes k) did.Rests (rules.ack_packet p)) still
    ∙ (sym (cond-true _ _ _ (lt-ltb p.header.fragment next past))
    ∙ sym (cond-false (p.header.fragment == next) (rules.on_due p n bytes next) (rules.on_other p n bytes next) (is_other p.header.fragment next (λ e. absurd (omega (arith, e, past)))))))

pub took_skipped : (p : Packet) (n : ℕ) (bytes same : List ℕ) (next kept : ℕ) → next < p.header.fragment → same ≡ bytes → kept ≡ next → rules.exchanges rules.Resting (Gather n same kept) (did.Drops unfit.Skipped) ≡ on_took p (Filling n bytes next)
unfolding on_took
took_skipped p n bytes same next kept ahead is still =
    ap (λ (xs : List ℕ). rules.exchanges rules.Resting (Gather n xs kept) (did.Drops unfit.Skipped)) is
    ∙ (ap (λ (k : ℕ). rules.exchanges rules.Resting (Gather n bytes k) (did.Drops unfit.Skipped)) still
    ∙ (sym (cond-false _ _ _ (le-ltb p.header.fragment next (omega arith)))
    ∙ sym (cond-false (p.header.fragment == next) (rules.on_due p n bytes next) (rules.on_other p n bytes next) (is_other p.header.fragment next (λ e. absurd (omega (arith, e, ahead)))))))
