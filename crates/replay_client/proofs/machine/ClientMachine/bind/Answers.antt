use Rattle.std.proofs.Common.{ℕ, ◌-◌, ◌≤◌, List, [], ◌∷◌, length, get_or, set, ap, sym, ◌∙◌, arith, ◌≡◌, ◌<◌, Option, Some, None, true, false, refl}
use Rattle.std.proofs.lemmas.Bool.{cond-true, cond-false, le-leb, lt-leb}
use Rattle.binder.specs.Interfaces.{bind_data}
use Rattle.call_rules.specs.Packet.{Call}
use Rattle.call_rules.specs.Caller.{is_idle, current_call}
use Rattle.replay_model.specs.Record.{TooFast, Binds}
use Rattle.replay_model.specs.Process.{Line, LineStep, binds}
use Rattle.replay_model.specs.World.{World, Client, numbered, number_limit, test_name}
use Rattle.replay_model.specs.Step.{Outcome, with_client, impossible, does, starts_bind, too_fast, next_call, bind_by, behind, with_line}
use Rattle.replay_client.specs.contracts.machine.ClientMachine.{the_view}
use Rattle.replay_client.specs.declared.told.Told.{Told}
use Rattle.replay_client.specs.Told.{StepsAs}
use Rattle.replay_client.specs.Client.{BeginsAs}
use Rattle.replay_client.proofs.Steps.{told_outcome}
use Rattle.replay_client.proofs.Numbered.{numbered-none, numbered-some, set-same}
use Rattle.replay_client.proofs.machine.ClientMachine.bind.Goals as goal

bind_by-none : (w : World) (machine process : ℕ) (c : Client) (name : List ℕ) → numbered 1 c.lines process ≡ None → bind_by w machine process c (numbered 1 c.lines process) name ≡ impossible w
unfolding bind_by
bind_by-none w machine process c name h = ap (λ (o : Option Line). bind_by w machine process c o name) h

bind_by-busy : (w : World) (machine process : ℕ) (c : Client) (l : Line) (name : List ℕ) → numbered 1 c.lines process ≡ Some l → is_idle l.caller.state ≡ false → bind_by w machine process c (numbered 1 c.lines process) name ≡ impossible w
unfolding bind_by
bind_by-busy w machine process c l name h idle = ap (λ (o : Option Line). bind_by w machine process c o name) h ∙ cond-false _ _ _ idle

bind_by-fast : (w : World) (machine process : ℕ) (c : Client) (l : Line) (name : List ℕ) → numbered 1 c.lines process ≡ Some l → is_idle l.caller.state ≡ true → number_limit w.second ≤ l.next → bind_by w machine process c (numbered 1 c.lines process) name ≡ too_fast w machine c l
unfolding bind_by
bind_by-fast w machine process c l name h idle late =
    ap (λ (o : Option Line). bind_by w machine process c o name) h ∙ (cond-true _ _ _ idle ∙ cond-true _ _ _ (le-leb _ _ late))

bind_by-starts : (w : World) (machine process : ℕ) (c : Client) (l : Line) (name : List ℕ) → numbered 1 c.lines process ≡ Some l → is_idle l.caller.state ≡ true → l.next < number_limit w.second → bind_by w machine process c (numbered 1 c.lines process) name ≡ starts_bind w machine process c l name
unfolding bind_by
bind_by-starts w machine process c l name h idle soon =
    ap (λ (o : Option Line). bind_by w machine process c o name) h ∙ (cond-true _ _ _ idle ∙ cond-false _ _ _ (lt-leb _ _ soon))

-- a bind takes the number of the call that was due next
begun_bind : (me : ℕ) (l : Line) (bytes : List ℕ) → current_call (binds me l bytes).line.caller ≡ next_call l
unfolding binds
begun_bind me l bytes = refl

bind_by-started : (w : World) (machine process : ℕ) (c : Client) (l new : Line) (name : List ℕ) (after : Client) (told : Told) (bytes : List ℕ) → numbered 1 c.lines process ≡ Some l → is_idle l.caller.state ≡ true → l.next < number_limit w.second → after ≡ with_line (record c { read = w.second }) process new → bytes ≡ bind_data (test_name name) → StepsAs new told (binds machine l bytes) → BeginsAs (with_client w machine after) told (bind_by w machine process c (numbered 1 c.lines process) name)
bind_by-started w machine process c l new name after told bytes h idle soon client eb steps =
    let s : LineStep = binds machine l (bind_data (test_name name)) in
    let g : StepsAs new told s = rw eb at steps in
    let first : Outcome = does w machine process (record c { read = w.second }) s in
    record {
      first = first;
      tells = rw client (told_outcome w machine process (record c { read = w.second }) new told s g);
      outcome =
          bind_by-starts w machine process c l name h idle soon
          ∙ ap (λ (x : Call). behind (Binds x) first) (sym (g.call ∙ begun_bind machine l (bind_data (test_name name))));
    }

pub returns-then-place-len-clause-outcome : goal.returns-then-place-len-clause-outcome
returns-then-place-len-clause-outcome c w =
    let self : Client = the_view c.self.inside in
    let past : length c.self.inside.lines.items ≤ c.args.process - 1 = omega (arith, c.self.inside.lines.ok.0) in
    rw (← c.self.view_is) (bind_by-none (record w { second = c.args.second }) c.args.me.machine c.args.process self c.args.name.now (numbered-none 1 c.self.inside.lines.items c.args.process (omega arith) past))

pub returns-then-not-is_idle-clause-outcome : goal.returns-then-not-is_idle-clause-outcome
returns-then-not-is_idle-clause-outcome c w =
    let self : Client = the_view c.self.inside in
    let items = c.self.inside.lines.items in
    let line = c.index_mut-line.result.now in
    let some = numbered-some 1 items c.args.process line (omega arith) (omega (arith, c.self.inside.lines.ok.0)) (c.index_mut-line.ensures.value ∙ ap (λ (i : ℕ). get_or items (i - 1) line) c.from-place.ensures) in
    rw (← c.self.view_is) (bind_by-busy (record w { second = c.args.second }) c.args.me.machine c.args.process self line c.args.name.now some (sym c.is_idle.ensures ∙ c.if-not-is_idle.true))

pub returns-in_default-clause-outcome : goal.returns-in_default-clause-outcome
returns-in_default-clause-outcome c w =
    let self : Client = the_view c.self.inside in
    let items = c.self.inside.lines.items in
    let line = c.index_mut-line.result.now in
    let before : World = record w { second = c.args.second } in
    let some = numbered-some 1 items c.args.process line (omega arith) (omega (arith, c.self.inside.lines.ok.0)) (c.index_mut-line.ensures.value ∙ ap (λ (i : ℕ). get_or items (i - 1) line) c.from-place.ensures) in
    let outcome : List Line → ℕ → Outcome = λ lines next. record { world = with_client before c.args.me.machine (record self { read = c.args.second; lines = lines }); acts = TooFast line.caller.activity next c.args.second ∷ [] } in
    rw (← c.self.view_is) (
      line.caller.activity,
      bind_by-fast before c.args.me.machine c.args.process self line c.args.name.now some (sym c.is_idle.ensures ∙ c.if-not-is_idle.false) c.in_default.ensures
          ∙ (ap (λ (lines : List Line). outcome lines line.next) (sym (set-same items (c.from-place.result - 1) line c.index_mut-line.ensures.value))
          ∙ ap (outcome (set items (c.from-place.result - 1) line)) (sym c.next.ensures)),
    )

pub returns-clause-outcome : goal.returns-clause-outcome
returns-clause-outcome c w =
    let self : Client = the_view c.self.inside in
    let items = c.self.inside.lines.items in
    let line = c.index_mut-line.result.now in
    let some = numbered-some 1 items c.args.process line (omega arith) (omega (arith, c.self.inside.lines.ok.0)) (c.index_mut-line.ensures.value ∙ ap (λ (i : ℕ). get_or items (i - 1) line) c.from-place.ensures) in
    rw (← c.self.view_is)
    (bind_by-started (record w { second = c.args.second }) c.args.me.machine c.args.process self line c.bind.new.self c.args.name.now _ c.in_ok-told.told _ some (sym c.is_idle.ensures ∙ c.if-not-is_idle.false) c.in-Some.ensures.1
    (ap (λ (i : ℕ). record self { read = c.args.second; lines = set items (i - 1) c.bind.new.self }) c.from-place.ensures)
    c.in_ok-bind_data_of.ensures.bytes c.in_ok-told.ensures)
