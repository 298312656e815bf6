use Rattle.std.proofs.Common.{ℕ, ◌-◌, ◌≤◌, List, [], ◌∷◌, length, get_or, set, ap, sym, ◌∙◌, arith, ◌≡◌, ◌<◌, Option, Some, None, true, false, refl}
use Rattle.std.proofs.lemmas.Bool.{cond-true, cond-false, le-leb, lt-leb}
use Rattle.call_rules.specs.Caller.{is_idle, current_call}
use Rattle.replay_model.specs.Record.{TooFast}
use Rattle.replay_model.specs.Process.{Line, LineStep, started}
use Rattle.replay_model.specs.World.{World, Client, numbered, number_limit}
use Rattle.replay_model.specs.Step.{Outcome, with_client, impossible, does, starts, too_fast, next_call, call_by, with_line}
use Rattle.replay_model.specs.declared.event.CallWord.{CallWord}
use Rattle.replay_model.specs.Service.{procedure_of, arguments_of}
use Rattle.replay_client.specs.contracts.machine.ClientMachine.{the_view}
use Rattle.replay_client.specs.declared.told.Told.{Told}
use Rattle.replay_client.specs.Told.{StepsAs}
use Rattle.replay_client.specs.Client.{StartsAs}
use Rattle.replay_client.proofs.Steps.{told_outcome}
use Rattle.replay_client.proofs.Numbered.{numbered-none, numbered-some, set-same}
use Rattle.replay_client.proofs.machine.ClientMachine.call.Goals as goal

call_by-none : (w : World) (machine process : ℕ) (c : Client) (asked : CallWord) → numbered 1 c.lines process ≡ None → call_by w machine process c (numbered 1 c.lines process) asked ≡ impossible w
unfolding call_by
call_by-none w machine process c asked h = ap (λ (o : Option Line). call_by w machine process c o asked) h

-- the process has a call open
call_by-busy : (w : World) (machine process : ℕ) (c : Client) (l : Line) (asked : CallWord) → numbered 1 c.lines process ≡ Some l → is_idle l.caller.state ≡ false → call_by w machine process c (numbered 1 c.lines process) asked ≡ impossible w
unfolding call_by
call_by-busy w machine process c l asked h idle = ap (λ (o : Option Line). call_by w machine process c o asked) h ∙ cond-false _ _ _ idle

-- the numbers of the second are used up
call_by-fast : (w : World) (machine process : ℕ) (c : Client) (l : Line) (asked : CallWord) → numbered 1 c.lines process ≡ Some l → is_idle l.caller.state ≡ true → number_limit w.second ≤ l.next → call_by w machine process c (numbered 1 c.lines process) asked ≡ too_fast w machine c l
unfolding call_by
call_by-fast w machine process c l asked h idle late =
    ap (λ (o : Option Line). call_by w machine process c o asked) h ∙ (cond-true _ _ _ idle ∙ cond-true _ _ _ (le-leb _ _ late))

call_by-starts : (w : World) (machine process : ℕ) (c : Client) (l : Line) (asked : CallWord) → numbered 1 c.lines process ≡ Some l → is_idle l.caller.state ≡ true → l.next < number_limit w.second → call_by w machine process c (numbered 1 c.lines process) asked ≡ starts w machine process c l asked
unfolding call_by
call_by-starts w machine process c l asked h idle soon =
    ap (λ (o : Option Line). call_by w machine process c o asked) h ∙ (cond-true _ _ _ idle ∙ cond-false _ _ _ (lt-leb _ _ soon))

-- a start makes the call that was due next
started_call : (me : ℕ) (l : Line) (procedure : ℕ) (arguments : List ℕ) → current_call (started me l procedure arguments).line.caller ≡ next_call l
unfolding started
started_call me l procedure arguments = refl

call_by-started : (w : World) (machine process : ℕ) (c : Client) (l new : Line) (asked : CallWord) (after : Client) (told : Told) (procedure : ℕ) (arguments : List ℕ) → numbered 1 c.lines process ≡ Some l → is_idle l.caller.state ≡ true → l.next < number_limit w.second → after ≡ with_line (record c { read = w.second }) process new → procedure ≡ procedure_of asked → arguments ≡ arguments_of asked → StepsAs new told (started machine l procedure arguments) → StartsAs (with_client w machine after) told (call_by w machine process c (numbered 1 c.lines process) asked)
call_by-started w machine process c l new asked after told procedure arguments h idle soon client ep ea steps =
    let s : LineStep = started machine l (procedure_of asked) (arguments_of asked) in
    let g : StepsAs new told s = rw (ep, ea) at steps in
    record {
      start = record { call = next_call l; export = l.binding; procedure = procedure_of asked; arguments = arguments_of asked };
      call = sym (started_call machine l (procedure_of asked) (arguments_of asked)) ∙ sym g.call;
      first = does w machine process (record c { read = w.second }) s;
      tells = rw client (told_outcome w machine process (record c { read = w.second }) new told s g);
      outcome = call_by-starts w machine process c l asked h idle soon;
    }

pub returns-then-place-len-clause-outcome : goal.returns-then-place-len-clause-outcome
returns-then-place-len-clause-outcome c w =
    let self : Client = the_view c.self.inside in
    let past : length c.self.inside.lines.items ≤ c.args.process - 1 = omega (arith, c.self.inside.lines.ok.0) in
    rw (← c.self.view_is) (call_by-none (record w { second = c.args.second }) c.args.me.machine c.args.process self c.args.word (numbered-none 1 c.self.inside.lines.items c.args.process (omega arith) past))

pub returns-then-not-is_idle-clause-outcome : goal.returns-then-not-is_idle-clause-outcome
returns-then-not-is_idle-clause-outcome c w =
    let self : Client = the_view c.self.inside in
    let items = c.self.inside.lines.items in
    let line = c.index_mut-line.result.now in
    let some = numbered-some 1 items c.args.process line (omega arith) (omega (arith, c.self.inside.lines.ok.0)) (c.index_mut-line.ensures.value ∙ ap (λ (i : ℕ). get_or items (i - 1) line) c.from-place.ensures) in
    rw (← c.self.view_is) (call_by-busy (record w { second = c.args.second }) c.args.me.machine c.args.process self line c.args.word some (sym c.is_idle.ensures ∙ c.if-not-is_idle.true))

pub returns-in_default-clause-outcome : goal.returns-in_default-clause-outcome
returns-in_default-clause-outcome c w =
    let self : Client = the_view c.self.inside in
    let items = c.self.inside.lines.items in
    let line = c.index_mut-line.result.now in
    let before : World = record w { second = c.args.second } in
    let some = numbered-some 1 items c.args.process line (omega arith) (omega (arith, c.self.inside.lines.ok.0)) (c.index_mut-line.ensures.value ∙ ap (λ (i : ℕ). get_or items (i - 1) line) c.from-place.ensures) in
    let outcome : List Line → ℕ → Outcome = λ lines next. record { world = with_client before c.args.me.machine (record self { read = c.args.second; lines = lines }); acts = TooFast line.caller.activity next c.args.second ∷ [] } in
    rw (← c.self.view_is) (
      line.caller.activity,
      call_by-fast before c.args.me.machine c.args.process self line c.args.word some (sym c.is_idle.ensures ∙ c.if-not-is_idle.false) c.in_default.ensures
          ∙ (ap (λ (lines : List Line). outcome lines line.next) (sym (set-same items (c.from-place.result - 1) line c.index_mut-line.ensures.value))
          ∙ ap (outcome (set items (c.from-place.result - 1) line)) (sym c.next.ensures)),
    )

pub returns-clause-outcome : goal.returns-clause-outcome
returns-clause-outcome c w =
    let self : Client = the_view c.self.inside in
    let items = c.self.inside.lines.items in
    let line = c.index_mut-line.result.now in
    let some = numbered-some 1 items c.args.process line (omega arith) (omega (arith, c.self.inside.lines.ok.0)) (c.index_mut-line.ensures.value ∙ ap (λ (i : ℕ). get_or items (i - 1) line) c.from-place.ensures) in
    rw (← c.self.view_is)
    (call_by-started (record w { second = c.args.second }) c.args.me.machine c.args.process self line c.call.new.self c.args.word _ c.in_ok-told.told _ _ some (sym c.is_idle.ensures ∙ c.if-not-is_idle.false) c.in-Some.ensures.1
    (ap (λ (i : ℕ). record self { read = c.args.second; lines = set items (i - 1) c.call.new.self }) c.from-place.ensures)
    c.procedure_of.ensures c.in_ok-arguments.ensures.bytes c.in_ok-told.ensures)
