use Rattle.std.proofs.Common.{◌≡◌, ℕ, ◌-◌, ◌≤◌, length, None, get_or, set, ap, sym, ◌∙◌, arith, ◌+◌, ◌<◌, [], ◌∷◌, Option, Some, true, false}
use Rattle.std.proofs.lemmas.Bool.{cond-true, cond-false, le-leb, lt-leb}
use Rattle.rpc_header.specs.declared.Activity.{Activity}
use Rattle.call_rules.specs.Caller.{is_idle}
use Rattle.replay_model.specs.Process.{Line}
use Rattle.replay_model.specs.World.{World, Client, numbered}
use Rattle.replay_model.specs.Record.{Skips}
use Rattle.replay_model.specs.Step.{impossible, skips, last_number, skip_by, with_client, with_line}
use Rattle.replay_client.specs.contracts.machine.ClientMachine.{the_view}
use Rattle.replay_client.proofs.Numbered.{numbered-none, numbered-some}
use Rattle.replay_client.proofs.machine.ClientMachine.skip.Goals as goal

skip_by-none : (w : World) (machine process : ℕ) (c : Client) (by : ℕ) → numbered 1 c.lines process ≡ None → skip_by w machine process c (numbered 1 c.lines process) by ≡ impossible w
unfolding skip_by
skip_by-none w machine process c by h = ap (λ (o : Option Line). skip_by w machine process c o by) h

skip_by-busy : (w : World) (machine process : ℕ) (c : Client) (l : Line) (by : ℕ) → numbered 1 c.lines process ≡ Some l → is_idle l.caller.state ≡ false → skip_by w machine process c (numbered 1 c.lines process) by ≡ impossible w
unfolding skip_by
skip_by-busy w machine process c l by h idle = ap (λ (o : Option Line). skip_by w machine process c o by) h ∙ cond-false _ _ _ idle

skip_by-past : (w : World) (machine process : ℕ) (c : Client) (l : Line) (by : ℕ) → numbered 1 c.lines process ≡ Some l → is_idle l.caller.state ≡ true → last_number < l.next + by → skip_by w machine process c (numbered 1 c.lines process) by ≡ impossible w
unfolding skip_by
skip_by-past w machine process c l by h idle past =
    ap (λ (o : Option Line). skip_by w machine process c o by) h ∙ (cond-true _ _ _ idle ∙ cond-false _ _ _ (lt-leb _ _ past))

skip_by-skips : (w : World) (machine process : ℕ) (c after : Client) (l new : Line) (by next : ℕ) (activity : Activity) → numbered 1 c.lines process ≡ Some l → is_idle l.caller.state ≡ true → next ≡ l.next + by → next ≤ last_number → new ≡ record l { next = next } → activity ≡ l.caller.activity → after ≡ with_line c process new → skip_by w machine process c (numbered 1 c.lines process) by
    ≡ record { world = with_client w machine after; acts = Skips activity next ∷ [] }
unfolding skip_by
skip_by-skips w machine process c after l new by next activity h idle en within is ea client =
    ap (λ (o : Option Line). skip_by w machine process c o by) h
    ∙ (cond-true _ _ _ idle
    ∙ (ap (skips w machine process c l) (sym en)
    ∙ (cond-true _ _ _ (le-leb _ _ within)
    ∙ (ap (λ (x : Client). record { world = with_client w machine x; acts = Skips l.caller.activity next ∷ [] })
    (sym (client ∙ ap (λ (x : Line). with_line c process x) is))
    ∙ ap (λ (x : Activity). record { world = with_client w machine after; acts = Skips x next ∷ [] }) (sym ea)))))

pub returns-then-place-len-clause-outcome : goal.returns-then-place-len-clause-outcome
returns-then-place-len-clause-outcome c w machine =
    let self : Client = the_view c.self.inside in
    let past : length c.self.inside.lines.items ≤ c.args.process - 1 = omega (arith, c.self.inside.lines.ok.0) in
    rw (← c.self.view_is) (skip_by-none w machine c.args.process self c.args.by (numbered-none 1 c.self.inside.lines.items c.args.process (omega arith) past))

pub returns-then-not-is_idle-clause-outcome : goal.returns-then-not-is_idle-clause-outcome
returns-then-not-is_idle-clause-outcome c w machine =
    let self : Client = the_view c.self.inside in
    let items = c.self.inside.lines.items in
    let line = c.index_mut-line.result.now in
    let some = numbered-some 1 items c.args.process line (omega arith) (omega (arith, c.self.inside.lines.ok.0)) (c.index_mut-line.ensures.value ∙ ap (λ (i : ℕ). get_or items (i - 1) line) c.from-place.ensures) in
    rw (← c.self.view_is) (skip_by-busy w machine c.args.process self line c.args.by some (sym c.is_idle.ensures ∙ c.if-not-is_idle.true))

pub returns-in_err-next-clause-outcome : goal.returns-in_err-next-clause-outcome
returns-in_err-next-clause-outcome c w machine =
    let self : Client = the_view c.self.inside in
    let items = c.self.inside.lines.items in
    let line = c.index_mut-line.result.now in
    let some = numbered-some 1 items c.args.process line (omega arith) (omega (arith, c.self.inside.lines.ok.0)) (c.index_mut-line.ensures.value ∙ ap (λ (i : ℕ). get_or items (i - 1) line) c.from-place.ensures) in
    rw (← c.self.view_is, c.from_residual.ensures)
    (skip_by-past w machine c.args.process self line c.args.by some (sym c.is_idle.ensures ∙ c.if-not-is_idle.false) c.in_err-next.ensures.0)

pub returns-clause-outcome : goal.returns-clause-outcome
returns-clause-outcome c w machine =
    let self : Client = the_view c.self.inside in
    let items = c.self.inside.lines.items in
    let line = c.index_mut-line.result.now in
    let some = numbered-some 1 items c.args.process line (omega arith) (omega (arith, c.self.inside.lines.ok.0)) (c.index_mut-line.ensures.value ∙ ap (λ (i : ℕ). get_or items (i - 1) line) c.from-place.ensures) in
    rw (← c.self.view_is)
    (skip_by-skips w machine c.args.process self _ line c.skip.new.self c.args.by c.in_ok-next.next c.activity-activity.result some (sym c.is_idle.ensures ∙ c.if-not-is_idle.false) c.in_ok-next.ensures.0 c.in_ok-next.ensures.1 c.in_ok-next.ensures.2 c.activity-activity.ensures
    (ap (λ (i : ℕ). record self { lines = set items (i - 1) c.skip.new.self }) c.from-place.ensures))
