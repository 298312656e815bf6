use Rattle.std.proofs.Common.{◌≡◌, ℕ, Some, ◌+◌, ◌-◌, ◌≤◌, length, get_or, set, ap, ◌∙◌, arith, None, sym, subst}
use Rattle.std.proofs.lemmas.Result.{IfOk-weaker}
use Rattle.call_rules.specs.Packet.{Packet}
use Rattle.replay_packets.specs.Packet.{packet_of}
use Rattle.replay_model.specs.World.{World, Client, numbered}
use Rattle.replay_model.specs.Step.{client_takes, line_takes, with_line, Outcome, discarded}
use Rattle.replay_model.specs.declared.discard.Discard.TheVariants as why
use Rattle.replay_model.specs.Process.{Line}
use Rattle.replay_client.specs.contracts.machine.ClientMachine.{the_view}
use Rattle.replay_client.specs.Client.{TookAs}
use Rattle.replay_client.specs.declared.line.Took.{Took}
use Rattle.replay_client.proofs.Numbered.{numbered-none, numbered-some}
use Rattle.replay_client.proofs.machine.ClientMachine.take.Goals as goal

client_takes-none : (w : World) (k : ℕ) (p : Packet) (c : Client) → numbered 1 c.lines (p.header.hint + 1) ≡ None → client_takes w k p (Some c) ≡ discarded w why.NoCell
unfolding client_takes line_takes
client_takes-none w k p c h = ap (line_takes w k p c) h

client_takes-some : (w : World) (k : ℕ) (p : Packet) (c : Client) (l : Line) → numbered 1 c.lines (p.header.hint + 1) ≡ Some l → client_takes w k p (Some c) ≡ line_takes w k p c (Some l)
unfolding client_takes
client_takes-some w k p c l h = ap (line_takes w k p c) h

taken : (w : World) (k : ℕ) (p : Packet) (c after : Client) (l new : Line) (took : Took) → numbered 1 c.lines (p.header.hint + 1) ≡ Some l → after ≡ with_line c (p.header.hint + 1) new → TookAs w k p (with_line c (p.header.hint + 1) new) took (line_takes w k p c (Some l)) → TookAs w k p after took (client_takes w k p (Some c))
taken w k p c after l new took h client t =
    subst (λ (o : Outcome). TookAs w k p after took o) (sym (client_takes-some w k p c l h))
    (subst (λ (x : Client). TookAs w k p x took (line_takes w k p c (Some l))) (sym client) t)

pub returns-then-place-len-clause-outcome : goal.returns-then-place-len-clause-outcome
returns-then-place-len-clause-outcome c w k =
    let past : length c.self.inside.lines.items ≤ c.args.packet.now.header.hint + 1 - 1 = omega (arith, c.self.inside.lines.ok.0) in
    let self : Client = the_view c.self.inside in
    rw (← c.self.view_is) (client_takes-none w k (packet_of c.args.packet.now) self (numbered-none 1 c.self.inside.lines.items (c.args.packet.now.header.hint + 1) (omega arith) past))

pub returns-clause-outcome : goal.returns-clause-outcome
returns-clause-outcome c =
    let items = c.self.inside.lines.items in
    let p : Packet = packet_of c.args.packet.now in
    let number : ℕ = c.args.packet.now.header.hint + 1 in
    let self : Client = the_view c.self.inside in
    let place : c.from-place.result ≡ number - 1 = omega arith in
    let line = c.index_mut.result.now in
    let new = c.take.new.self in
    let some = numbered-some 1 items number line (omega arith) (omega (arith, c.self.inside.lines.ok.0)) (c.index_mut.ensures.value ∙ ap (λ (i : ℕ). get_or items i line) place) in
    rw (← c.self.view_is)
    (IfOk-weaker c.take.result
    (λ took. (w : World) (k : ℕ) (c' : Client) → TookAs w k p (with_line c' number new) took (line_takes w k p c' (Some line)))
    (λ took. (w : World) (k : ℕ) → TookAs w k p (record self { lines = set items c.from-place.result new }) took (client_takes w k p (Some self)))
    (λ took h w k. taken w k p self _ line new took some (ap (λ (i : ℕ). record self { lines = set items i new }) place) (h w k self))
    c.take.ensures.outcome)
