use Rattle.std.proofs.Common.{◌≡◌, ℕ, ◌+◌, ◌-◌, ◌<◌, ◌≤◌, ◌^◌, List, [], ◌∷◌, ◌++◌, length, Result, Ok, Err, ap, sym, subst, ◌∙◌, arith}
use Rattle.std.specs.Result.{IsErr}
use Rattle.std.specs.Prelude.{OnOk}
use Rattle.std.proofs.lemmas.Bool.{false≢true}
use Rattle.std.proofs.lemmas.List.{length_push}
use Rattle.call_rules.specs.Packet.{Fields, Packet, fields_of}
use Rattle.replay_model.specs.Lines.{packet_line}
use Rattle.replay_lines.specs.Page.{Page, written}
use Rattle.replay_packets.specs.Sent.{SentFrame, sent_of}
use Rattle.replay_world.specs.Stored.{Stored, packets_of}
use Rattle.replay_world.specs.contracts.world.World.{the_view}
use Rattle.replay_world.proofs.world.World.send.Goals as goal

-- nothing is said where memory is short
on_err : {T E : Type 0} (r : Result T E) (P : Type 0) → IsErr r → OnOk r P
on_err {T} {E} (Ok x) P h = absurd (false≢true h)
on_err {T} {E} (Err e) P h = tt

-- those that are forgotten, and the others
all_packets : (n k : ℕ) → k ≤ n → n - k + k ≡ n
all_packets n k h = omega arith

-- those that are forgotten, where one more is sent
same_forgotten : (n k m : ℕ) → m ≡ k + 1 → n + 1 - m ≡ n - k
same_forgotten n k m h = omega arith

pub overflow_add-self : goal.overflow_add-self
overflow_add-self c =
    let count : c.self.inside.packets < 2 ^ 63 = subst (λ (n : ℕ). n < 2 ^ 63) (ap packets_of (sym c.self.view_is) ∙ all_packets c.self.inside.packets (length c.self.inside.bag.items) c.self.invariant) c.requires in
    omega arith

pub invariant_of-self : goal.invariant_of-self
invariant_of-self c = omega (arith, c.self.invariant)

pub returns-in_err-put_packet-clause-bag : goal.returns-in_err-put_packet-clause-bag
returns-in_err-put_packet-clause-bag c = on_err c.from_residual.result _ c.from_residual.ensures.0

pub returns-in_err-put_packet-clause-printed : goal.returns-in_err-put_packet-clause-printed
returns-in_err-put_packet-clause-printed c = on_err c.from_residual.result _ c.from_residual.ensures.0

pub invariant_of-self-in_err-push : goal.invariant_of-self-in_err-push
invariant_of-self-in_err-push c =
    let same = ap length c.in_err-push.ensures.items in
    omega (arith, c.self.invariant)

pub returns-in_err-push-clause-bag : goal.returns-in_err-push-clause-bag
returns-in_err-push-clause-bag c = on_err c.from_residual-in_err-push.result _ c.from_residual-in_err-push.ensures.0

pub returns-in_err-push-clause-printed : goal.returns-in_err-push-clause-printed
returns-in_err-push-clause-printed c = on_err c.from_residual-in_err-push.result _ c.from_residual-in_err-push.ensures.0

pub invariant_of-self-2 : goal.invariant_of-self-2
invariant_of-self-2 c =
    let more = ap length c.in_ok-push.ensures.items ∙ length_push c.self.inside.bag.items c.sent.result in
    omega (arith, c.self.invariant)

pub returns-clause-bag : goal.returns-clause-bag
returns-clause-bag c =
    let p : Packet = c.args.packet in
    let s : Stored = the_view c.self.inside in
    let bag : List SentFrame = s.bag in
    let more : c.push.new.self.items ≡ bag ++ sent_of p ∷ [] = c.in_ok-push.ensures.items ∙ ap (λ (x : SentFrame). bag ++ x ∷ []) c.sent.ensures in
    ap (λ (b : List SentFrame). record s { forgotten = c.self.inside.packets + 1 - length b; bag = b }) more
    ∙ (ap (λ (n : ℕ). record s { forgotten = n; bag = bag ++ sent_of p ∷ [] }) (same_forgotten c.self.inside.packets (length bag) _ (length_push bag (sent_of p)))
    ∙ ap (λ (x : Stored). record x { bag = x.bag ++ sent_of p ∷ [] }) c.self.view_is)

pub returns-clause-printed : goal.returns-clause-printed
returns-clause-printed c =
    let p : Packet = c.args.packet in
    let n : ℕ = c.self.inside.packets in
    let sent : ℕ = packets_of c.args.self.now in
    let number : n ≡ sent = sym (ap packets_of (sym c.self.view_is) ∙ all_packets n (length c.self.inside.bag.items) c.self.invariant) in
    let line : ℕ → ℕ → ℕ → Fields → ℕ → Page = λ k from to header len. written c.args.out.now (packet_line (k + 1) from to header len) in
    let header : Fields = fields_of c.header.result.now in
    let len : ℕ = c.payload_len.result in
    c.in_ok-put_packet.ensures
    ∙ (ap (λ (k : ℕ). line k c.from.result.machine c.to.result.machine header len) number
    ∙ (ap (λ (m : ℕ). line sent m c.to.result.machine header len) c.from.ensures
    ∙ (ap (λ (m : ℕ). line sent p.from m header len) c.to.ensures
    ∙ (ap (λ (h : Fields). line sent p.from p.to h len) c.header.ensures
    ∙ ap (λ (k : ℕ). line sent p.from p.to p.header k) c.payload_len.ensures))))
