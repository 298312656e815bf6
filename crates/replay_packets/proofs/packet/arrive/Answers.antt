use Rattle.std.proofs.Common.{◌∙◌, sym}
use Rattle.replay_model.specs.declared.discard.Discard.TheVariants as why
use Rattle.replay_packets.proofs.Arrivals.{dropped_by, no_frame, no_header, wrong_kind, foreign, comes}
use Rattle.replay_packets.proofs.packet.arrive.Goals as goal

pub returns-in_err-seen-clause-arrival : goal.returns-in_err-seen-clause-arrival
returns-in_err-seen-clause-arrival c =
    dropped_by c.from_residual.result c.args.me.machine c.args.frame.now (why.Frame c.in_err-seen.field-0.0) c.from_residual.ensures.1
    (no_frame c.args.me.machine c.args.frame.now c.in_err-seen.field-0.0 c.in_err-seen.ensures.fault)

pub returns-in_err-header-clause-arrival : goal.returns-in_err-header-clause-arrival
returns-in_err-header-clause-arrival c =
    dropped_by c.from_residual-in_err-header.result c.args.me.machine c.args.frame.now (why.Header c.in_err-header.field-0.0) c.from_residual-in_err-header.ensures.1
    (no_header c.args.me.machine c.args.frame.now _ c.in_err-header.field-0.0 c.in_ok-seen.ensures.seen c.in_err-header.ensures.read)

pub returns-then-not-takes_kind-clause-arrival : goal.returns-then-not-takes_kind-clause-arrival
returns-then-not-takes_kind-clause-arrival c =
    wrong_kind c.args.me.machine c.args.frame.now _ _ _ c.in_ok-seen.ensures.seen c.in_ok-header.ensures.read (sym c.if-not-takes_kind.ensures)

pub returns-then-header-from-clause-arrival : goal.returns-then-header-from-clause-arrival
returns-then-header-from-clause-arrival c =
    foreign c.args.me.machine c.args.frame.now _ _ _ c.in_ok-seen.ensures.seen c.in_ok-header.ensures.read (sym c.takes_kind.ensures ∙ c.if-not-takes_kind.false)
    (λ e. c.if-header-from.true (e ∙ sym (c.from.ensures ∙ c.calling_machine.ensures)))

pub returns-clause-arrival : goal.returns-clause-arrival
returns-clause-arrival c =
    comes c.args.me.machine c.args.frame.now _ _ _ c.in_ok-seen.ensures.seen c.in_ok-header.ensures.read (sym c.takes_kind.ensures ∙ c.if-not-takes_kind.false)
    (c.if-header-from.false ∙ (c.from.ensures ∙ c.calling_machine.ensures))
