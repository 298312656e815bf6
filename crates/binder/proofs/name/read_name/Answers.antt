use Rattle.std.proofs.Common.{sym, ◌∙◌}
use Rattle.binder.proofs.Padding.{padded}
use Rattle.binder.proofs.name.read_name.Goals as goal

pub invariant_of-result : goal.invariant_of-result
invariant_of-result c =
    padded c.args.bytes.now c.copy_from_slice.new.self c.copy_from_slice.ensures.after
    (sym c.is_name.ensures ∙ c.if-not-is_name.false)
