use Rattle.std.proofs.Common.{sym, ◌∙◌}
use Rattle.interface_tokens.proofs.Storing.{stored}
use Rattle.interface_tokens.proofs.ident.Ident.read.Goals as goal

pub invariant_of-result : goal.invariant_of-result
invariant_of-result c =
    stored c.args.bytes.now c.copy_from_slice.new.self c.copy_from_slice.ensures.after
    (sym c.is_name.ensures ∙ c.if-not-is_name.false)
