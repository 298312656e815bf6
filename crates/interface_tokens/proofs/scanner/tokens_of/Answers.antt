use Rattle.std.proofs.Common.{◌+◌, ◌∙◌, arith}
use Rattle.interface_tokens.proofs.Scanned.{read_next, moves}
use Rattle.interface_tokens.proofs.scanner.tokens_of.Goals as goal

pub loop-byte-preserved : goal.loop-byte-preserved
loop-byte-preserved c =
    let m = moves _ _ _ (c.loop-byte.byte-index + 1) c.in_ok-take.ensures.here c.loop-byte.invariant.1 c.loop-byte.invariant.2 in
    (read_next _ _ c.args.text.now c.loop-byte.byte-index (omega arith) c.in_ok-take.ensures.scan ∙ c.loop-byte.invariant.0, m.0, m.1)
