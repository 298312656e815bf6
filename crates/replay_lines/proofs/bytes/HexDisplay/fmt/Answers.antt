use Rattle.std.proofs.Common.{rules}
use Rattle.std.proofs.Output.{has_written_of_eq, has_written_append}
use Rattle.replay_lines.proofs.Texts.{hex-push}
use Rattle.replay_lines.proofs.bytes.HexDisplay.fmt.Goals as goal

pub loop-byte-preserved : goal.loop-byte-preserved
loop-byte-preserved g c = λ plain.
    let before = c.loop-byte.invariant plain in
    has_written_of_eq _ _ _ _ _ (hex-push c.args.self.now.0.now c.loop-byte.byte-index _ c.loop-byte-test.true (search rules))
    (has_written_append _ _ _ _ _ _ before (c.write.ensures.writes before.plain (search rules)))
