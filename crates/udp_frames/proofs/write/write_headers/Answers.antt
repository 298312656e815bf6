use Rattle.std.proofs.Common.{◌≡◌, ◌∙◌, ◌+◌, ◌++◌, List, ℕ, take, drop, ap}
use Rattle.std.proofs.lemmas.List.{drop-take}
use Rattle.udp_frames.specs.Frame.{frame}
use Rattle.udp_frames.proofs.Assembled.{assembled_is_read}
use Rattle.udp_frames.proofs.write.write_headers.Goals as goal

pub returns-clause-frame : goal.returns-clause-frame
returns-clause-frame c =
    let old = c.args.buffer.now in
    let framed : c.write_frame.new.frame ≡ frame c.args.from.machine c.args.to.machine (take c.args.data_len (drop 42 old)) =
    c.write_frame.ensures ∙ ap (frame c.args.from.machine c.args.to.machine) (drop-take 42 c.args.data_len old) in
    ap (λ (xs : List ℕ). xs ++ drop (42 + c.args.data_len) old) framed

pub returns-clause-read : goal.returns-clause-read
returns-clause-read c =
    assembled_is_read c.args.from.machine c.args.to.machine c.args.data_len c.args.buffer.now
    (c.write_frame.new.frame ++ drop (42 + c.args.data_len) c.args.buffer.now)
    (c.args.from.at_least, c.args.from.at_most) (c.args.to.at_least, c.args.to.at_most) c.requires.room (returns-clause-frame c)
