-- A line that isn't skipped is read by its first word.
use Rattle.std.proofs.Common.{sym, ◌∙◌}
use Rattle.replay_model.specs.Script.{words_of}
use Rattle.script_text.proofs.line.read_line.Goals as goal

pub returns-clause-reads : goal.returns-clause-reads
returns-clause-reads c = λ above same.
    let first = c.in-Some-first_word.first.now in
    let more = words_of c.in-Some-first_word.rest.now in
    c.read_counted.ensures.reads above c.args.line.now first
    (c.in-Some-first_word.ensures, sym (c.is_comment.ensures more) ∙ c.if-is_comment.false) c.verb_of.ensures c.requires same
