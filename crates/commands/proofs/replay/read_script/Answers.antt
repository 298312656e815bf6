use Rattle.std.proofs.Common.{◌≡◌, ◌≤◌, ◌⊎◌, ap, subst, arith, Err}
use Rattle.std.proofs.lemmas.Result.{err_from_is_err_and}
use Rattle.replay_model.specs.TextFault.{line_count}
use Rattle.script_text.specs.Reading.{IsRefusal}
use Rattle.commands.specs.Outside.{input}
use Rattle.commands.specs.Replay.{IsWithin}
use Rattle.commands.proofs.Reading.{memory, unread, no_script, turned}
use Rattle.commands.proofs.replay.read_script.Goals as goal

pub returns-in_err-bytes-clause-read : goal.returns-in_err-bytes-clause-read
returns-in_err-bytes-clause-read g c =
    let from = input (g.S.Source.left c.args.source.now) (g.S.Source.faults c.args.source.now) in
    let to = input (g.S.Source.left c.read_all.new.source) (g.S.Source.faults c.read_all.new.source) in
    let h = c.in_err-bytes.ensures in
    let p = err_from_is_err_and c.from_residual.result c.from_residual.ensures.1 in
    let why = unread c.in_err-bytes.field-0.0 from to h.read.0 h.read.1 (λ e. h.read.3.0 (ap Err e)) (λ e. h.failed (ap Err e)) in
    (why.0, why.1, rw (p.1, p.2) why.2)

pub returns-in_err-parse_script-clause-read : goal.returns-in_err-parse_script-clause-read
returns-in_err-parse_script-clause-read g c =
    let from = input (g.S.Source.left c.args.source.now) (g.S.Source.faults c.args.source.now) in
    let to = input (g.S.Source.left c.read_all.new.source) (g.S.Source.faults c.read_all.new.source) in
    let text = c.in_ok-bytes.bytes.items in
    let e = c.in_err-parse_script.field-0.0 in
    let p = err_from_is_err_and c.from_residual-in_err-parse_script.result c.from_residual-in_err-parse_script.ensures.1 in
    let lines : line_count c.as_slice-text.result.now ≤ 20000 = omega (arith, c.count_lines.ensures) in
    let within : IsWithin text = record {
      bytes = omega (arith, c.in_ok-bytes.ensures.fits);
      lines = subst (λ t. line_count t ≤ 20000) c.as_slice-text.ensures.value lines;
    } in
    let refused = subst (λ t. (e ≡ memory) ⊎ IsRefusal t e) c.as_slice-text.ensures.value c.in_err-parse_script.ensures.refused in
    (text, turned from.left text c.in_ok-bytes.ensures.all, rw (p.1, p.2) (no_script e text from to refused within c.in_ok-bytes.ensures.end))
