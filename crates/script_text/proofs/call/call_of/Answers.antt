-- A call is read by its call word, and refused where there isn't one.
use Rattle.std.proofs.Common.{◌∷◌, ap, ◌∙◌}
use Rattle.replay_model.specs.Script.{words_of}
use Rattle.script_text.specs.Reading.{fault_of_form}
use Rattle.script_text.specs.Words.{text_of}
use Rattle.script_text.specs.declared.verb.Verb.TheVariants as verb
use Rattle.script_text.specs.declared.verb.CallVerb.TheVariants as asked
use Rattle.script_text.proofs.Calls.{reads_call}
use Rattle.script_text.proofs.Checks.{unknown_call}
use Rattle.script_text.proofs.call.call_of.Goals as goal

pub returns-in_default-clause-reads : goal.returns-in_default-clause-reads
returns-in_default-clause-reads c = λ begun.
    let line = c.in_ok-line.line in
    ap (λ ws. fault_of_form begun (text_of verb.Call ∷ ws)) c.in_ok-line.ensures
    ∙ unknown_call begun line.machine.now line.process.now line.asked.now (words_of line.rest.now) c.in_default.ensures

pub returns-in-Null-clause-reads : goal.returns-in-Null-clause-reads
returns-in-Null-clause-reads c = λ begun.
    reads_call begun (words_of c.args.rest.now) c.in_ok-line.line c.in-Some.verb asked.Null c.null_of.result
    c.in_ok-line.ensures c.in-Some.ensures c.in-Null.is (c.null_of.ensures.reads begun)

pub returns-in-Add-clause-reads : goal.returns-in-Add-clause-reads
returns-in-Add-clause-reads c = λ begun.
    reads_call begun (words_of c.args.rest.now) c.in_ok-line.line c.in-Some.verb asked.Add c.add_of.result
    c.in_ok-line.ensures c.in-Some.ensures c.in-Add.is (c.add_of.ensures.reads begun)

pub returns-in-Bump-clause-reads : goal.returns-in-Bump-clause-reads
returns-in-Bump-clause-reads c = λ begun.
    reads_call begun (words_of c.args.rest.now) c.in_ok-line.line c.in-Some.verb asked.Bump c.bump_of.result
    c.in_ok-line.ensures c.in-Some.ensures c.in-Bump.is (c.bump_of.ensures.reads begun)

pub returns-in-MaxArg-clause-reads : goal.returns-in-MaxArg-clause-reads
returns-in-MaxArg-clause-reads c = λ begun.
    reads_call begun (words_of c.args.rest.now) c.in_ok-line.line c.in-Some.verb asked.MaxArg c.max_arg_of.result
    c.in_ok-line.ensures c.in-Some.ensures c.in-MaxArg.is (c.max_arg_of.ensures.reads begun)

pub returns-in-MaxResult-clause-reads : goal.returns-in-MaxResult-clause-reads
returns-in-MaxResult-clause-reads c = λ begun.
    reads_call begun (words_of c.args.rest.now) c.in_ok-line.line c.in-Some.verb asked.MaxResult c.max_result_of.result
    c.in_ok-line.ensures c.in-Some.ensures c.in-MaxResult.is (c.max_result_of.ensures.reads begun)
