use Rattle.std.proofs.Common.{◌++◌, ◌∙◌, List, ℕ, ap, arith}
use Rattle.interface_text.specs.States.{interface_view}
use Rattle.commands.specs.PlanText.{text_of}
use Rattle.commands.proofs.Planning.{long_first, long_there, none_long}
use Rattle.commands.proofs.Stubbing.{planned, too_long_is}
use Rattle.commands.proofs.stubs.plan_text_of.Goals as goal

pub line_of-requires : goal.line_of-requires
line_of-requires c =
    let ps = c.in_ok-interface.interface.procedures in
    let there = long_there ps _ _ (long_first ps c.in-Err-TooLong.field-0 _ _ c.in-Err-TooLong.field-0-is c.in-Err-TooLong.ensures.fault) in
    omega (arith, there, c.in-Err-TooLong.procedure-is)

pub returns-in-Err-TooLong : goal.returns-in-Err-TooLong
returns-in-Err-TooLong c =
    let i = c.in_ok-interface.interface in
    too_long_is c.args.text.now i _ _ _ c.line_of.result c.in_ok-interface.ensures.interface
    (long_first i.procedures c.in-Err-TooLong.field-0 _ _ c.in-Err-TooLong.field-0-is c.in-Err-TooLong.ensures.fault) c.line_of.ensures
    (omega (arith, c.in-Err-TooLong.procedure-is))

pub put_plan_text-requires-clause-short : goal.put_plan_text-requires-clause-short
put_plan_text-requires-clause-short c = (none_long 0 c.in_ok-interface.interface.procedures c.in-Ok.ensures.short_enough).0

pub returns : goal.returns
returns c =
    let i = c.in_ok-interface.interface in
    planned c.args.text.now i c.put_plan_text.new.out.items c.in_ok-interface.ensures.interface c.in-Ok.ensures.short_enough
    (c.in_ok-put_plan_text.ensures ∙ ap (λ (x : List ℕ). x ++ text_of (interface_view i)) c.new-out.ensures.items)
