use Rattle.std.proofs.Common.{◌≡◌, ◌+◌, ◌++◌, ◌∙◌, List, ℕ, ap, append_assoc}
use Rattle.commands.proofs.PlanLines.{further, ended, exception_piece, exception_rest, exception_unrolls}
use Rattle.commands.proofs.plan_text.put_exceptions.Goals as goal

pub loop-index-preserved : goal.loop-index-preserved
loop-index-preserved c =
    let name = c.index-names-index.result in
    let more : c.put_name_line.new.out.items ≡ c.loop-index.out.items ++ exception_piece (c.loop-index.index + 1) name =
    c.in_ok-put_name_line.ensures ∙ ap (λ (x : List ℕ). x ++ ended name) c.in_ok-write.ensures ∙ simp append_assoc in
    further exception_piece exception_rest exception_unrolls c.loop-index.out.items c.put_name_line.new.out.items _ c.args.names.now
    (c.loop-index.index + 1) c.loop-index.index name c.loop-index-test.true c.index-names-index.is more c.loop-index.invariant
