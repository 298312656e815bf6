use Rattle.std.proofs.Common.{◌≡◌, ◌++◌, ◌∙◌, List, ℕ, ap, refl}
use Rattle.marshal_plans.specs.Forms.{forms_in}
use Rattle.marshal_plans.specs.Lengths.{least_all, largest_all}
use Rattle.commands.proofs.Planning.{told_least, told_largest}
use Rattle.commands.proofs.PlanLines.{instruction_rest, lengths_line}
use Rattle.commands.proofs.plan_text.put_part.Goals as goal

pub loop-instruction-init : goal.loop-instruction-init
loop-instruction-init c =
    let fs = forms_in c.args.shapes.now in
    let least : c.least_len.result ≡ least_all fs = c.least_len.ensures ∙ told_least fs c.requires.short in
    let largest : c.largest_len.result ≡ largest_all fs = c.largest_len.ensures ∙ told_largest fs c.requires.short in
    let line : c.writeln.new.self.items ≡ c.args.out.now.items ++ lengths_line fs = c.in_ok-writeln.ensures ∙ rw (least, largest) refl in
    ap (λ (x : List ℕ). x ++ instruction_rest 0 c.args.plan.now) line
