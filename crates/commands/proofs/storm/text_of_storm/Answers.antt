use Rattle.std.proofs.Common.{◌≡◌, ℕ, List, [], ◌++◌, ap, ◌∙◌}
use Rattle.replay_model.specs.Summary.{Summary, storm_text, summary_of, summary_text}
use Rattle.commands.proofs.storm.text_of_storm.Goals as goal

text_is : (seed calls : ℕ) (o new : List ℕ) (s : Summary) → new ≡ o ++ summary_text seed calls s → o ≡ [] → s ≡ summary_of seed calls → new ≡ storm_text seed calls
unfolding storm_text
text_is seed calls o new s e none is = e ∙ (ap (λ (t : List ℕ). t ++ summary_text seed calls s) none ∙ ap (summary_text seed calls) is)

pub returns : goal.returns
returns c =
    text_is c.args.options.now.seed c.args.options.now.calls c.new-text.result.items c.put_summary.new.out.items c.in_ok-summary.summary
    c.in_ok-put_summary.ensures c.new-text.ensures.items c.in_ok-summary.ensures
