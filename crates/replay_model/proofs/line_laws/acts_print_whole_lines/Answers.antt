use Rattle.replay_model.proofs.LineEnds.{EndsLine-append, act_ends, acts_end}
use Rattle.replay_model.proofs.line_laws.acts_print_whole_lines.Goals as goal

pub returns-clause-act : goal.returns-clause-act
returns-clause-act c = act_ends

pub returns-clause-acts : goal.returns-clause-acts
returns-clause-acts c = acts_end

pub returns-clause-joins : goal.returns-clause-joins
returns-clause-joins c = EndsLine-append
