use Rattle.std.proofs.Common.{arith}
use Rattle.replay_model.specs.Draws.{draw}
use Rattle.commands.proofs.DrawnRounds.{asks_null, asks_add, asks_bump, asks_max_arg, asks_bind}
use Rattle.commands.proofs.drawing.draw_word.Goals as goal

pub returns-in-0-clause-asked : goal.returns-in-0-clause-asked
returns-in-0-clause-asked c calls w machine process =
    asks_null calls w machine process (draw c.args.draws.now 5) c.draw.result c.draw.new.self c.draw.ensures.drawn (omega arith)

pub returns-in-1-clause-asked : goal.returns-in-1-clause-asked
returns-in-1-clause-asked c calls w machine process =
    asks_add calls w machine process (draw c.args.draws.now 5) c.draw.result c.draw.new.self c.draw-first.result c.draw-first.new.self
    c.draw-second.result c.draw-second.new.self c.draw.ensures.drawn (omega arith) c.draw-first.ensures.drawn c.draw-second.ensures.drawn

pub returns-in-2-clause-asked : goal.returns-in-2-clause-asked
returns-in-2-clause-asked c calls w machine process =
    asks_bump calls w machine process (draw c.args.draws.now 5) c.draw.result c.draw.new.self c.draw.ensures.drawn (omega arith)

pub returns-in-3-clause-asked : goal.returns-in-3-clause-asked
returns-in-3-clause-asked c calls w machine process =
    asks_max_arg calls w machine process (draw c.args.draws.now 5) c.draw.result c.draw.new.self c.draw-in-3.result c.draw-in-3.new.self
    c.draw.ensures.drawn (omega arith) c.draw-in-3.ensures.drawn

pub returns-in_default-clause-asked : goal.returns-in_default-clause-asked
returns-in_default-clause-asked c calls w machine process =
    asks_bind calls w machine process (draw c.args.draws.now 5) c.draw.result c.draw.new.self c.draw.ensures.drawn (omega arith)
