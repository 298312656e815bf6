use Rattle.replay_server.proofs.task_rules.loses.Goals as goal

pub returns-clause-worker : goal.returns-clause-worker
returns-clause-worker c = c.drops.ensures.worker

pub returns-clause-did : goal.returns-clause-did
returns-clause-did c = c.drops.ensures.did

pub returns-clause-adds : goal.returns-clause-adds
returns-clause-adds c = c.drops.ensures.adds

pub returns-clause-entry : goal.returns-clause-entry
returns-clause-entry c = c.new.ensures
