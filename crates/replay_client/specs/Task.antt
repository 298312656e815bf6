-- What a process has to do, as the rules ask for it.
use Rattle.std.specs.Prelude.{Bool, true, false}
use Rattle.replay_client.specs.declared.task.Task.{Task}
use Rattle.replay_client.specs.declared.task.Task.TheVariants as task

abbrev pub is_bind : Task → Bool
is_bind task.Call = false
is_bind task.Bind = true
