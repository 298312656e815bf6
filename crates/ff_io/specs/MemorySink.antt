-- What contracts see of a sink in memory.
use Rattle.std.specs.Prelude.{List, ℕ}
use Rattle.ff_io.specs.CallLog.{CallLog}

-- the bytes that were written, how many more there is room for, and the calls
pub record MemorySinkState : Type 0 where
  pub written : List ℕ
  pub room : ℕ
  pub calls : CallLog
