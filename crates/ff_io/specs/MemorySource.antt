-- What contracts see of a source in memory.
use Rattle.std.specs.Prelude.{List, ℕ}
use Rattle.ff_io.specs.CallLog.{CallLog}

-- the bytes that are left, and the calls
pub record MemorySourceState : Type 0 where
  pub left : List ℕ
  pub calls : CallLog
