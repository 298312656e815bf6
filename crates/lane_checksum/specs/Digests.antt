-- What is shown of a text in place of the text itself.
use Rattle.std.specs.Prelude.{ℕ, List, ◌++◌, length, take, replicate}
use Rattle.lane_checksum.specs.PlainSum.{csum}
use Rattle.lane_checksum.specs.declared.Digest.{Digest}
use Rattle.lane_checksum.specs.declared.TheConstants.{HEAD_LEN}

-- the length of a text, its first bytes with zeros behind a shorter text, and its sum
abbrev pub digest : List ℕ → Digest
digest bytes = record { len = length bytes; head = take HEAD_LEN (bytes ++ replicate HEAD_LEN 0); sum = csum bytes }
