use Rattle.std.proofs.Common.{◌≡◌, ◌≤◌, ◌+◌, drop}
use Rattle.interface_tokens.specs.Tokens.{read_from, read_all}
use Rattle.interface_tokens.specs.Scanning.{scan_of}
use Rattle.interface_tokens.proofs.scanner.tokens_of.Given as goal

abbrev pub invariant-loop-byte : goal.invariant-loop-byte
invariant-loop-byte l =
    (read_from (scan_of l.scanner) (drop l.byte-index l.text) ≡ read_all l.text)
    × (l.scanner.here.line ≤ l.byte-index + 1) × (l.scanner.here.column ≤ l.byte-index + 1)
