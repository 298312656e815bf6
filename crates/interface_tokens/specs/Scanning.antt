-- What the scanner's state says, without where it lies in memory.
use Rattle.interface_tokens.specs.Tokens.{Scan}
use Rattle.interface_tokens.specs.Tokens as spec
use Rattle.interface_tokens.specs.declared.scanner.Scanner.{Scanner}
use Rattle.interface_tokens.specs.declared.scanner.Tokens.{Tokens}

abbrev pub scan_of : Scanner → Scan
scan_of s = record { here = s.here; mode = s.mode; letters = s.letters.items; spots = s.spots.items }

abbrev pub tokens_view : Tokens → spec.Tokens
tokens_view t = record { spots = t.spots.items; ending = t.ending; end = t.end }
