use Rattle.std.proofs.Common.{◌≡◌, true, take, drop}
use Rattle.std.specs.List.{list_all}
use Rattle.std.specs.Char.{is_ascii_digit}
use Rattle.std.specs.Str.Parse.{digits_value_after}
use Rattle.replay_model.specs.TextFault.{value}
use Rattle.script_text.proofs.number.value_of.Given as goal

-- the bytes so far are digits; where all are, those that are left write the whole number behind the number so far
abbrev pub invariant-loop-byte : goal.invariant-loop-byte
invariant-loop-byte l = record {
  so_far : list_all is_ascii_digit (take l.byte-index l.fn.word) ≡ true;
  rest_writes : list_all is_ascii_digit l.fn.word ≡ true → digits_value_after 10 l.value (drop l.byte-index l.fn.word) ≡ value l.fn.word;
}
