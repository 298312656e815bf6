-- The bytes that are gathered at the head of a buffer.
use Rattle.std.specs.Prelude.{ℕ, List, take}
use Rattle.replay_server.specs.declared.texts.Gathering.{Gathering}
use Rattle.replay_server.specs.declared.texts.Whole.{Whole}

abbrev pub gathered_in : Gathering → List ℕ
gathered_in pieces = take pieces.gathered.len pieces.text.items

abbrev pub whole_text : Whole → List ℕ
whole_text arguments = take arguments.len arguments.text.items
