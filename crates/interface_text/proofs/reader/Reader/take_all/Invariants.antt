use Rattle.std.proofs.Common.{◌≡◌, drop}
use Rattle.interface_text.specs.Rules.{take_all}
use Rattle.interface_text.specs.States.{reading_of}
use Rattle.interface_text.proofs.reader.Reader.take_all.Given as goal

abbrev pub invariant-loop-spot : goal.invariant-loop-spot
invariant-loop-spot l = take_all (reading_of l.self) (drop l.spot-index l.spots) ≡ take_all (reading_of l.initial.self) l.spots
