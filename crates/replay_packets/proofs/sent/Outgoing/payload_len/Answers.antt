use Rattle.std.proofs.Common.{arith}
use Rattle.std.proofs.lemmas.List.{length-drop}
use Rattle.replay_packets.proofs.sent.Outgoing.payload_len.Goals as goal

pub returns : goal.returns
returns c =
    let behind = length-drop 74 c.self.inside.frame.items in
    rw (← c.self.view_is) (omega (arith, behind, c.self.inside.frame.ok.0))
