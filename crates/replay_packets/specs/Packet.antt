-- A packet that has come to a machine, as the rules see it.
use Rattle.call_rules.specs.Packet.{Packet, fields_of}
use Rattle.replay_packets.specs.declared.packet.Arrived.{Arrived}

abbrev pub packet_of : Arrived → Packet
packet_of a = record { from = a.from.machine; to = a.to.machine; header = fields_of a.header; payload = a.payload.now }
