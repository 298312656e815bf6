use Rattle.std.proofs.Common.{refl, ◌≡◌, ◌≤◌}
use Rattle.std.proofs.Math.Bridge.{le_prop}
use Rattle.std.proofs.Math.Nat.{ℕ_set}
use Rattle.std.specs.Prelude.{vec_len}
use Rattle.std.specs.Vec.{with_items_from}
use Rattle.packet_pool.proofs.packet.Packet.room.Goals as goal

-- the packet's bounds are a fact
pub returns : goal.returns
returns c = let p = c.args.self.now in let bounds : IsProp ((vec_len p.bytes ≡ 1514) × (p.len ≤ 1440) × (1 ≤ p.from) × (p.from ≤ 254)) = hlevel (le_prop, ℕ_set) in (
  (refl, λ w i. record { number = p.number; bytes = with_items_from p.bytes 74 w; header = p.header; from = p.from; len = p.len; gathered = p.gathered; signal = p.signal; within = bounds (c.self-1.given w).0 p.within i }),
  record { writes_back = tt; value = c.slice_mut.ensures.value; len = c.slice_mut.ensures.len },
)
