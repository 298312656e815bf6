use Rattle.std.proofs.Common.{◌-◌, length, arith}
use Rattle.replay_world.proofs.Standing.{first_stands}
use Rattle.replay_world.proofs.world.World.make.Goals as goal

pub returns-clause-stands : goal.returns-clause-stands
returns-clause-stands c =
    first_stands c.args.small c.args.long c.in_ok-boot.field-0 c.in_ok-boot_clients.field-0.items (0 - length c.new.result.items) c.new.result.items c.new-2.result.items c.none.result
    c.in_ok-boot.ensures (c.in_ok-boot_clients.ensures c.args.small c.args.long) (omega arith) c.new.ensures.items c.new-2.ensures.items c.none.ensures
