use Rattle.replay_world.proofs.Boot.{none_booted, one_booted}
use Rattle.replay_world.proofs.world.boot_clients.Goals as goal

pub loop-place-init : goal.loop-place-init
loop-place-init c = none_booted c.new-clients.result.items c.new-clients.ensures.items

pub loop-place-preserved : goal.loop-place-preserved
loop-place-preserved c =
    one_booted c.loop-place.place c.loop-place.clients.items c.push.new.self.items c.in_ok-boot.field-0 c.loop-place.invariant c.in_ok-boot.ensures c.in_ok-push.ensures.items
