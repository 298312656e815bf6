use Rattle.binder.specs.Exports.{booted}
use Rattle.binder.proofs.Changes.{sound_after, sound_booted, sound_exported, sound_withdrawn}
use Rattle.binder.proofs.laws.exports_stay_sound.Goals as goal

pub returns-clause-boot : goal.returns-clause-boot
returns-clause-boot c = sound_booted

pub returns-clause-export : goal.returns-clause-export
returns-clause-export c = sound_exported

pub returns-clause-withdraw : goal.returns-clause-withdraw
returns-clause-withdraw c = sound_withdrawn

pub returns-clause-any_changes : goal.returns-clause-any_changes
returns-clause-any_changes c = λ boot changes. sound_after boot changes (booted boot) (sound_booted boot)
