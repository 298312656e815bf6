-- What a server's exports and its restart stand for, as outcomes of the model.
use Rattle.std.specs.Prelude.{◌≡◌, ℕ, [], ◌∷◌, Option, Some, None, Result, Ok, Err, Bool, true, false}
use Rattle.rpc_header.specs.declared.Export.{Export}
use Rattle.binder.specs.declared.row.ExportFault.{ExportFault}
use Rattle.binder.specs.declared.interface.InterfaceName.{InterfaceName}
use Rattle.binder.specs.Exports.{export_fault, exported, next_export}
use Rattle.binder.specs.Exports as binder
use Rattle.replay_model.specs.declared.limits.TheConstants.{SERVER_MACHINE, SERVICE_PROCEDURES}
use Rattle.replay_model.specs.Record.{Exports, NoExport, Withdraws, Restarts}
use Rattle.replay_model.specs.World.{World, Server}
use Rattle.replay_model.specs.Step.{Outcome, impossible}

-- what becomes of a name that is to be exported in a second: the first fault, or one export more
abbrev pub Exporting : (old new : binder.Exports) → InterfaceName → (second : ℕ) → Result Export ExportFault → Type 0
Exporting old new name second (Ok export) =
    (export_fault old name second ≡ None) × (export ≡ next_export old) × (new ≡ exported old name SERVICE_PROCEDURES)
Exporting old new name second (Err fault) = (export_fault old name second ≡ Some fault) × (new ≡ old)

-- s is the server after it
abbrev pub ExportsAs : World → Server → Result Export ExportFault → Outcome → Type 0
ExportsAs w s (Ok export) o = o ≡ record { world = record w { server = s }; acts = Exports export ∷ [] }
ExportsAs w s (Err fault) o = o ≡ record { world = record w { server = s }; acts = NoExport fault ∷ [] }

-- what isn't exported changes nothing
abbrev pub WithdrawsAs : World → Server → (index : Option ℕ) → Outcome → Type 0
WithdrawsAs w s None o = (o ≡ impossible w) × (w.server ≡ s)
WithdrawsAs w s (Some index) o = o ≡ record { world = record w { server = s }; acts = Withdraws index ∷ [] }

-- a server that doesn't boot is as it was
abbrev pub RestartsAs : World → (old new : Server) → (booted : Bool) → Outcome → Type 0
RestartsAs w old new true o = o ≡ record { world = record w { server = new }; acts = Restarts SERVER_MACHINE w.second ∷ [] }
RestartsAs w old new false o = (o ≡ impossible w) × (new ≡ old)
