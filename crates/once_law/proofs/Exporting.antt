-- What the exports of a server accept and find is of its life, and what it boots with is sound.
use Rattle.std.proofs.Common.{◌≡◌, ℕ, zero, suc, ◌+◌, ◌<◌, ◌≤◌, List, [], ◌∷◌, length, Option, Some, None, refl, subst, arith}
use Rattle.std.specs.Prelude.{slice_index_or}
use Rattle.std.proofs.lemmas.Bool.{le-ltb}
use Rattle.std.proofs.lemmas.Option.{none-some}
use Rattle.binder.specs.declared.row.ExportRow.{ExportRow}
use Rattle.binder.specs.declared.interface.InterfaceName.{InterfaceName}
use Rattle.binder.specs.Exports.{Exports, booted, export_fault, exported}
use Rattle.binder.specs.Sound.{AreSound}
use Rattle.call_rules.specs.Worker.{Run}
use Rattle.replay_model.specs.declared.limits.TheConstants.{SERVICE_PROCEDURES}
use Rattle.replay_model.specs.Record.{Start}
use Rattle.replay_model.specs.World.{main_name}
use Rattle.lawful_rules.specs.Facts.{Life}
use Rattle.lawful_rules.specs.Lawful.{AreRows}
use Rattle.once_law.proofs.Laws.{ExportLaws}
use Rattle.once_law.proofs.Parts.{Lives}

-- a row that has an export is one of the list's
within : (rows : List (Option ExportRow)) (i : ℕ) (row : ExportRow) → slice_index_or rows i None ≡ Some row → i < length rows
within [] i row h = absurd (none-some row h)
within (x ∷ xs) zero row h = omega arith
within (x ∷ xs) (suc i) row h = let below = within xs i row h in omega (arith, below)

-- what is accepted or found has an identifier that the server gave in this life, by the seconds that it has read
pub rows_of : ExportLaws → {second : ℕ} {f : Life} {exports : Exports} {started : List Start} {journal : List Run} → Lives second f exports started journal → AreRows f exports.rows
rows_of laws {second} {f} {exports} h =
    record {
      accepted = λ export procedure yes.
          let r = (laws.accepted exports export procedure).0 yes in (
            subst (λ n. f.boot ≤ n) r.2 (h.sound.since_boot export.index r.0 r.1),
            omega (arith, h.sound.given export.index r.0 r.1, h.next_read, r.2),
          );
      found = λ name export is.
          let r = laws.found exports.rows name export is in (
            omega (arith, h.sound.given export.index r.0 r.1, h.next_read, h.read_first, h.second_fits, r.3),
            omega (arith, within exports.rows export.index r.0 r.1, h.sound.size),
          );
    }

-- nothing keeps a server that boots from its first export
no_fault : (boot : ℕ) → export_fault (booted boot) main_name boot ≡ None
unfolding export_fault
no_fault boot = rw (le-ltb boot boot (omega arith)) refl

next_after : (exports : Exports) (name : InterfaceName) (procedures : ℕ) → (exported exports name procedures).next ≡ exports.next + 1
unfolding exported
next_after exports name procedures = refl

-- the exports after one more
pub exports_sound : ExportLaws → (boot : ℕ) (exports : Exports) (name : InterfaceName) (procedures now : ℕ) → AreSound boot exports → export_fault exports name now ≡ None → AreSound boot (exported exports name procedures) × ((exported exports name procedures).next ≤ now + 1)
exports_sound laws boot exports name procedures now sound free =
    (laws.exports boot exports name procedures now sound free, omega (arith, next_after exports name procedures, laws.in_time exports name now free))

-- what a server boots with
pub boots_sound : ExportLaws → (boot : ℕ) → AreSound boot (exported (booted boot) main_name SERVICE_PROCEDURES) × ((exported (booted boot) main_name SERVICE_PROCEDURES).next ≤ boot + 1)
boots_sound laws boot = exports_sound laws boot (booted boot) main_name SERVICE_PROCEDURES boot (laws.boots boot) (no_fault boot)
