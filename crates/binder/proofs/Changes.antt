-- The exports stay sound, and identifiers rise.
use Rattle.std.proofs.Common.{◌≡◌, ◌≤◌, ◌<◌, ◌+◌, ℕ, List, [], ◌∷◌, length, set, replicate, Option, Some, None, refl, ap, sym, subst, ◌∙◌, ◌⊎◌, inl, inr, arith}
use Rattle.std.proofs.lemmas.List.{length-set}
use Rattle.std.proofs.lemmas.Bool.{cases_eq}
use Rattle.binder.specs.declared.interface.InterfaceName.{InterfaceName}
use Rattle.binder.specs.declared.row.ExportRow.{ExportRow}
use Rattle.binder.specs.declared.row.ExportFault.{ExportFault}
use Rattle.binder.specs.Exports.{Exports, booted, export_fault, exported, freed, next_export, place_of, row_at, row_count, withdrawn}
use Rattle.binder.specs.History.{AreRisingFrom, Change, Export, Withdraw, after, exported_unless, given_unless, identifiers}
use Rattle.binder.specs.Sound.{AreSound}
use Rattle.binder.proofs.Judging.{may_export}
use Rattle.binder.proofs.Kept.{free_rows, names-free, names-freed, names-taken}
use Rattle.binder.proofs.Places.{by_cases, free-within, place-within, row-set_other, row-set_same}

no_row : (r : Option ExportRow) (row : ExportRow) → r ≡ None → r ≡ Some row → ⊥
no_row None row e f = absurd (cc)
no_row (Some other) row e f = absurd (cc)

-- a row after one was taken is that one, or stood before
row_taken : (rows : List (Option ExportRow)) (i j : ℕ) (taken row : ExportRow) → i < length rows
    → row_at (set rows i (Some taken)) j ≡ Some row → ((j ≡ i) × (taken ≡ row)) ⊎ (row_at rows j ≡ Some row)
row_taken rows i j taken row inside h =
    by_cases (cases_eq j i)
    (λ same. let e : Some taken ≡ Some row = sym (row-set_same rows i j (Some taken) inside same) ∙ h in inl (same, cc))
    (λ other. inr (sym (row-set_other rows i j (Some taken) other) ∙ h))

-- a row after one was freed stood before
row_kept : (rows : List (Option ExportRow)) (i j : ℕ) (row : ExportRow) → i < length rows
    → row_at (set rows i None) j ≡ Some row → row_at rows j ≡ Some row
row_kept rows i j row inside h =
    by_cases (cases_eq j i)
    (λ same. absurd (no_row (row_at (set rows i None) j) row (row-set_same rows i j None inside same) h))
    (λ other. sym (row-set_other rows i j None other) ∙ h)

pub sound_booted : (now : ℕ) → AreSound now (booted now)
sound_booted now =
    record {
      size = refl;
      names = names-free;
      begun = omega arith;
      since_boot = λ i row h. absurd (no_row (row_at (replicate row_count None) i) row (free_rows row_count i) h);
      given = λ i row h. absurd (no_row (row_at (replicate row_count None) i) row (free_rows row_count i) h);
      identifiers = λ i j a b h k e. absurd (no_row (row_at (replicate row_count None) i) a (free_rows row_count i) h);
    }

pub sound_exported : (boot : ℕ) (e : Exports) (name : InterfaceName) (procedures now : ℕ) → AreSound boot e → export_fault e name now ≡ None
    → AreSound boot (exported e name procedures)
unfolding exported
sound_exported boot e name procedures now h no_fault =
    let may = may_export e name now no_fault in
    let i = (next_export e).index in
    let taken : ExportRow = record { name = name; identifier = e.next; procedures = procedures } in
    let inside : i < length e.rows = free-within e.rows i may.free in
    let begun : boot ≤ e.next = h.begun in
    record {
      size = length-set e.rows i (Some taken) ∙ h.size;
      names = names-taken e.rows i taken inside may.absent h.names;
      begun = omega arith;
      since_boot = λ j row at. by_cases (row_taken e.rows i j taken row inside at)
          (λ w. let n : e.next ≡ row.identifier = ap (λ (r : ExportRow). r.identifier) w.1 in omega arith)
          (λ old. h.since_boot j row old);
      given = λ j row at. by_cases (row_taken e.rows i j taken row inside at)
          (λ w. let n : e.next ≡ row.identifier = ap (λ (r : ExportRow). r.identifier) w.1 in omega arith)
          (λ old. let n : row.identifier < e.next = h.given j row old in omega arith);
      identifiers = λ j k a b at_a at_b same.
          by_cases (row_taken e.rows i j taken a inside at_a)
          (λ v. by_cases (row_taken e.rows i k taken b inside at_b)
          (λ w. v.0 ∙ sym w.0)
          (λ old.
          let n : e.next ≡ a.identifier = ap (λ (r : ExportRow). r.identifier) v.1 in
          let m : b.identifier < e.next = h.given k b old in
          absurd (omega arith)))
          (λ first. by_cases (row_taken e.rows i k taken b inside at_b)
          (λ w.
          let n : e.next ≡ b.identifier = ap (λ (r : ExportRow). r.identifier) w.1 in
          let m : a.identifier < e.next = h.given j a first in
          absurd (omega arith))
          (λ old. h.identifiers j k a b first old same));
    }

sound_freed : (boot : ℕ) (e : Exports) (name : InterfaceName) (place : Option ℕ) → place_of e.rows name ≡ place → AreSound boot e
    → AreSound boot (record { rows = freed e.rows place; next = e.next })
sound_freed boot e name None at h =
    record { size = h.size; names = h.names; begun = h.begun; since_boot = h.since_boot; given = h.given; identifiers = h.identifiers }
sound_freed boot e name (Some i) at h =
    let inside : i < length e.rows = place-within e.rows name i at in
    record {
      size = length-set e.rows i None ∙ h.size;
      names = names-freed e.rows i inside h.names;
      begun = h.begun;
      since_boot = λ j row k. h.since_boot j row (row_kept e.rows i j row inside k);
      given = λ j row k. h.given j row (row_kept e.rows i j row inside k);
      identifiers = λ j k a b at_a at_b same. h.identifiers j k a b (row_kept e.rows i j a inside at_a) (row_kept e.rows i k b inside at_b) same;
    }

pub sound_withdrawn : (boot : ℕ) (e : Exports) (name : InterfaceName) → AreSound boot e → AreSound boot (withdrawn e name)
unfolding withdrawn
sound_withdrawn boot e name h = sound_freed boot e name (place_of e.rows name) refl h

sound_unless : (boot : ℕ) (e : Exports) (name : InterfaceName) (procedures now : ℕ) (f : Option ExportFault) → export_fault e name now ≡ f
    → AreSound boot e → AreSound boot (exported_unless f e name procedures)
sound_unless boot e name procedures now None at h = sound_exported boot e name procedures now h at
sound_unless boot e name procedures now (Some fault) at h = h

pub sound_after : (boot : ℕ) (changes : List Change) (e : Exports) → AreSound boot e → AreSound boot (after e changes)
sound_after boot [] e h = h
sound_after boot (Export name procedures now ∷ changes) e h =
    sound_after boot changes (exported_unless (export_fault e name now) e name procedures)
    (sound_unless boot e name procedures now (export_fault e name now) refl h)
sound_after boot (Withdraw name ∷ changes) e h = sound_after boot changes (withdrawn e name) (sound_withdrawn boot e name h)

next_exported : (e : Exports) (name : InterfaceName) (procedures : ℕ) → (exported e name procedures).next ≡ e.next + 1
unfolding exported
next_exported e name procedures = refl

next_withdrawn : (e : Exports) (name : InterfaceName) → (withdrawn e name).next ≡ e.next
unfolding withdrawn
next_withdrawn e name = refl

rise_unless : (e : Exports) (name : InterfaceName) (procedures : ℕ) (changes : List Change) (f : Option ExportFault)
    → ((d : Exports) → AreRisingFrom d.next (identifiers d changes))
    → AreRisingFrom e.next (given_unless f e.next (identifiers (exported_unless f e name procedures) changes))
rise_unless e name procedures changes (Some fault) rest = rest e
rise_unless e name procedures changes None rest =
    let P : ℕ → Type 0 = λ n. AreRisingFrom n (identifiers (exported e name procedures) changes) in
    (omega arith, subst P (next_exported e name procedures) (rest (exported e name procedures)))

pub rise : (changes : List Change) (e : Exports) → AreRisingFrom e.next (identifiers e changes)
rise [] e = tt
rise (Export name procedures now ∷ changes) e =
    rise_unless e name procedures changes (export_fault e name now) (rise changes)
rise (Withdraw name ∷ changes) e =
    let P : ℕ → Type 0 = λ n. AreRisingFrom n (identifiers (withdrawn e name) changes) in
    subst P (next_withdrawn e name) (rise changes (withdrawn e name))
