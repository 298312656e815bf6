-- What holds of the exports at all times: at boot, and after each call.
use Rattle.std.proofs.Common.{◌≡◌, ◌<◌, ◌≤◌, ◌+◌, ◌^◌, ℕ, zero, suc, Bool, true, false, cond, List, length, get_or, set, replicate, Option, Some, None, refl, ap, sym, ◌∙◌, arith}
use Rattle.std.proofs.lemmas.List.{length-set}
use Rattle.std.proofs.lemmas.Bool.{cases_Bool, cases_eq, false_from_ne_true, false≢true}
use Rattle.indexmap.specs.IndexMap.{IndexMap}
use Rattle.binder.specs.declared.interface.InterfaceName.{InterfaceName}
use Rattle.binder.specs.declared.row.ExportRow.{ExportRow}
use Rattle.binder.specs.Interfaces.{is_same_name}
use Rattle.binder.specs.Exports.{free_place, is_row_of, place_of, row_at, row_count}
use Rattle.binder.specs.Index.{IsKept, place_in}
use Rattle.binder.specs.Sound.{NamesDiffer}
use Rattle.binder.proofs.Places.{by_cases, free-row, free-within, no_place, own_name, place-found, place-is, place-none, place-set, place-within, row-set_other, row-set_same, same_name, same_name-symm}

-- free rows have no names
pub free_rows : (n i : ℕ) → get_or {A = Option ExportRow} (replicate n None) i None ≡ None
free_rows zero i = refl
free_rows (suc n) zero = refl
free_rows (suc n) (suc i) = free_rows n i

pub names-free : NamesDiffer (replicate row_count None)
names-free = record { one = λ name i j h k. absurd (false≢true (sym (ap (is_row_of name) (free_rows row_count i)) ∙ h)) }

-- names still differ where a row is freed
pub names-freed : (rows : List (Option ExportRow)) (i : ℕ) → i < length rows → NamesDiffer rows → NamesDiffer (set rows i None)
names-freed rows i inside apart =
    let was : (name : InterfaceName) (k : ℕ) → is_row_of name (row_at (set rows i None) k) ≡ true → is_row_of name (row_at rows k) ≡ true =
    λ name k h. by_cases (cases_eq k i)
    (λ same. absurd (false≢true (sym (ap (is_row_of name) (row-set_same rows i k None inside same)) ∙ h)))
    (λ other. sym (ap (is_row_of name) (row-set_other rows i k None other)) ∙ h) in
    record { one = λ name j k h g. apart.one name j k (was name j h) (was name k g) }

-- and where a row takes a name that no row has
pub names-taken : (rows : List (Option ExportRow)) (i : ℕ) (row : ExportRow) → i < length rows → place_of rows row.name ≡ None
    → NamesDiffer rows → NamesDiffer (set rows i (Some row))
names-taken rows i row inside absent apart =
    let at : (name : InterfaceName) (k : ℕ) → k ≡ i → is_row_of name (row_at (set rows i (Some row)) k) ≡ true → is_same_name name row.name ≡ true =
    λ name k same h. sym (ap (is_row_of name) (row-set_same rows i k (Some row) inside same)) ∙ h in
    let off : (name : InterfaceName) (k : ℕ) → (k ≡ i → ⊥) → is_row_of name (row_at (set rows i (Some row)) k) ≡ true → is_row_of name (row_at rows k) ≡ true =
    λ name k other h. sym (ap (is_row_of name) (row-set_other rows i k (Some row) other)) ∙ h in
    let clash : (name : InterfaceName) (k : ℕ) → is_same_name name row.name ≡ true → is_row_of name (row_at rows k) ≡ true → ⊥ =
    λ name k same there.
    let e : name ≡ row.name = same_name name row.name same in
    false≢true (sym (place-none rows name k (ap (place_of rows) e ∙ absent)) ∙ there) in
    record {
      one = λ name j k h g. by_cases (cases_eq j i)
          (λ j_same. by_cases (cases_eq k i)
          (λ k_same. j_same ∙ sym k_same)
          (λ k_other. absurd (clash name k (at name j j_same h) (off name k k_other g))))
          (λ j_other. by_cases (cases_eq k i)
          (λ k_same. absurd (clash name j (at name k k_same g) (off name j j_other h)))
          (λ k_other. apart.one name j k (off name j j_other h) (off name k k_other g)));
    }

-- two names of one row are the same
pub both : (row : Option ExportRow) (a b : InterfaceName) → is_row_of a row ≡ true → is_row_of b row ≡ true → is_same_name a b ≡ true
both None a b h g = absurd (false≢true h)
both (Some row) a b h g =
    let first : a ≡ row.name = same_name a row.name h in
    let second : b ≡ row.name = same_name b row.name g in
    ap (λ (n : InterfaceName). is_same_name a n) (second ∙ sym first) ∙ own_name a

-- the place of a name after a row has taken a name
pub place-taken : (rows : List (Option ExportRow)) (i : ℕ) (row : ExportRow) (name : InterfaceName)
    → row_at rows i ≡ None → i < length rows → NamesDiffer (set rows i (Some row))
    → place_of (set rows i (Some row)) name ≡ cond (is_same_name row.name name) (Some i) (place_of rows name)
place-taken rows i row name free inside apart =
    by_cases (cases_Bool (is_same_name row.name name))
    (λ same.
    let here : is_row_of name (row_at (set rows i (Some row)) i) ≡ true =
    ap (is_row_of name) (row-set_same rows i i (Some row) inside refl) ∙ same_name-symm name row.name ∙ same in
    place-found (set rows i (Some row)) name i apart here
    ∙ sym (ap (λ (b : Bool). cond b (Some i) (place_of rows name)) same))
    (λ other.
    let unlike : is_row_of name (Some row) ≡ is_row_of name (row_at rows i) =
    same_name-symm name row.name ∙ other ∙ sym (ap (is_row_of name) free) in
    place-set rows name i (Some row) unlike
    ∙ sym (ap (λ (b : Bool). cond b (Some i) (place_of rows name)) other))

-- the place of a name after a row was freed
pub place-freed : (rows : List (Option ExportRow)) (i : ℕ) (freed name : InterfaceName) → NamesDiffer rows
    → place_of rows freed ≡ Some i
    → place_of (set rows i None) name ≡ cond (is_same_name freed name) None (place_of rows name)
place-freed rows i freed name apart at =
    let inside : i < length rows = place-within rows freed i at in
    let had : is_row_of freed (row_at rows i) ≡ true = place-is rows freed i at in
    by_cases (cases_Bool (is_same_name freed name))
    (λ same.
    let e : freed ≡ name = same_name freed name same in
    let gone : (k : ℕ) → is_row_of name (row_at (set rows i None) k) ≡ false =
    λ k. by_cases (cases_eq k i)
    (λ here. ap (is_row_of name) (row-set_same rows i k None inside here))
    (λ there. ap (is_row_of name) (row-set_other rows i k None there)
    ∙ false_from_ne_true (is_row_of name (row_at rows k))
    (λ h. there (apart.one name k i h (sym (ap (λ (n : InterfaceName). is_row_of n (row_at rows i)) e) ∙ had)))) in
    no_place (set rows i None) name gone ∙ sym (ap (λ (b : Bool). cond b None (place_of rows name)) same))
    (λ other.
    let unlike : is_row_of name (row_at rows i) ≡ false =
    false_from_ne_true (is_row_of name (row_at rows i)) (λ h. false≢true (sym other ∙ both (row_at rows i) freed name had h)) in
    place-set rows name i None (sym unlike) ∙ sym (ap (λ (b : Bool). cond b None (place_of rows name)) other))

pub kept_booted : {S : Type 0} (now : ℕ) → now ≤ 2 ^ 32 → IsKept {S = S} (replicate row_count None) now None
unfolding place_in
kept_booted now fits =
    record { size = refl; next_fits = fits; indexed = λ name. refl; names = names-free }

-- after an export
pub kept_exported : {S : Type 0} (rows : List (Option ExportRow)) (next : ℕ) (index after : Option (IndexMap InterfaceName ℕ S))
    (i : ℕ) (row : ExportRow) → IsKept rows next index → next < 2 ^ 32 → free_place rows ≡ Some i → place_of rows row.name ≡ None
    → ((name : InterfaceName) → place_in after name ≡ cond (is_same_name row.name name) (Some i) (place_in index name))
    → IsKept (set rows i (Some row)) (next + 1) after
kept_exported rows next index after i row h fits free absent noted =
    let inside : i < length rows = free-within rows i free in
    let apart = names-taken rows i row inside absent h.names in
    record {
      size = length-set rows i (Some row) ∙ h.size;
      next_fits = omega arith;
      indexed = λ name.
          noted name
          ∙ ap (λ (p : Option ℕ). cond (is_same_name row.name name) (Some i) p) (h.indexed name)
          ∙ sym (place-taken rows i row name (free-row rows i free) inside apart);
      names = apart;
    }

-- after a withdrawal
pub kept_withdrawn : {S : Type 0} (rows : List (Option ExportRow)) (next : ℕ) (index after : Option (IndexMap InterfaceName ℕ S))
    (i : ℕ) (freed : InterfaceName) → IsKept rows next index → place_of rows freed ≡ Some i
    → ((name : InterfaceName) → place_in after name ≡ cond (is_same_name freed name) None (place_in index name))
    → IsKept (set rows i None) next after
kept_withdrawn rows next index after i freed h at forgotten =
    record {
      size = length-set rows i None ∙ h.size;
      next_fits = h.next_fits;
      indexed = λ name.
          forgotten name
          ∙ ap (λ (p : Option ℕ). cond (is_same_name freed name) None p) (h.indexed name)
          ∙ sym (place-freed rows i freed name h.names at);
      names = names-freed rows i (place-within rows freed i at) h.names;
    }
