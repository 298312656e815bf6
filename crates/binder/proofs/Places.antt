-- Where a name's row is, in rows whose names differ, and after a row was written.
use Rattle.std.proofs.Common.{◌≡◌, ◌<◌, ◌≤◌, ◌&&◌, ℕ, Bool, true, false, cond, List, length, get_or, set, Option, Some, None, nat_lt, nat_eq, refl, ap, sym, ◌∙◌, ◌⊎◌, ⊎_elim, is_none, arith}
use Rattle.std.specs.List.{position, position_or_len}
use Rattle.std.proofs.lemmas.List.{get_or-set_other, get_or-set_same, get_or_past, length-set}
use Rattle.std.proofs.lemmas.List.Folds.{position_or_len-set}
use Rattle.std.proofs.lemmas.List.Sums.{fails_before_first, position_or_len_is}
use Rattle.std.proofs.lemmas.List.Quantifiers.{position-Some}
use Rattle.std.proofs.lemmas.Bool.{and_parts, cases_lt, false_from_ne_true, false≢true}
use Rattle.std.proofs.lemmas.Bool.Decides.{nat_tests}
use Rattle.std.proofs.lemmas.Cmp.{nat_list_eq_equiv}
use Rattle.std.specs.Cmp.Lexicographic.{pointwise}
use Rattle.binder.specs.declared.interface.InterfaceName.{InterfaceName}
use Rattle.binder.specs.declared.row.ExportRow.{ExportRow}
use Rattle.binder.specs.Same.{same_bytes}
use Rattle.binder.specs.Interfaces.{is_same_name}
use Rattle.binder.specs.Exports.{free_place, is_row_of, place_of, row_at}
use Rattle.binder.specs.Sound.{NamesDiffer}

pub by_cases : {A B C : Type 0} → A ⊎ B → (A → C) → (B → C) → C
by_cases s f g = ⊎_elim f g s

-- names that compare as the same are the same
pub same_name : (a b : InterfaceName) → is_same_name a b ≡ true → a ≡ b
same_name a b h =
    let parts = and_parts (pointwise nat_eq a.kind b.kind) (pointwise nat_eq a.instance b.instance) h in
    let kinds : a.kind ≡ b.kind = same_bytes a.kind b.kind parts.0 in
    let instances : a.instance ≡ b.instance = same_bytes a.instance b.instance parts.1 in
    λ i. record { kind = kinds i; instance = instances i }

pub own_name : (a : InterfaceName) → is_same_name a a ≡ true
own_name a =
    let kind : pointwise nat_eq a.kind a.kind ≡ true = nat_list_eq_equiv.refl a.kind in
    let instance : pointwise nat_eq a.instance a.instance ≡ true = nat_list_eq_equiv.refl a.instance in
    ap (λ (b : Bool). b && pointwise nat_eq a.instance a.instance) kind ∙ instance

pub same_name-symm : (a b : InterfaceName) → is_same_name a b ≡ is_same_name b a
same_name-symm a b =
    ap (λ (x : Bool). x && pointwise nat_eq a.instance b.instance) (nat_list_eq_equiv.symm a.kind b.kind)
    ∙ ap (λ (x : Bool). pointwise nat_eq b.kind a.kind && x) (nat_list_eq_equiv.symm a.instance b.instance)

-- the first place at which a test holds
position-first : {X : Type 0} (p : X → Bool) (xs : List X) (i : ℕ) (d : X) → i < length xs → p (get_or xs i d) ≡ true
    → ((k : ℕ) → k < i → p (get_or xs k d) ≡ false) → position p xs ≡ Some i
position-first p xs i d inside here before =
    let e : position_or_len p xs ≡ i = position_or_len_is p xs i d (omega arith) before (λ _. here) in
    grind (arith, nat_tests)

-- there is none
position-none : {X : Type 0} (p : X → Bool) (xs : List X) (d : X) → ((k : ℕ) → p (get_or xs k d) ≡ false) → position p xs ≡ None
position-none p xs d never =
    let e : position_or_len p xs ≡ length xs =
    position_or_len_is p xs (length xs) d (omega arith) (λ k _. never k) (λ h. absurd (omega arith)) in
    grind (arith, nat_tests)

position-fails : {X : Type 0} (p : X → Bool) (xs : List X) (k : ℕ) (d : X) → position p xs ≡ None → k < length xs → p (get_or xs k d) ≡ false
position-fails p xs k d none inside =
    let all : length xs ≤ position_or_len p xs = grind (arith, nat_tests) in
    fails_before_first p xs k d (omega arith)

position-set : {X : Type 0} (p : X → Bool) (xs : List X) (i : ℕ) (y d : X) → p y ≡ p (get_or xs i d) → position p (set xs i y) ≡ position p xs
position-set p xs i y d same =
    let e : position_or_len p (set xs i y) ≡ position_or_len p xs = position_or_len-set p xs i y d same in
    let l : length (set xs i y) ≡ length xs = length-set xs i y in
    ap (λ (n : ℕ). cond (nat_lt n (length (set xs i y))) (Some n) None) e
    ∙ ap (λ (n : ℕ). cond (nat_lt (position_or_len p xs) n) (Some (position_or_len p xs)) None) l

-- a row with a name is one of the rows
within : (rows : List (Option ExportRow)) (name : InterfaceName) (i : ℕ) → is_row_of name (row_at rows i) ≡ true → i < length rows
within rows name i h =
    by_cases (cases_lt i (length rows)) (λ inside. inside)
    (λ past. absurd (false≢true (sym (ap (is_row_of name) (get_or_past rows i None past)) ∙ h)))

-- the place of a name is where its row is
pub place-found : (rows : List (Option ExportRow)) (name : InterfaceName) (i : ℕ) → NamesDiffer rows
    → is_row_of name (row_at rows i) ≡ true → place_of rows name ≡ Some i
place-found rows name i apart here =
    position-first (is_row_of name) rows i None (within rows name i here) here
    (λ k h. false_from_ne_true (is_row_of name (row_at rows k)) (λ there. absurd (omega (arith, apart.one name k i there here))))

pub place-is : (rows : List (Option ExportRow)) (name : InterfaceName) (i : ℕ) → place_of rows name ≡ Some i
    → is_row_of name (row_at rows i) ≡ true
place-is rows name i h = (position-Some (is_row_of name) rows i None h).1

pub place-within : (rows : List (Option ExportRow)) (name : InterfaceName) (i : ℕ) → place_of rows name ≡ Some i → i < length rows
place-within rows name i h = (position-Some (is_row_of name) rows i None h).0

pub place-none : (rows : List (Option ExportRow)) (name : InterfaceName) (i : ℕ) → place_of rows name ≡ None
    → is_row_of name (row_at rows i) ≡ false
place-none rows name i h =
    by_cases (cases_lt i (length rows)) (λ inside. position-fails (is_row_of name) rows i None h inside)
    (λ past. ap (is_row_of name) (get_or_past rows i None past))

pub no_place : (rows : List (Option ExportRow)) (name : InterfaceName) → ((i : ℕ) → is_row_of name (row_at rows i) ≡ false) → place_of rows name ≡ None
no_place rows name never = position-none (is_row_of name) rows None never

pub place-set : (rows : List (Option ExportRow)) (name : InterfaceName) (i : ℕ) (row : Option ExportRow)
    → is_row_of name row ≡ is_row_of name (row_at rows i) → place_of (set rows i row) name ≡ place_of rows name
place-set rows name i row same = position-set (is_row_of name) rows i row None same

-- a free place is one of the rows, and has no export
pub free-within : (rows : List (Option ExportRow)) (i : ℕ) → free_place rows ≡ Some i → i < length rows
free-within rows i h = (position-Some is_none rows i None h).0

is_none-None : (row : Option ExportRow) → is_none row ≡ true → row ≡ None
is_none-None None h = refl
is_none-None (Some row) h = absurd (false≢true h)

pub free-row : (rows : List (Option ExportRow)) (i : ℕ) → free_place rows ≡ Some i → row_at rows i ≡ None
free-row rows i h = is_none-None (row_at rows i) (position-Some is_none rows i None h).1

-- a row after one was written
pub row-set_same : (rows : List (Option ExportRow)) (i k : ℕ) (row : Option ExportRow) → i < length rows → k ≡ i
    → row_at (set rows i row) k ≡ row
row-set_same rows i k row inside same =
    ap (λ (n : ℕ). row_at (set rows i row) n) same ∙ get_or-set_same rows i row None inside

pub row-set_other : (rows : List (Option ExportRow)) (i k : ℕ) (row : Option ExportRow) → (k ≡ i → ⊥)
    → row_at (set rows i row) k ≡ row_at rows k
row-set_other rows i k row apart = get_or-set_other rows i k row None apart
