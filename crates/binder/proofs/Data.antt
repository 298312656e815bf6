-- The data of a Bind is read in one way.
use Rattle.std.proofs.Common.{◌≡◌, ◌+◌, ◌++◌, ◌&&◌, ℕ, Bool, true, false, if◌then◌else◌, IsTrue, List, [], length, take, drop, Option, Some, None, nat_eq, refl, ap, sym, ◌∙◌, arith}
use Rattle.std.proofs.lemmas.List.{append-nil, drop-drop, drop_at, length-append, take_all, take_at}
use Rattle.std.proofs.lemmas.Bool.{and_parts, false≢true}
use Rattle.std.proofs.lemmas.Cmp.{nat_list_eq_equiv}
use Rattle.std.specs.Cmp.Lexicographic.{pointwise}
use Rattle.binder.specs.declared.interface.InterfaceName.{InterfaceName}
use Rattle.binder.specs.Names.{is_name, name_of}
use Rattle.binder.specs.Same.{same_bytes}
use Rattle.binder.specs.Interfaces.{bind_data, counted, counted_in, is_interface_name, name_in, parts_of}

-- counted bytes tell where they end
pub counted_cancel : (a b x y : List ℕ) → counted a ++ x ≡ counted b ++ y → (a ≡ b) × (x ≡ y)
counted_cancel a b x y e =
    let counts : length a ≡ length b = cc in
    let rests : a ++ x ≡ b ++ y = cc in
    let front : take (length a) (a ++ x) ≡ a = take_at a x (length a) refl in
    let front' : take (length b) (b ++ y) ≡ b = take_at b y (length b) refl in
    let back : drop (length a) (a ++ x) ≡ x = drop_at a x (length a) refl in
    let back' : drop (length b) (b ++ y) ≡ y = drop_at b y (length b) refl in
    (cc, cc)

parts_of_data : (name : InterfaceName) → parts_of (bind_data name) ≡ name
unfolding bind_data
parts_of_data name =
    let rest = counted name.instance in
    let kind : take (length name.kind) (name.kind ++ rest) ≡ name.kind = take_at name.kind rest (length name.kind) refl in
    let behind : drop (length (take (length name.kind) (name.kind ++ rest))) (name.kind ++ rest) ≡ rest =
    ap (λ (xs : List ℕ). drop (length xs) (name.kind ++ rest)) kind ∙ drop_at name.kind rest (length name.kind) refl in
    let instance : counted_in (drop (length (take (length name.kind) (name.kind ++ rest))) (name.kind ++ rest)) ≡ name.instance =
    ap counted_in behind ∙ take_all (length name.instance) name.instance (omega arith) in
    λ i. record { kind = kind i; instance = instance i }

-- a name, where it is one and the bytes are its data
abbrev named : List ℕ → InterfaceName → Option InterfaceName
named bytes name = if is_interface_name name && pointwise nat_eq bytes (bind_data name) then Some name else None

both_hold : (a b : Bool) (name : InterfaceName) → a ≡ true → b ≡ true → (if a && b then Some name else None) ≡ Some name
both_hold false b name h k = absurd (false≢true h)
both_hold true false name h k = absurd (false≢true k)
both_hold true true name h k = refl

which_holds : (a b : Bool) (m n : InterfaceName) → (if a && b then Some m else None) ≡ Some n → (a ≡ true) × (b ≡ true) × (m ≡ n)
which_holds false b m n e = absurd (cc)
which_holds true false m n e = absurd (cc)
which_holds true true m n e = (refl, refl, cc)

-- the data of a name is read as that name
pub name_in_data : (name : InterfaceName) → IsTrue (is_interface_name name) → name_in (bind_data name) ≡ Some name
unfolding name_in
name_in_data name h =
    ap (named (bind_data name)) (parts_of_data name)
    ∙ both_hold (is_interface_name name) (pointwise nat_eq (bind_data name) (bind_data name)) name h (nat_list_eq_equiv.refl (bind_data name))

-- what is read as a name is the data of that name
pub data_of_name : (bytes : List ℕ) (name : InterfaceName) → name_in bytes ≡ Some name → IsTrue (is_interface_name name) × (bytes ≡ bind_data name)
unfolding name_in
data_of_name bytes name h =
    let w = which_holds (is_interface_name (parts_of bytes)) (pointwise nat_eq bytes (bind_data (parts_of bytes))) (parts_of bytes) name h in
    (ap is_interface_name (sym w.2) ∙ w.0, same_bytes bytes (bind_data (parts_of bytes)) w.1 ∙ ap bind_data w.2)

never : (r : Option InterfaceName) → ((name : InterfaceName) → r ≡ Some name → ⊥) → None ≡ r
never None h = refl
never (Some name) h = absurd (h name refl)

-- bytes that are the data of no name are read as none
pub no_name_in : (bytes : List ℕ) → ((name : InterfaceName) → IsTrue (is_interface_name name) → bytes ≡ bind_data name → ⊥) → None ≡ name_in bytes
no_name_in bytes h = never (name_in bytes) (λ name e. let w = data_of_name bytes name e in h name w.0 w.1)

-- two parts are the data of a name where both are names
pub data_of_parts : (kind instance : List ℕ) (name : InterfaceName) → counted kind ++ counted instance ≡ bind_data name
    → (kind ≡ name.kind) × (instance ≡ name.instance)
unfolding bind_data
data_of_parts kind instance name e =
    let w = counted_cancel kind name.kind (counted instance) (counted name.instance) e in
    let v = counted_cancel instance name.instance [] []
    (append-nil (counted instance) ∙ w.1 ∙ sym (append-nil (counted name.instance))) in
    (w.0, v.0)

-- bytes that don't split into two counted parts
pub not_two_parts : (bytes kind rest : List ℕ) → bytes ≡ counted kind ++ rest
    → ((front behind : List ℕ) → rest ≡ counted front ++ behind → ⊥)
    → (k i : List ℕ) → bytes ≡ counted k ++ counted i → ⊥
not_two_parts bytes kind rest split none k i e =
    let w = counted_cancel kind k rest (counted i) (sym split ∙ e) in
    none i [] (w.1 ∙ sym (append-nil (counted i)))

pub more_than_two_parts : (bytes kind rest instance behind : List ℕ) → bytes ≡ counted kind ++ rest → rest ≡ counted instance ++ behind
    → (behind ≡ [] → ⊥) → (k i : List ℕ) → bytes ≡ counted k ++ counted i → ⊥
more_than_two_parts bytes kind rest instance behind split again some k i e =
    let w = counted_cancel kind k rest (counted i) (sym split ∙ e) in
    let v = counted_cancel instance i behind [] (sym again ∙ w.1 ∙ sym (append-nil (counted i))) in
    some v.1

pub no_parts : (bytes : List ℕ) → ((k i : List ℕ) → bytes ≡ counted k ++ counted i → ⊥) → None ≡ name_in bytes
unfolding bind_data
no_parts bytes h = no_name_in bytes (λ name valid e. h name.kind name.instance e)

not_a_name : (bytes : List ℕ) (b : Bool) → (if b then Some bytes else None) ≡ None → b ≡ true → ⊥
not_a_name bytes true e h = absurd (cc)
not_a_name bytes false e h = false≢true h

a_name : (bytes name : List ℕ) (b : Bool) → (if b then Some bytes else None) ≡ Some name → (b ≡ true) × (bytes ≡ name)
a_name bytes name true e = (refl, cc)
a_name bytes name false e = absurd (cc)

pub no_kind : (bytes kind instance : List ℕ) → bytes ≡ counted kind ++ counted instance → name_of kind ≡ None → None ≡ name_in bytes
no_kind bytes kind instance split none =
    no_name_in bytes
    (λ name valid e.
    let w = data_of_parts kind instance name (sym split ∙ e) in
    not_a_name kind (is_name kind) none (ap is_name w.0 ∙ (and_parts (is_name name.kind) (is_name name.instance) valid).0))

pub no_instance : (bytes kind instance : List ℕ) → bytes ≡ counted kind ++ counted instance → name_of instance ≡ None → None ≡ name_in bytes
no_instance bytes kind instance split none =
    no_name_in bytes
    (λ name valid e.
    let w = data_of_parts kind instance name (sym split ∙ e) in
    not_a_name instance (is_name instance) none (ap is_name w.1 ∙ (and_parts (is_name name.kind) (is_name name.instance) valid).1))

both_names : (a b : Bool) → a ≡ true → b ≡ true → (a && b) ≡ true
both_names false b h k = h
both_names true b h k = k

pub data_is : (bytes kind instance a b : List ℕ) → bytes ≡ counted kind ++ counted instance → name_of kind ≡ Some a → name_of instance ≡ Some b
    → bytes ≡ bind_data (record { kind = a; instance = b })
unfolding bind_data
data_is bytes kind instance a b split first second =
    split ∙ ap (λ (xs : List ℕ). counted xs ++ counted instance) (a_name kind a (is_name kind) first).1
    ∙ ap (λ (xs : List ℕ). counted a ++ counted xs) (a_name instance b (is_name instance) second).1

pub name_is : (bytes kind instance a b : List ℕ) → bytes ≡ counted kind ++ counted instance → name_of kind ≡ Some a → name_of instance ≡ Some b
    → Some (record { kind = a; instance = b }) ≡ name_in bytes
name_is bytes kind instance a b split first second =
    let k = a_name kind a (is_name kind) first in
    let i = a_name instance b (is_name instance) second in
    let name : InterfaceName = record { kind = a; instance = b } in
    let valid : is_interface_name name ≡ true =
    both_names (is_name a) (is_name b) (ap is_name (sym k.1) ∙ k.0) (ap is_name (sym i.1) ∙ i.0) in
    sym (name_in_data name valid) ∙ ap name_in (sym (data_is bytes kind instance a b split first second))

-- two counted parts written one behind the other
pub written_twice : (kind instance into : List ℕ) (at end : ℕ) → at ≡ 0 + 1 + length kind → end ≡ at + 1 + length instance
    → take at (counted kind ++ drop at into) ++ counted instance ++ drop end (counted kind ++ drop at into)
    ≡ counted kind ++ counted instance ++ drop end into
written_twice kind instance into at end first second =
    let one = counted kind ++ drop at into in
    let size : length (counted kind) ≡ at = omega arith in
    let front : take at one ≡ counted kind = take_at (counted kind) (drop at into) at size in
    let behind : drop at one ≡ drop at into = drop_at (counted kind) (drop at into) at size in
    let steps : end ≡ at + (1 + length instance) = omega arith in
    let rest : drop end one ≡ drop end into =
    ap (λ (n : ℕ). drop n one) steps ∙ sym (drop-drop (1 + length instance) at one)
    ∙ ap (drop (1 + length instance)) behind ∙ drop-drop (1 + length instance) at into ∙ ap (λ (n : ℕ). drop n into) (sym steps) in
    ap (λ (xs : List ℕ). xs ++ counted instance ++ drop end one) front
    ∙ ap (λ (xs : List ℕ). counted kind ++ counted instance ++ xs) rest

pub data_written : (kind instance k i into one two : List ℕ) (at end : ℕ) → k ≡ kind → i ≡ instance
    → at ≡ 0 + 1 + length k → one ≡ counted k ++ drop at into
    → end ≡ at + 1 + length i → two ≡ take at one ++ counted i ++ drop end one
    → two ≡ counted kind ++ counted instance ++ drop end into
data_written kind instance k i into one two at end same_kind same_instance first one_is second two_is =
    two_is
    ∙ ap (λ (xs : List ℕ). take at xs ++ counted i ++ drop end xs) one_is
    ∙ written_twice k i into at end first second
    ∙ ap (λ (xs : List ℕ). counted xs ++ counted i ++ drop end into) same_kind
    ∙ ap (λ (xs : List ℕ). counted kind ++ counted xs ++ drop end into) same_instance

pub length-data : (kind instance k i : List ℕ) (at end : ℕ) → k ≡ kind → i ≡ instance
    → at ≡ 0 + 1 + length k → end ≡ at + 1 + length i → end ≡ length (counted kind ++ counted instance)
length-data kind instance k i at end same_kind same_instance first second =
    let a : length k ≡ length kind = ap length same_kind in
    let b : length i ≡ length instance = ap length same_instance in
    omega (arith, length-append kind (counted instance))
