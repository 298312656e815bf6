-- Names of interfaces, and the data of a Bind that asks for one.
use Rattle.std.specs.Prelude.{ℕ, ◌&&◌, nat_eq, Bool, List, [], ◌∷◌, ◌++◌, length, take, drop, Option, Some, None, if◌then◌else◌}
use Rattle.std.specs.Cmp.Lexicographic.{pointwise}
use Rattle.binder.specs.declared.interface.InterfaceName.{InterfaceName}
use Rattle.binder.specs.Names.{is_name}

-- two names are the same where their types and their instances are
abbrev pub is_same_name : InterfaceName → InterfaceName → Bool
is_same_name a b = pointwise nat_eq a.kind b.kind && pointwise nat_eq a.instance b.instance

-- the type and the instance are names: this holds of every name that a program can make
abbrev pub is_interface_name : InterfaceName → Bool
is_interface_name name = is_name name.kind && is_name name.instance

-- some bytes, with a byte before them that counts them
abbrev pub counted : List ℕ → List ℕ
counted bytes = length bytes ∷ bytes

-- the data of a Bind: the type and the instance, each counted
unfoldable pub bind_data : InterfaceName → List ℕ
bind_data name = counted name.kind ++ counted name.instance

-- the bytes that the first byte counts
abbrev pub counted_in : List ℕ → List ℕ
counted_in [] = []
counted_in (count ∷ bytes) = take count bytes

-- what stands in data at the places of a type and an instance
abbrev pub parts_of : List ℕ → InterfaceName
parts_of bytes =
    let kind = counted_in bytes in
    record { kind = kind; instance = counted_in (drop (length kind) (drop 1 bytes)) }

-- the name whose data some bytes are
unfoldable pub name_in : List ℕ → Option InterfaceName
name_in bytes =
    if is_interface_name (parts_of bytes) && pointwise nat_eq bytes (bind_data (parts_of bytes))
    then Some (parts_of bytes)
    else None
