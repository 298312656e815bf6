-- Names are looked up by what they stand for.
use Rattle.std.proofs.Common.{◌≡◌, ℕ, true, false, cond, List, [], ◌∷◌, Some, refl, ap}
use Rattle.std.specs.Prelude.{map, option_map}
use Rattle.std.specs.Map.{lookup}
use Rattle.interface_tokens.specs.Names.{is_same}
use Rattle.indexmap.specs.IndexMap.{insert_entry}
use Rattle.interface_text.specs.Meanings.{Sense, declare, look_up}
use Rattle.interface_text.specs.Senses.{sense_of, named_sense}
use Rattle.interface_text.specs.declared.names.Meaning.{Meaning}

pub looked_up : (name : List ℕ) (entries : List (List ℕ × Meaning))
    → look_up name (map named_sense entries) ≡ option_map sense_of (lookup (is_same name) entries)
looked_up name [] = refl
looked_up name (e ∷ es) = elim (is_same name e.0) as (λ b. cond b (Some (sense_of e.1)) (look_up name (map named_sense es)) ≡ option_map sense_of (cond b (Some e.1) (lookup (is_same name) es)))
    [ true ↦ refl | false ↦ looked_up name es ]

pub declared : (entries : List (List ℕ × Meaning)) (name : List ℕ) (m : Meaning)
    → map named_sense (insert_entry is_same entries name m) ≡ declare (map named_sense entries) name (sense_of m)
declared [] name m = refl
declared (e ∷ es) name m = elim (is_same name e.0) as (λ b. map named_sense (cond b ((e.0, m) ∷ es) (e ∷ insert_entry is_same es name m))
    ≡ cond b ((e.0, sense_of m) ∷ map named_sense es) (named_sense e ∷ declare (map named_sense es) name (sense_of m)))
    [ true ↦ refl | false ↦ ap (λ (rest : List (List ℕ × Sense)). named_sense e ∷ rest) (declared es name m) ]
