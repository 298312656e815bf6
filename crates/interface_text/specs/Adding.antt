-- What adding a value to an enumeration does.
use Rattle.std.specs.Prelude.{ℕ, ◌≡◌, ◌≤◌, ◌<◌, ◌++◌, List, [], ◌∷◌, length, true, false}
use Rattle.interface_tokens.specs.Names.{is_among}
use Rattle.interface_text.specs.declared.values.Added.{Added}
use Rattle.interface_text.specs.declared.values.Added.TheVariants as added

abbrev pub adds_value : List (List ℕ) → List (List ℕ) → List ℕ → Added → Type 0
adds_value old new name added.Added = (is_among name old ≡ false) × (length old < 65536) × (new ≡ old ++ name ∷ [])
adds_value old new name added.Known = is_among name old ≡ true
adds_value old new name added.Full = (is_among name old ≡ false) × (65536 ≤ length old)
