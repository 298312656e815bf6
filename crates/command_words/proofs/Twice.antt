-- An option that is given twice leads to a fault, whatever words follow.
use Rattle.std.proofs.Common.{◌≡◌, List, [], ◌∷◌, ◌++◌}
use Rattle.std.specs.Prelude.{Some, codes}
use Rattle.clap.proofs.OnLiterals.{clap_on_literals}
use Rattle.clap.specs.Walk.{Text}
use Rattle.clap.specs.declared.builder.value_parser.ValueParser.{ValueParser}
use Rattle.clap.specs.declared.error.kind.ErrorKind.TheVariants.{ArgumentConflict}
use Rattle.command_words.proofs.Steps.{calls_row, seed_row, stands, waits}
use Rattle.command_words.proofs.WordsRead.{Calls, Calls_are, End, Read, Seed, Seed_is, Sound, calls_given, end_past, fault_at, idle_word, seed_given, turn_of}

pub seed_again : (p q : ValueParser) (a t : Text) (words : List Text) → Sound p q (stands (seed_row p a ∷ []) (Some (codes "seed", t ∷ []))) words → ⊥
unfolding clap_on_literals
seed_again p q a t [] sound = let bad : ArgumentConflict ∷ [] ≡ [] = sound.1 in cc
seed_again p q a t (word ∷ rest) sound =
    by (idle_word p q (seed_row p a ∷ []) (Some (codes "seed", t ∷ [])) word (turn_of p q (stands (seed_row p a ∷ []) (Some (codes "seed", t ∷ []))) word rest sound))
  where
    by : Read word → ⊥
    by (End is) = let bad : ArgumentConflict ∷ [] ≡ [] = (end_past p q (seed_row p a ∷ []) (Some (codes "seed", t ∷ [])) word rest is sound).1 in cc
    by (Seed_is v is) = let bad : ArgumentConflict ∷ [] ≡ [] = fault_at p q (stands (seed_row p a ∷ []) (Some (codes "seed", t ∷ []))) word (codes "--seed=" ++ v) rest is sound in cc
    by (Seed is) = let bad : ArgumentConflict ∷ [] ≡ [] = fault_at p q (stands (seed_row p a ∷ []) (Some (codes "seed", t ∷ []))) word (codes "--seed") rest is sound in cc
    by (Calls_are w is) = let bad : ArgumentConflict ∷ [] ≡ [] = fault_at p q (stands (seed_row p a ∷ []) (Some (codes "seed", t ∷ []))) word (codes "--calls=" ++ w) rest is sound in cc
    by (Calls is) = let bad : ArgumentConflict ∷ [] ≡ [] = fault_at p q (stands (seed_row p a ∷ []) (Some (codes "seed", t ∷ []))) word (codes "--calls") rest is sound in cc

pub seed_name_again : (p q : ValueParser) (a : Text) (words : List Text) → Sound p q (waits (seed_row p a ∷ []) (codes "seed")) words → ⊥
seed_name_again p q a words sound =
    let given = seed_given p q (seed_row p a ∷ []) words sound in
    seed_again p q a given.0 given.1 given.3

pub seed_again_first : (p q : ValueParser) (a b t : Text) (words : List Text) → Sound p q (stands (seed_row p a ∷ calls_row q b ∷ []) (Some (codes "seed", t ∷ []))) words → ⊥
unfolding clap_on_literals
seed_again_first p q a b t [] sound = let bad : ArgumentConflict ∷ [] ≡ [] = sound.1 in cc
seed_again_first p q a b t (word ∷ rest) sound =
    by (idle_word p q (seed_row p a ∷ calls_row q b ∷ []) (Some (codes "seed", t ∷ [])) word (turn_of p q (stands (seed_row p a ∷ calls_row q b ∷ []) (Some (codes "seed", t ∷ []))) word rest sound))
  where
    by : Read word → ⊥
    by (End is) = let bad : ArgumentConflict ∷ [] ≡ [] = (end_past p q (seed_row p a ∷ calls_row q b ∷ []) (Some (codes "seed", t ∷ [])) word rest is sound).1 in cc
    by (Seed_is v is) = let bad : ArgumentConflict ∷ [] ≡ [] = fault_at p q (stands (seed_row p a ∷ calls_row q b ∷ []) (Some (codes "seed", t ∷ []))) word (codes "--seed=" ++ v) rest is sound in cc
    by (Seed is) = let bad : ArgumentConflict ∷ [] ≡ [] = fault_at p q (stands (seed_row p a ∷ calls_row q b ∷ []) (Some (codes "seed", t ∷ []))) word (codes "--seed") rest is sound in cc
    by (Calls_are w is) = let bad : ArgumentConflict ∷ [] ≡ [] = fault_at p q (stands (seed_row p a ∷ calls_row q b ∷ []) (Some (codes "seed", t ∷ []))) word (codes "--calls=" ++ w) rest is sound in cc
    by (Calls is) = let bad : ArgumentConflict ∷ [] ≡ [] = fault_at p q (stands (seed_row p a ∷ calls_row q b ∷ []) (Some (codes "seed", t ∷ []))) word (codes "--calls") rest is sound in cc

pub seed_name_again_first : (p q : ValueParser) (a b : Text) (words : List Text) → Sound p q (waits (seed_row p a ∷ calls_row q b ∷ []) (codes "seed")) words → ⊥
seed_name_again_first p q a b words sound =
    let given = seed_given p q (seed_row p a ∷ calls_row q b ∷ []) words sound in
    seed_again_first p q a b given.0 given.1 given.3

pub seed_again_last : (p q : ValueParser) (a b t : Text) (words : List Text) → Sound p q (stands (calls_row q b ∷ seed_row p a ∷ []) (Some (codes "seed", t ∷ []))) words → ⊥
unfolding clap_on_literals
seed_again_last p q a b t [] sound = let bad : ArgumentConflict ∷ [] ≡ [] = sound.1 in cc
seed_again_last p q a b t (word ∷ rest) sound =
    by (idle_word p q (calls_row q b ∷ seed_row p a ∷ []) (Some (codes "seed", t ∷ [])) word (turn_of p q (stands (calls_row q b ∷ seed_row p a ∷ []) (Some (codes "seed", t ∷ []))) word rest sound))
  where
    by : Read word → ⊥
    by (End is) = let bad : ArgumentConflict ∷ [] ≡ [] = (end_past p q (calls_row q b ∷ seed_row p a ∷ []) (Some (codes "seed", t ∷ [])) word rest is sound).1 in cc
    by (Seed_is v is) = let bad : ArgumentConflict ∷ [] ≡ [] = fault_at p q (stands (calls_row q b ∷ seed_row p a ∷ []) (Some (codes "seed", t ∷ []))) word (codes "--seed=" ++ v) rest is sound in cc
    by (Seed is) = let bad : ArgumentConflict ∷ [] ≡ [] = fault_at p q (stands (calls_row q b ∷ seed_row p a ∷ []) (Some (codes "seed", t ∷ []))) word (codes "--seed") rest is sound in cc
    by (Calls_are w is) = let bad : ArgumentConflict ∷ [] ≡ [] = fault_at p q (stands (calls_row q b ∷ seed_row p a ∷ []) (Some (codes "seed", t ∷ []))) word (codes "--calls=" ++ w) rest is sound in cc
    by (Calls is) = let bad : ArgumentConflict ∷ [] ≡ [] = fault_at p q (stands (calls_row q b ∷ seed_row p a ∷ []) (Some (codes "seed", t ∷ []))) word (codes "--calls") rest is sound in cc

pub seed_name_again_last : (p q : ValueParser) (a b : Text) (words : List Text) → Sound p q (waits (calls_row q b ∷ seed_row p a ∷ []) (codes "seed")) words → ⊥
seed_name_again_last p q a b words sound =
    let given = seed_given p q (calls_row q b ∷ seed_row p a ∷ []) words sound in
    seed_again_last p q a b given.0 given.1 given.3

pub calls_again : (p q : ValueParser) (a t : Text) (words : List Text) → Sound p q (stands (calls_row q a ∷ []) (Some (codes "calls", t ∷ []))) words → ⊥
unfolding clap_on_literals
calls_again p q a t [] sound = let bad : ArgumentConflict ∷ [] ≡ [] = sound.1 in cc
calls_again p q a t (word ∷ rest) sound =
    by (idle_word p q (calls_row q a ∷ []) (Some (codes "calls", t ∷ [])) word (turn_of p q (stands (calls_row q a ∷ []) (Some (codes "calls", t ∷ []))) word rest sound))
  where
    by : Read word → ⊥
    by (End is) = let bad : ArgumentConflict ∷ [] ≡ [] = (end_past p q (calls_row q a ∷ []) (Some (codes "calls", t ∷ [])) word rest is sound).1 in cc
    by (Seed_is v is) = let bad : ArgumentConflict ∷ [] ≡ [] = fault_at p q (stands (calls_row q a ∷ []) (Some (codes "calls", t ∷ []))) word (codes "--seed=" ++ v) rest is sound in cc
    by (Seed is) = let bad : ArgumentConflict ∷ [] ≡ [] = fault_at p q (stands (calls_row q a ∷ []) (Some (codes "calls", t ∷ []))) word (codes "--seed") rest is sound in cc
    by (Calls_are w is) = let bad : ArgumentConflict ∷ [] ≡ [] = fault_at p q (stands (calls_row q a ∷ []) (Some (codes "calls", t ∷ []))) word (codes "--calls=" ++ w) rest is sound in cc
    by (Calls is) = let bad : ArgumentConflict ∷ [] ≡ [] = fault_at p q (stands (calls_row q a ∷ []) (Some (codes "calls", t ∷ []))) word (codes "--calls") rest is sound in cc

pub calls_name_again : (p q : ValueParser) (a : Text) (words : List Text) → Sound p q (waits (calls_row q a ∷ []) (codes "calls")) words → ⊥
calls_name_again p q a words sound =
    let given = calls_given p q (calls_row q a ∷ []) words sound in
    calls_again p q a given.0 given.1 given.3

pub calls_again_first : (p q : ValueParser) (a b t : Text) (words : List Text) → Sound p q (stands (calls_row q a ∷ seed_row p b ∷ []) (Some (codes "calls", t ∷ []))) words → ⊥
unfolding clap_on_literals
calls_again_first p q a b t [] sound = let bad : ArgumentConflict ∷ [] ≡ [] = sound.1 in cc
calls_again_first p q a b t (word ∷ rest) sound =
    by (idle_word p q (calls_row q a ∷ seed_row p b ∷ []) (Some (codes "calls", t ∷ [])) word (turn_of p q (stands (calls_row q a ∷ seed_row p b ∷ []) (Some (codes "calls", t ∷ []))) word rest sound))
  where
    by : Read word → ⊥
    by (End is) = let bad : ArgumentConflict ∷ [] ≡ [] = (end_past p q (calls_row q a ∷ seed_row p b ∷ []) (Some (codes "calls", t ∷ [])) word rest is sound).1 in cc
    by (Seed_is v is) = let bad : ArgumentConflict ∷ [] ≡ [] = fault_at p q (stands (calls_row q a ∷ seed_row p b ∷ []) (Some (codes "calls", t ∷ []))) word (codes "--seed=" ++ v) rest is sound in cc
    by (Seed is) = let bad : ArgumentConflict ∷ [] ≡ [] = fault_at p q (stands (calls_row q a ∷ seed_row p b ∷ []) (Some (codes "calls", t ∷ []))) word (codes "--seed") rest is sound in cc
    by (Calls_are w is) = let bad : ArgumentConflict ∷ [] ≡ [] = fault_at p q (stands (calls_row q a ∷ seed_row p b ∷ []) (Some (codes "calls", t ∷ []))) word (codes "--calls=" ++ w) rest is sound in cc
    by (Calls is) = let bad : ArgumentConflict ∷ [] ≡ [] = fault_at p q (stands (calls_row q a ∷ seed_row p b ∷ []) (Some (codes "calls", t ∷ []))) word (codes "--calls") rest is sound in cc

pub calls_name_again_first : (p q : ValueParser) (a b : Text) (words : List Text) → Sound p q (waits (calls_row q a ∷ seed_row p b ∷ []) (codes "calls")) words → ⊥
calls_name_again_first p q a b words sound =
    let given = calls_given p q (calls_row q a ∷ seed_row p b ∷ []) words sound in
    calls_again_first p q a b given.0 given.1 given.3

pub calls_again_last : (p q : ValueParser) (a b t : Text) (words : List Text) → Sound p q (stands (seed_row p b ∷ calls_row q a ∷ []) (Some (codes "calls", t ∷ []))) words → ⊥
unfolding clap_on_literals
calls_again_last p q a b t [] sound = let bad : ArgumentConflict ∷ [] ≡ [] = sound.1 in cc
calls_again_last p q a b t (word ∷ rest) sound =
    by (idle_word p q (seed_row p b ∷ calls_row q a ∷ []) (Some (codes "calls", t ∷ [])) word (turn_of p q (stands (seed_row p b ∷ calls_row q a ∷ []) (Some (codes "calls", t ∷ []))) word rest sound))
  where
    by : Read word → ⊥
    by (End is) = let bad : ArgumentConflict ∷ [] ≡ [] = (end_past p q (seed_row p b ∷ calls_row q a ∷ []) (Some (codes "calls", t ∷ [])) word rest is sound).1 in cc
    by (Seed_is v is) = let bad : ArgumentConflict ∷ [] ≡ [] = fault_at p q (stands (seed_row p b ∷ calls_row q a ∷ []) (Some (codes "calls", t ∷ []))) word (codes "--seed=" ++ v) rest is sound in cc
    by (Seed is) = let bad : ArgumentConflict ∷ [] ≡ [] = fault_at p q (stands (seed_row p b ∷ calls_row q a ∷ []) (Some (codes "calls", t ∷ []))) word (codes "--seed") rest is sound in cc
    by (Calls_are w is) = let bad : ArgumentConflict ∷ [] ≡ [] = fault_at p q (stands (seed_row p b ∷ calls_row q a ∷ []) (Some (codes "calls", t ∷ []))) word (codes "--calls=" ++ w) rest is sound in cc
    by (Calls is) = let bad : ArgumentConflict ∷ [] ≡ [] = fault_at p q (stands (seed_row p b ∷ calls_row q a ∷ []) (Some (codes "calls", t ∷ []))) word (codes "--calls") rest is sound in cc

pub calls_name_again_last : (p q : ValueParser) (a b : Text) (words : List Text) → Sound p q (waits (seed_row p b ∷ calls_row q a ∷ []) (codes "calls")) words → ⊥
calls_name_again_last p q a b words sound =
    let given = calls_given p q (seed_row p b ∷ calls_row q a ∷ []) words sound in
    calls_again_last p q a b given.0 given.1 given.3
