-- Words behind `storm` that `clap` finds no fault in are both options, spelled so.
use Rattle.std.proofs.Common.{◌≡◌, ◌⊎◌, true, false, List, [], ◌∷◌, ◌++◌, ap, ◌∙◌, refl, inl, inr}
use Rattle.std.specs.Prelude.{Some, None, codes}
use Rattle.clap.proofs.OnLiterals.{clap_on_literals}
use Rattle.clap.specs.ValueTests.{accepts}
use Rattle.clap.specs.Walk.{Text}
use Rattle.clap.specs.declared.builder.value_parser.ValueParser.{ValueParser}
use Rattle.clap.specs.declared.error.kind.ErrorKind.TheVariants.{ArgumentConflict, MissingRequiredArgument}
use Rattle.command_words.proofs.Steps.{calls_row, seed_row, stands, waits}
use Rattle.command_words.specs.Spellings.{IsEnd, IsOption}
use Rattle.command_words.proofs.WordsRead.{Calls, Calls_are, End, Read, Seed, Seed_is, Sound, after_word, calls_given, end_past, fault_at, fits_of, idle_word, parts, seed_given, turn_of}
use Rattle.command_words.proofs.Twice.{calls_name_again, calls_name_again_first, calls_name_again_last, seed_name_again, seed_name_again_first, seed_name_again_last}

both_from_seed : (p q : ValueParser) (a b : Text) (words : List Text) → Sound p q (stands (seed_row p a ∷ calls_row q b ∷ []) None) words → IsEnd words
unfolding clap_on_literals
both_from_seed p q a b [] sound = inl refl
both_from_seed p q a b (word ∷ rest) sound =
    by (idle_word p q (seed_row p a ∷ calls_row q b ∷ []) None word (turn_of p q (stands (seed_row p a ∷ calls_row q b ∷ []) None) word rest sound))
  where
    by : Read word → IsEnd (word ∷ rest)
    by (End is) = inr (rw (is, (end_past p q (seed_row p a ∷ calls_row q b ∷ []) None word rest is sound).0) refl)
    by (Seed_is v is) = let bad : ArgumentConflict ∷ [] ≡ [] = fault_at p q (stands (seed_row p a ∷ calls_row q b ∷ []) None) word (codes "--seed=" ++ v) rest is sound in cc
    by (Seed is) =
        absurd (seed_name_again_first p q a b rest (after_word p q (stands (seed_row p a ∷ calls_row q b ∷ []) None) (waits (seed_row p a ∷ calls_row q b ∷ []) (codes "seed")) word (codes "--seed") rest is refl sound))
    by (Calls_are v is) = let bad : ArgumentConflict ∷ [] ≡ [] = fault_at p q (stands (seed_row p a ∷ calls_row q b ∷ []) None) word (codes "--calls=" ++ v) rest is sound in cc
    by (Calls is) =
        absurd (calls_name_again_last p q b a rest (after_word p q (stands (seed_row p a ∷ calls_row q b ∷ []) None) (waits (seed_row p a ∷ calls_row q b ∷ []) (codes "calls")) word (codes "--calls") rest is refl sound))

last_from_seed : (p q : ValueParser) (a b : Text) (words : List Text) → Sound p q (stands (seed_row p a ∷ []) (Some (codes "calls", b ∷ []))) words → IsEnd words × (accepts false q b ≡ true)
unfolding clap_on_literals
last_from_seed p q a b [] sound = (inl refl, fits_of q b (parts _ _ (parts _ _ sound.1).0).0)
last_from_seed p q a b (word ∷ rest) sound =
    by (idle_word p q (seed_row p a ∷ []) (Some (codes "calls", b ∷ [])) word (turn_of p q (stands (seed_row p a ∷ []) (Some (codes "calls", b ∷ []))) word rest sound))
  where
    by : Read word → IsEnd (word ∷ rest) × (accepts false q b ≡ true)
    by (End is) =
        let past_end = end_past p q (seed_row p a ∷ []) (Some (codes "calls", b ∷ [])) word rest is sound in
        (inr (rw (is, past_end.0) refl), fits_of q b (parts _ _ (parts _ _ past_end.1).0).0)
    by (Seed_is v is) =
        let fault = fault_at p q (stands (seed_row p a ∷ []) (Some (codes "calls", b ∷ []))) word (codes "--seed=" ++ v) rest is sound in
        let one = parts _ _ fault in
        let two = parts _ _ one.0 in
        let bad : ArgumentConflict ∷ [] ≡ [] = two.1 in
        cc
    by (Seed is) =
        absurd (seed_name_again_first p q a b rest (after_word p q (stands (seed_row p a ∷ []) (Some (codes "calls", b ∷ []))) (waits (seed_row p a ∷ calls_row q b ∷ []) (codes "seed")) word (codes "--seed") rest is refl sound))
    by (Calls_are v is) =
        let fault = fault_at p q (stands (seed_row p a ∷ []) (Some (codes "calls", b ∷ []))) word (codes "--calls=" ++ v) rest is sound in
        let one = parts _ _ fault in
        let two = parts _ _ one.0 in
        let bad : ArgumentConflict ∷ [] ≡ [] = two.1 in
        cc
    by (Calls is) =
        absurd (calls_name_again_last p q b a rest (after_word p q (stands (seed_row p a ∷ []) (Some (codes "calls", b ∷ []))) (waits (seed_row p a ∷ calls_row q b ∷ []) (codes "calls")) word (codes "--calls") rest is refl sound))

both_from_calls : (p q : ValueParser) (a b : Text) (words : List Text) → Sound p q (stands (calls_row q a ∷ seed_row p b ∷ []) None) words → IsEnd words
unfolding clap_on_literals
both_from_calls p q a b [] sound = inl refl
both_from_calls p q a b (word ∷ rest) sound =
    by (idle_word p q (calls_row q a ∷ seed_row p b ∷ []) None word (turn_of p q (stands (calls_row q a ∷ seed_row p b ∷ []) None) word rest sound))
  where
    by : Read word → IsEnd (word ∷ rest)
    by (End is) = inr (rw (is, (end_past p q (calls_row q a ∷ seed_row p b ∷ []) None word rest is sound).0) refl)
    by (Seed_is v is) = let bad : ArgumentConflict ∷ [] ≡ [] = fault_at p q (stands (calls_row q a ∷ seed_row p b ∷ []) None) word (codes "--seed=" ++ v) rest is sound in cc
    by (Seed is) =
        absurd (seed_name_again_last p q b a rest (after_word p q (stands (calls_row q a ∷ seed_row p b ∷ []) None) (waits (calls_row q a ∷ seed_row p b ∷ []) (codes "seed")) word (codes "--seed") rest is refl sound))
    by (Calls_are v is) = let bad : ArgumentConflict ∷ [] ≡ [] = fault_at p q (stands (calls_row q a ∷ seed_row p b ∷ []) None) word (codes "--calls=" ++ v) rest is sound in cc
    by (Calls is) =
        absurd (calls_name_again_first p q a b rest (after_word p q (stands (calls_row q a ∷ seed_row p b ∷ []) None) (waits (calls_row q a ∷ seed_row p b ∷ []) (codes "calls")) word (codes "--calls") rest is refl sound))

last_from_calls : (p q : ValueParser) (a b : Text) (words : List Text) → Sound p q (stands (calls_row q a ∷ []) (Some (codes "seed", b ∷ []))) words → IsEnd words × (accepts false p b ≡ true)
unfolding clap_on_literals
last_from_calls p q a b [] sound = (inl refl, fits_of p b (parts _ _ (parts _ _ sound.1).0).0)
last_from_calls p q a b (word ∷ rest) sound =
    by (idle_word p q (calls_row q a ∷ []) (Some (codes "seed", b ∷ [])) word (turn_of p q (stands (calls_row q a ∷ []) (Some (codes "seed", b ∷ []))) word rest sound))
  where
    by : Read word → IsEnd (word ∷ rest) × (accepts false p b ≡ true)
    by (End is) =
        let past_end = end_past p q (calls_row q a ∷ []) (Some (codes "seed", b ∷ [])) word rest is sound in
        (inr (rw (is, past_end.0) refl), fits_of p b (parts _ _ (parts _ _ past_end.1).0).0)
    by (Seed_is v is) =
        let fault = fault_at p q (stands (calls_row q a ∷ []) (Some (codes "seed", b ∷ []))) word (codes "--seed=" ++ v) rest is sound in
        let one = parts _ _ fault in
        let two = parts _ _ one.0 in
        let bad : ArgumentConflict ∷ [] ≡ [] = two.1 in
        cc
    by (Seed is) =
        absurd (seed_name_again_last p q b a rest (after_word p q (stands (calls_row q a ∷ []) (Some (codes "seed", b ∷ []))) (waits (calls_row q a ∷ seed_row p b ∷ []) (codes "seed")) word (codes "--seed") rest is refl sound))
    by (Calls_are v is) =
        let fault = fault_at p q (stands (calls_row q a ∷ []) (Some (codes "seed", b ∷ []))) word (codes "--calls=" ++ v) rest is sound in
        let one = parts _ _ fault in
        let two = parts _ _ one.0 in
        let bad : ArgumentConflict ∷ [] ≡ [] = two.1 in
        cc
    by (Calls is) =
        absurd (calls_name_again_first p q a b rest (after_word p q (stands (calls_row q a ∷ []) (Some (codes "seed", b ∷ []))) (waits (calls_row q a ∷ seed_row p b ∷ []) (codes "calls")) word (codes "--calls") rest is refl sound))

-- one option more, and the end
pub record More (accepted : Text → Type 0) (name : Text) (words : List Text) : Type 0 where
  pub text : Text
  pub fits : accepted text
  pub option : List Text
  pub end : List Text
  pub spelled : IsOption name text option
  pub ends : IsEnd end
  pub in_turn : words ≡ option ++ end

-- the other option, named in a word of its own
calls_named : (p q : ValueParser) (a word : Text) (rest : List Text) → word ≡ codes "--calls" → Sound p q (waits (seed_row p a ∷ []) (codes "calls")) rest → More (λ (t : Text). accepts false q t ≡ true) (codes "calls") (word ∷ rest)
calls_named p q a word rest is sound =
    let given = calls_given p q (seed_row p a ∷ []) rest sound in
    let last = last_from_seed p q a given.0 given.1 given.3 in
    record {
      text = given.0;
      fits = last.1;
      option = (codes "--calls") ∷ given.0 ∷ [];
      end = given.1;
      spelled = inr refl;
      ends = last.0;
      in_turn = ap (λ (u : Text). u ∷ rest) is ∙ ap (λ (us : List Text). (codes "--calls") ∷ us) given.2;
    }

-- with its text in one word
calls_with_text : (p q : ValueParser) (a v word : Text) (rest : List Text) → word ≡ codes "--calls=" ++ v → accepts false q v ≡ true
    → Sound p q (stands (seed_row p a ∷ calls_row q v ∷ []) None) rest → More (λ (t : Text). accepts false q t ≡ true) (codes "calls") (word ∷ rest)
calls_with_text p q a v word rest is fits sound = record {
  text = v;
  fits = fits;
  option = (codes "--calls=" ++ v) ∷ [];
  end = rest;
  spelled = inl refl;
  ends = both_from_seed p q a v rest sound;
  in_turn = rw is refl;
}

more_than_seed : (p q : ValueParser) (a : Text) (words : List Text) → Sound p q (stands (seed_row p a ∷ []) None) words → More (λ (t : Text). accepts false q t ≡ true) (codes "calls") words
unfolding clap_on_literals
more_than_seed p q a [] sound = let bad : MissingRequiredArgument ∷ [] ≡ [] = sound.1 in cc
more_than_seed p q a (word ∷ rest) sound = by (idle_word p q (seed_row p a ∷ []) None word (turn_of p q (stands (seed_row p a ∷ []) None) word rest sound))
  where
    by : Read word → More (λ (t : Text). accepts false q t ≡ true) (codes "calls") (word ∷ rest)
    by (End is) = let bad : MissingRequiredArgument ∷ [] ≡ [] = (end_past p q (seed_row p a ∷ []) None word rest is sound).1 in cc
    by (Seed_is v is) = let bad : ArgumentConflict ∷ [] ≡ [] = fault_at p q (stands (seed_row p a ∷ []) None) word (codes "--seed=" ++ v) rest is sound in cc
    by (Seed is) =
        absurd (seed_name_again p q a rest (after_word p q (stands (seed_row p a ∷ []) None) (waits (seed_row p a ∷ []) (codes "seed")) word (codes "--seed") rest is refl sound))
    by (Calls_are v is) =
        let fault = fault_at p q (stands (seed_row p a ∷ []) None) word (codes "--calls=" ++ v) rest is sound in
        calls_with_text p q a v word rest is (fits_of q v (parts _ _ (parts _ _ fault).0).0)
        (after_word p q (stands (seed_row p a ∷ []) None) (stands (seed_row p a ∷ calls_row q v ∷ []) None) word (codes "--calls=" ++ v) rest is refl sound)
    by (Calls is) =
        calls_named p q a word rest is (after_word p q (stands (seed_row p a ∷ []) None) (waits (seed_row p a ∷ []) (codes "calls")) word (codes "--calls") rest is refl sound)

more_behind_seed : (p q : ValueParser) (a : Text) (words : List Text) → Sound p q (stands [] (Some (codes "seed", a ∷ []))) words
    → (accepts false p a ≡ true) × More (λ (t : Text). accepts false q t ≡ true) (codes "calls") words
unfolding clap_on_literals
more_behind_seed p q a [] sound =
    let one = parts _ _ sound.1 in
    let bad : MissingRequiredArgument ∷ [] ≡ [] = one.1 in
    cc
more_behind_seed p q a (word ∷ rest) sound = by (idle_word p q [] (Some (codes "seed", a ∷ [])) word (turn_of p q (stands [] (Some (codes "seed", a ∷ []))) word rest sound))
  where
    by : Read word → (accepts false p a ≡ true) × More (λ (t : Text). accepts false q t ≡ true) (codes "calls") (word ∷ rest)
    by (End is) =
        let one = parts _ _ (end_past p q [] (Some (codes "seed", a ∷ [])) word rest is sound).1 in
        let bad : MissingRequiredArgument ∷ [] ≡ [] = one.1 in
        cc
    by (Seed_is v is) =
        let one = parts _ _ (fault_at p q (stands [] (Some (codes "seed", a ∷ []))) word (codes "--seed=" ++ v) rest is sound) in
        let two = parts _ _ one.0 in
        let bad : ArgumentConflict ∷ [] ≡ [] = two.1 in
        cc
    by (Seed is) =
        absurd (seed_name_again p q a rest (after_word p q (stands [] (Some (codes "seed", a ∷ []))) (waits (seed_row p a ∷ []) (codes "seed")) word (codes "--seed") rest is refl sound))
    by (Calls_are v is) =
        let one = parts _ _ (fault_at p q (stands [] (Some (codes "seed", a ∷ []))) word (codes "--calls=" ++ v) rest is sound) in
        let two = parts _ _ one.0 in (
          fits_of p a (parts _ _ two.0).0,
          calls_with_text p q a v word rest is (fits_of q v (parts _ _ two.1).0)
              (after_word p q (stands [] (Some (codes "seed", a ∷ []))) (stands (seed_row p a ∷ calls_row q v ∷ []) None) word (codes "--calls=" ++ v) rest is refl sound),
        )
    by (Calls is) =
        let one = parts _ _ (fault_at p q (stands [] (Some (codes "seed", a ∷ []))) word (codes "--calls") rest is sound) in (
          fits_of p a (parts _ _ one.0).0,
          calls_named p q a word rest is (after_word p q (stands [] (Some (codes "seed", a ∷ []))) (waits (seed_row p a ∷ []) (codes "calls")) word (codes "--calls") rest is refl sound),
        )

-- the other option, named in a word of its own
seed_named : (p q : ValueParser) (a word : Text) (rest : List Text) → word ≡ codes "--seed" → Sound p q (waits (calls_row q a ∷ []) (codes "seed")) rest → More (λ (t : Text). accepts false p t ≡ true) (codes "seed") (word ∷ rest)
seed_named p q a word rest is sound =
    let given = seed_given p q (calls_row q a ∷ []) rest sound in
    let last = last_from_calls p q a given.0 given.1 given.3 in
    record {
      text = given.0;
      fits = last.1;
      option = (codes "--seed") ∷ given.0 ∷ [];
      end = given.1;
      spelled = inr refl;
      ends = last.0;
      in_turn = ap (λ (u : Text). u ∷ rest) is ∙ ap (λ (us : List Text). (codes "--seed") ∷ us) given.2;
    }

-- with its text in one word
seed_with_text : (p q : ValueParser) (a v word : Text) (rest : List Text) → word ≡ codes "--seed=" ++ v → accepts false p v ≡ true
    → Sound p q (stands (calls_row q a ∷ seed_row p v ∷ []) None) rest → More (λ (t : Text). accepts false p t ≡ true) (codes "seed") (word ∷ rest)
seed_with_text p q a v word rest is fits sound = record {
  text = v;
  fits = fits;
  option = (codes "--seed=" ++ v) ∷ [];
  end = rest;
  spelled = inl refl;
  ends = both_from_calls p q a v rest sound;
  in_turn = rw is refl;
}

more_than_calls : (p q : ValueParser) (a : Text) (words : List Text) → Sound p q (stands (calls_row q a ∷ []) None) words → More (λ (t : Text). accepts false p t ≡ true) (codes "seed") words
unfolding clap_on_literals
more_than_calls p q a [] sound = let bad : MissingRequiredArgument ∷ [] ≡ [] = sound.1 in cc
more_than_calls p q a (word ∷ rest) sound = by (idle_word p q (calls_row q a ∷ []) None word (turn_of p q (stands (calls_row q a ∷ []) None) word rest sound))
  where
    by : Read word → More (λ (t : Text). accepts false p t ≡ true) (codes "seed") (word ∷ rest)
    by (End is) = let bad : MissingRequiredArgument ∷ [] ≡ [] = (end_past p q (calls_row q a ∷ []) None word rest is sound).1 in cc
    by (Calls_are v is) = let bad : ArgumentConflict ∷ [] ≡ [] = fault_at p q (stands (calls_row q a ∷ []) None) word (codes "--calls=" ++ v) rest is sound in cc
    by (Calls is) =
        absurd (calls_name_again p q a rest (after_word p q (stands (calls_row q a ∷ []) None) (waits (calls_row q a ∷ []) (codes "calls")) word (codes "--calls") rest is refl sound))
    by (Seed_is v is) =
        let fault = fault_at p q (stands (calls_row q a ∷ []) None) word (codes "--seed=" ++ v) rest is sound in
        seed_with_text p q a v word rest is (fits_of p v (parts _ _ (parts _ _ fault).0).0)
        (after_word p q (stands (calls_row q a ∷ []) None) (stands (calls_row q a ∷ seed_row p v ∷ []) None) word (codes "--seed=" ++ v) rest is refl sound)
    by (Seed is) =
        seed_named p q a word rest is (after_word p q (stands (calls_row q a ∷ []) None) (waits (calls_row q a ∷ []) (codes "seed")) word (codes "--seed") rest is refl sound)

more_behind_calls : (p q : ValueParser) (a : Text) (words : List Text) → Sound p q (stands [] (Some (codes "calls", a ∷ []))) words
    → (accepts false q a ≡ true) × More (λ (t : Text). accepts false p t ≡ true) (codes "seed") words
unfolding clap_on_literals
more_behind_calls p q a [] sound =
    let one = parts _ _ sound.1 in
    let bad : MissingRequiredArgument ∷ [] ≡ [] = one.1 in
    cc
more_behind_calls p q a (word ∷ rest) sound = by (idle_word p q [] (Some (codes "calls", a ∷ [])) word (turn_of p q (stands [] (Some (codes "calls", a ∷ []))) word rest sound))
  where
    by : Read word → (accepts false q a ≡ true) × More (λ (t : Text). accepts false p t ≡ true) (codes "seed") (word ∷ rest)
    by (End is) =
        let one = parts _ _ (end_past p q [] (Some (codes "calls", a ∷ [])) word rest is sound).1 in
        let bad : MissingRequiredArgument ∷ [] ≡ [] = one.1 in
        cc
    by (Calls_are v is) =
        let one = parts _ _ (fault_at p q (stands [] (Some (codes "calls", a ∷ []))) word (codes "--calls=" ++ v) rest is sound) in
        let two = parts _ _ one.0 in
        let bad : ArgumentConflict ∷ [] ≡ [] = two.1 in
        cc
    by (Calls is) =
        absurd (calls_name_again p q a rest (after_word p q (stands [] (Some (codes "calls", a ∷ []))) (waits (calls_row q a ∷ []) (codes "calls")) word (codes "--calls") rest is refl sound))
    by (Seed_is v is) =
        let one = parts _ _ (fault_at p q (stands [] (Some (codes "calls", a ∷ []))) word (codes "--seed=" ++ v) rest is sound) in
        let two = parts _ _ one.0 in (
          fits_of q a (parts _ _ two.0).0,
          seed_with_text p q a v word rest is (fits_of p v (parts _ _ two.1).0)
              (after_word p q (stands [] (Some (codes "calls", a ∷ []))) (stands (calls_row q a ∷ seed_row p v ∷ []) None) word (codes "--seed=" ++ v) rest is refl sound),
        )
    by (Seed is) =
        let one = parts _ _ (fault_at p q (stands [] (Some (codes "calls", a ∷ []))) word (codes "--seed") rest is sound) in (
          fits_of q a (parts _ _ one.0).0,
          seed_named p q a word rest is (after_word p q (stands [] (Some (codes "calls", a ∷ []))) (waits (calls_row q a ∷ []) (codes "seed")) word (codes "--seed") rest is refl sound),
        )

-- both options
pub record Whole (accepted : Text → Type 0) (other : Text → Type 0) (name second : Text) (words : List Text) : Type 0 where
  pub text : Text
  pub fits : accepted text
  pub option : List Text
  pub rest : List Text
  pub spelled : IsOption name text option
  pub more : More other second rest
  pub in_turn : words ≡ option ++ rest

abbrev pub SeedFirst : (p q : ValueParser) → List Text → Type 0
SeedFirst p q words = Whole (λ (t : Text). accepts false p t ≡ true) (λ (t : Text). accepts false q t ≡ true) (codes "seed") (codes "calls") words

abbrev pub CallsFirst : (p q : ValueParser) → List Text → Type 0
CallsFirst p q words = Whole (λ (t : Text). accepts false q t ≡ true) (λ (t : Text). accepts false p t ≡ true) (codes "calls") (codes "seed") words

pub both_spelled : (p q : ValueParser) (words : List Text) → Sound p q (stands [] None) words → SeedFirst p q words ⊎ CallsFirst p q words
unfolding clap_on_literals
both_spelled p q [] sound = let bad : MissingRequiredArgument ∷ [] ≡ [] = sound.1 in cc
both_spelled p q (word ∷ rest) sound = by (idle_word p q [] None word (turn_of p q (stands [] None) word rest sound))
  where
    by : Read word → SeedFirst p q (word ∷ rest) ⊎ CallsFirst p q (word ∷ rest)
    by (End is) = let bad : MissingRequiredArgument ∷ [] ≡ [] = (end_past p q [] None word rest is sound).1 in cc
    by (Seed_is v is) =
        let fault = fault_at p q (stands [] None) word (codes "--seed=" ++ v) rest is sound in
        inl (record {
          text = v;
          fits = fits_of p v (parts _ _ (parts _ _ fault).0).0;
          option = (codes "--seed=" ++ v) ∷ [];
          rest = rest;
          spelled = inl refl;
          more = more_than_seed p q v rest (after_word p q (stands [] None) (stands (seed_row p v ∷ []) None) word (codes "--seed=" ++ v) rest is refl sound);
          in_turn = rw is refl;
        })
    by (Seed is) =
        let given = seed_given p q [] rest (after_word p q (stands [] None) (waits [] (codes "seed")) word (codes "--seed") rest is refl sound) in
        let later = more_behind_seed p q given.0 given.1 given.3 in
        inl (record {
          text = given.0;
          fits = later.0;
          option = (codes "--seed") ∷ given.0 ∷ [];
          rest = given.1;
          spelled = inr refl;
          more = later.1;
          in_turn = ap (λ (u : Text). u ∷ rest) is ∙ ap (λ (us : List Text). (codes "--seed") ∷ us) given.2;
        })
    by (Calls_are v is) =
        let fault = fault_at p q (stands [] None) word (codes "--calls=" ++ v) rest is sound in
        inr (record {
          text = v;
          fits = fits_of q v (parts _ _ (parts _ _ fault).0).0;
          option = (codes "--calls=" ++ v) ∷ [];
          rest = rest;
          spelled = inl refl;
          more = more_than_calls p q v rest (after_word p q (stands [] None) (stands (calls_row q v ∷ []) None) word (codes "--calls=" ++ v) rest is refl sound);
          in_turn = rw is refl;
        })
    by (Calls is) =
        let given = calls_given p q [] rest (after_word p q (stands [] None) (waits [] (codes "calls")) word (codes "--calls") rest is refl sound) in
        let later = more_behind_calls p q given.0 given.1 given.3 in
        inr (record {
          text = given.0;
          fits = later.0;
          option = (codes "--calls") ∷ given.0 ∷ [];
          rest = given.1;
          spelled = inr refl;
          more = later.1;
          in_turn = ap (λ (u : Text). u ∷ rest) is ∙ ap (λ (us : List Text). (codes "--calls") ∷ us) given.2;
        })
