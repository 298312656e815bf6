-- Words that are spelled as a command are taken, and ask for it.
use Rattle.std.proofs.Common.{◌≡◌, ◌⊎◌, ◌<◌, ◌^◌, ℕ, Bool, true, false, List, [], ◌∷◌, ◌++◌, sym, ap, subst, ◌∙◌, refl, inl, inr, arith}
use Rattle.std.specs.Prelude.{Some, None, codes, ◌==◌, fold, is_some, option_map}
use Rattle.std.specs.Str.Parse.{IsNumeral, digits_value, without_leading_plus}
use Rattle.std.proofs.lemmas.Bool.Decides.{nat_tests}
use Rattle.clap.proofs.OnLiterals.{clap_on_literals}
use Rattle.clap.proofs.ValueTestLemmas.{Accepts-accepts}
use Rattle.clap.specs.Faults.{check_fault, defaults_fault, entered_fault, fault_of, settle_fault, walk_fault}
use Rattle.clap.specs.Kinds.{Kinds, or_else}
use Rattle.clap.specs.Simple.{built, entered, matches_of}
use Rattle.clap.specs.Values.{read_as, reading_of}
use Rattle.clap.specs.ValueTests.{accepts}
use Rattle.clap.specs.Walk.{Text, Walk, finished, is_empty, nothing_held, one_of, settled, walk, walk_from, walked}
use Rattle.clap.specs.declared.builder.value_parser.ValueParser.{ValueParser}
use Rattle.clap.specs.declared.builder.value_parser.ValueParser.TheVariants as parser
use Rattle.replay_model.specs.declared.options.TheConstants.{MOST_CALLS}
use Rattle.command_words.proofs.Commands.{asks, asks_for_storm, taken_by}
use Rattle.command_words.proofs.Steps.{IsValue, Steps, calls_in_one_behind, calls_in_one_first, calls_in_one_second, calls_name_behind, calls_name_first, calls_name_second, calls_row, calls_text_first, calls_text_second, options_with, past, seed_in_one_behind, seed_in_one_first, seed_in_one_second, seed_name_behind, seed_name_first, seed_name_second, seed_row, seed_text_first, seed_text_second, shape, stands, to_end, waits}
use Rattle.command_words.specs.Spellings.{IsAlone, IsEnd, IsNumber, IsOption, IsStorm}
use Rattle.command_words.specs.Words.{command_of, are_taken, name_in, number_given, storm_options}
use Rattle.command_words.specs.declared.command.Command.TheVariants as command

replay_with : (end : List Text) → IsEnd end → command_of (codes "replay" ∷ end) ≡ Some command.Replay
unfolding command_of are_taken clap_on_literals
replay_with end (inl is) = rw is refl
replay_with end (inr is) = rw is refl

pub replay_alone : (words : List Text) → IsAlone (codes "replay") words → command_of words ≡ Some command.Replay
replay_alone words alone = rw alone.1 (replay_with alone.0 alone.2)

stubs_with : (end : List Text) → IsEnd end → command_of (codes "stubs" ∷ end) ≡ Some command.Stubs
unfolding command_of are_taken clap_on_literals
stubs_with end (inl is) = rw is refl
stubs_with end (inr is) = rw is refl

pub stubs_alone : (words : List Text) → IsAlone (codes "stubs") words → command_of words ≡ Some command.Stubs
stubs_alone words alone = rw alone.1 (stubs_with alone.0 alone.2)

-- words that have no fault lead from here to there
abbrev Goes : (p q : ValueParser) (from : Walk) (words : List Text) (to : Walk) → Type 0
Goes p q from words to = (walk_fault (shape p q) [] from words ≡ []) × (fold (walked (shape p q).rules []) from words ≡ to)

stays : (p q : ValueParser) (w : Walk) → Goes p q w [] w
unfolding walk_fault
stays p q w = (refl, refl)

goes : (p q : ValueParser) (from mid to : Walk) (word : Text) (rest : List Text) → Steps p q from word mid → Goes p q mid rest to → Goes p q from (word ∷ rest) to
unfolding walk_fault
goes p q from mid to word rest one more = (
  ap (λ (k : Kinds). or_else k (walk_fault (shape p q) [] (walked (shape p q).rules [] from word) rest)) one.0
      ∙ (ap (λ (w : Walk). walk_fault (shape p q) [] w rest) one.1 ∙ more.0),
  ap (λ (w : Walk). fold (walked (shape p q).rules []) w rest) one.1 ∙ more.1,
)

-- at the end or behind `--`
at_end : (p q : ValueParser) (w : Walk) (end : List Text) → Steps p q w (codes "--") (past w) → IsEnd end → (to : Walk) × ((to ≡ w) ⊎ (to ≡ past w)) × Goes p q w end to
at_end p q w end one (inl is) = (w, inl refl, rw is (stays p q w))
at_end p q w end one (inr is) = (past w, inr refl, rw is (goes p q w (past w) (past w) (codes "--") [] one (stays p q (past w))))

-- the fault that is found behind the last word
abbrev pub rest_fault : (p q : ValueParser) → Walk → Kinds
rest_fault p q w = or_else (entered_fault (built (options_with p q)) w.stopped)
    (or_else (settle_fault (shape p q).rules false w.held)
    (or_else (defaults_fault (settled (shape p q).rules w.held).rows (shape p q).rules)
    (check_fault (shape p q) (finished (shape p q).rules w.held) (is_some (entered (built (options_with p q)) w.stopped)))))

-- a parse that ends here has both texts
record EndsWith (p q : ValueParser) (w : Walk) (v t : Text) : Type 0 where
  pub sound : rest_fault p q w ≡ []
  pub seed : one_of (codes "seed") (finished (shape p q).rules w.held) ≡ Some (read_as (reading_of p) v)
  pub calls : one_of (codes "calls") (finished (shape p q).rules w.held) ≡ Some (read_as (reading_of q) t)

-- words that are taken, and give both options their texts
record TakesBoth (p q : ValueParser) (words : List Text) (v t : Text) : Type 0 where
  pub taken : fault_of (options_with p q) words ≡ []
  pub seed : one_of (codes "seed") (matches_of (options_with p q) words) ≡ Some (read_as (reading_of p) v)
  pub calls : one_of (codes "calls") (matches_of (options_with p q) words) ≡ Some (read_as (reading_of q) t)

takes_both : (p q : ValueParser) (name : Text) (words : List Text) (end : Walk) (v t : Text) → Goes p q (walk_from nothing_held) words end → EndsWith p q end v t
    → TakesBoth p q (name ∷ words) v t
takes_both p q name words end v t all ends = record {
  taken = ap (λ (k : Kinds). or_else k (rest_fault p q (walk (shape p q).rules [] nothing_held words))) all.0
      ∙ (ap (rest_fault p q) all.1 ∙ ends.sound);
  seed = ap (λ (w : Walk). one_of (codes "seed") (finished (shape p q).rules w.held)) all.1 ∙ ends.seed;
  calls = ap (λ (w : Walk). one_of (codes "calls") (finished (shape p q).rules w.held)) all.1 ∙ ends.calls;
}

-- `--` changes nothing of what was found
ends_past : (p q : ValueParser) (w to : Walk) (v t : Text) → (to ≡ w) ⊎ (to ≡ past w) → EndsWith p q w v t → EndsWith p q to v t
ends_past p q w to v t (inl is) ends = subst (λ (e : Walk). EndsWith p q e v t) (sym is) ends
ends_past p q w to v t (inr is) ends = subst (λ (e : Walk). EndsWith p q e v t) (sym is) (record { sound = ends.sound; seed = ends.seed; calls = ends.calls })

-- the four ends

both_read : (p q : ValueParser) (v t : Text) → EndsWith p q (stands (seed_row p v ∷ calls_row q t ∷ []) None) v t
unfolding clap_on_literals
both_read p q v t = record { sound = refl; seed = refl; calls = refl }

both_read_back : (p q : ValueParser) (v t : Text) → EndsWith p q (stands (calls_row q t ∷ seed_row p v ∷ []) None) v t
unfolding clap_on_literals
both_read_back p q v t = record { sound = refl; seed = refl; calls = refl }

calls_last : (p q : ValueParser) (v t : Text) → accepts false q t ≡ true → EndsWith p q (stands (seed_row p v ∷ []) (Some (codes "calls", t ∷ []))) v t
unfolding clap_on_literals
calls_last p q v t fits = record { sound = rw fits refl; seed = refl; calls = refl }

seed_last : (p q : ValueParser) (v t : Text) → accepts false p v ≡ true → EndsWith p q (stands (calls_row q t ∷ []) (Some (codes "seed", v ∷ []))) v t
unfolding clap_on_literals
seed_last p q v t fits = record { sound = rw fits refl; seed = refl; calls = refl }

seed_first : (p q : ValueParser) (v t : Text) (first second end : List Text) → IsValue v → IsValue t → accepts false p v ≡ true → accepts false q t ≡ true
    → IsOption (codes "seed") v first → IsOption (codes "calls") t second → IsEnd end
    → TakesBoth p q (codes "storm" ∷ first ++ second ++ end) v t
seed_first p q v t first second end plain other fits small (inl is) (inl also) ends =
    let last = at_end p q (stands (seed_row p v ∷ calls_row q t ∷ []) None) end (to_end p q (seed_row p v ∷ calls_row q t ∷ []) None) ends in
    rw (is, also) (takes_both p q (codes "storm") ((codes "--seed=" ++ v) ∷ (codes "--calls=" ++ t) ∷ end) last.0 v t
    (goes p q (walk_from nothing_held) (stands (seed_row p v ∷ []) None) last.0 (codes "--seed=" ++ v) ((codes "--calls=" ++ t) ∷ end) (seed_in_one_first p q v fits)
    (goes p q (stands (seed_row p v ∷ []) None) (stands (seed_row p v ∷ calls_row q t ∷ []) None) last.0 (codes "--calls=" ++ t) end (calls_in_one_second p q v t small) last.2))
    (ends_past p q (stands (seed_row p v ∷ calls_row q t ∷ []) None) last.0 v t last.1 (both_read p q v t)))
seed_first p q v t first second end plain other fits small (inl is) (inr also) ends =
    let last = at_end p q (stands (seed_row p v ∷ []) (Some (codes "calls", t ∷ []))) end (to_end p q (seed_row p v ∷ []) (Some (codes "calls", t ∷ []))) ends in
    rw (is, also) (takes_both p q (codes "storm") ((codes "--seed=" ++ v) ∷ (codes "--calls") ∷ t ∷ end) last.0 v t
    (goes p q (walk_from nothing_held) (stands (seed_row p v ∷ []) None) last.0 (codes "--seed=" ++ v) ((codes "--calls") ∷ t ∷ end) (seed_in_one_first p q v fits)
    (goes p q (stands (seed_row p v ∷ []) None) (waits (seed_row p v ∷ []) (codes "calls")) last.0 (codes "--calls") (t ∷ end) (calls_name_second p q v)
    (goes p q (waits (seed_row p v ∷ []) (codes "calls")) (stands (seed_row p v ∷ []) (Some (codes "calls", t ∷ []))) last.0 t end (calls_text_second p q v t other) last.2)))
    (ends_past p q (stands (seed_row p v ∷ []) (Some (codes "calls", t ∷ []))) last.0 v t last.1 (calls_last p q v t small)))
seed_first p q v t first second end plain other fits small (inr is) (inl also) ends =
    let last = at_end p q (stands (seed_row p v ∷ calls_row q t ∷ []) None) end (to_end p q (seed_row p v ∷ calls_row q t ∷ []) None) ends in
    rw (is, also) (takes_both p q (codes "storm") ((codes "--seed") ∷ v ∷ (codes "--calls=" ++ t) ∷ end) last.0 v t
    (goes p q (walk_from nothing_held) (waits [] (codes "seed")) last.0 (codes "--seed") (v ∷ (codes "--calls=" ++ t) ∷ end) (seed_name_first p q)
    (goes p q (waits [] (codes "seed")) (stands [] (Some (codes "seed", v ∷ []))) last.0 v ((codes "--calls=" ++ t) ∷ end) (seed_text_first p q v plain)
    (goes p q (stands [] (Some (codes "seed", v ∷ []))) (stands (seed_row p v ∷ calls_row q t ∷ []) None) last.0 (codes "--calls=" ++ t) end (calls_in_one_behind p q v t fits small) last.2)))
    (ends_past p q (stands (seed_row p v ∷ calls_row q t ∷ []) None) last.0 v t last.1 (both_read p q v t)))
seed_first p q v t first second end plain other fits small (inr is) (inr also) ends =
    let last = at_end p q (stands (seed_row p v ∷ []) (Some (codes "calls", t ∷ []))) end (to_end p q (seed_row p v ∷ []) (Some (codes "calls", t ∷ []))) ends in
    rw (is, also) (takes_both p q (codes "storm") ((codes "--seed") ∷ v ∷ (codes "--calls") ∷ t ∷ end) last.0 v t
    (goes p q (walk_from nothing_held) (waits [] (codes "seed")) last.0 (codes "--seed") (v ∷ (codes "--calls") ∷ t ∷ end) (seed_name_first p q)
    (goes p q (waits [] (codes "seed")) (stands [] (Some (codes "seed", v ∷ []))) last.0 v ((codes "--calls") ∷ t ∷ end) (seed_text_first p q v plain)
    (goes p q (stands [] (Some (codes "seed", v ∷ []))) (waits (seed_row p v ∷ []) (codes "calls")) last.0 (codes "--calls") (t ∷ end) (calls_name_behind p q v fits)
    (goes p q (waits (seed_row p v ∷ []) (codes "calls")) (stands (seed_row p v ∷ []) (Some (codes "calls", t ∷ []))) last.0 t end (calls_text_second p q v t other) last.2))))
    (ends_past p q (stands (seed_row p v ∷ []) (Some (codes "calls", t ∷ []))) last.0 v t last.1 (calls_last p q v t small)))

calls_first : (p q : ValueParser) (v t : Text) (first second end : List Text) → IsValue v → IsValue t → accepts false p v ≡ true → accepts false q t ≡ true
    → IsOption (codes "calls") t first → IsOption (codes "seed") v second → IsEnd end
    → TakesBoth p q (codes "storm" ∷ first ++ second ++ end) v t
calls_first p q v t first second end plain other fits small (inl is) (inl also) ends =
    let last = at_end p q (stands (calls_row q t ∷ seed_row p v ∷ []) None) end (to_end p q (calls_row q t ∷ seed_row p v ∷ []) None) ends in
    rw (is, also) (takes_both p q (codes "storm") ((codes "--calls=" ++ t) ∷ (codes "--seed=" ++ v) ∷ end) last.0 v t
    (goes p q (walk_from nothing_held) (stands (calls_row q t ∷ []) None) last.0 (codes "--calls=" ++ t) ((codes "--seed=" ++ v) ∷ end) (calls_in_one_first p q t small)
    (goes p q (stands (calls_row q t ∷ []) None) (stands (calls_row q t ∷ seed_row p v ∷ []) None) last.0 (codes "--seed=" ++ v) end (seed_in_one_second p q v t fits) last.2))
    (ends_past p q (stands (calls_row q t ∷ seed_row p v ∷ []) None) last.0 v t last.1 (both_read_back p q v t)))
calls_first p q v t first second end plain other fits small (inl is) (inr also) ends =
    let last = at_end p q (stands (calls_row q t ∷ []) (Some (codes "seed", v ∷ []))) end (to_end p q (calls_row q t ∷ []) (Some (codes "seed", v ∷ []))) ends in
    rw (is, also) (takes_both p q (codes "storm") ((codes "--calls=" ++ t) ∷ (codes "--seed") ∷ v ∷ end) last.0 v t
    (goes p q (walk_from nothing_held) (stands (calls_row q t ∷ []) None) last.0 (codes "--calls=" ++ t) ((codes "--seed") ∷ v ∷ end) (calls_in_one_first p q t small)
    (goes p q (stands (calls_row q t ∷ []) None) (waits (calls_row q t ∷ []) (codes "seed")) last.0 (codes "--seed") (v ∷ end) (seed_name_second p q t)
    (goes p q (waits (calls_row q t ∷ []) (codes "seed")) (stands (calls_row q t ∷ []) (Some (codes "seed", v ∷ []))) last.0 v end (seed_text_second p q v t plain) last.2)))
    (ends_past p q (stands (calls_row q t ∷ []) (Some (codes "seed", v ∷ []))) last.0 v t last.1 (seed_last p q v t fits)))
calls_first p q v t first second end plain other fits small (inr is) (inl also) ends =
    let last = at_end p q (stands (calls_row q t ∷ seed_row p v ∷ []) None) end (to_end p q (calls_row q t ∷ seed_row p v ∷ []) None) ends in
    rw (is, also) (takes_both p q (codes "storm") ((codes "--calls") ∷ t ∷ (codes "--seed=" ++ v) ∷ end) last.0 v t
    (goes p q (walk_from nothing_held) (waits [] (codes "calls")) last.0 (codes "--calls") (t ∷ (codes "--seed=" ++ v) ∷ end) (calls_name_first p q)
    (goes p q (waits [] (codes "calls")) (stands [] (Some (codes "calls", t ∷ []))) last.0 t ((codes "--seed=" ++ v) ∷ end) (calls_text_first p q t other)
    (goes p q (stands [] (Some (codes "calls", t ∷ []))) (stands (calls_row q t ∷ seed_row p v ∷ []) None) last.0 (codes "--seed=" ++ v) end (seed_in_one_behind p q v t fits small) last.2)))
    (ends_past p q (stands (calls_row q t ∷ seed_row p v ∷ []) None) last.0 v t last.1 (both_read_back p q v t)))
calls_first p q v t first second end plain other fits small (inr is) (inr also) ends =
    let last = at_end p q (stands (calls_row q t ∷ []) (Some (codes "seed", v ∷ []))) end (to_end p q (calls_row q t ∷ []) (Some (codes "seed", v ∷ []))) ends in
    rw (is, also) (takes_both p q (codes "storm") ((codes "--calls") ∷ t ∷ (codes "--seed") ∷ v ∷ end) last.0 v t
    (goes p q (walk_from nothing_held) (waits [] (codes "calls")) last.0 (codes "--calls") (t ∷ (codes "--seed") ∷ v ∷ end) (calls_name_first p q)
    (goes p q (waits [] (codes "calls")) (stands [] (Some (codes "calls", t ∷ []))) last.0 t ((codes "--seed") ∷ v ∷ end) (calls_text_first p q t other)
    (goes p q (stands [] (Some (codes "calls", t ∷ []))) (waits (calls_row q t ∷ []) (codes "seed")) last.0 (codes "--seed") (v ∷ end) (seed_name_behind p q t small)
    (goes p q (waits (calls_row q t ∷ []) (codes "seed")) (stands (calls_row q t ∷ []) (Some (codes "seed", v ∷ []))) last.0 v end (seed_text_second p q v t plain) last.2))))
    (ends_past p q (stands (calls_row q t ∷ []) (Some (codes "seed", v ∷ []))) last.0 v t last.1 (seed_last p q v t fits)))

-- a number begins with no hyphen
hyphen : (ys : Text) → IsNumeral 10 (without_leading_plus (45 ∷ ys)) → ⊥
hyphen ys h = omega (arith, h.1.0)

-- and is no option
is_value : (least most n : ℕ) (v : Text) → IsNumber least most v n → IsValue v
is_value least most n [] number = absurd (omega (arith, number.numeral.0))
is_value least most n (x ∷ xs) number = by (x == 45) refl
  where
    by : (b : Bool) → (x == 45) ≡ b → IsValue (x ∷ xs)
    by true e =
        let is : x ≡ 45 = grind (arith, nat_tests) in
        absurd (hyphen xs (subst (λ (y : ℕ). IsNumeral 10 (without_leading_plus (y ∷ xs))) is number.numeral))
    by false e = (rw e refl, rw e refl)

fits_parser : (least most n : ℕ) (v : Text) → most < 2 ^ 64 → IsNumber least most v n → accepts false (parser.Unsigned least most) v ≡ true
fits_parser least most n v short number = Accepts-accepts false (parser.Unsigned least most) v (
  number.numeral,
  rw number.value (omega (arith, number.at_most, short)),
  rw number.value number.at_least,
  rw number.value number.at_most,
)

abbrev pub seed_parser : ValueParser
seed_parser = parser.Unsigned 0 18446744073709551615

abbrev pub calls_parser : ValueParser
calls_parser = parser.Unsigned 1 MOST_CALLS

in_order : (words : List Text) (seed calls : ℕ) (s : IsStorm words seed calls) → TakesBoth seed_parser calls_parser words s.seed_text s.calls_text
in_order words seed calls s = by s.order
  where
    by : (words ≡ codes "storm" ∷ s.seed_words ++ s.calls_words ++ s.end) ⊎ (words ≡ codes "storm" ∷ s.calls_words ++ s.seed_words ++ s.end)
        → TakesBoth seed_parser calls_parser words s.seed_text s.calls_text
    by (inl is) = rw is (seed_first seed_parser calls_parser s.seed_text s.calls_text s.seed_words s.calls_words s.end
        (is_value _ _ _ _ s.is_seed) (is_value _ _ _ _ s.are_calls) (fits_parser _ _ _ _ (omega arith) s.is_seed) (fits_parser _ _ _ _ (omega arith) s.are_calls)
        s.seed_spelled s.calls_spelled s.ends)
    by (inr is) = rw is (calls_first seed_parser calls_parser s.seed_text s.calls_text s.calls_words s.seed_words s.end
        (is_value _ _ _ _ s.is_seed) (is_value _ _ _ _ s.are_calls) (fits_parser _ _ _ _ (omega arith) s.is_seed) (fits_parser _ _ _ _ (omega arith) s.are_calls)
        s.calls_spelled s.seed_spelled s.ends)

named_storm : (words : List Text) (seed calls : ℕ) → IsStorm words seed calls → codes "storm" ≡ name_in words
named_storm words seed calls s = by s.order
  where
    by : (words ≡ codes "storm" ∷ s.seed_words ++ s.calls_words ++ s.end) ⊎ (words ≡ codes "storm" ∷ s.calls_words ++ s.seed_words ++ s.end)
        → codes "storm" ≡ name_in words
    by (inl is) = rw is refl
    by (inr is) = rw is refl

pub storm_read : (words : List Text) (seed calls : ℕ) → IsStorm words seed calls
    → command_of words ≡ Some (command.Storm (record { seed = seed; calls = calls }))
storm_read words seed calls s =
    let both = in_order words seed calls s in
    let first = named_storm words seed calls s in
    let is_seed : number_given storm_options (codes "seed") words ≡ Some seed =
    ap (option_map (λ (t : Text). digits_value 10 (without_leading_plus t))) both.seed ∙ ap (λ (n : ℕ). Some n) s.is_seed.value in
    let are_calls : number_given storm_options (codes "calls") words ≡ Some calls =
    ap (option_map (λ (t : Text). digits_value 10 (without_leading_plus t))) both.calls ∙ ap (λ (n : ℕ). Some n) s.are_calls.value in
    asks words (codes "storm") _ first
    (taken_by words (codes "storm") (Some storm_options) true first refl (ap is_empty both.taken))
    (asks_for_storm words (codes "storm") seed calls refl refl is_seed are_calls)
