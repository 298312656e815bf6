-- What a parse of `clap` says of the numbers that it reads.
use Rattle.std.proofs.Common.{slice_index, ◌≡◌, ◌<◌, ◌≤◌, ◌||◌, ◌++◌, zero, suc, ℕ, true, false, List, [], ◌∷◌, length, sym, ap, subst, ◌∙◌, refl, inl, inr, arith}
use Rattle.std.specs.Prelude.{Some, None, Result, Ok, option_map, codes}
use Rattle.std.specs.List.{All, slice_index_or}
use Rattle.std.proofs.lemmas.Bool.Decides.{nat_tests}
use Rattle.std.proofs.lemmas.List.Elements.{All-nil}
use Rattle.std.specs.Str.{bytes_eq}
use Rattle.std.specs.Str.Parse.{ParsesUnsigned, digits_value, without_leading_plus}
use Rattle.clap.specs.Built.{AddsArg, IsParsedFrom, IsPlain, IsPlainArg, SameRules}
use Rattle.clap.specs.Facts.{args_of, groups_of, least_values}
use Rattle.clap.specs.Kinds.{Kinds, HasKind}
use Rattle.clap.specs.Matches.{ReadsOne, found_of, one_text}
use Rattle.clap.specs.Simple.{App, matches_of}
use Rattle.clap.specs.Values.{IsUnsignedIn, kind_of}
use Rattle.clap.specs.Walk.{Text, is_empty, one_of, rows_of, rule_of}
use Rattle.clap.specs.declared.builder.action.ArgAction.TheVariants.{Set}
use Rattle.clap.specs.declared.builder.arg.Arg.{Arg}
use Rattle.clap.specs.declared.builder.command.Command.{Command}
use Rattle.clap.specs.declared.builder.command.Command.TheViews.{out-Command}
use Rattle.clap.specs.declared.builder.value_parser.ValueParser.TheVariants as parser
use Rattle.clap.specs.declared.error.Error.{Error}
use Rattle.clap.specs.declared.error.kind.ErrorKind.TheVariants.{OutOfMemory}
use Rattle.clap.specs.declared.parser.matches.ArgMatches.{ArgMatches}
use Rattle.clap.proofs.CallerLemmas.{added_plain}
use Rattle.clap.proofs.CallerReads.{required_reads}
use Rattle.clap.proofs.WalkLemmas.{one_text-rows}
use Rattle.command_words.specs.Faults.{fault_of_kind}
use Rattle.command_words.specs.Parsed.{HasNumber}
use Rattle.command_words.specs.Words.{number_given, number_option}
use Rattle.command_words.specs.declared.fault.WordsFault.TheVariants.{Usage}

-- an error that isn't want of memory is one of the kinds
pub refused : (e : Error) (kinds : Kinds) → HasKind kinds e → fault_of_kind (kind_of e) ≡ Usage → is_empty kinds ≡ false
refused e kinds (inl memory) usage = let bad : fault_of_kind (kind_of e) ≡ fault_of_kind OutOfMemory = ap fault_of_kind memory in cc
refused e [] (inr among) usage = absurd among
refused e (k ∷ ks) (inr among) usage = grind (arith, nat_tests)

-- a command of two number options
abbrev pub TwoOptions : (start mid cmd : Command) → (a b : Arg) → Type 0
TwoOptions start mid cmd a b = AddsArg start a mid × AddsArg mid b cmd
    × (args_of start ≡ []) × (groups_of start ≡ []) × ((out-Command start).has_globals ≡ false)
    × ((out-Command start).subcommand_negates_reqs ≡ false)

-- what an option brings to its command
abbrev pub IsNumberOption : Arg → (name : Text) → (least most : ℕ) → Type 0
IsNumberOption a name least most = (rule_of a ≡ number_option name least most) × IsPlainArg a × (a.val_delim ≡ None) × (a.global ≡ false)

-- the name of an option of ours
abbrev pub IsOurs : Text → Type 0
IsOurs name = (name ≡ [] → ⊥) × (name ≡ codes "help" → ⊥) × (name ≡ codes "version" → ⊥)

given_at : (cmd : Command) (a : Arg) (name : Text) (least most : ℕ) (m : ArgMatches) (k : ℕ) → IsParsedFrom cmd m → IsPlain cmd
    → (out-Command cmd).has_globals ≡ false → (out-Command cmd).subcommand_negates_reqs ≡ false → k < length (args_of cmd)
    → SameRules a (slice_index_or (args_of cmd) k a) → IsNumberOption a name least most → IsOurs name
    → ((j : ℕ) (e : Arg) → j < length (args_of cmd) → bytes_eq (slice_index_or (args_of cmd) j e).id.now (slice_index_or (args_of cmd) k a).id.now ≡ true → j ≡ k)
    → HasNumber m name least most
given_at cmd a name least most m k parsed plain globals negates in_args same option ours only =
    let id : a.id.now ≡ name = ap (λ r. r.id) option.0 in
    let needed : a.required ≡ true = ap (λ r. r.required) option.0 in
    let sets : a.action ≡ Some Set = ap (λ r. r.action) option.0 in
    let parses : a.value_parser ≡ Some (parser.Unsigned least most) = ap (λ r. r.parser) option.0 in
    let range : a.num_vals ≡ None = ap (λ r. r.range) option.0 in
    let here : (slice_index_or (args_of cmd) k a).id.now ≡ name = ap (λ x. x.now) same.id ∙ id in
    let one : 1 ≤ least_values a = rw range (omega arith) in
    let read = required_reads cmd m parsed plain globals negates k a in_args (same.required ∙ needed) (same.action Set sets) (same.val_delim ∙ option.2)
    (same.least sets one) only (λ e. ours.0 (sym here ∙ e)) (λ auto. elim auto [ inl h ↦ ours.1 (sym here ∙ h) | inr h ↦ ours.2 (sym here ∙ h) ])
    (parser.Unsigned least most) (same.parser (parser.Unsigned least most) parses) in
    (read.0, subst (λ (id : Text). one_text (found_of m) id ≡ Some read.0) here read.1, read.2)

-- of two options with other names, only one has each name
only_first : (x y : Arg) (first second : Text) → y.id.now ≡ second → bytes_eq second first ≡ false
    → (j : ℕ) (e : Arg) → j < 2 → bytes_eq (slice_index_or (x ∷ y ∷ []) j e).id.now first ≡ true → j ≡ 0
only_first x y first second is apart zero e low same = refl
only_first x y first second is apart (suc zero) e low same =
    let bad : false ≡ true = rw (is, apart) at same in
    cc
only_first x y first second is apart (suc (suc n)) e low same = absurd (omega arith)

only_second : (x y : Arg) (first second : Text) → x.id.now ≡ first → bytes_eq first second ≡ false
    → (j : ℕ) (e : Arg) → j < 2 → bytes_eq (slice_index_or (x ∷ y ∷ []) j e).id.now second ≡ true → j ≡ 1
only_second x y first second is apart zero e low same =
    let bad : false ≡ true = rw (is, apart) at same in
    cc
only_second x y first second is apart (suc zero) e low same = refl
only_second x y first second is apart (suc (suc n)) e low same = absurd (omega arith)

-- the numbers of both
pub both_given : (start mid cmd : Command) (a b : Arg) (first second : Text) (least most low high : ℕ) (m : ArgMatches) → TwoOptions start mid cmd a b
    → IsNumberOption a first least most → IsNumberOption b second low high → IsOurs first → IsOurs second
    → bytes_eq first second ≡ false → bytes_eq second first ≡ false → IsParsedFrom cmd m
    → HasNumber m first least most × HasNumber m second low high
both_given start mid cmd a b first second least most low high m two one other ours others apart again parsed =
    let one_arg : args_of mid ≡ two.0.arg ∷ [] = two.0.args ∙ ap (λ l. l ++ two.0.arg ∷ []) two.2 in
    let list : args_of cmd ≡ two.0.arg ∷ two.1.arg ∷ [] = two.1.args ∙ ap (λ l. l ++ two.1.arg ∷ []) one_arg in
    let empty : IsPlain start = (subst (All IsPlainArg) (sym two.2) (All-nil IsPlainArg), two.3) in
    let plain : IsPlain cmd = added_plain mid cmd b two.1 (added_plain start mid a two.0 empty one.1) other.1 in
    let globals_mid : (out-Command mid).has_globals ≡ false = two.0.globals ∙ (ap (λ g. g || a.global) two.4 ∙ ap (λ g. false || g) one.3) in
    let globals : (out-Command cmd).has_globals ≡ false = two.1.globals ∙ (ap (λ g. g || b.global) globals_mid ∙ ap (λ g. false || g) other.3) in
    let negates : (out-Command cmd).subcommand_negates_reqs ≡ false = two.1.negates ∙ (two.0.negates ∙ two.5) in
    let first_id : two.0.arg.id.now ≡ first = ap (λ x. x.now) two.0.rules.id ∙ ap (λ r. r.id) one.0 in
    let second_id : two.1.arg.id.now ≡ second = ap (λ x. x.now) two.1.rules.id ∙ ap (λ r. r.id) other.0 in
    let first_here : (j : ℕ) (e : Arg) → j < length (args_of cmd) → bytes_eq (slice_index_or (args_of cmd) j e).id.now (slice_index_or (args_of cmd) 0 a).id.now ≡ true → j ≡ 0 =
    λ j e low same.
    let low_here : j < 2 = subst (λ (l : List Arg). j < length l) list low in
    let name_here : bytes_eq (slice_index_or (two.0.arg ∷ two.1.arg ∷ []) j e).id.now two.0.arg.id.now ≡ true =
    subst (λ (l : List Arg). bytes_eq (slice_index_or l j e).id.now (slice_index_or l 0 a).id.now ≡ true) list same in
    only_first two.0.arg two.1.arg first second second_id again j e low_here
    (subst (λ (id : Text). bytes_eq (slice_index_or (two.0.arg ∷ two.1.arg ∷ []) j e).id.now id ≡ true) first_id name_here) in
    let second_here : (j : ℕ) (e : Arg) → j < length (args_of cmd) → bytes_eq (slice_index_or (args_of cmd) j e).id.now (slice_index_or (args_of cmd) 1 b).id.now ≡ true → j ≡ 1 =
    λ j e low same.
    let low_here : j < 2 = subst (λ (l : List Arg). j < length l) list low in
    let name_here : bytes_eq (slice_index_or (two.0.arg ∷ two.1.arg ∷ []) j e).id.now two.1.arg.id.now ≡ true =
    subst (λ (l : List Arg). bytes_eq (slice_index_or l j e).id.now (slice_index_or l 1 b).id.now ≡ true) list same in
    only_second two.0.arg two.1.arg first second first_id apart j e low_here
    (subst (λ (id : Text). bytes_eq (slice_index_or (two.0.arg ∷ two.1.arg ∷ []) j e).id.now id ≡ true) second_id name_here) in
    let at_first : SameRules a (slice_index_or (args_of cmd) 0 a) = subst (λ (l : List Arg). SameRules a (slice_index_or l 0 a)) (sym list) two.0.rules in
    let at_second : SameRules b (slice_index_or (args_of cmd) 1 b) = subst (λ (l : List Arg). SameRules b (slice_index_or l 1 b)) (sym list) two.1.rules in
    let many : length (args_of cmd) ≡ 2 = ap length list in (
      given_at cmd a first least most m 0 parsed plain globals negates (omega arith) at_first one ours first_here,
      given_at cmd b second low high m 1 parsed plain globals negates (omega arith) at_second other others second_here,
    )

-- a text in a range of 64 bits is read as its number
abbrev pub Reads : (bits : ℕ) → {E : Type 0} → (List ℕ → Result ℕ E → Type 0) → Type 0
Reads bits {E} gives = (text : List ℕ) (r : Result ℕ E) → gives text r → ParsesUnsigned bits 10 text r

pub read_number : {E : Type 0} (gives : List ℕ → Result ℕ E → Type 0) (bits least most : ℕ) (text : Text) (n : ℕ) → Reads bits gives
    → ReadsOne gives text (Some n) → IsUnsignedIn least most text
    → (n ≡ digits_value 10 (without_leading_plus text)) × (least ≤ n) × (n ≤ most)
read_number gives bits least most text n reads one within =
    let is : n ≡ digits_value 10 (without_leading_plus text) = (reads text (Ok n) one).1 in
    (is, rw is within.2, rw is within.3)

-- the number that the words give an option is that of its text
pub number_is : (options : App) (name : Text) (words : List Text) (m : ArgMatches) (text : Text) (n : ℕ) → rows_of (found_of m) ≡ matches_of options words
    → one_text (found_of m) name ≡ Some text → n ≡ digits_value 10 (without_leading_plus text) → number_given options name words ≡ Some n
number_is options name words m text n rows found is =
    ap (option_map (λ t. digits_value 10 (without_leading_plus t))) (ap (one_of name) (sym rows) ∙ (sym (one_text-rows (found_of m) name) ∙ found))
    ∙ ap (λ (k : ℕ). Some k) (sym is)

first_byte : (xs ys : Text) → xs ≡ ys → slice_index xs 0 ≡ slice_index ys 0
first_byte xs ys e = ap (λ (t : Text). slice_index t 0) e

pub seed_is_ours : IsOurs (codes "seed")
seed_is_ours = (
  λ e. let bad : 115 ≡ 0 = first_byte _ _ e in absurd (omega arith),
  λ e. let bad : 115 ≡ 104 = first_byte _ _ e in absurd (omega arith),
  λ e. let bad : 115 ≡ 118 = first_byte _ _ e in absurd (omega arith),
)

pub calls_is_ours : IsOurs (codes "calls")
calls_is_ours = (
  λ e. let bad : 99 ≡ 0 = first_byte _ _ e in absurd (omega arith),
  λ e. let bad : 99 ≡ 104 = first_byte _ _ e in absurd (omega arith),
  λ e. let bad : 99 ≡ 118 = first_byte _ _ e in absurd (omega arith),
)
