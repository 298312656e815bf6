use Rattle.std.proofs.Common.{rules, ◌≡◌, ◌∙◌, true, refl, sym, ap, ap₂}
use Rattle.std.specs.Prelude.{codes, map, string_bytes}
use Rattle.clap.specs.Faults.{fault_of, is_simple_and_free}
use Rattle.clap.specs.Simple.{App, app_of, is_simple, matches_of, with_rule}
use Rattle.clap.specs.Walk.{is_empty}
use Rattle.command_words.specs.Words.{storm_options}
use Rattle.command_words.proofs.Options.{both_given, calls_is_ours, refused, seed_is_ours}
use Rattle.command_words.proofs.reading.storm_matches.Goals as goal

pub returns-in_err-try_get_matches_from-clause-usage : goal.returns-in_err-try_get_matches_from-clause-usage
returns-in_err-try_get_matches_from-clause-usage c = λ usage.
    let is : app_of c.in_ok-command.command ≡ storm_options = c.in_ok-command.ensures.shape (search rules)
    ∙ ap₂ with_rule (c.in_ok-arg.ensures.shape (search rules) ∙ ap₂ with_rule c.new.ensures.app c.number_option-seed.ensures.rule) c.number_option-calls.ensures.rule in
    let simple : is_simple_and_free (app_of c.in_ok-command.command) ≡ true = ap is_simple_and_free is in
    let failed = c.in_err-try_get_matches_from.ensures.kinds simple in
    ap (λ (a : App). is_empty (fault_of a (map string_bytes c.args.words.now))) (sym is) ∙ refused c.in_err-try_get_matches_from.field-0.0 _ failed (search rules)

pub returns-clause-taken : goal.returns-clause-taken
returns-clause-taken c =
    let is : app_of c.in_ok-command.command ≡ storm_options = c.in_ok-command.ensures.shape (search rules)
    ∙ ap₂ with_rule (c.in_ok-arg.ensures.shape (search rules) ∙ ap₂ with_rule c.new.ensures.app c.number_option-seed.ensures.rule) c.number_option-calls.ensures.rule in
    let simple : is_simple_and_free (app_of c.in_ok-command.command) ≡ true = ap is_simple_and_free is in
    ap (λ (a : App). is_empty (fault_of a (map string_bytes c.args.words.now))) (sym is) ∙ ap is_empty (c.in_ok-try_get_matches_from.ensures.kinds simple)

pub returns-clause-found : goal.returns-clause-found
returns-clause-found c =
    let is : app_of c.in_ok-command.command ≡ storm_options = c.in_ok-command.ensures.shape (search rules)
    ∙ ap₂ with_rule (c.in_ok-arg.ensures.shape (search rules) ∙ ap₂ with_rule c.new.ensures.app c.number_option-seed.ensures.rule) c.number_option-calls.ensures.rule in
    let simple : is_simple (app_of c.in_ok-command.command) ≡ true = ap is_simple is in
    (c.in_ok-try_get_matches_from.ensures.matches simple).0 ∙ ap (λ (a : App). matches_of a (map string_bytes c.args.words.now)) is

pub returns-clause-seed : goal.returns-clause-seed
returns-clause-seed c =
    (both_given _ _ _ _ _ (codes "seed") (codes "calls") 0 18446744073709551615 1 20000 _
    (c.in_ok-arg.ensures, c.in_ok-command.ensures, c.new.ensures.empty.0, c.new.ensures.empty.1, c.new.ensures.local, c.new.ensures.negates)
    (c.number_option-seed.ensures.rule, c.number_option-seed.ensures.plain, c.number_option-seed.ensures.whole.0, c.number_option-seed.ensures.whole.1)
    (c.number_option-calls.ensures.rule, c.number_option-calls.ensures.plain, c.number_option-calls.ensures.whole.0, c.number_option-calls.ensures.whole.1)
    seed_is_ours calls_is_ours refl refl c.in_ok-try_get_matches_from.ensures.parsed).0

pub returns-clause-calls : goal.returns-clause-calls
returns-clause-calls c =
    (both_given _ _ _ _ _ (codes "seed") (codes "calls") 0 18446744073709551615 1 20000 _
    (c.in_ok-arg.ensures, c.in_ok-command.ensures, c.new.ensures.empty.0, c.new.ensures.empty.1, c.new.ensures.local, c.new.ensures.negates)
    (c.number_option-seed.ensures.rule, c.number_option-seed.ensures.plain, c.number_option-seed.ensures.whole.0, c.number_option-seed.ensures.whole.1)
    (c.number_option-calls.ensures.rule, c.number_option-calls.ensures.plain, c.number_option-calls.ensures.whole.0, c.number_option-calls.ensures.whole.1)
    seed_is_ours calls_is_ours refl refl c.in_ok-try_get_matches_from.ensures.parsed).1
