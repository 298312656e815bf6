use Rattle.std.specs.Prelude.{codes, map, string_bytes}
use Rattle.std.specs.Str.Parse.{ParsesUnsigned, ExplainsUnsignedError, HasUnsignedDigitsIfOk}
use Rattle.command_words.specs.Words.{storm_options}
use Rattle.command_words.proofs.Options.{number_is, read_number}
use Rattle.command_words.proofs.reading.read_storm_options.Goals as goal

pub returns-clause-seed : goal.returns-clause-seed
returns-clause-seed c =
    let given = c.in_ok-matches.ensures.seed in
    let one = c.in-Some.ensures.value given.0 given.1 in
    number_is storm_options (codes "seed") (map string_bytes c.args.words.now) _ given.0 _ c.in_ok-matches.ensures.found given.1
    (read_number (λ text r. ParsesUnsigned 64 10 text r × ExplainsUnsignedError 10 text r × HasUnsignedDigitsIfOk text r) 64 0 18446744073709551615 given.0 _ (λ text r gives. gives.0) one given.2).0

pub returns-clause-calls : goal.returns-clause-calls
returns-clause-calls c =
    let given = c.in_ok-matches.ensures.calls in
    let one = c.in-Some-get_one.ensures.value given.0 given.1 in
    number_is storm_options (codes "calls") (map string_bytes c.args.words.now) _ given.0 _ c.in_ok-matches.ensures.found given.1
    (read_number (λ text r. ParsesUnsigned 32 10 text r × ExplainsUnsignedError 10 text r × HasUnsignedDigitsIfOk text r) 32 1 20000 given.0 _ (λ text r gives. gives.0) one given.2).0
