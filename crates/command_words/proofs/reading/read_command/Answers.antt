use Rattle.std.proofs.Common.{rules, ◌≡◌, true, false, refl}
use Rattle.std.specs.Prelude.{codes, map, string_bytes}
use Rattle.std.specs.Str.{bytes_eq}
use Rattle.command_words.proofs.Commands.{asks, asks_for_nothing, asks_for_replay, asks_for_storm, asks_for_stubs, no_command, options_of_storm, replay_options, stubs_options, taken_by}
use Rattle.command_words.proofs.reading.read_command.Goals as goal

pub returns-in_err-read_no_options-clause-usage : goal.returns-in_err-read_no_options-clause-usage
returns-in_err-read_no_options-clause-usage c = λ usage.
    let is : true ≡ bytes_eq c.name_of-name.result.now (codes "replay") = search rules in
    taken_by (map string_bytes c.args.words.now) c.name_of-name.result.now _ false c.name_of-name.ensures (replay_options c.name_of-name.result.now is)
    (c.in_err-read_no_options.ensures.usage (search rules))

pub returns-in_err-read_no_options-clause-nothing : goal.returns-in_err-read_no_options-clause-nothing
returns-in_err-read_no_options-clause-nothing c = λ usage.
    let is : true ≡ bytes_eq c.name_of-name.result.now (codes "replay") = search rules in
    asks_for_nothing (map string_bytes c.args.words.now)
    (taken_by (map string_bytes c.args.words.now) c.name_of-name.result.now _ false c.name_of-name.ensures (replay_options c.name_of-name.result.now is)
    (c.in_err-read_no_options.ensures.usage (search rules)))

pub returns-then-eq-clause-read : goal.returns-then-eq-clause-read
returns-then-eq-clause-read c =
    let is : true ≡ bytes_eq c.name_of-name.result.now (codes "replay") = search rules in
    asks (map string_bytes c.args.words.now) c.name_of-name.result.now _ c.name_of-name.ensures
    (taken_by (map string_bytes c.args.words.now) c.name_of-name.result.now _ true c.name_of-name.ensures (replay_options c.name_of-name.result.now is) c.in_ok-read_no_options.ensures.taken)
    (asks_for_replay (map string_bytes c.args.words.now) c.name_of-name.result.now is)

pub returns-then-eq-clause-taken : goal.returns-then-eq-clause-taken
returns-then-eq-clause-taken c =
    let is : true ≡ bytes_eq c.name_of-name.result.now (codes "replay") = search rules in
    taken_by (map string_bytes c.args.words.now) c.name_of-name.result.now _ true c.name_of-name.ensures (replay_options c.name_of-name.result.now is) c.in_ok-read_no_options.ensures.taken

pub returns-in_err-read_no_options-2-clause-usage : goal.returns-in_err-read_no_options-2-clause-usage
returns-in_err-read_no_options-2-clause-usage c = λ usage.
    let other : false ≡ bytes_eq c.name_of-name.result.now (codes "replay") = search rules in
    let is : true ≡ bytes_eq c.name_of-name.result.now (codes "stubs") = search rules in
    taken_by (map string_bytes c.args.words.now) c.name_of-name.result.now _ false c.name_of-name.ensures (stubs_options c.name_of-name.result.now other is)
    (c.in_err-read_no_options-2.ensures.usage (search rules))

pub returns-in_err-read_no_options-2-clause-nothing : goal.returns-in_err-read_no_options-2-clause-nothing
returns-in_err-read_no_options-2-clause-nothing c = λ usage.
    let other : false ≡ bytes_eq c.name_of-name.result.now (codes "replay") = search rules in
    let is : true ≡ bytes_eq c.name_of-name.result.now (codes "stubs") = search rules in
    asks_for_nothing (map string_bytes c.args.words.now)
    (taken_by (map string_bytes c.args.words.now) c.name_of-name.result.now _ false c.name_of-name.ensures (stubs_options c.name_of-name.result.now other is)
    (c.in_err-read_no_options-2.ensures.usage (search rules)))

pub returns-then-eq-2-clause-read : goal.returns-then-eq-2-clause-read
returns-then-eq-2-clause-read c =
    let other : false ≡ bytes_eq c.name_of-name.result.now (codes "replay") = search rules in
    let is : true ≡ bytes_eq c.name_of-name.result.now (codes "stubs") = search rules in
    asks (map string_bytes c.args.words.now) c.name_of-name.result.now _ c.name_of-name.ensures
    (taken_by (map string_bytes c.args.words.now) c.name_of-name.result.now _ true c.name_of-name.ensures (stubs_options c.name_of-name.result.now other is) c.in_ok-read_no_options-2.ensures.taken)
    (asks_for_stubs (map string_bytes c.args.words.now) c.name_of-name.result.now other is)

pub returns-then-eq-2-clause-taken : goal.returns-then-eq-2-clause-taken
returns-then-eq-2-clause-taken c =
    let other : false ≡ bytes_eq c.name_of-name.result.now (codes "replay") = search rules in
    let is : true ≡ bytes_eq c.name_of-name.result.now (codes "stubs") = search rules in
    taken_by (map string_bytes c.args.words.now) c.name_of-name.result.now _ true c.name_of-name.ensures (stubs_options c.name_of-name.result.now other is) c.in_ok-read_no_options-2.ensures.taken

pub returns-in_err-read_storm_options-clause-usage : goal.returns-in_err-read_storm_options-clause-usage
returns-in_err-read_storm_options-clause-usage c = λ usage.
    let other : false ≡ bytes_eq c.name_of-name.result.now (codes "replay") = search rules in
    let again : false ≡ bytes_eq c.name_of-name.result.now (codes "stubs") = search rules in
    let is : true ≡ bytes_eq c.name_of-name.result.now (codes "storm") = search rules in
    taken_by (map string_bytes c.args.words.now) c.name_of-name.result.now _ false c.name_of-name.ensures (options_of_storm c.name_of-name.result.now other again is)
    (c.in_err-read_storm_options.ensures.usage (search rules))

pub returns-in_err-read_storm_options-clause-nothing : goal.returns-in_err-read_storm_options-clause-nothing
returns-in_err-read_storm_options-clause-nothing c = λ usage.
    let other : false ≡ bytes_eq c.name_of-name.result.now (codes "replay") = search rules in
    let again : false ≡ bytes_eq c.name_of-name.result.now (codes "stubs") = search rules in
    let is : true ≡ bytes_eq c.name_of-name.result.now (codes "storm") = search rules in
    asks_for_nothing (map string_bytes c.args.words.now)
    (taken_by (map string_bytes c.args.words.now) c.name_of-name.result.now _ false c.name_of-name.ensures (options_of_storm c.name_of-name.result.now other again is)
    (c.in_err-read_storm_options.ensures.usage (search rules)))

pub returns-then-eq-3-clause-read : goal.returns-then-eq-3-clause-read
returns-then-eq-3-clause-read c =
    let other : false ≡ bytes_eq c.name_of-name.result.now (codes "replay") = search rules in
    let again : false ≡ bytes_eq c.name_of-name.result.now (codes "stubs") = search rules in
    let is : true ≡ bytes_eq c.name_of-name.result.now (codes "storm") = search rules in
    let read = c.in_ok-read_storm_options.ensures in
    asks (map string_bytes c.args.words.now) c.name_of-name.result.now _ c.name_of-name.ensures
    (taken_by (map string_bytes c.args.words.now) c.name_of-name.result.now _ true c.name_of-name.ensures (options_of_storm c.name_of-name.result.now other again is) read.taken)
    (asks_for_storm (map string_bytes c.args.words.now) c.name_of-name.result.now _ _ other again read.seed read.calls)

pub returns-then-eq-3-clause-taken : goal.returns-then-eq-3-clause-taken
returns-then-eq-3-clause-taken c =
    let other : false ≡ bytes_eq c.name_of-name.result.now (codes "replay") = search rules in
    let again : false ≡ bytes_eq c.name_of-name.result.now (codes "stubs") = search rules in
    let is : true ≡ bytes_eq c.name_of-name.result.now (codes "storm") = search rules in
    let read = c.in_ok-read_storm_options.ensures in
    taken_by (map string_bytes c.args.words.now) c.name_of-name.result.now _ true c.name_of-name.ensures (options_of_storm c.name_of-name.result.now other again is) read.taken

pub returns-clause-usage : goal.returns-clause-usage
returns-clause-usage c = λ usage.
    let other : false ≡ bytes_eq c.name_of-name.result.now (codes "replay") = search rules in
    let again : false ≡ bytes_eq c.name_of-name.result.now (codes "stubs") = search rules in
    let more : false ≡ bytes_eq c.name_of-name.result.now (codes "storm") = search rules in
    taken_by (map string_bytes c.args.words.now) c.name_of-name.result.now _ false c.name_of-name.ensures (no_command c.name_of-name.result.now other again more) refl

pub returns-clause-nothing : goal.returns-clause-nothing
returns-clause-nothing c = λ usage.
    let other : false ≡ bytes_eq c.name_of-name.result.now (codes "replay") = search rules in
    let again : false ≡ bytes_eq c.name_of-name.result.now (codes "stubs") = search rules in
    let more : false ≡ bytes_eq c.name_of-name.result.now (codes "storm") = search rules in
    asks_for_nothing (map string_bytes c.args.words.now)
    (taken_by (map string_bytes c.args.words.now) c.name_of-name.result.now _ false c.name_of-name.ensures (no_command c.name_of-name.result.now other again more) refl)
