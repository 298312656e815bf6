use Rattle.std.proofs.Common.{ℕ, ◌<◌, List, [], ap, ◌∙◌, arith, false, Some}
use Rattle.std.proofs.Output.{displays_on_ok_of_eq}
use Rattle.std.proofs.lemmas.Fmt.{hex_byte}
use Rattle.std.specs.Fmt.{digits_output, format_spec, padded_integral, radix_prefix, shown_prefix}
use Rattle.std.specs.Option.{option_map}
use Rattle.replay_lines.proofs.bytes.HexByteDisplay.fmt.Goals as goal

pub returns-clause-writes : goal.returns-clause-writes
returns-clause-writes g c =
    let n : ℕ = c.args.self.now.0 in
    let small : n < 256 = grind arith in
    let digits_of_it = c.in_radix.result in
    displays_on_ok_of_eq g.W.Write.write_str_gives _ _ _ _ _
    (ap (λ s. option_map (padded_integral s false (shown_prefix s (radix_prefix digits_of_it.base))) (digits_output digits_of_it)) c.laid_out.ensures
    ∙ (ap (option_map (padded_integral (format_spec 32 0 4 2 18446744073709551615) false [])) c.in_radix.ensures
    ∙ ap (λ (t : List ℕ). Some t) (hex_byte false n small))) c.write.ensures.writes
