use Rattle.std.proofs.Common.{◌≡◌, ◌*◌, ap, ◌∙◌, arith}
use Rattle.replay_model.specs.declared.options.TheConstants.{ROUNDS_A_CALL}
use Rattle.replay_model.specs.Rounds.{Storm, calm, rounds_of, storm}
use Rattle.replay_model.specs.Summary.{summary_over}
use Rattle.commands.specs.Rounds.{storm_at}
use Rattle.commands.proofs.PlayedRounds.{all_rounds}
use Rattle.commands.proofs.rounds.play_storm.Goals as goal

pub returns : goal.returns
returns c =
    let options = c.args.options.now in
    let kept = c.loop-player.invariant in
    let all : options.calls * ROUNDS_A_CALL ≡ rounds_of options.calls = omega arith in
    let whole : storm_at c.loop-player.player ≡ storm options.seed options.calls =
    all_rounds c.loop-player.player options (options.calls * ROUNDS_A_CALL) kept.reached kept.options all c.loop-player-test.false in
    c.summary.ensures ∙ ap (λ (s : Storm). summary_over calm s.played) whole
