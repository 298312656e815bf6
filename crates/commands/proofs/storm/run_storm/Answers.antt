use Rattle.std.proofs.Common.{◌∙◌}
use Rattle.replay_model.specs.declared.limits.TheConstants.{SMALL_BUFFERS, LONG_BUFFERS}
use Rattle.replay_model.specs.Rounds.{storm}
use Rattle.commands.specs.declared.status.Status.TheVariants as status
use Rattle.commands.proofs.Storming.{once_at, once_at_end, stormed, stormed_in_part, storms_from}
use Rattle.commands.proofs.storm.run_storm.Goals as goal

pub returns-in-Err-clause-storms : goal.returns-in-Err-clause-storms
returns-in-Err-clause-storms g c =
    let seed = c.args.options.now.seed in
    let calls = c.args.options.now.calls in
    rw c.end_with.ensures.same
    (storms_from status.NoMemory seed calls _ _ record {
      once = once_at c.once_after_any_events.ensures c.a_spelling_is_32_bytes.ensures.count c.packets_survive_any_events.ensures.spelled seed calls;
      written = c.end_with.ensures.line;
    })

pub returns-in-Ok-write_all-clause-storms : goal.returns-in-Ok-write_all-clause-storms
returns-in-Ok-write_all-clause-storms g c =
    let seed = c.args.options.now.seed in
    let calls = c.args.options.now.calls in
    storms_from status.Ok seed calls _ _
    (stormed seed calls _ _
    (once_at_end c.once_after_any_events.ensures c.a_spelling_is_32_bytes.ensures.count c.packets_survive_any_events.ensures.spelled seed calls c.requires.calls.1)
    (c.each_call_has_one_end.ensures SMALL_BUFFERS LONG_BUFFERS (storm seed calls).played)
    c.as_slice.result.now (c.as_slice.ensures.value ∙ c.in-Ok.ensures) c.in-Ok-write_all.ensures.all)

pub returns-clause-storms : goal.returns-clause-storms
returns-clause-storms g c =
    let seed = c.args.options.now.seed in
    let calls = c.args.options.now.calls in
    let failed = c.in-Err-write_all.ensures in
    rw c.from.ensures
    (storms_from status.WriteFault seed calls _ _ (
      failed.failed,
      stormed_in_part seed calls _ _
          (once_at_end c.once_after_any_events.ensures c.a_spelling_is_32_bytes.ensures.count c.packets_survive_any_events.ensures.spelled seed calls c.requires.calls.1)
          c.as_slice.result.now (c.as_slice.ensures.value ∙ c.in-Ok.ensures) failed.part.0 failed.part.1 failed.part.2,
    ))
