use Rattle.std.proofs.Common.{◌≡◌, ◌<◌, ◌+◌, length, take, ap, sym, subst, arith}
use Rattle.replay_model.specs.Step.{run}
use Rattle.std.proofs.lemmas.Result.{err_from_is_err_and}
use Rattle.commands.specs.Outside.{Wrote, output}
use Rattle.commands.specs.Replay.{world_of}
use Rattle.script_text.specs.Reading.{script_of}
use Rattle.commands.proofs.Playing.{Playing, Playing-start, Playing-named, Playing-event, Playing-flush, Playing-stop, Playing-fail, Playing-end, nothing_shown}
use Rattle.commands.proofs.replay.play.Goals as goal

pub returns-in_err-apply-clause-err : goal.returns-in_err-apply-clause-err
returns-in_err-apply-clause-err g c =
    let s = script_of c.args.script.now in
    let i = c.loop-event.event-index in
    let old = output (g.K.Sink.written c.args.sink.now) (g.K.Sink.faults c.args.sink.now) in
    let mid = output (g.K.Sink.written c.loop-event.sink) (g.K.Sink.faults c.loop-event.sink) in
    let p = err_from_is_err_and c.from_residual-in_err-apply.result c.from_residual-in_err-apply.ensures.1 in
    rw (p.1, p.2) (Playing-stop c.once_after_any_events.ensures s c.requires.in_range i c.loop-event.world c.loop-event.out.items old mid c.loop-event.invariant.playing)

pub returns-in_err-flush_full-clause-err : goal.returns-in_err-flush_full-clause-err
returns-in_err-flush_full-clause-err g c =
    let s = script_of c.args.script.now in
    let i = c.loop-event.event-index in
    let old = output (g.K.Sink.written c.args.sink.now) (g.K.Sink.faults c.args.sink.now) in
    let mid = output (g.K.Sink.written c.loop-event.sink) (g.K.Sink.faults c.loop-event.sink) in
    let new = output (g.K.Sink.written c.flush_full.new.sink) (g.K.Sink.faults c.flush_full.new.sink) in
    let items = c.as_slice-event-items.result.now in
    let event = c.event-item.result in
    let at = run (world_of s) (take i s.events) in
    let below : c.loop-event.event-index < length c.args.script.now.events = omega (arith, ap length c.as_slice-event-items.ensures) in
    let named = Playing-named s i c.loop-event.world items event c.loop-event.out.items old mid c.requires.in_range c.loop-event.invariant.playing below c.as_slice-event-items.ensures c.event-item.is in
    let st = c.in_ok-apply.ensures.step at c.loop-event.invariant.playing.stands named in
    let after = Playing-event c.acts_print_whole_lines.ensures.acts c.acts_print_whole_lines.ensures.joins s i c.loop-event.world c.apply.new.self items event c.loop-event.out.items c.apply.new.out.items old mid c.loop-event.invariant.playing below c.as_slice-event-items.ensures c.event-item.is st.0 st.1 c.in_ok-apply.ensures.few c.in_ok-apply.ensures.keeps in
    let part = c.in_err-flush_full.ensures.part in
    let p = err_from_is_err_and c.from_residual-in_err-flush_full.result c.from_residual-in_err-flush_full.ensures.1 in
    rw (p.1, p.2) (
      λ h. omega (arith, c.in_err-flush_full.ensures.failed h, c.loop-event.invariant.playing.still),
      Playing-fail c.once_after_any_events.ensures c.told_laws.ensures.appended_in_turn s c.requires.in_range (i + 1) c.apply.new.self c.apply.new.out.items old mid new part.0 after part.2,
    )

pub loop-event-preserved : goal.loop-event-preserved
loop-event-preserved g c =
    let s = script_of c.args.script.now in
    let i = c.loop-event.event-index in
    let old = output (g.K.Sink.written c.args.sink.now) (g.K.Sink.faults c.args.sink.now) in
    let mid = output (g.K.Sink.written c.loop-event.sink) (g.K.Sink.faults c.loop-event.sink) in
    let new = output (g.K.Sink.written c.flush_full.new.sink) (g.K.Sink.faults c.flush_full.new.sink) in
    let items = c.as_slice-event-items.result.now in
    let event = c.event-item.result in
    let at = run (world_of s) (take i s.events) in
    let below : c.loop-event.event-index < length c.args.script.now.events = omega (arith, ap length c.as_slice-event-items.ensures) in
    let named = Playing-named s i c.loop-event.world items event c.loop-event.out.items old mid c.requires.in_range c.loop-event.invariant.playing below c.as_slice-event-items.ensures c.event-item.is in
    let st = c.in_ok-apply.ensures.step at c.loop-event.invariant.playing.stands named in
    let after = Playing-event c.acts_print_whole_lines.ensures.acts c.acts_print_whole_lines.ensures.joins s i c.loop-event.world c.apply.new.self items event c.loop-event.out.items c.apply.new.out.items old mid c.loop-event.invariant.playing below c.as_slice-event-items.ensures c.event-item.is st.0 st.1 c.in_ok-apply.ensures.few c.in_ok-apply.ensures.keeps in
    record {
      playing = Playing-flush c.acts_print_whole_lines.ensures.joins c.told_laws.ensures.appended_in_turn s (i + 1) c.apply.new.self c.apply.new.out.items c.flush_full.new.out.items old mid new after c.in_ok-flush_full.ensures.ok c.in_ok-flush_full.ensures.still;
    }

pub returns-in_err-write_all-clause-err : goal.returns-in_err-write_all-clause-err
returns-in_err-write_all-clause-err g c =
    let s = script_of c.args.script.now in
    let i = c.loop-event.event-index in
    let old = output (g.K.Sink.written c.args.sink.now) (g.K.Sink.faults c.args.sink.now) in
    let mid = output (g.K.Sink.written c.loop-event.sink) (g.K.Sink.faults c.loop-event.sink) in
    let new = output (g.K.Sink.written c.write_all.new.sink) (g.K.Sink.faults c.write_all.new.sink) in
    let part = c.in_err-write_all.ensures.part in
    let slice = c.as_slice.ensures.value in
    let p = err_from_is_err_and c.from_residual-in_err-write_all.result c.from_residual-in_err-write_all.ensures.1 in
    rw (p.1, p.2) (
      λ h. omega (arith, c.in_err-write_all.ensures.failed h, c.loop-event.invariant.playing.still),
      Playing-fail c.once_after_any_events.ensures c.told_laws.ensures.appended_in_turn s c.requires.in_range i c.loop-event.world c.loop-event.out.items old mid new part.0 c.loop-event.invariant.playing
          (subst (λ x. Wrote (take part.0 x) mid new) slice part.2),
    )

pub returns-clause-ok : goal.returns-clause-ok
returns-clause-ok g c =
    let first = output (g.K.Sink.written c.args.sink.now) (g.K.Sink.faults c.args.sink.now) in
    let before = output (g.K.Sink.written c.loop-event.sink) (g.K.Sink.faults c.loop-event.sink) in
    let after = output (g.K.Sink.written c.write_all.new.sink) (g.K.Sink.faults c.write_all.new.sink) in
    let slice = c.as_slice.ensures.value in
    let all : c.loop-event.event-index ≡ length c.args.script.now.events = omega (arith, ap length c.as_slice-event-items.ensures) in
    Playing-end c.told_laws.ensures.appended_in_turn (script_of c.args.script.now) c.loop-event.event-index c.loop-event.world c.loop-event.out.items first before after c.loop-event.invariant.playing all
    (subst (λ x. Wrote x before after) slice c.in_ok-write_all.ensures.all)

pub loop-event-init : goal.loop-event-init
loop-event-init g c =
    let first = output (g.K.Sink.written c.args.sink.now) (g.K.Sink.faults c.args.sink.now) in
    record {
      playing = subst (λ out. Playing (script_of c.args.script.now) 0 c.in_ok-world.world out first first) (sym c.new-out.ensures.items)
          (Playing-start c.told_laws.ensures.nothing_appended (script_of c.args.script.now) c.in_ok-world.world first
          c.in_ok-world.ensures.stands c.in_ok-world.ensures.no_packet c.in_ok-world.ensures.none_forgotten c.in_ok-world.ensures.no_count
          c.in_ok-world.ensures.none_started c.in_ok-world.ensures.none_lost);
    }

pub returns-in_err-world-clause-err : goal.returns-in_err-world-clause-err
returns-in_err-world-clause-err g c =
    let p = err_from_is_err_and c.from_residual.result c.from_residual.ensures.1 in
    rw (p.1, p.2) (nothing_shown c.once_after_any_events.ensures c.told_laws.ensures.nothing_appended _ _)
