-- Little is kept as it is, and much is written, so that nothing is kept.
use Rattle.std.proofs.Common.{rules, ◌≡◌, ℕ, List, [], ◌++◌, refl, sym, ap, subst, ◌∙◌, inl, inr, append-nil}
use Rattle.commands.specs.Outside.{Output, Flushed, Wrote, output}
use Rattle.commands.proofs.Laws.{Nothing}
use Rattle.commands.proofs.replay.flush_full.Goals as goal

nothing_appended : Nothing
nothing_appended told = search rules

flushed_nothing : (kept : List ℕ) (x : Output) → Flushed kept kept x x
flushed_nothing kept x = record { front = []; parts = refl; none_or_all = inl refl; written = nothing_appended x.written }

flushed_all : (before bytes after : List ℕ) (old new : Output) → bytes ≡ before → after ≡ [] → Wrote bytes old new → Flushed before after old new
flushed_all before bytes after old new same none wrote = record {
  front = before;
  parts = sym (ap (λ (x : List ℕ). before ++ x) none ∙ append-nil before);
  none_or_all = inr none;
  written = subst (λ (x : List ℕ). Wrote x old new) same wrote;
}

pub returns-then-len-lt-FLUSH_BYTES-clause-ok : goal.returns-then-len-lt-FLUSH_BYTES-clause-ok
returns-then-len-lt-FLUSH_BYTES-clause-ok g c =
    flushed_nothing c.args.out.now.items (output (g.K.Sink.written c.args.sink.now) (g.K.Sink.faults c.args.sink.now))

pub returns-clause-ok : goal.returns-clause-ok
returns-clause-ok g c =
    flushed_all c.args.out.now.items c.as_slice.result.now c.clear.new.self.items
    (output (g.K.Sink.written c.args.sink.now) (g.K.Sink.faults c.args.sink.now))
    (output (g.K.Sink.written c.write_all.new.sink) (g.K.Sink.faults c.write_all.new.sink))
    c.as_slice.ensures.value c.clear.ensures.items c.in_ok-write_all.ensures.all
