use Rattle.std.proofs.Common.{◌≡◌, ℕ, ◌+◌, ◌<◌, Bool, ◌&&◌, ap, sym, subst, refl, ◌∙◌, arith}
use Rattle.replay_world.specs.Stored.{RoseByAtMost, Keeps}
use Rattle.replay_world.proofs.Ticking.{Passed, none_passed, one_passed, all_passed_quietly, all_passed_loudly}
use Rattle.replay_world.proofs.world.World.ticks.Goals as goal
use Rattle.replay_world.proofs.world.World.ticks.Goals.{then-is_quiet, else-is_quiet}

pub loop-passed-init : goal.loop-passed-init
loop-passed-init c = record {
  few = (omega arith, (omega arith, omega arith, omega arith, omega arith, omega arith), omega arith, omega arith);
  keeps = (refl, refl);
  played = λ w h. none_passed w c.args.machine c.args.process c.args.out.now c.args.self.now h;
}

pub tick-requires-clause-few : goal.tick-requires-clause-few
tick-requires-clause-few c =
    let rose : RoseByAtMost c.loop-passed._passed c.args.self.now c.loop-passed.self = c.loop-passed.invariant.few in
    let few = c.requires.few in
    let within : c.loop-passed._passed < 1000 = omega arith in
    (omega (arith, rose.0, few.0), omega (arith, rose.1.0, few.1), omega (arith, rose.1.1, few.2), omega (arith, rose.1.2, few.3), omega (arith, rose.1.3, few.4), omega (arith, rose.1.4, few.5), omega (arith, rose.2, few.6), omega (arith, rose.3, few.7))

pub loop-passed-preserved : goal.loop-passed-preserved
loop-passed-preserved c =
    let rose : RoseByAtMost c.loop-passed._passed c.args.self.now c.loop-passed.self = c.loop-passed.invariant.few in
    let more : RoseByAtMost 1 c.loop-passed.self c.tick.new.self = c.in_ok-passed_quietly.ensures.few in
    let kept : Keeps c.loop-passed.self c.tick.new.self = c.in_ok-passed_quietly.ensures.keeps in
    let quietly : Bool = c.in_ok-passed_quietly.passed_quietly in
    let both : c.if-is_quiet.is_quiet ≡ (c.loop-passed.is_quiet && quietly) = elim c.if-is_quiet.branch [
      | then-is_quiet v ↦ v.is_quiet-is ∙ ap (λ (b : Bool). b && quietly) (sym v.if-is_quiet.true)
      | else-is_quiet v ↦ v.is_quiet-is ∙ (v.if-is_quiet.false ∙ ap (λ (b : Bool). b && quietly) (sym v.if-is_quiet.false))
    ] in
    record {
      few = (omega (arith, rose.0, more.0), (omega (arith, rose.1.0, more.1.0), omega (arith, rose.1.1, more.1.1), omega (arith, rose.1.2, more.1.2), omega (arith, rose.1.3, more.1.3), omega (arith, rose.1.4, more.1.4)), omega (arith, rose.2, more.2), omega (arith, rose.3, more.3));
      keeps = (kept.0 ∙ c.loop-passed.invariant.keeps.0, kept.1 ∙ c.loop-passed.invariant.keeps.1);
      played = λ w h.
          let x = c.loop-passed.invariant.played w h in
          let P : Bool → Type 0 = λ b. Passed w c.args.machine c.args.process (c.loop-passed._passed + 1) c.args.out.now c.tick.new.out c.tick.new.self b in
          subst P (sym both) (one_passed x c.tick.new.out c.tick.new.self quietly (c.in_ok-passed_quietly.ensures.played x.now x.stands));
    }

pub returns-in_ok-put_quiet-clause-played : goal.returns-in_ok-put_quiet-clause-played
returns-in_ok-put_quiet-clause-played c w h =
    let all : c.loop-passed._passed ≡ c.args.count = omega (arith, c.loop-passed-test.false, c.loop-passed.auto._passed-end) in
    let P : ℕ → Type 0 = λ n. Passed w c.args.machine c.args.process n c.args.out.now c.loop-passed.out c.loop-passed.self c.loop-passed.is_quiet in
    let Q : Bool → Type 0 = λ b. Passed w c.args.machine c.args.process c.args.count c.args.out.now c.loop-passed.out c.loop-passed.self b in
    all_passed_quietly (subst Q c.if-is_quiet-2.true (subst P all (c.loop-passed.invariant.played w h))) c.put_quiet.new.out c.in_ok-put_quiet.ensures

pub returns-else-is_quiet-2-clause-played : goal.returns-else-is_quiet-2-clause-played
returns-else-is_quiet-2-clause-played c w h =
    let all : c.loop-passed._passed ≡ c.args.count = omega (arith, c.loop-passed-test.false, c.loop-passed.auto._passed-end) in
    let P : ℕ → Type 0 = λ n. Passed w c.args.machine c.args.process n c.args.out.now c.loop-passed.out c.loop-passed.self c.loop-passed.is_quiet in
    let Q : Bool → Type 0 = λ b. Passed w c.args.machine c.args.process c.args.count c.args.out.now c.loop-passed.out c.loop-passed.self b in
    all_passed_loudly (subst Q c.if-is_quiet-2.false (subst P all (c.loop-passed.invariant.played w h)))
