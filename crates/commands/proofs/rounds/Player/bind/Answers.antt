use Rattle.std.proofs.Common.{◌≡◌, ℕ, List, Some, refl, ap, sym, subst, ◌∙◌, arith}
use Rattle.std.specs.Prelude.{IsTrue, codes}
use Rattle.binder.specs.Names.{is_name}
use Rattle.replay_model.specs.declared.event.Event.TheVariants as event
use Rattle.commands.specs.Rounds.{world_at}
use Rattle.commands.proofs.DrawnRounds.{made_of, not_busy, one}
use Rattle.commands.proofs.PlayedRounds.{event_played}
use Rattle.commands.proofs.rounds.Player.bind.Goals as goal

same_name : (a b : List ℕ) → Some a ≡ Some b → a ≡ b
same_name a b h = cc

pub returns : goal.returns
returns c x =
    let old = c.args.self.now in
    let w = world_at old in
    let stands = c.requires.reached.stands in
    let machine = c.args.place.machine in
    let process = c.args.place.process in
    let idle = sym (c.is_idle.ensures w stands) ∙ c.if-not-is_idle.false in
    let is : c.in-Some.name ≡ codes "main" = same_name c.in-Some.name (codes "main") (sym c.in-Some.is ∙ c.read_name.ensures) in
    let name : IsTrue (is_name c.in-Some.name) = subst (λ (n : List ℕ). IsTrue (is_name n)) (sym is) refl in
    event_played c.play.result old c.play.new.self (event.Bind machine process c.in-Some.name) x _ c.requires.reached
    (c.requires.process, name) tt (c.play.ensures.step w stands tt) (c.play.ensures.lost w stands) c.play.ensures.keeps c.play.ensures.few
    (ap (λ (n : List ℕ). one (event.Bind machine process n) x) is ∙ ap (made_of x) (not_busy _ _ idle))
