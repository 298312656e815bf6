use Rattle.std.proofs.Common.{◌≡◌, List, [], ◌∷◌, ◌++◌, length, drop, Option, Some, None, ap, sym, refl, ◌∙◌, arith}
use Rattle.std.specs.Prelude.{MatchOption, option_to_list}
use Rattle.call_rules.specs.Packet.{Packet}
use Rattle.replay_model.specs.World.{Server}
use Rattle.replay_server.specs.contracts.machine.ServerMachine.{the_view}
use Rattle.replay_server.proofs.machine.ServerMachine.next_ready.Goals as goal

-- a list that is its own rest is empty
own_rest : (xs : List Packet) → xs ≡ drop 1 xs → xs ≡ []
own_rest [] h = refl
own_rest (x ∷ xs) h = absurd (omega (arith, ap length h))

-- the ready packets without the first, if there is one
without_first : (s : Server) (o : Option Packet) (new : List Packet) → s.ready ≡ option_to_list o ++ new → new ≡ drop 1 s.ready
    → MatchOption o ((s.ready ≡ []) × (record s { ready = new } ≡ s)) (λ p. (rest : List Packet) × (s.ready ≡ p ∷ rest) × (record s { ready = new } ≡ record s { ready = rest }))
without_first s None new all rest = (own_rest s.ready (all ∙ rest), ap (λ (ps : List Packet). record s { ready = ps }) (sym all))
without_first s (Some p) new all rest = (new, all, refl)

pub returns : goal.returns
returns c =
    rw (← c.self.view_is)
    (without_first (the_view c.self.inside) c.pop_front.result c.pop_front.new.self.items c.pop_front.ensures.items c.pop_front.ensures.rest)
