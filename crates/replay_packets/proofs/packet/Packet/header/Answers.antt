use Rattle.std.proofs.Common.{◌≡◌, ℕ, Bool, true, false, length, ap, sym, ◌∙◌}
use Rattle.std.specs.Prelude.{IsTrue, not}
use Rattle.std.proofs.lemmas.Bool.{eqb-true, not-false, not-true}
use Rattle.rpc_header.specs.declared.Kind.{Kind}
use Rattle.rpc_header.specs.declared.Kind.TheVariants as kind
use Rattle.rpc_header.specs.Limits.{data_limit}
use Rattle.rpc_header.specs.Spelling.{is_short_fragment}
use Rattle.call_rules.specs.Packet.{Packet}
use Rattle.replay_packets.proofs.packet.Packet.header.Goals as goal

-- the data of a Call that isn't the last piece
full_piece : (k : Kind) (last : Bool) (len : ℕ) → IsTrue (not (is_short_fragment k last len)) → k ≡ kind.Call → IsTrue (not last) → len ≡ data_limit
full_piece kind.Call false len h call more = eqb-true len data_limit (not-false _ (not-true _ h))
full_piece kind.Call true len h call more = absurd (cc)
full_piece _ last len h call more = absurd (cc)

pub returns-clause-full : goal.returns-clause-full
returns-clause-full c call more =
    ap (λ (p : Packet). length p.payload) (sym c.self.view_is) ∙ full_piece _ _ _ c.self.invariant.fullness call more
