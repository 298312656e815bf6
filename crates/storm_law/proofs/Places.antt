-- How many calls are open where one process, or one client, is exchanged.
use Rattle.std.proofs.Common.{◌≡◌, ℕ, zero, suc, ◌+◌, ◌-◌, List, [], ◌∷◌, Some, None, Bool, true, false, cond, ap, ltb, arith}
use Rattle.std.specs.Prelude.{slice_get, slice_set}
use Rattle.std.proofs.lemmas.Option.{none-some, same_Some}
use Rattle.replay_model.specs.declared.limits.TheConstants.{FIRST_CLIENT}
use Rattle.replay_model.specs.Process.{Line}
use Rattle.replay_model.specs.Step.{with_client, with_line}
use Rattle.replay_model.specs.World.{World, Client, numbered}
use Rattle.replay_model.specs.OpenCalls.{open_in, open_of_lines, open_of, open_of_clients, open_calls}

-- a number that has an item: it stands at its place
read_at : {A : Type 0} (from : ℕ) (xs : List A) (n : ℕ) (x : A) → numbered from xs n ≡ Some x → slice_get xs (n - from) ≡ Some x
read_at {A} from xs n x h = go (ltb n from) h
  where
    go : (b : Bool) → cond b None (slice_get xs (n - from)) ≡ Some x → slice_get xs (n - from) ≡ Some x
    go true g = absurd (none-some x g)
    go false g = g

lines_set : (ls : List Line) (i : ℕ) (old new : Line) → slice_get ls i ≡ Some old → open_of_lines (slice_set ls i new) + open_in old.caller.state ≡ open_of_lines ls + open_in new.caller.state
lines_set [] i old new h = absurd (none-some old h)
lines_set (l ∷ ls) zero old new h =
    let same : open_in l.caller.state ≡ open_in old.caller.state = ap (λ (k : Line). open_in k.caller.state) (same_Some l old h) in
    omega arith
lines_set (l ∷ ls) (suc i) old new h = omega (arith, lines_set ls i old new h)

clients_set : (cs : List Client) (i : ℕ) (old new : Client) → slice_get cs i ≡ Some old → open_of_clients (slice_set cs i new) + open_of old ≡ open_of_clients cs + open_of new
clients_set [] i old new h = absurd (none-some old h)
clients_set (c ∷ cs) zero old new h =
    let same : open_of c ≡ open_of old = ap open_of (same_Some c old h) in
    omega arith
clients_set (c ∷ cs) (suc i) old new h = omega (arith, clients_set cs i old new h)

-- a client is exchanged
pub client_is_set : (w : World) (m : ℕ) (b c : Client) → numbered FIRST_CLIENT w.clients m ≡ Some b → open_calls (with_client w m c) + open_of b ≡ open_calls w + open_of c
client_is_set w m b c e = clients_set w.clients (m - FIRST_CLIENT) b c (read_at FIRST_CLIENT w.clients m b e)

-- a process of a client is exchanged
pub line_is_set : (w : World) (m p : ℕ) (b c : Client) (old new : Line) → numbered FIRST_CLIENT w.clients m ≡ Some b → numbered 1 c.lines p ≡ Some old → c.lines ≡ b.lines → open_calls (with_client w m (with_line c p new)) + open_in old.caller.state ≡ open_calls w + open_in new.caller.state
line_is_set w m p b c old new eb el same =
    omega (arith, client_is_set w m b (with_line c p new) eb, lines_set c.lines (p - 1) old new (read_at 1 c.lines p old el), ap open_of_lines same)
