-- How many calls are open, line by line.
use Rattle.std.proofs.Common.{◌≡◌, ℕ, ◌+◌, ◌<◌, List, [], ◌∷◌, ◌++◌, length, take, get_or, refl, ap, sym, ◌∙◌, arith, true, false}
use Rattle.std.proofs.lemmas.List.{take_more}
use Rattle.call_rules.specs.Caller.{State, Idle, Binding, Sending, Waiting, Receiving, is_idle, is_binding}
use Rattle.replay_model.specs.Process.{Line}
use Rattle.replay_model.specs.OpenCalls.{open_in, open_of_lines}

pub open_in-idle : (s : State) → is_idle s ≡ true → 0 ≡ open_in s
open_in-idle Idle is = refl
open_in-idle Binding is = refl
open_in-idle (Sending i) is = cc
open_in-idle Waiting is = cc
open_in-idle (Receiving j) is = cc

pub open_in-binding : (s : State) → is_binding s ≡ true → 0 ≡ open_in s
open_in-binding Idle is = refl
open_in-binding Binding is = refl
open_in-binding (Sending i) is = cc
open_in-binding Waiting is = cc
open_in-binding (Receiving j) is = cc

pub open_in-call : (s : State) → is_idle s ≡ false → is_binding s ≡ false → 1 ≡ open_in s
open_in-call Idle idle binding = cc
open_in-call Binding idle binding = cc
open_in-call (Sending i) idle binding = refl
open_in-call Waiting idle binding = refl
open_in-call (Receiving j) idle binding = refl

open_of_lines-push : (ls : List Line) (l : Line) → open_of_lines (ls ++ l ∷ []) ≡ open_of_lines ls + open_in l.caller.state
open_of_lines-push [] l = omega arith
open_of_lines-push (x ∷ ls) l = omega (arith, open_of_lines-push ls l)

-- one line more
pub open_of_lines-more : (ls : List Line) (i : ℕ) (l : Line) → i < length ls → l ≡ get_or ls i l → open_of_lines (take (i + 1) ls) ≡ open_of_lines (take i ls) + open_in l.caller.state
open_of_lines-more ls i l within is =
    ap open_of_lines (take_more ls i l within) ∙ (ap (λ (x : Line). open_of_lines (take i ls ++ x ∷ [])) (sym is) ∙ open_of_lines-push (take i ls) l)
