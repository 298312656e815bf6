-- Who may add a piece: a worker takes what is gathered in hand only for a Call, whose piece is full unless it is the last.
use Rattle.std.proofs.Common.{◌≡◌, ◌≤◌, ◌+◌, ℕ, List, ◌++◌, length, take, drop, Option, Some, None, Bool, true, false, cond, ap, sym, subst, ◌∙◌, refl, arith}
use Rattle.std.proofs.lemmas.List.{length-append, length-take-le, take_at}
use Rattle.std.specs.Prelude.{◌==◌, nat_lt, nat_le, not, IsTrue, ⊤}
use Rattle.rpc_header.specs.declared.Kind.{Kind}
use Rattle.rpc_header.specs.declared.Kind.TheVariants as kind
use Rattle.rpc_header.specs.declared.Export.{Export}
use Rattle.fragments.specs.declared.limits.TheConstants.{PIECE}
use Rattle.fragments.specs.Pieces.{last_piece}
use Rattle.fragments.specs.declared.gathered.Gathered.{Gathered}
use Rattle.call_rules.specs.Packet.{Fields, Packet}
use Rattle.call_rules.specs.Entry.{Entry, Gather, Filling, Done, Sending, Word, word_of, word_seen, is_same_word, judge, judged_kind, judged_new_call, judged_same_call, judged_ack, judged_probe}
use Rattle.call_rules.specs.declared.entry.Judged.{Judged}
use Rattle.call_rules.specs.declared.entry.Judged.TheVariants as judged
use Rattle.call_rules.specs.declared.entry.Phase.{Phase}
use Rattle.call_rules.specs.declared.entry.Phase.TheVariants as phase
use Rattle.call_rules.specs.Worker as rules
use Rattle.call_rules.specs.Worker.{on_idle, on_claimed, on_took, on_admitted, on_ran, on_fetched}
use Rattle.replay_model.specs.World.{has_buffer}
use Rattle.replay_server.specs.declared.stage.Stage.{Stage}
use Rattle.replay_server.specs.declared.stage.Stage.TheVariants as stage
use Rattle.replay_server.specs.Rules.{row_at}
use Rattle.replay_server.specs.Service.{answer_of}
use Rattle.replay_server.specs.Worker.{CanAdd, IsFullPiece}

-- what a judgement says of the packet
abbrev Says : Judged → Kind → Fields → Type 0
Says judged.Begin k h = (k ≡ kind.Call) × (h.last ≡ false)
Says judged.More k h = k ≡ kind.Call
Says _ k h = ⊤

says_either : (b : Bool) (x y : Judged) (k : Kind) (h : Fields) → Says x k h → Says y k h → Says (cond b x y) k h
says_either true x y k h one other = one
says_either false x y k h one other = other

says_first : (last : Bool) (h : Fields) → last ≡ h.last → Says (cond last judged.Admit judged.Begin) kind.Call h
says_first true h same = tt
says_first false h same = (refl, sym same)

says_new : (p : Phase) (h : Fields) → Says (judged_new_call p h) kind.Call h
says_new phase.Running h = tt
says_new phase.Filling h = tt
says_new phase.Sending h = tt
says_new _ h = says_either (h.fragment == 0) _ judged.Skipped kind.Call h (says_first h.last h refl) tt

says_same : (p : Phase) (h : Fields) → Says (judged_same_call p h) kind.Call h
says_same phase.Empty h = says_new phase.Empty h
says_same phase.Gather h = refl
says_same phase.Filling h = tt
says_same phase.Sending h = tt
says_same phase.Running h = says_either h.please_ack judged.Ack judged.Same kind.Call h tt tt
says_same phase.Done h = says_either h.last judged.Fetch judged.Same kind.Call h tt tt

says_ack : (p : Phase) (h : Fields) → Says (judged_ack p) kind.Ack h
says_ack phase.Empty h = tt
says_ack phase.Done h = tt
says_ack _ h = tt

says_probe : (p : Phase) (h : Fields) → Says (judged_probe p) kind.Probe h
says_probe phase.Empty h = tt
says_probe phase.Done h = tt
says_probe _ h = tt

says_kind : (same : Bool) (p : Phase) (k : Kind) (h : Fields) → Says (judged_kind same p k h) k h
says_kind false p kind.Call h = says_new p h
says_kind true p kind.Call h = says_same p h
says_kind true p kind.Ack h = says_ack p h
says_kind true p kind.Probe h = says_probe p h
says_kind _ p _ h = tt

says : (w : Word) (h : Fields) → Says (judge w h) h.kind h
says w h = says_either (nat_lt h.call.number w.number) judged.Older _ h.kind h tt (says_kind (w.number == h.call.number) w.phase h.kind h)

-- a Call that begins has a full piece
pub begins_full : (w : Word) (h : Fields) (j : Judged) (len : ℕ) → j ≡ judge w h → (h.kind ≡ kind.Call → IsTrue (not h.last) → len ≡ PIECE) → j ≡ judged.Begin → len ≡ PIECE
begins_full w h j len is full begins =
    let said : Says judged.Begin h.kind h = subst (λ (x : Judged). Says x h.kind h) (sym is ∙ begins) (says w h) in
    full said.0 (ap not said.1)

-- a packet whose kind is Call has a full piece, unless it is the last
abbrev pub IsFullCall : Packet → Type 0
IsFullCall p = p.header.kind ≡ kind.Call → IsFullPiece p

can_either : (b : Bool) (x y : rules.Step) → CanAdd x.worker → CanAdd y.worker → CanAdd (cond b x y).worker
can_either true x y one other = one
can_either false x y one other = other

can_more : (p : Packet) (e : Entry) → IsFullPiece p → CanAdd (rules.on_more p e).worker
can_more p (Gather n bytes next) full = full
can_more p _ full = tt

can_fetch : (p : Packet) (e : Entry) → CanAdd (rules.on_fetch p e).worker
can_fetch p (Done n signal reply) = tt
can_fetch p _ = tt

can_judged : (j : Judged) (p : Packet) (e : Entry) → (Says j p.header.kind p.header) → IsFullCall p → CanAdd (rules.on_judged_claim j has_buffer p e).worker
can_judged judged.Admit p e said full = tt
can_judged judged.Begin p e said full = tt
can_judged judged.More p e said full = can_more p e (full said)
can_judged judged.Fetch p e said full = can_fetch p e
can_judged _ p e said full = tt

can_claimed : (p : Packet) (seen : Word) (e : Entry) → IsFullCall p → CanAdd (on_claimed has_buffer p seen e).worker
unfolding on_claimed
can_claimed p seen e full =
    can_either (is_same_word (word_of e) seen) _ _ (can_judged (judge seen p.header) p e (says seen p.header) full) tt

can_took : (p : Packet) (e : Entry) → CanAdd (on_took p e).worker
unfolding on_took
can_took p (Filling n bytes next) =
    can_either (p.header.fragment == next) (rules.on_due p n bytes next) (rules.on_other p n bytes next)
    (can_either p.header.last _ _ tt tt)
    (can_either (nat_lt p.header.fragment next) _ _ tt tt)
can_took p _ = tt

can_admitted : (p : Packet) (arguments : List ℕ) (a : rules.Answer) → CanAdd (on_admitted has_buffer p arguments a).worker
unfolding on_admitted
can_admitted p arguments a = tt

can_ran : (p : Packet) (a : rules.Answer) → CanAdd (on_ran p a).worker
unfolding on_ran
can_ran p a = tt

can_fetched : (p : Packet) (e : Entry) → CanAdd (on_fetched p e).worker
unfolding on_fetched
can_fetched p (Sending n signal reply) = can_either (nat_le (rules.wanted_piece p.header) (last_piece (length reply))) _ _ tt tt
can_fetched p _ = tt

-- after the step of a worker that holds a packet
pub can_at : (p : Packet) (s : Stage) (total : ℕ) (e : Entry) → IsFullCall p → CanAdd (row_at p s total e).worker
can_at p (stage.Claimed seen) total e full = can_claimed p (word_seen seen) e full
can_at p stage.Took total e full = can_took p e
can_at p (stage.Admitted arguments) total e full = can_admitted p _ _
can_at p (stage.Ran answer) total e full = can_ran p (answer_of answer)
can_at p stage.Fetched total e full = can_fetched p e

can_bind : (named : Option (Option Export)) (p : Packet) → CanAdd (rules.on_bind named p).worker
can_bind None p = tt
can_bind (Some found) p = tt

can_judge : (j : Judged) (seen : Word) (p : Packet) → CanAdd (rules.on_judged j seen p).worker
can_judge judged.Older seen p = tt
can_judge judged.Same seen p = tt
can_judge judged.Busy seen p = tt
can_judge judged.Unknown seen p = tt
can_judge judged.Skipped seen p = tt
can_judge judged.Ack seen p = tt
can_judge judged.Admit seen p = tt
can_judge judged.Begin seen p = tt
can_judge judged.More seen p = tt
can_judge judged.Fetch seen p = tt

can_call : (refused : Option ℕ) (e : Option Entry) (p : Packet) → CanAdd (rules.on_call refused e p).worker
can_call (Some reason) e p = tt
can_call None None p = tt
can_call None (Some e) p = can_judge (judge (word_of e) p.header) (word_of e) p

can_kind : (k : Kind) (asked : rules.Asked) (e : Option Entry) (p : Packet) → CanAdd (rules.on_kind k asked e p).worker
can_kind kind.Bind asked e p = can_bind asked.named p
can_kind _ asked e p = can_call asked.refused e p

-- after the step of an idle worker
pub can_idle : (asked : rules.Asked) (e : Option Entry) (p : Packet) → CanAdd (on_idle asked e p).worker
unfolding on_idle
can_idle asked e p = can_kind p.header.kind asked e p

-- what stands at the head of a buffer when a piece was added behind what was gathered
pub head_added : (len more : ℕ) (old new piece : List ℕ) → new ≡ take len old ++ piece ++ drop (len + length piece) old → more ≡ len + length piece → len ≤ length old → take more new ≡ take len old ++ piece
head_added len more old new piece added counted inside =
    let head : length (take len old ++ piece) ≡ len + length piece = omega (arith, length-append (take len old) piece, length-take-le len old inside) in
    ap (take more) added
    ∙ (ap (λ (n : ℕ). take n (take len old ++ piece ++ drop (len + length piece) old)) counted
    ∙ take_at (take len old ++ piece) (drop (len + length piece) old) (len + length piece) head)

-- nothing was added
pub head_kept : (g after : Gathered) (old new : List ℕ) → after ≡ g → new ≡ old → take after.len new ≡ take g.len old
head_kept g after old new counted kept = ap (λ (x : Gathered). take x.len new) counted ∙ ap (take g.len) kept

-- what a packet's header tells
pub full_call : (p : Packet) (k : Kind) (last : Bool) → k ≡ p.header.kind → last ≡ p.header.last → (k ≡ kind.Call → IsTrue (not last) → length p.payload ≡ PIECE) → IsFullCall p
full_call p k last same_kind same_last full call more = full (same_kind ∙ call) (ap not same_last ∙ more)
