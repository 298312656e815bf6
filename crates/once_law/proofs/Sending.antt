-- What a process sent since its last begin or counted packet, after one of its acts: the marks of others change nothing.
use Rattle.std.proofs.Common.{◌≡◌, ◌≢◌, ℕ, List, ◌∷◌, Bool, true, cond, eqb, eqb-true, refl, ap, sym, ◌∙◌}
use Rattle.std.proofs.lemmas.Bool.{eq-eqb, and_parts, and_from, false_from_ne_true}
use Rattle.rpc_header.specs.declared.Activity.{Activity}
use Rattle.call_rules.specs.Packet.{is_same_activity}
use Rattle.replay_model.specs.Once.{sent_at, sent_since}
use Rattle.replay_model.specs.Process.{Line, Said, Sends}
use Rattle.replay_model.specs.Record.{Mark, Begin, SentPacket, Heard, Marked}
use Rattle.lawful_rules.specs.Known.{Known, next_packet}
use Rattle.lawful_rules.specs.Lawful.{Way, ByStart, ByBind, ByPacket, ByTick, sent_by, sent_after, IsNext, IsLawfulSaying}

-- the marks with that of what a process came by
abbrev pub marks_by : Way → Activity → List Marked → List Marked
marks_by (ByStart s) a marks = record { activity = s.call.activity; mark = Begin } ∷ marks
marks_by (ByBind call) a marks = record { activity = call.activity; mark = Begin } ∷ marks
marks_by (ByPacket n p) a marks = record { activity = a; mark = Heard n } ∷ marks
marks_by ByTick a marks = marks

-- and with that of a packet that it sends, which has number n
abbrev pub marks_after : (n : ℕ) → Said → List Marked → List Marked
marks_after n (Sends p) marks = record { activity = p.header.call.activity; mark = SentPacket n } ∷ marks
marks_after n _ marks = marks

-- the process starts a call of its own, and sends a packet of its own
abbrev StartsOwn : Activity → Way → Type 0
StartsOwn a (ByStart s) = s.call.activity ≡ a
StartsOwn a (ByBind call) = call.activity ≡ a
StartsOwn a _ = Unit {0}

abbrev SendsOwn : Activity → Said → Type 0
SendsOwn a (Sends p) = p.header.call.activity ≡ a
SendsOwn a _ = Unit {0}

starts_own : (way : Way) (old new : Line) → IsNext way old new → StartsOwn old.caller.activity way
starts_own (ByStart s) old new h = ap (λ c. c.activity) h.1
starts_own (ByBind call) old new h = ap (λ c. c.activity) h.1
starts_own _ old new h = tt

sends_own : (k : Known) (l : Line) (way : Way) (sent : List ℕ) (now_idle : Bool) (said : Said) → IsLawfulSaying k l way sent now_idle said → SendsOwn l.caller.activity said
sends_own k l way sent now_idle (Sends p) h = h.own
sends_own k l way sent now_idle _ h = tt

same_activity : (a b : Activity) → is_same_activity a b ≡ true → a ≡ b
same_activity a b e =
    let parts = and_parts (eqb a.machine b.machine) (eqb a.process b.process) e in
    let m = eqb-true a.machine b.machine parts.0 in
    let p = eqb-true a.process b.process parts.1 in
    λ i. record { machine = m i; process = p i }

is_same : (a b : Activity) → a ≡ b → is_same_activity a b ≡ true
is_same a b e =
    and_from (eqb a.machine b.machine) (eqb a.process b.process) (eq-eqb a.machine b.machine (ap (λ x. x.machine) e))
    (eq-eqb a.process b.process (ap (λ x. x.process) e))

own_mark : (a x : Activity) (m : Mark) (marks : List Marked) → x ≡ a → sent_since a (record { activity = x; mark = m } ∷ marks) ≡ sent_at m (sent_since a marks)
own_mark a x m marks e = ap (λ b. cond b (sent_at m (sent_since a marks)) (sent_since a marks)) (is_same x a e)

other_mark : (a x : Activity) (m : Mark) (marks : List Marked) → x ≢ a → sent_since a (record { activity = x; mark = m } ∷ marks) ≡ sent_since a marks
other_mark a x m marks ne =
    ap (λ b. cond b (sent_at m (sent_since a marks)) (sent_since a marks)) (false_from_ne_true (is_same_activity x a) (λ t. ne (same_activity x a t)))

own_by : (a : Activity) (way : Way) (marks : List Marked) → StartsOwn a way → sent_since a (marks_by way a marks) ≡ sent_by way (sent_since a marks)
own_by a (ByStart s) marks h = own_mark a s.call.activity Begin marks h
own_by a (ByBind call) marks h = own_mark a call.activity Begin marks h
own_by a (ByPacket n p) marks h = own_mark a a (Heard n) marks refl
own_by a ByTick marks h = refl

own_after : (k : Known) (a : Activity) (said : Said) (marks : List Marked) → SendsOwn a said → sent_since a (marks_after (next_packet k) said marks) ≡ sent_after k said (sent_since a marks)
own_after k a (Sends p) marks h = own_mark a p.header.call.activity (SentPacket (next_packet k)) marks h
own_after k a _ marks h = refl

-- the process itself
pub own_sent : (k : Known) (old new : Line) (way : Way) (sent : List ℕ) (now_idle : Bool) (said : Said) (marks : List Marked) (k' : Known) → IsNext way old new → IsLawfulSaying k' old way sent now_idle said → sent_since old.caller.activity (marks_after (next_packet k) said (marks_by way old.caller.activity marks)) ≡ sent_after k said (sent_by way (sent_since old.caller.activity marks))
own_sent k old new way sent now_idle said marks k' next saying =
    own_after k old.caller.activity said (marks_by way old.caller.activity marks) (sends_own k' old way sent now_idle said saying)
    ∙ ap (sent_after k said) (own_by old.caller.activity way marks (starts_own way old new next))

other_by : (a x : Activity) (way : Way) (marks : List Marked) → StartsOwn x way → x ≢ a → sent_since a (marks_by way x marks) ≡ sent_since a marks
other_by a x (ByStart s) marks h ne = other_mark a s.call.activity Begin marks (λ e. ne (sym h ∙ e))
other_by a x (ByBind call) marks h ne = other_mark a call.activity Begin marks (λ e. ne (sym h ∙ e))
other_by a x (ByPacket n p) marks h ne = other_mark a x (Heard n) marks ne
other_by a x ByTick marks h ne = refl

other_after : (n : ℕ) (a x : Activity) (said : Said) (marks : List Marked) → SendsOwn x said → x ≢ a → sent_since a (marks_after n said marks) ≡ sent_since a marks
other_after n a x (Sends p) marks h ne = other_mark a p.header.call.activity (SentPacket n) marks (λ e. ne (sym h ∙ e))
other_after n a x _ marks h ne = refl

-- another process
pub other_sent : (n : ℕ) (old new other : Line) (way : Way) (sent : List ℕ) (now_idle : Bool) (said : Said) (marks : List Marked) (k : Known) → IsNext way old new → IsLawfulSaying k old way sent now_idle said → old.caller.activity ≢ other.caller.activity → sent_since other.caller.activity (marks_after n said (marks_by way old.caller.activity marks)) ≡ sent_since other.caller.activity marks
other_sent n old new other way sent now_idle said marks k next saying ne =
    other_after n other.caller.activity old.caller.activity said (marks_by way old.caller.activity marks) (sends_own k old way sent now_idle said saying) ne
    ∙ other_by other.caller.activity old.caller.activity way marks (starts_own way old new next) ne
