-- Each row of the worker's rules is a lawful step.
use Rattle.std.proofs.Common.{◌≡◌, ◌≢◌, ℕ, ◌+◌, ◌<◌, ◌≤◌, List, ◌++◌, length, Some, None, Option, Bool, true, false, cond, refl, ap, sym, ◌∙◌, subst, arith, inl, inr, ◌⊎◌, eqb, eqb-true, leb, ltb}
use Rattle.std.specs.Prelude.{Contains}
use Rattle.std.specs.Option.{option_map}
use Rattle.std.proofs.lemmas.Bool.{false≢true, eq-eqb, leb-true}
use Rattle.std.proofs.lemmas.Option.{none-some}
use Rattle.std.proofs.lemmas.List.Elements.{Contains-push}
use Rattle.fragments.specs.Pieces.{last_piece, piece, front}
use Rattle.rpc_header.specs.declared.Kind.{Kind}
use Rattle.rpc_header.specs.declared.Kind.TheVariants as kind
use Rattle.binder.specs.declared.interface.InterfaceName.{InterfaceName}
use Rattle.binder.specs.declared.row.ExportRow.{ExportRow}
use Rattle.binder.specs.declared.row.Verdict.{Verdict}
use Rattle.binder.specs.declared.row.Verdict.TheVariants as verdict
use Rattle.binder.specs.Exports.{accepts, look_up}
use Rattle.binder.specs.Interfaces.{name_in}
use Rattle.call_rules.specs.Packet.{Packet}
use Rattle.call_rules.specs.Entry.{Entry, Empty, Gather, Filling, Running, Done, Sending, Word, word_of, is_same_word, judge}
use Rattle.call_rules.specs.declared.entry.Judged.{Judged}
use Rattle.call_rules.specs.declared.entry.Judged.TheVariants as judged
use Rattle.call_rules.specs.declared.entry.Phase.{Phase}
use Rattle.call_rules.specs.declared.entry.Phase.TheVariants as phase
use Rattle.call_rules.specs.declared.worker.Did.TheVariants as did
use Rattle.call_rules.specs.declared.worker.Unfit.TheVariants as unfit
use Rattle.call_rules.specs.Worker.{Resting, Claimed, Took, Admitted, Ran, Fetched, Answer, Nothing, APacket, ARejection, ack_packet, reject_packet, bound_packet, reply_packet, drops, rejects, claims, admits, exchanges, exchanges_and_sends, on_bind, on_judged, on_call, on_kind, on_idle, on_begin, on_more, on_fetch, on_judged_claim, on_claimed, on_due, on_other, on_took, run_of, on_admitted, on_ran, wanted_piece, resends, on_fetched}
use Rattle.replay_model.specs.Record.{Start}
use Rattle.replay_model.specs.Step.{asked_of, refusal}
use Rattle.lawful_rules.specs.Known.{Known, next_packet}
use Rattle.lawful_rules.specs.Facts.{Life, StartsPacket, HasReply, HasRun, CanBeFramed, IsCallPiece, IsOfCall, IsRequest, RemembersIn, Remembers, IsCarrier, IsWorkerAt}
use Rattle.lawful_rules.specs.Lawful.{AreRows, Grounds, is_owned, LawfulStep}
use Rattle.lawful_rules.proofs.Pieces.{PieceLaws, first_front, last_front, one_piece}
use Rattle.lawful_rules.proofs.Judging.{new_where_admitted, last_where_admitted, new_where_begun, not_last_where_begun, more_where_gathered, fetch_where_done, same_word}
use Rattle.lawful_rules.proofs.Framing.{reject_framed}
use Rattle.lawful_rules.proofs.WorkerSteps.{of_call, call_piece, not_run, ack_answer, bound_answer, reply_answer, reply_of_run, more_sent_run, more_sent_gathers, more_runs_request, gives_back, dropped, exchange, no_carrier, own_carrier}

-- Idle.

claimed_step : {k : Known} {f : Life} {rows : List (Option ExportRow)} {p : Packet} {e : Entry} (seen : Word) → IsCarrier k f p → LawfulStep k f rows p Resting e (claims p seen)
claimed_step {p = p} seen c =
    record {
      carries = own_carrier p;
      worker = c;
      alone = λ h. elim h [ inl x ↦ absurd (false≢true x) | inr y ↦ elim y [ inl x ↦ absurd (false≢true x) | inr x ↦ absurd (false≢true x) ] ];
      entry = λ x h. absurd (none-some x h);
      adds = tt;
    }

judged_lawful : {k : Known} {f : Life} {rows : List (Option ExportRow)} {p : Packet} {e : Entry} (j : Judged) (seen : Word) → IsCarrier k f p → LawfulStep k f rows p Resting e (on_judged j seen p)
judged_lawful judged.Older seen c = dropped unfit.Older
judged_lawful judged.Same seen c = dropped unfit.Same
judged_lawful judged.Busy seen c = dropped unfit.Busy
judged_lawful judged.Unknown seen c = dropped unfit.Unknown
judged_lawful judged.Skipped seen c = dropped unfit.Skipped
judged_lawful {k} {f} {rows} {p} judged.Ack seen c = gives_back did.Acks (APacket (ack_packet p)) refl (ack_answer _ _ c.request)
judged_lawful judged.Admit seen c = claimed_step seen c
judged_lawful judged.Begin seen c = claimed_step seen c
judged_lawful judged.More seen c = claimed_step seen c
judged_lawful judged.Fetch seen c = claimed_step seen c

bind_lawful : {k : Known} {f : Life} {rows : List (Option ExportRow)} {p : Packet} {e : Entry} (name : Option InterfaceName) → IsRequest k p → AreRows f rows → LawfulStep k f rows p Resting e (on_bind (option_map (look_up rows) name) p)
bind_lawful None r are = dropped unfit.BadName
bind_lawful {rows = rows} {p = p} (Some name) r are =
    gives_back did.Answers (APacket (bound_packet p (look_up rows name))) refl (bound_answer _ _ (look_up rows name) r (are.found name))

reject_lawful : {k : Known} {f : Life} {rows : List (Option ExportRow)} {p : Packet} {e : Entry} (reason : ℕ) → IsRequest k p → IsOfCall k p → refusal (accepts rows p.header.export p.header.procedure) ≡ Some reason → (reason ≡ 1) ⊎ (reason ≡ 2) → LawfulStep k f rows p Resting e (rejects p reason)
reject_lawful {k} {f} {rows} {p} reason r c answered which =
    gives_back (did.Rejects reason) (ARejection (reject_packet p reason)) refl
    (record {
      to_client = r.from_client;
      names_receiver = r.names_sender;
      answers = record {
        arguments = c.arguments;
        was_started = c.was_started;
        rejection = record { packet = next_packet k; rows = rows };
        is_listed = Contains-push k.rejects (record { packet = next_packet k; rows = rows });
        of_packet = refl;
        answered = answered;
      };
      framed = elim which [
        | inl x ↦ subst (λ n. CanBeFramed (reject_packet p n)) (sym x) (reject_framed p 1 refl r.framed)
        | inr x ↦ subst (λ n. CanBeFramed (reject_packet p n)) (sym x) (reject_framed p 2 refl r.framed)
      ];
    })

call_lawful : {k : Known} {f : Life} {rows : List (Option ExportRow)} {p : Packet} {e : Entry} (v : Verdict) → accepts rows p.header.export p.header.procedure ≡ v → IsRequest k p → p.header.kind ≢ kind.Bind → AreRows f rows → LawfulStep k f rows p Resting e (on_call (refusal v) (Some e) p)
call_lawful {p = p} {e = e} verdict.Accepted same r ne are =
    judged_lawful (judge (word_of e) p.header) (word_of e)
    (record {
      request = r;
      no_bind = ne;
      after_boot = (are.accepted p.header.export p.header.procedure same).0;
      up_to_read = (are.accepted p.header.export p.header.procedure same).1;
    })
call_lawful {k = k} {p = p} verdict.WrongBinding same r ne are = reject_lawful 1 r (of_call k p p.header.kind r.requests ne) (ap refusal same) (inl refl)
call_lawful {k = k} {p = p} verdict.NoProcedure same r ne are = reject_lawful 2 r (of_call k p p.header.kind r.requests ne) (ap refusal same) (inr refl)

-- an idle worker, by the kind of its packet
kind_lawful : {k : Known} {f : Life} {rows : List (Option ExportRow)} {p : Packet} {e : Entry} (kd : Kind) → p.header.kind ≡ kd → IsRequest k p → AreRows f rows → LawfulStep k f rows p Resting e (on_kind kd (asked_of rows p) (Some e) p)
kind_lawful {p = p} kind.Bind same r are = bind_lawful (name_in p.payload) r are
kind_lawful {rows = rows} {p = p} kind.Call same r are = call_lawful (accepts rows p.header.export p.header.procedure) refl r (λ b. cc) are
kind_lawful {rows = rows} {p = p} kind.Result same r are = call_lawful (accepts rows p.header.export p.header.procedure) refl r (λ b. cc) are
kind_lawful {rows = rows} {p = p} kind.Ack same r are = call_lawful (accepts rows p.header.export p.header.procedure) refl r (λ b. cc) are
kind_lawful {rows = rows} {p = p} kind.Probe same r are = call_lawful (accepts rows p.header.export p.header.procedure) refl r (λ b. cc) are
kind_lawful {rows = rows} {p = p} kind.Reject same r are = call_lawful (accepts rows p.header.export p.header.procedure) refl r (λ b. cc) are
kind_lawful {rows = rows} {p = p} kind.Signal same r are = call_lawful (accepts rows p.header.export p.header.procedure) refl r (λ b. cc) are
kind_lawful {rows = rows} {p = p} kind.Bound same r are = call_lawful (accepts rows p.header.export p.header.procedure) refl r (λ b. cc) are

pub idle_lawful : (k : Known) (f : Life) (rows : List (Option ExportRow)) (p : Packet) (e : Entry) → IsRequest k p → AreRows f rows → LawfulStep k f rows p Resting e (on_idle (asked_of rows p) (Some e) p)
unfolding on_idle
idle_lawful k f rows p e r are = kind_lawful p.header.kind refl r are

-- Claimed.

-- an entry that is empty, or of a lesser number, remembers no run of this number
not_remembered : (w : Word) (n : ℕ) → is_owned w.phase ≡ false → (w.phase ≡ phase.Empty) ⊎ (w.number < n) → Remembers w n → ⊥
not_remembered w n free less h = go w.phase w.number free less h
  where
    go : (ph : Phase) (m : ℕ) → is_owned ph ≡ false → (ph ≡ phase.Empty) ⊎ (m < n) → RemembersIn ph m n → ⊥
    go phase.Empty m o l r = r
    go phase.Gather m o (inl e) r = absurd (cc)
    go phase.Gather m o (inr l) r = absurd (omega (arith, l, r))
    go phase.Done m o (inl e) r = absurd (cc)
    go phase.Done m o (inr l) r = absurd (omega (arith, l, r))
    go _ m o l r = absurd (false≢true (sym o))

-- a new number passes all that such an entry remembers
new_advances : (w : Word) (n : ℕ) → is_owned w.phase ≡ false → (w.phase ≡ phase.Empty) ⊎ (w.number < n) → (m : ℕ) → Remembers w m → m < n
new_advances w n free less m h = go w.phase w.number free less h
  where
    go : (ph : Phase) (x : ℕ) → is_owned ph ≡ false → (ph ≡ phase.Empty) ⊎ (x < n) → RemembersIn ph x m → m < n
    go phase.Empty x o l r = absurd r
    go phase.Gather x o (inl e) r = absurd (cc)
    go phase.Gather x o (inr l) r = omega (arith, l, r)
    go phase.Done x o (inl e) r = absurd (cc)
    go phase.Done x o (inr l) r = omega (arith, l, r)
    go _ x o l r = absurd (false≢true (sym o))

-- a whole call of one piece has that piece as its arguments
whole_call : PieceLaws → {k : Known} {p : Packet} (c : IsCallPiece k p) → p.header.fragment ≡ 0 → p.header.last ≡ true → StartsPacket k p p.payload
whole_call laws {k} {p} c first last =
    let e : p.header.fragment ≡ last_piece (length c.arguments) = eqb-true p.header.fragment (last_piece (length c.arguments)) (sym c.carries.is_last ∙ last) in
    let whole : p.payload ≡ c.arguments = c.carries.payload ∙ ap (piece c.arguments) first ∙ one_piece laws c.arguments (sym first ∙ e) in
    subst (StartsPacket k p) (sym whole) c.was_started

admit_lawful : PieceLaws → {k : Known} {f : Life} {rows : List (Option ExportRow)} {p : Packet} (seen : Word) (e : Entry) → IsCarrier k f p → Grounds k f p.header.call.activity e → judge (word_of e) p.header ≡ judged.Admit → LawfulStep k f rows p (Claimed p seen) e (admits p p.payload)
admit_lawful laws {k} {f} {rows} {p} seen e c g j =
    let new = new_where_admitted (word_of e) p.header j in
    exchange (Admitted p p.payload) (Running p.header.call.number) did.Admits Nothing (own_carrier p) (
      c,
      refl,
      whole_call laws (call_piece c new.is_call) new.is_first (last_where_admitted (word_of e) p.header j),
      not_run g c (not_remembered (word_of e) p.header.call.number new.not_owned new.empty_or_less),
    )
    (inr new.not_owned) tt
    (λ m h. omega (arith, new_advances (word_of e) p.header.call.number new.not_owned new.empty_or_less m h)) tt

begin_lawful : PieceLaws → {k : Known} {f : Life} {rows : List (Option ExportRow)} {p : Packet} (long : Bool) (seen : Word) (e : Entry) → IsCarrier k f p → judge (word_of e) p.header ≡ judged.Begin → LawfulStep k f rows p (Claimed p seen) e (on_begin long p)
begin_lawful laws false seen e c j = dropped unfit.NoBuffer
begin_lawful laws {k} {f} {rows} {p} true seen e c j =
    let new = new_where_begun (word_of e) p.header j in
    let cp = call_piece c new.is_call in
    let more : 0 ≢ last_piece (length cp.arguments) =
    λ same. false≢true (sym (not_last_where_begun (word_of e) p.header j) ∙ cp.carries.is_last ∙ eq-eqb p.header.fragment (last_piece (length cp.arguments)) (new.is_first ∙ same)) in
    exchange Resting (Gather p.header.call.number p.payload 1) did.Begins (APacket (ack_packet p)) (no_carrier p) tt (inr new.not_owned)
    (record {
      export = p.header.export;
      procedure = p.header.procedure;
      arguments = cp.arguments;
      was_started = cp.was_started;
      gathered = cp.carries.payload ∙ ap (piece cp.arguments) new.is_first ∙ sym (first_front laws cp.arguments);
      begun = omega arith;
      within = omega (arith, more);
    })
    (λ m h. new_advances (word_of e) p.header.call.number new.not_owned new.empty_or_less m h)
    (ack_answer _ _ c.request)

more_lawful : {k : Known} {f : Life} {rows : List (Option ExportRow)} {p : Packet} (seen : Word) (e : Entry) → IsCarrier k f p → Grounds k f p.header.call.activity e → judge (word_of e) p.header ≡ judged.More → LawfulStep k f rows p (Claimed p seen) e (on_more p e)
more_lawful {p = p} seen (Gather n bytes next) c g j =
    let m = more_where_gathered (word_of (Gather n bytes next)) p.header j in
    exchange (Took p) (Filling n bytes next) did.Takes Nothing (own_carrier p)
    (c, m.is_call, ap (λ x. record { phase = phase.Filling; number = x }) m.same_number)
    (inr refl) g.entry (λ x h. h) tt
more_lawful seen Empty c g j = dropped unfit.Lost
more_lawful seen (Filling n bytes next) c g j = dropped unfit.Lost
more_lawful seen (Running n) c g j = dropped unfit.Lost
more_lawful seen (Done n signal reply) c g j = dropped unfit.Lost
more_lawful seen (Sending n signal reply) c g j = dropped unfit.Lost

fetch_lawful : {k : Known} {f : Life} {rows : List (Option ExportRow)} {p : Packet} (seen : Word) (e : Entry) → IsCarrier k f p → Grounds k f p.header.call.activity e → judge (word_of e) p.header ≡ judged.Fetch → LawfulStep k f rows p (Claimed p seen) e (on_fetch p e)
fetch_lawful {p = p} seen (Done n signal reply) c g j =
    let m = fetch_where_done (word_of (Done n signal reply)) p.header j in
    exchange (Fetched p) (Sending n signal reply) did.Fetches Nothing (own_carrier p)
    (c, ap (λ x. record { phase = phase.Sending; number = x }) m.same_number)
    (inr refl) g.entry (λ x h. h) tt
fetch_lawful seen Empty c g j = dropped unfit.Lost
fetch_lawful seen (Gather n bytes next) c g j = dropped unfit.Lost
fetch_lawful seen (Filling n bytes next) c g j = dropped unfit.Lost
fetch_lawful seen (Running n) c g j = dropped unfit.Lost
fetch_lawful seen (Sending n signal reply) c g j = dropped unfit.Lost

judged_claim_lawful : PieceLaws → {k : Known} {f : Life} {rows : List (Option ExportRow)} {p : Packet} (j : Judged) (long : Bool) (seen : Word) (e : Entry) → IsCarrier k f p → Grounds k f p.header.call.activity e → judge (word_of e) p.header ≡ j → LawfulStep k f rows p (Claimed p seen) e (on_judged_claim j long p e)
judged_claim_lawful laws judged.Admit long seen e c g j = admit_lawful laws seen e c g j
judged_claim_lawful laws judged.Begin long seen e c g j = begin_lawful laws long seen e c j
judged_claim_lawful laws judged.More long seen e c g j = more_lawful seen e c g j
judged_claim_lawful laws judged.Fetch long seen e c g j = fetch_lawful seen e c g j
judged_claim_lawful laws _ long seen e c g j = dropped unfit.Lost

pub claimed_lawful : PieceLaws → (k : Known) (f : Life) (rows : List (Option ExportRow)) (long : Bool) (p : Packet) (seen : Word) (e : Entry) → IsCarrier k f p → Grounds k f p.header.call.activity e → LawfulStep k f rows p (Claimed p seen) e (on_claimed long p seen e)
unfolding on_claimed
claimed_lawful laws k f rows long p seen e c g = go (is_same_word (word_of e) seen) refl
  where
    go : (b : Bool) → is_same_word (word_of e) seen ≡ b → LawfulStep k f rows p (Claimed p seen) e (cond b (on_judged_claim (judge seen p.header) long p e) (drops unfit.Lost))
    go true same = judged_claim_lawful laws (judge seen p.header) long seen e c g (ap (λ w. judge w p.header) (same_word (word_of e) seen same))
    go false other = dropped unfit.Lost

-- Took.

-- what is gathered and the packet's piece are of one start
gathered_with : {k : Known} {f : Life} {p : Packet} (n : ℕ) (bytes : List ℕ) (next : ℕ) → Grounds k f p.header.call.activity (Filling n bytes next) → n ≡ p.header.call.number → (c : IsCallPiece k p) → bytes ≡ front c.arguments next
gathered_with {k} {f} {p} n bytes next g same c =
    let s = g.entry in
    let one : record { call = record { activity = p.header.call.activity; number = n }; export = s.export; procedure = s.procedure; arguments = s.arguments }
    ≡ record { call = p.header.call; export = p.header.export; procedure = p.header.procedure; arguments = c.arguments } =
    g.one_start _ _ s.was_started c.was_started (ap (λ x. record { activity = p.header.call.activity; number = x }) same) in
    s.gathered ∙ ap (λ (x : Start). front x.arguments next) one

due_lawful : PieceLaws → {k : Known} {f : Life} {rows : List (Option ExportRow)} {p : Packet} (n : ℕ) (bytes : List ℕ) (next : ℕ) → IsCarrier k f p → p.header.kind ≡ kind.Call → n ≡ p.header.call.number → p.header.fragment ≡ next → Grounds k f p.header.call.activity (Filling n bytes next) → LawfulStep k f rows p (Took p) (Filling n bytes next) (on_due p n bytes next)
due_lawful laws {k} {f} {rows} {p} n bytes next c call same due g = go p.header.last refl
  where
    cp : IsCallPiece k p
    cp = call_piece c call

    joined : bytes ++ p.payload ≡ front cp.arguments next ++ piece cp.arguments next
    joined =
        ap (λ xs. xs ++ p.payload) (gathered_with n bytes next g same cp)
        ∙ ap (λ xs. front cp.arguments next ++ xs) (cp.carries.payload ∙ ap (piece cp.arguments) due)

    within : next ≤ last_piece (length cp.arguments)
    within = subst (λ i. i ≤ last_piece (length cp.arguments)) due cp.carries.within

    go : (b : Bool) → p.header.last ≡ b → LawfulStep k f rows p (Took p) (Filling n bytes next) (cond b (admits p (bytes ++ p.payload)) (exchanges_and_sends (Gather n (bytes ++ p.payload) (next + 1)) did.Rests (ack_packet p)))
    go true last =
        let e : p.header.fragment ≡ last_piece (length cp.arguments) = eqb-true p.header.fragment (last_piece (length cp.arguments)) (sym cp.carries.is_last ∙ last) in
        let whole : bytes ++ p.payload ≡ cp.arguments = joined ∙ last_front laws cp.arguments next (sym due ∙ e) in
        exchange (Admitted p (bytes ++ p.payload)) (Running p.header.call.number) did.Admits Nothing (own_carrier p)
        (c, refl, subst (StartsPacket k p) (sym whole) cp.was_started, not_run g c (λ h. absurd (omega (arith, same, h))))
        (inl refl) tt (λ m h. omega (arith, same, h)) tt
    go false last =
        let other : p.header.fragment ≢ last_piece (length cp.arguments) =
        λ e. false≢true (sym last ∙ cp.carries.is_last ∙ eq-eqb p.header.fragment (last_piece (length cp.arguments)) e) in
        exchange Resting (Gather n (bytes ++ p.payload) (next + 1)) did.Rests (APacket (ack_packet p)) (no_carrier p) tt (inl refl)
        (record {
          export = p.header.export;
          procedure = p.header.procedure;
          arguments = cp.arguments;
          was_started = subst (λ x. Contains k.started (record { call = record { activity = p.header.call.activity; number = x }; export = p.header.export; procedure = p.header.procedure; arguments = cp.arguments })) (sym same) cp.was_started;
          gathered = joined ∙ sym (laws.more cp.arguments next);
          begun = omega arith;
          within = omega (arith, within, due, other);
        })
        (λ m h. h) (ack_answer _ _ c.request)

other_lawful : {k : Known} {f : Life} {rows : List (Option ExportRow)} {p : Packet} (n : ℕ) (bytes : List ℕ) (next : ℕ) → IsCarrier k f p → Grounds k f p.header.call.activity (Filling n bytes next) → LawfulStep k f rows p (Took p) (Filling n bytes next) (on_other p n bytes next)
other_lawful {k} {f} {rows} {p} n bytes next c g = go (ltb p.header.fragment next)
  where
    go : (b : Bool) → LawfulStep k f rows p (Took p) (Filling n bytes next) (cond b (exchanges_and_sends (Gather n bytes next) did.Rests (ack_packet p)) (exchanges Resting (Gather n bytes next) (did.Drops unfit.Skipped)))
    go true = exchange Resting (Gather n bytes next) did.Rests (APacket (ack_packet p)) (no_carrier p) tt (inl refl) (more_sent_gathers (ack_packet p) g.entry) (λ m h. h) (ack_answer _ _ c.request)
    go false = exchange Resting (Gather n bytes next) (did.Drops unfit.Skipped) Nothing (no_carrier p) tt (inl refl) g.entry (λ m h. h) tt

pub took_lawful : PieceLaws → (k : Known) (f : Life) (rows : List (Option ExportRow)) (p : Packet) (e : Entry) → IsWorkerAt k f (Took p) e → Grounds k f p.header.call.activity e → LawfulStep k f rows p (Took p) e (on_took p e)
unfolding on_took
took_lawful laws k f rows p (Filling n bytes next) h g = go (eqb p.header.fragment next) refl
  where
    go : (b : Bool) → eqb p.header.fragment next ≡ b → LawfulStep k f rows p (Took p) (Filling n bytes next) (cond b (on_due p n bytes next) (on_other p n bytes next))
    go true e = due_lawful laws n bytes next h.0 h.1 (ap (λ w. w.number) h.2) (eqb-true p.header.fragment next e) g
    go false e = other_lawful n bytes next h.0 g
took_lawful laws k f rows p Empty h g = dropped unfit.Lost
took_lawful laws k f rows p (Gather n bytes next) h g = dropped unfit.Lost
took_lawful laws k f rows p (Running n) h g = dropped unfit.Lost
took_lawful laws k f rows p (Done n signal reply) h g = dropped unfit.Lost
took_lawful laws k f rows p (Sending n signal reply) h g = dropped unfit.Lost

-- Admitted.

pub admitted_lawful : (k : Known) (f : Life) (rows : List (Option ExportRow)) (buffer : Bool) (p : Packet) (arguments : List ℕ) (answer : Answer) (e : Entry) → HasReply answer.signal answer.reply → IsWorkerAt k f (Admitted p arguments) e → Grounds k f p.header.call.activity e → LawfulStep k f rows p (Admitted p arguments) e (on_admitted buffer p arguments answer)
unfolding on_admitted
admitted_lawful k f rows false p arguments answer e reply h g =
    record {
      carries = own_carrier p;
      worker = h;
      alone = λ x. inl refl;
      entry = λ x n. absurd (none-some x n);
      adds = tt;
    }
admitted_lawful k f rows true p arguments answer e reply h g =
    record {
      carries = own_carrier p;
      worker = (
        record {
          request = more_runs_request (run_of p arguments answer) h.0.request;
          no_bind = h.0.no_bind;
          after_boot = h.0.after_boot;
          up_to_read = h.0.up_to_read;
        },
        h.1,
        record { run = run_of p arguments answer; is_listed = Contains-push k.journal (run_of p arguments answer); same_call = refl; same_signal = refl; same_reply = refl },
      );
      alone = λ x. inl refl;
      entry = λ x n. absurd (none-some x n);
      adds = (record { same_call = refl; same_procedure = refl; was_admitted = refl; has_reply = reply }, refl);
    }

-- Ran and Fetched.

pub ran_lawful : PieceLaws → (k : Known) (f : Life) (rows : List (Option ExportRow)) (p : Packet) (answer : Answer) (e : Entry) → IsWorkerAt k f (Ran p answer) e → Grounds k f p.header.call.activity e → LawfulStep k f rows p (Ran p answer) e (on_ran p answer)
unfolding on_ran
ran_lawful laws k f rows p answer e h g =
    exchange Resting (Done p.header.call.number answer.signal answer.reply) did.Replies (APacket (reply_packet p answer 0)) (no_carrier p) tt (inl refl)
    (more_sent_run (reply_packet p answer 0) h.2)
    (λ m r. subst (λ w. Remembers w m) h.1 r)
    (reply_answer laws _ _ answer 0 h.0.request (reply_of_run g h.2) (omega arith) (more_sent_run (reply_packet p answer 0) h.2))

resends_lawful : PieceLaws → {k : Known} {f : Life} {rows : List (Option ExportRow)} {p : Packet} (n : ℕ) (answer : Answer) (i : ℕ) → IsCarrier k f p → n ≡ p.header.call.number → Grounds k f p.header.call.activity (Sending n answer.signal answer.reply) → LawfulStep k f rows p (Fetched p) (Sending n answer.signal answer.reply) (resends p n answer i)
resends_lawful laws {k} {f} {rows} {p} n answer i c same g = go (leb i (last_piece (length answer.reply))) refl
  where
    go : (b : Bool) → leb i (last_piece (length answer.reply)) ≡ b → LawfulStep k f rows p (Fetched p) (Sending n answer.signal answer.reply) (cond b (exchanges_and_sends (Done n answer.signal answer.reply) did.Resends (reply_packet p answer i)) (exchanges Resting (Done n answer.signal answer.reply) (did.Drops unfit.Same)))
    go true e =
        exchange Resting (Done n answer.signal answer.reply) did.Resends (APacket (reply_packet p answer i)) (no_carrier p) tt (inl refl)
        (more_sent_run (reply_packet p answer i) g.entry) (λ m h. h)
        (reply_answer laws _ _ answer i c.request (reply_of_run g g.entry) (leb-true i (last_piece (length answer.reply)) e)
        (more_sent_run (reply_packet p answer i) (subst (λ x. HasRun k (record { activity = p.header.call.activity; number = x }) answer.signal answer.reply) same g.entry)))
    go false e = exchange Resting (Done n answer.signal answer.reply) (did.Drops unfit.Same) Nothing (no_carrier p) tt (inl refl) g.entry (λ m h. h) tt

pub fetched_lawful : PieceLaws → (k : Known) (f : Life) (rows : List (Option ExportRow)) (p : Packet) (e : Entry) → IsWorkerAt k f (Fetched p) e → Grounds k f p.header.call.activity e → LawfulStep k f rows p (Fetched p) e (on_fetched p e)
unfolding on_fetched
fetched_lawful laws k f rows p (Sending n signal reply) h g =
    resends_lawful laws n (record { signal = signal; reply = reply }) (wanted_piece p.header) h.0 (ap (λ w. w.number) h.1) g
fetched_lawful laws k f rows p Empty h g = dropped unfit.Lost
fetched_lawful laws k f rows p (Gather n bytes next) h g = dropped unfit.Lost
fetched_lawful laws k f rows p (Filling n bytes next) h g = dropped unfit.Lost
fetched_lawful laws k f rows p (Running n) h g = dropped unfit.Lost
fetched_lawful laws k f rows p (Done n signal reply) h g = dropped unfit.Lost
