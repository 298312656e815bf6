-- The steps of a process as the model's, by what its caller has done.
use Rattle.std.proofs.Common.{◌≡◌, ℕ, ◌+◌, List, [], ◌∷◌, length, Some, Bool, true, false, ap, sym, ◌∙◌, refl}
use Rattle.std.specs.Prelude.{Result, IfOk, not, nat_eq}
use Rattle.std.proofs.lemmas.Bool.{cond-true, cond-false, eq-eqb}
use Rattle.call_rules.specs.Packet.{Call, Packet, call_of}
use Rattle.call_rules.specs.Caller.{Caller, Act, Step, is_idle, is_unused, current_call, on_packet, on_start_call, on_start_bind, on_tick}
use Rattle.replay_model.specs.Process.{Line, LineStep, on_act, acts, started, binds, heard, ticked}
use Rattle.replay_model.specs.Record.{Hears}
use Rattle.replay_model.specs.World.{World, Client}
use Rattle.replay_model.specs.Step.{does, tells, hears, line_takes, discarded, with_client, with_line}
use Rattle.replay_model.specs.declared.discard.Discard.TheVariants as why
use Rattle.caller_core.specs.declared.action.Action.{Action}
use Rattle.caller_core.specs.declared.action.Action.TheVariants as action
use Rattle.caller_core.specs.Action.{act_of}
use Rattle.replay_client.specs.declared.told.Told.{Told}
use Rattle.replay_client.specs.declared.line.Took.TheVariants as took
use Rattle.replay_client.specs.Told.{StepsAs, TellsAs}
use Rattle.replay_client.specs.Client.{TookAs}

not_true : (b : Bool) → not b ≡ true → b ≡ false
not_true true e = cc
not_true false e = refl

pub not_false : (b : Bool) → not b ≡ false → b ≡ true
not_false true e = refl
not_false false e = cc

-- a caller's step is the process's
pub steps : {E : Type 0} (me : ℕ) (r : Result Told E) (new l : Line) (s : Step) (c : Caller) (a : Act) (bytes : List ℕ) → c ≡ s.caller → a ≡ s.act → IfOk r (λ told. StepsAs new told (on_act me l c a bytes)) → IfOk r (λ told. StepsAs new told (acts me l s bytes))
steps me r new l s c a bytes e f h = rw (e, f) at h

pub tick_steps : {E : Type 0} (me : ℕ) (r : Result Told E) (new l : Line) (c : Caller) (a : Act) → c ≡ (on_tick l.caller).caller → a ≡ (on_tick l.caller).act → IfOk r (λ told. StepsAs new told (on_act me l c a [])) → IfOk r (λ told. StepsAs new told (ticked me l))
unfolding ticked
tick_steps me r new l c a e f h = steps me r new l (on_tick l.caller) c a [] e f h

pub call_steps : {E : Type 0} (me : ℕ) (r : Result Told E) (new l : Line) (arguments kept : List ℕ) (n procedure len : ℕ) (c : Caller) (a : Act) → n ≡ l.next → kept ≡ [] → len ≡ length arguments → c ≡ (on_start_call l.caller n l.binding procedure len).caller → a ≡ (on_start_call l.caller n l.binding procedure len).act → IfOk r (λ told. StepsAs new told (on_act me (record l { next = n + 1; arguments = arguments; kept = kept }) c a [])) → IfOk r (λ told. StepsAs new told (started me l procedure arguments))
unfolding started
call_steps me r new l arguments kept n procedure len c a en ek el ec ea h = rw (ec, ea, en, ek, el) at h

pub bind_steps : {E : Type 0} (me : ℕ) (r : Result Told E) (new l : Line) (bytes kept : List ℕ) (n : ℕ) (c : Caller) (a : Act) → n ≡ l.next → kept ≡ [] → c ≡ (on_start_bind l.caller n).caller → a ≡ (on_start_bind l.caller n).act → IfOk r (λ told. StepsAs new told (on_act me (record l { next = n + 1; arguments = bytes; kept = kept }) c a [])) → IfOk r (λ told. StepsAs new told (binds me l bytes))
unfolding binds
bind_steps me r new l bytes kept n c a en ek ec ea h = rw (ec, ea, en, ek) at h

-- what a step says is the outcome of the model's step
pub told_outcome : (w : World) (machine process : ℕ) (c : Client) (new : Line) (told : Told) (s : LineStep) → StepsAs new told s → TellsAs (with_client w machine (with_line c process new)) told (does w machine process c s)
unfolding does
told_outcome w machine process c new told s h =
    record {
      said = s.said;
      says = h.says;
      outcome =
          ap (λ (l : Line). tells (with_client w machine (with_line c process l)) (current_call s.line.caller) s.said) (sym h.line)
          ∙ ap (λ (call : Call). tells (with_client w machine (with_line c process new)) call s.said) (sym h.call);
    }

-- a packet that is heard
pub heard_outcome : (w : World) (k : ℕ) (p : Packet) (cl : Client) (l new : Line) (told : Told) (c : Caller) (a : Act) → is_idle l.caller.state ≡ false → l.caller.number ≡ p.header.call.number → is_unused a ≡ false → c ≡ (on_packet l.caller p.header).caller → a ≡ (on_packet l.caller p.header).act → current_call c ≡ current_call l.caller → call_of told.call ≡ current_call c → StepsAs new told (on_act p.to l c a p.payload) → TookAs w k p (with_line cl (p.header.hint + 1) new) (took.Hears told) (line_takes w k p cl (Some l))
unfolding line_takes heard
heard_outcome w k p cl l new told c a idle number used ec ea same call h =
    let s : LineStep = heard p.to l p in
    let g : StepsAs new told s = rw (ec, ea) at h in
    record {
      rest = does w p.to (p.header.hint + 1) cl s;
      tells = told_outcome w p.to (p.header.hint + 1) cl new told s g;
      outcome =
          cond-false _ _ _ idle ∙ (cond-true _ _ _ (eq-eqb _ _ number)
          ∙ (ap (hears w k p cl l) (ap is_unused (sym ea) ∙ used)
          ∙ ap (λ (x : Call). record { world = (does w p.to (p.header.hint + 1) cl s).world; acts = Hears x.activity k ∷ (does w p.to (p.header.hint + 1) cl s).acts }) (sym same ∙ sym call)));
    }

pub stale_idle : (w : World) (k : ℕ) (p : Packet) (c : Client) (l : Line) → is_idle l.caller.state ≡ true → line_takes w k p c (Some l) ≡ discarded w why.Stale
unfolding line_takes
stale_idle w k p c l idle = cond-true _ _ _ idle

pub stale_number : (w : World) (k : ℕ) (p : Packet) (c : Client) (l : Line) (n : ℕ) → is_idle l.caller.state ≡ false → n ≡ l.caller.number → not (nat_eq n p.header.call.number) ≡ true → line_takes w k p c (Some l) ≡ discarded w why.Stale
unfolding line_takes
stale_number w k p c l n idle number differs =
    cond-false _ _ _ idle ∙ cond-false _ _ _ (ap (λ (m : ℕ). nat_eq m p.header.call.number) (sym number) ∙ not_true _ differs)

pub unused_outcome : (w : World) (k : ℕ) (p : Packet) (c : Client) (l : Line) (n : ℕ) (a : Action) → is_idle l.caller.state ≡ false → n ≡ l.caller.number → not (nat_eq n p.header.call.number) ≡ false → act_of a ≡ (on_packet l.caller p.header).act → a ≡ action.Unused → line_takes w k p c (Some l) ≡ discarded w why.Unused
unfolding line_takes
unused_outcome w k p c l n a idle number same act is =
    cond-false _ _ _ idle ∙ (cond-true _ _ _ (ap (λ (m : ℕ). nat_eq m p.header.call.number) (sym number) ∙ not_false _ same)
    ∙ ap (hears w k p c l) (ap is_unused (sym act ∙ ap act_of is)))

-- any other action is used
pub used_act : (a : Action) → (a ≡ action.Unused → ⊥) → is_unused (act_of a) ≡ false
used_act action.Unused h = absurd (h refl)
used_act (action.Send header piece) h = refl
used_act (action.Keep ack) h = refl
used_act (action.Last signal) h = refl
used_act action.Waiting h = refl
used_act (action.Bound export) h = refl
used_act action.Unbound h = refl
used_act (action.Refused reason) h = refl
used_act action.Failed h = refl
used_act action.Quiet h = refl
