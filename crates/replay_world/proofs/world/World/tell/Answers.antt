use Rattle.std.proofs.Common.{◌≡◌, ℕ, ◌+◌, List, [], ◌∷◌, ◌++◌, length, Bool, ap, sym, subst, refl, ◌∙◌}
use Rattle.std.proofs.lemmas.Result.{on_ok_weaker}
use Rattle.lane_checksum.specs.declared.Digest.{Digest}
use Rattle.call_rules.specs.Packet.{Call, Packet, call_of}
use Rattle.replay_model.specs.Record.{CallerSends, Counts, Returns, recorded}
use Rattle.replay_model.specs.Lines.{packet_line, return_line}
use Rattle.replay_model.specs.Step.{with_packet, tells}
use Rattle.replay_model.specs.Process as process
use Rattle.replay_model.specs.World.{World}
use Rattle.replay_packets.specs.Sent.{sent_of}
use Rattle.replay_client.specs.declared.told.Said.{Said}
use Rattle.replay_client.specs.Told.{Says, Answers, cause_of}
use Rattle.replay_lines.specs.Counts.{counts_return}
use Rattle.replay_lines.specs.Page.{Page, written}
use Rattle.replay_world.specs.Stored.{Stored}
use Rattle.replay_world.specs.Played.{Plays, fails}
use Rattle.replay_world.specs.Stands.{Stands}
use Rattle.replay_world.specs.contracts.world.World.{the_view}
use Rattle.replay_world.proofs.Pages.{written-nothing}
use Rattle.replay_world.proofs.Standing.{plays_one, plays_as, stands-beside, stands-return, stands-packet, same_count, on_ok_both}
use Rattle.replay_world.proofs.Rising.{keeps_all, rose_none}
use Rattle.replay_world.proofs.world.World.tell.Goals as goal

pub returns-in-Sends-clause-played : goal.returns-in-Sends-clause-played
returns-in-Sends-clause-played c w r o told h =
    let s : Stored = c.args.self.now in
    let p : Packet = c.in-Sends.packet in
    let before : Page = c.args.out.now in
    let after : Page = c.send.new.out in
    let w' : World = record w { records = r } in
    let says : told.said ≡ process.Sends p = subst (λ (x : Said). Says (call_of c.args.told.call) x told.said) c.in-Sends.is told.says in
    let same : o ≡ record { world = with_packet w p; acts = CallerSends (length w.bag + 1) p ∷ [] } = told.outcome ∙ ap (tells w (call_of c.args.told.call)) says in
    on_ok_both c.send.result (λ q e. subst (λ (x : Stored). Plays before after x r o) (sym q)
    (plays_as before after (record s { bag = s.bag ++ sent_of p ∷ [] }) r o _ same
    (plays_one before after (record s { bag = s.bag ++ sent_of p ∷ [] }) (with_packet w p) r (CallerSends (length w.bag + 1) p)
    (e ∙ ap (λ (n : ℕ). written before (packet_line (n + 1) p.from p.to p.header (length p.payload))) (same_count s w' h))
    (stands-beside (record s { bag = s.bag ++ sent_of p ∷ [] }) (with_packet w' p) (recorded r (CallerSends (length w.bag + 1) p)) refl refl refl (stands-packet s w' p h)))))
    c.send.ensures.bag c.send.ensures.printed

pub returns-in-Fails-clause-played : goal.returns-in-Fails-clause-played
returns-in-Fails-clause-played c w r o told h =
    let before : Page = c.args.out.now in
    let after : Page = c.tell_failure.new.out in
    let w' : World = record w { records = r } in
    let says : told.said ≡ process.Fails (cause_of c.in-Fails.cause) = subst (λ (x : Said). Says (call_of c.args.told.call) x told.said) c.in-Fails.is told.says in
    let same : o ≡ fails w (call_of c.args.told.call) (cause_of c.in-Fails.cause) = told.outcome ∙ ap (tells w (call_of c.args.told.call)) says in
    on_ok_weaker c.tell_failure.result (λ p. plays_as before after c.tell_failure.new.self r o _ same (record { printed = p.printed; stands = p.stands }))
    (c.tell_failure.ensures.played w' h)

pub returns-in-Nothing-clause-played : goal.returns-in-Nothing-clause-played
returns-in-Nothing-clause-played c w r o told h =
    let s : Stored = c.args.self.now in
    let before : Page = c.args.out.now in
    let says : told.said ≡ process.SaysNothing = subst (λ (x : Said). Says (call_of c.args.told.call) x told.said) c.in-Nothing.is told.says in
    plays_as before before s r o _ (told.outcome ∙ ap (tells w (call_of c.args.told.call)) says) (record { printed = sym (written-nothing before); stands = h })

pub returns-in-Returned-clause-played : goal.returns-in-Returned-clause-played
returns-in-Returned-clause-played c w r o told h =
    let s : Stored = the_view c.self.inside in
    let before : Page = c.args.out.now in
    let after : Page = c.put_return.new.out in
    let call : Call = call_of c.args.told.call in
    let signal : Bool = c.in-Returned.signal in
    let w' : World = record w { records = r } in
    let kept : Stands s w' = subst (λ (x : Stored). Stands x w') (sym c.self.view_is) h in
    let answers : Answers call signal c.in-Returned.reply told.said = subst (λ (x : Said). Says call x told.said) c.in-Returned.is told.says in
    let act = Returns (record { call = call; signal = signal; reply = answers.bytes }) in
    let s' : Stored = record s { counts = counts_return s.counts signal } in
    on_ok_weaker c.put_return.result (λ e. subst (λ (n : Counts). Plays before after (record s { counts = n }) r o) (sym c.count_return.ensures)
    (plays_as before after s' r o _ (told.outcome ∙ ap (tells w call) answers.returned)
    (plays_one before after s' w r act (e ∙ ap (λ (d : Digest). written before (return_line call signal d)) (sym answers.digest))
    (stands-return s w' call signal answers.bytes kept)))) c.put_return.ensures

pub returns-in-Waits-clause-keeps : goal.returns-in-Waits-clause-keeps
returns-in-Waits-clause-keeps c = keeps_all c.put_waiting.result c.args.self.now c.args.self.now refl

pub returns-in-Waits-clause-few : goal.returns-in-Waits-clause-few
returns-in-Waits-clause-few c = rose_none c.put_waiting.result 1 c.args.self.now c.args.self.now refl

pub returns-in-BindFails-clause-keeps : goal.returns-in-BindFails-clause-keeps
returns-in-BindFails-clause-keeps c = keeps_all c.put_bind_failure.result c.args.self.now c.args.self.now refl

pub returns-in-BindFails-clause-few : goal.returns-in-BindFails-clause-few
returns-in-BindFails-clause-few c = rose_none c.put_bind_failure.result 1 c.args.self.now c.args.self.now refl

pub returns-in-BoundTo-clause-keeps : goal.returns-in-BoundTo-clause-keeps
returns-in-BoundTo-clause-keeps c = keeps_all c.put_bound.result c.args.self.now c.args.self.now refl

pub returns-in-BoundTo-clause-few : goal.returns-in-BoundTo-clause-few
returns-in-BoundTo-clause-few c = rose_none c.put_bound.result 1 c.args.self.now c.args.self.now refl

pub returns-in-NotBound-clause-keeps : goal.returns-in-NotBound-clause-keeps
returns-in-NotBound-clause-keeps c = keeps_all c.put_unbound.result c.args.self.now c.args.self.now refl

pub returns-in-NotBound-clause-few : goal.returns-in-NotBound-clause-few
returns-in-NotBound-clause-few c = rose_none c.put_unbound.result 1 c.args.self.now c.args.self.now refl
