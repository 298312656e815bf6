use Rattle.std.proofs.Common.{ℕ, List, Result, sym, subst, refl, ◌≡◌}
use Rattle.std.proofs.lemmas.Result.{on_ok_weaker}
use Rattle.rpc_header.specs.declared.Export.{Export}
use Rattle.binder.specs.declared.row.ExportFault.{ExportFault}
use Rattle.replay_model.specs.Record.{Exports, NoExport}
use Rattle.replay_model.specs.World.{Server, World}
use Rattle.replay_model.specs.Step.{Outcome, export_event}
use Rattle.replay_server.specs.Lives as server
use Rattle.replay_server.specs.Lives.{ExportsAs}
use Rattle.replay_lines.specs.Page.{Page}
use Rattle.replay_world.specs.Stored.{Stored}
use Rattle.replay_world.specs.Stands.{Stands, IsServer}
use Rattle.replay_world.specs.contracts.world.World.{the_view}
use Rattle.replay_world.proofs.Standing.{plays_one, plays_as, stands-server}
use Rattle.replay_world.proofs.Rising.{keeps_all, rose_none}
use Rattle.replay_world.proofs.world.World.export.Goals as goal

-- the server has exported a name, or hasn't
exported_in : (w : World) (second : ℕ) (old now : Server) (name : List ℕ) (exported : Result Export ExportFault) → second ≡ w.second → IsServer old w.server
    → ((v : World) → ExportsAs (record v { server = old; second = second }) now exported (export_event (record v { server = old; second = second }) name))
    → ExportsAs w now exported (export_event w name)
exported_in w second old now name exported at is told =
    let T : ℕ → Type 0 = λ n. ExportsAs (record w { server = old; second = n }) now exported (export_event (record w { server = old; second = n }) name) in
    let P : Server → Type 0 = λ s. ExportsAs (record w { server = s }) now exported (export_event (record w { server = s }) name) in
    subst P is (subst T at (told w))

pub returns-clause-played : goal.returns-clause-played
returns-clause-played c w h =
    let s : Stored = the_view c.self.inside in
    let before : Page = c.args.out.now in
    let kept : Stands s w = subst (λ (x : Stored). Stands x w) (sym c.self.view_is) h in
    let after : Page = c.put_export.new.out in
    let now : Server = c.export.new.self in
    let o : Outcome = export_event w c.args.name.now in
    let did = subst (λ (d : Result Export ExportFault). server.ExportsAs w now d o) c.in-Ok.is
    (exported_in w s.second s.server now c.args.name.now c.in_ok-export.field-0 kept.second kept.server c.in_ok-export.ensures) in
    on_ok_weaker c.put_export.result (λ e. plays_as before after (record s { server = now }) w.records o _ did
    (plays_one before after (record s { server = now }) (record w { server = now }) w.records (Exports c.in-Ok.export) e (stands-server s w now now kept refl))) c.put_export.ensures

pub returns-in-Err-clause-played : goal.returns-in-Err-clause-played
returns-in-Err-clause-played c w h =
    let s : Stored = the_view c.self.inside in
    let before : Page = c.args.out.now in
    let kept : Stands s w = subst (λ (x : Stored). Stands x w) (sym c.self.view_is) h in
    let after : Page = c.put_no_export.new.out in
    let now : Server = c.export.new.self in
    let o : Outcome = export_event w c.args.name.now in
    let did = subst (λ (d : Result Export ExportFault). server.ExportsAs w now d o) c.in-Err.is
    (exported_in w s.second s.server now c.args.name.now c.in_ok-export.field-0 kept.second kept.server c.in_ok-export.ensures) in
    on_ok_weaker c.put_no_export.result (λ e. plays_as before after (record s { server = now }) w.records o _ did
    (plays_one before after (record s { server = now }) (record w { server = now }) w.records (NoExport c.in-Err.why) e (stands-server s w now now kept refl))) c.put_no_export.ensures

pub returns-clause-keeps : goal.returns-clause-keeps
returns-clause-keeps c = keeps_all c.put_export.result (the_view c.self.inside) c.args.self.now c.self.view_is

pub returns-clause-few : goal.returns-clause-few
returns-clause-few c = rose_none c.put_export.result 1 (the_view c.self.inside) c.args.self.now c.self.view_is

pub returns-in-Err-clause-keeps : goal.returns-in-Err-clause-keeps
returns-in-Err-clause-keeps c = keeps_all c.put_no_export.result (the_view c.self.inside) c.args.self.now c.self.view_is

pub returns-in-Err-clause-few : goal.returns-in-Err-clause-few
returns-in-Err-clause-few c = rose_none c.put_no_export.result 1 (the_view c.self.inside) c.args.self.now c.self.view_is
