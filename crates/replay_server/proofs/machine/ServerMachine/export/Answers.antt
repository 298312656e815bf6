use Rattle.std.proofs.Common.{Result}
use Rattle.std.proofs.lemmas.Result.{IfOk-weaker}
use Rattle.rpc_header.specs.declared.Export.{Export}
use Rattle.binder.specs.declared.row.ExportFault.{ExportFault}
use Rattle.replay_server.specs.Lives.{Exporting}
use Rattle.replay_server.proofs.Outcomes.{exports_as}
use Rattle.replay_server.proofs.machine.ServerMachine.export.Goals as goal

pub returns : goal.returns
returns c =
    let P : Result Export ExportFault → Type 0 = λ exported. Exporting c.self.inside.exports c.export_name.new.exports c.test_name.result c.args.second exported in
    rw (← c.self.view_is)
    (IfOk-weaker _ P _ (λ exported h w. exports_as w _ c.args.name c.test_name.result c.args.second c.export_name.new.exports exported c.test_name.ensures h) c.export_name.ensures)
