use Rattle.std.proofs.Common.{refl}
use Rattle.registry_commands.specs.Ends.{sunk}
use Rattle.registry_program.proofs.performing.act_by.Goals as goal

pub returns-in-Trial : goal.returns-in-Trial
returns-in-Trial g c = rw c.in-Trial.is (refl, c.trial.ensures)

pub returns-in-Found : goal.returns-in-Found
returns-in-Found g c = rw c.in-Found.is (refl, c.run_found.ensures (sunk g.W.Sink c.args.output.now))

pub returns-in-Apply : goal.returns-in-Apply
returns-in-Apply g c = rw c.in-Apply.is c.run_apply.ensures

pub returns-in-Import : goal.returns-in-Import
returns-in-Import g c = rw c.in-Import.is (c.import_of_arguments-asked.result, c.import_of_arguments-asked.ensures, c.run_import.ensures)

pub returns-in-CheckFounding : goal.returns-in-CheckFounding
returns-in-CheckFounding g c = rw c.in-CheckFounding.is (refl, c.run_found_check.ensures (sunk g.W.Sink c.args.output.now))

pub returns-in-CheckImport : goal.returns-in-CheckImport
returns-in-CheckImport g c = rw c.in-CheckImport.is (c.import_of_arguments-asked-in-CheckImport.result, c.import_of_arguments-asked-in-CheckImport.ensures, c.run_import_check.ensures)

pub returns-in-Replay : goal.returns-in-Replay
returns-in-Replay g c = rw c.in-Replay.is (c.run_replay.ensures (sunk g.W.Sink c.args.output.now))

pub returns-in-Serve : goal.returns-in-Serve
returns-in-Serve g c = rw c.in-Serve.is (refl, c.run_serve.ensures (sunk g.W.Sink c.args.output.now))

pub returns-in-Export : goal.returns-in-Export
returns-in-Export g c = rw c.in-Export.is (refl, c.run_export.ensures)

pub returns-in-Report : goal.returns-in-Report
returns-in-Report g c = rw c.in-Report.is (refl, c.run_report.ensures)

pub returns-in-History : goal.returns-in-History
returns-in-History g c = rw c.in-History.is (refl, c.run_history.ensures)

pub returns-in-Head : goal.returns-in-Head
returns-in-Head g c = rw c.in-Head.is (refl, c.run_head.ensures)

pub returns-in-Check : goal.returns-in-Check
returns-in-Check g c = rw c.in-Check.is (refl, c.run_check.ensures)

pub returns-in-Lookup : goal.returns-in-Lookup
returns-in-Lookup g c = rw c.in-Lookup.is (refl, c.run_lookup.ensures)

pub returns-in-ServeShared : goal.returns-in-ServeShared
returns-in-ServeShared g c = rw c.in-ServeShared.is (refl, c.run_serve_shared.ensures (sunk g.W.Sink c.args.output.now))

pub returns-in-Share : goal.returns-in-Share
returns-in-Share g c = rw c.in-Share.is (refl, c.run_share.ensures (sunk g.W.Sink c.args.output.now))

pub returns-in-ApplyShared : goal.returns-in-ApplyShared
returns-in-ApplyShared g c = rw c.in-ApplyShared.is c.run_apply_shared.ensures

pub returns-in-ImportShared : goal.returns-in-ImportShared
returns-in-ImportShared g c = rw c.in-ImportShared.is (c.import_of_arguments-asked-in-ImportShared.result, c.import_of_arguments-asked-in-ImportShared.ensures, c.run_import_shared.ensures)

pub returns-in-ReplayShared : goal.returns-in-ReplayShared
returns-in-ReplayShared g c = rw c.in-ReplayShared.is (refl, c.run_replay_shared.ensures (sunk g.W.Sink c.args.output.now))
