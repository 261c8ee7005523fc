use Rattle.std.proofs.Common.{sym}
use Rattle.registry_store.proofs.CrashLemmas.{copied_holds}
use Rattle.registry_store.proofs.leaving.close_files.Goals as goal

pub returns-in-Ok-clause-holds : goal.returns-in-Ok-clause-holds
returns-in-Ok-clause-holds g c none from h next leaves honest =
    copied_holds c.args.conn c.in-Ok.files from h next g.met.D.Disk.seen_may_stay (c.in-Ok.ensures.copied honest) leaves

pub returns-in-Err-clause-closed : goal.returns-in-Err-clause-closed
returns-in-Err-clause-closed g c = (c.in-Err.store, sym c.close.ensures, c.in-Err.ensures.err.0)

pub returns-in-Err-clause-failed : goal.returns-in-Err-clause-failed
returns-in-Err-clause-failed g c = (c.in-Err.store, sym c.close.ensures, c.in-Err.ensures.err.1)
