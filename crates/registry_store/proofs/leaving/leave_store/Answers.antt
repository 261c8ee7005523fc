use Rattle.std.proofs.Common.{sym, arith}
use Rattle.sqlite.specs.State.{HasCleanDisk}
use Rattle.sqlite.specs.Recovery.{Image}
use Rattle.sqlite.specs.WalFiles.{outcomes}
use Rattle.sqlite.specs.Files.{file_state, image_of}
use Rattle.registry_store.specs.Files.{FilesHoldEither}
use Rattle.registry_store.proofs.CrashLemmas.{after_crash, after_stop, sure}
use Rattle.registry_store.proofs.leaving.leave_store.Goals as goal

pub returns-clause-closed : goal.returns-clause-closed
returns-clause-closed g c = (c.into_store.result, sym c.close.ensures, record { quiet = c.into_store.ensures.quiet; sound = c.into_store.ensures.sound })

pub returns-clause-clean : goal.returns-clause-clean
returns-clause-clean g c honest =
    let clean = sure c.into_store.result c.close.result.log c.close.result.db c.close.ensures honest in
    let was : HasCleanDisk (file_state c.args.conn) = omega (arith, clean, c.into_store.ensures.quiet.clean) in was

-- the current content of the files is among what a crash may leave
pub returns-clause-holds : goal.returns-clause-holds
returns-clause-holds g c from h next leaves honest =
    let it = c.into_store.result in
    let e = c.into_store.ensures in
    let files = c.close.result in
    let clean = sure it files.log files.db c.close.ensures honest in
    let was : HasCleanDisk (file_state c.args.conn) = omega (arith, clean, e.quiet.clean) in
    let crash : (left : Image) → outcomes g.D.Disk files.log files.db left → FilesHoldEither from left h next =
    λ left may. after_stop c.args.conn.store it from h next e.quiet.outcomes (leaves was) (e.numbered clean) (e.sound clean) left
    (after_crash it files.log files.db c.close.ensures left honest may) in
    record { now = crash (image_of g.D.Disk files) (g.met.D.Disk.seen_may_stay files.log, g.met.D.Disk.seen_may_stay files.db); crash = crash }
