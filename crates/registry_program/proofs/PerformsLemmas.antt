-- What the files of a store hold after each command.
use Rattle.std.proofs.Common.{List, ℕ}
use Rattle.sqlite_disk.specs.declared.Disk as disk
use Rattle.byte_streams.specs.declared.streams.Sink as sink
use Rattle.byte_streams.specs.declared.streams.Source as source
use Rattle.registry_arguments.specs.declared.command.Command.{Command}
use Rattle.registry_arguments.specs.declared.command.Command.TheVariants as command
use Rattle.registry_commands.specs.Ends.{Ends}
use Rattle.registry_reports.specs.Kinds.{report_named}
use Rattle.registry_desk.specs.declared.server.Connections as connections
use Rattle.shared_log.specs.declared.log.Log as log
use Rattle.registry_program.specs.declared.host.Host as host
use Rattle.registry_program.specs.declared.logs.Logs as logs
use Rattle.registry_program.specs.Performing.{IsWhole, Performs}
use Rattle.registry_program.specs.Serving.{limit_of}
use Rattle.registry_program.proofs.CheckWholeLemmas.{check_whole}
use Rattle.registry_program.proofs.ReplayWholeLemmas.{replays_wholly}
use Rattle.registry_program.proofs.SharedActLemmas.{applies_shared_whole, imports_shared_whole}
use Rattle.registry_program.proofs.SharedReplayLemmas.{replays_shared_whole}
use Rattle.registry_program.proofs.SharedWholeLemmas.{serves_shared_whole, shares_whole}
use Rattle.registry_program.proofs.WholeLemmas.{apply_whole, exports_whole, foretells_whole, found_whole, head_whole, imports_whole, record_whole, reports_whole, serves_whole}

module _ {H F I R W IN K : Type 0} (m : host.Ghosts H F I) (d : disk.Ghosts F) (s : source.Ghosts I) (c : connections.Ghosts H R W) (r : source.Ghosts R) (w : sink.Ghosts W) (i : source.Ghosts IN) (k : logs.Ghosts H K) (l : log.Ghosts K) where
  pub performs_whole : (command : Command (List ℕ)) (old new : H) (input input_new : IN) (ends : Ends) → Performs m d s c r w i k l command old new input input_new ends → IsWhole m d s c r w i k l command old new input input_new ends
  performs_whole command.Trial old new input input_new ends is = tt
  performs_whole (command.Found path founding) old new input input_new ends is = found_whole m d s old new path founding ends is.1
  performs_whole (command.Apply path file a) old new input input_new ends is = apply_whole m d s i input input_new old new path file a ends is
  performs_whole (command.Import path list caller key org vendor) old new input input_new ends is = (is.0, is.1, imports_whole m d s i input input_new old new path list is.0 ends is.2)
  performs_whole (command.ApplyShared path file a address) old new input input_new ends is = applies_shared_whole m d s i k l input input_new old new path file a address ends is
  performs_whole (command.ImportShared path list caller key org vendor address) old new input input_new ends is = (is.0, is.1, imports_shared_whole m d s i k l input input_new old new path list address ends is.0 is.2)
  performs_whole (command.CheckFounding founding) old new input input_new ends is = tt
  performs_whole (command.CheckImport path list caller key org vendor) old new input input_new ends is = (is.0, is.1, foretells_whole m d s i input input_new old new path list is.0 ends is.2)
  performs_whole (command.Replay path file) old new input input_new ends is = replays_wholly m d s i input input_new old new path file ends is
  performs_whole (command.ReplayShared path address) old new input input_new ends is = replays_shared_whole m d k l old new path address ends is.1
  performs_whole (command.Serve path port count) old new input input_new ends is = serves_whole m d s c r w i old new path port (limit_of count) ends is.1
  performs_whole (command.ServeShared path port count address) old new input input_new ends is = serves_shared_whole m d c r w k l old new path port (limit_of count) address ends is.1
  performs_whole (command.Share path address) old new input input_new ends is = shares_whole m d k l old new path address ends is.1
  performs_whole (command.Export path stamp) old new input input_new ends is = (is.1.0, is.1.1, exports_whole m d s old new path is.1.0 ends is.1.2)
  performs_whole (command.Report path name) old new input input_new ends is = reports_whole m d s old new path (report_named name) ends is.1
  performs_whole (command.History path from) old new input input_new ends is = record_whole m d old new path from ends is.1
  performs_whole (command.Head path) old new input input_new ends is = head_whole m d old new path ends is.1
  performs_whole (command.Check path) old new input input_new ends is = check_whole m d old new path ends is.1
  performs_whole (command.Lookup list vid pid) old new input input_new ends is = tt
