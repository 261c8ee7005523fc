-- What the program does by its command.
use Rattle.std.specs.Prelude.{◌≡◌, ⊤, ℕ, List}
use Rattle.sqlite_disk.specs.declared.Disk as disk
use Rattle.byte_streams.specs.declared.streams.Sink as sink
use Rattle.byte_streams.specs.declared.streams.Source as source
use Rattle.usbnum_core.specs.Number.{code_of, number_of}
use Rattle.registry_arguments.specs.declared.command.Command.{Command}
use Rattle.registry_arguments.specs.declared.command.Command.TheVariants as command
use Rattle.registry_reports.specs.Kinds.{report_named}
use Rattle.registry_commands.specs.Ends.{Ends}
use Rattle.registry_desk.specs.declared.server.Connections as connections
use Rattle.shared_log.specs.declared.log.Log as log
use Rattle.registry_program.specs.declared.host.Host as host
use Rattle.registry_program.specs.declared.logs.Logs as logs
use Rattle.registry_program.specs.Commands.{Applies, Exports, FoundsIn, Imports, LooksUp, PrintsHead, PrintsRecord, ReportsAs, Tries}
use Rattle.registry_program.specs.DryRuns.{ChecksFounding, TriesImport}
use Rattle.registry_program.specs.Checking.{ChecksStore}
use Rattle.registry_program.specs.Replaying.{ReplaysRecord}
use Rattle.registry_program.specs.Serving.{Serves, limit_of}
use Rattle.registry_program.specs.SharedActs.{AppliesShared, ImportsShared}
use Rattle.registry_program.specs.SharedReplay.{ReplaysShared}
use Rattle.registry_program.specs.Sharing.{ServesShared, Shares}
use Rattle.registry_program.specs.SharedWhole.{AppliesSharedWholly, ImportsSharedWholly, ReplaysSharedWholly, ServesSharedWholly, SharesWholly}
use Rattle.registry_program.specs.Whole.{AppliesWholly, ChecksWholly, ExportsWholly, ForetellsWholly, FoundsWholly, ImportsWholly, PrintsHeadWholly, PrintsRecordWholly, ReplaysWholly, ReportsWholly, ServesWholly}

-- What is asked of the machine, and what is written where, by the command. A trial reads the standard input. So may `apply`,
-- `import` and `replay`, by the name of what they read; each other command leaves it alone.
abbrev pub Performs : {H F I R W IN K : Type 0} → host.Ghosts H F I → disk.Ghosts F → source.Ghosts I → connections.Ghosts H R W → source.Ghosts R → sink.Ghosts W
    → source.Ghosts IN → logs.Ghosts H K → log.Ghosts K → Command (List ℕ) → H → H → IN → IN → Ends → Type 0
Performs m d s c r w i k l command.Trial old new input input_new ends = (new ≡ old) × Tries i input input_new ends
Performs m d s c r w i k l (command.Found path founding) old new input input_new ends = (input_new ≡ input) × FoundsIn m d s old new path founding ends
Performs m d s c r w i k l (command.Apply path file answered) old new input input_new ends = Applies m d s i input input_new old new path file answered ends
Performs m d s c r w i k l (command.Import path list caller key org vendor) old new input input_new ends =
    Imports m d s i input input_new old new path list caller key org vendor ends
Performs m d s c r w i k l (command.ApplyShared path file answered address) old new input input_new ends = AppliesShared m d s i k l input input_new old new path file answered address ends
Performs m d s c r w i k l (command.ImportShared path list caller key org vendor address) old new input input_new ends =
    ImportsShared m d s i k l input input_new old new path list caller key org vendor address ends
Performs m d s c r w i k l (command.CheckFounding founding) old new input input_new ends = (input_new ≡ input) × ChecksFounding m s old new founding ends
Performs m d s c r w i k l (command.CheckImport path list caller key org vendor) old new input input_new ends =
    TriesImport m d s i input input_new old new path list caller key org vendor ends
Performs m d s c r w i k l (command.Replay path file) old new input input_new ends = ReplaysRecord m d s i input input_new old new path file ends
Performs m d s c r w i k l (command.ReplayShared path address) old new input input_new ends = (input_new ≡ input) × ReplaysShared m d k l old new path address ends
Performs m d s c r w i k l (command.Serve path port count) old new input input_new ends = (input_new ≡ input) × Serves m d c r w old new path port (limit_of count) ends
Performs m d s c r w i k l (command.ServeShared path port count address) old new input input_new ends =
    (input_new ≡ input) × ServesShared m d c r w k l old new path port (limit_of count) address ends
Performs m d s c r w i k l (command.Share path address) old new input input_new ends = (input_new ≡ input) × Shares m d k l old new path address ends
Performs m d s c r w i k l (command.Export path stamp) old new input input_new ends = (input_new ≡ input) × Exports m d s old new path stamp ends
Performs m d s c r w i k l (command.Report path name) old new input input_new ends = (input_new ≡ input) × ReportsAs m d s old new path (report_named name) ends
Performs m d s c r w i k l (command.History path from) old new input input_new ends = (input_new ≡ input) × PrintsRecord m d old new path from ends
Performs m d s c r w i k l (command.Head path) old new input input_new ends = (input_new ≡ input) × PrintsHead m d old new path ends
Performs m d s c r w i k l (command.Check path) old new input input_new ends = (input_new ≡ input) × ChecksStore m d old new path ends
Performs m d s c r w i k l (command.Lookup list vid pid) old new input input_new ends = (input_new ≡ input) × LooksUp m d s old new list (number_of vid) (code_of pid) ends

-- What holds from the files before a command to the files after it. A trial, the check of a founding and a look-up open no store,
-- so nothing is said of them.
abbrev pub IsWhole : {H F I R W IN K : Type 0} → host.Ghosts H F I → disk.Ghosts F → source.Ghosts I → connections.Ghosts H R W → source.Ghosts R → sink.Ghosts W
    → source.Ghosts IN → logs.Ghosts H K → log.Ghosts K → Command (List ℕ) → H → H → IN → IN → Ends → Type 0
IsWhole m d s c r w i k l command.Trial old new input input_new ends = ⊤
IsWhole m d s c r w i k l (command.Found path founding) old new input input_new ends = FoundsWholly m d s old new path founding ends
IsWhole m d s c r w i k l (command.Apply path file answered) old new input input_new ends = AppliesWholly m d s i input input_new old new path file answered ends
IsWhole m d s c r w i k l (command.Import path list caller key org vendor) old new input input_new ends = ImportsWholly m d s i input input_new old new path list caller key org vendor ends
IsWhole m d s c r w i k l (command.ApplyShared path file answered address) old new input input_new ends = AppliesSharedWholly m d s i k l input input_new old new path file answered address ends
IsWhole m d s c r w i k l (command.ImportShared path list caller key org vendor address) old new input input_new ends =
    ImportsSharedWholly m d s i k l input input_new old new path list caller key org vendor address ends
IsWhole m d s c r w i k l (command.CheckFounding founding) old new input input_new ends = ⊤
IsWhole m d s c r w i k l (command.CheckImport path list caller key org vendor) old new input input_new ends =
    ForetellsWholly m d s i input input_new old new path list caller key org vendor ends
IsWhole m d s c r w i k l (command.Replay path file) old new input input_new ends = ReplaysWholly m d s i input old new path file ends
IsWhole m d s c r w i k l (command.ReplayShared path address) old new input input_new ends = ReplaysSharedWholly m d k l old new path address ends
IsWhole m d s c r w i k l (command.Serve path port count) old new input input_new ends = ServesWholly m d c r w old new path port (limit_of count) ends
IsWhole m d s c r w i k l (command.ServeShared path port count address) old new input input_new ends = ServesSharedWholly m d c r w k l old new path port (limit_of count) address ends
IsWhole m d s c r w i k l (command.Share path address) old new input input_new ends = SharesWholly m d k l old new path address ends
IsWhole m d s c r w i k l (command.Export path stamp) old new input input_new ends = ExportsWholly m d old new path stamp ends
IsWhole m d s c r w i k l (command.Report path name) old new input input_new ends = ReportsWholly m d old new path (report_named name) ends
IsWhole m d s c r w i k l (command.History path from) old new input input_new ends = PrintsRecordWholly m d old new path from ends
IsWhole m d s c r w i k l (command.Head path) old new input input_new ends = PrintsHeadWholly m d old new path ends
IsWhole m d s c r w i k l (command.Check path) old new input input_new ends = ChecksWholly m d old new path ends
IsWhole m d s c r w i k l (command.Lookup list vid pid) old new input input_new ends = ⊤
