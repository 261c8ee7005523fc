-- How a command ends: what its outputs have taken, its exit status, and what became of its registry.
use Rattle.std.specs.Prelude.{◌≡◌, ℕ, List, Option}
use Rattle.std.specs.Io.KnownBytes.{Appends, Keeps}
use Rattle.sqlite.specs.Store.{Ghosts}
use Rattle.byte_streams.specs.declared.streams.Sink as sink
use Rattle.byte_streams.specs.Streams.{AppendsPrefix}
use Rattle.registry_store.specs.declared.registry.Registry.{Registry}
use Rattle.registry_commands.specs.declared.status.ExitStatus.{ExitStatus}
use Rattle.registry_commands.specs.declared.status.ExitStatus.TheVariants.{Success, Failed, Rejected}

-- the number of an exit status
abbrev pub code : ExitStatus → ℕ
code Success = 0
code Failed = 1
code Rejected = 2

-- what an output has taken, if that is known, and how often it has failed
pub record Sunk : Type 0 where
  pub contents : Option (List ℕ)
  pub failures : ℕ

abbrev pub sunk : {W : Type 0} → sink.Ghosts W → W → Sunk
sunk g w = record { contents = g.contents w; failures = g.failures w }

-- an output before a command and after it
pub record Output : Type 0 where
  pub old : Sunk
  pub new : Sunk

abbrev pub output_of : {W : Type 0} → sink.Ghosts W → W → W → Output
output_of g old new = record { old = sunk g old; new = sunk g new }

-- the output took this text, and did not fail
abbrev pub Receives : Output → List ℕ → Type 0
Receives output text = Appends output.old.contents output.new.contents text × (output.new.failures ≡ output.old.failures)

-- it took a prefix of this text, perhaps an empty one
abbrev pub ReceivesPrefix : Output → List ℕ → Type 0
ReceivesPrefix output text = AppendsPrefix output.old.contents output.new.contents text

-- it took nothing, and did not fail
abbrev pub ReceivesNothing : Output → Type 0
ReceivesNothing output = Keeps output.old.contents output.new.contents × (output.new.failures ≡ output.old.failures)

-- the output and the error output of a command, and its exit status
pub record Ends : Type 0 where
  pub out : Output
  pub errors : Output
  pub status : ExitStatus

abbrev pub ends_of : {W E : Type 0} → sink.Ghosts W → sink.Ghosts E → W → W → E → E → ExitStatus → Ends
ends_of w e out out_new errors errors_new status = record { out = output_of w out out_new; errors = output_of e errors errors_new; status = status }

-- what a command did: its registry before it and after it, and how it ended
pub record Effect (S : Type 0) (g : Ghosts S) : Type 0 where
  pub old : Registry S g
  pub new : Registry S g
  pub ends : Ends

abbrev pub effect : {S : Type 0} {g : Ghosts S} → Registry S g → Registry S g → Ends → Effect S g
effect old new ends = record { old = old; new = new; ends = ends }
