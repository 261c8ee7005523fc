-- What an output does with the replies of a run.
use Rattle.std.specs.Prelude.{◌≡◌, ◌⊎◌, ℕ, List, Option}
use Rattle.std.specs.Io.KnownBytes.{Appends}
use Rattle.byte_streams.specs.Streams.{AppendsPrefix}
use Rattle.registry_rules.specs.declared.verdict.Reply.{Reply}
use Rattle.registry_commands.specs.declared.messages.Failure.{Failure}
use Rattle.registry_commands.specs.declared.messages.Failure.TheVariants.{Memory, File}
use Rattle.registry_commands.specs.declared.replies.ReplyLines.{ReplyLines}
use Rattle.registry_commands.specs.Failures.{IsOfOutput}
use Rattle.registry_commands.specs.Messages.{reply_line}

module _ {W : Type 0} (contents : W → Option (List ℕ)) (failures : W → ℕ) (old new : ReplyLines W) (reply : Reply) where
  -- the reply line is written, and the output did not fail
  pub record TakesLine : Type 0 where
    pub same_output : new.output.ghost_name ≡ old.output.ghost_name
    pub gained : Appends (contents old.output.now) (contents new.output.now) (reply_line reply)
    pub kept : failures new.output.now ≡ failures old.output.now

  -- A prefix of the reply line is written, and this failure says why. Nothing is written if memory ran out.
  pub record CutsLine (failure : Failure) : Type 0 where
    pub same_output : new.output.ghost_name ≡ old.output.ghost_name
    pub gained : AppendsPrefix (contents old.output.now) (contents new.output.now) (reply_line reply)
    pub kind : (failure ≡ Memory) ⊎ (failure ≡ File)
    pub cause : IsOfOutput (failures old.output.now) (failures new.output.now) failure
    pub silent : failure ≡ Memory → contents new.output.now ≡ contents old.output.now
