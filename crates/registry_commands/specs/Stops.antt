-- What is printed if a replay ends before the end of its record.
use Rattle.std.specs.Prelude.{◌≡◌, ◌⊎◌, ℕ, List, ◌++◌, codes, Result, Ok, Err}
use Rattle.std.specs.Fmt.{decimal}
use Rattle.registry_rules.specs.declared.verdict.Reply.{Reply}
use Rattle.registry_commands.specs.declared.entries.LineRefusal.{LineRefusal}
use Rattle.registry_commands.specs.declared.entries.LineRefusal.TheVariants.{TooLong, NoEntry, LateFounding, OtherFounding}
use Rattle.registry_commands.specs.declared.following.ReplayStop.{ReplayStop}
use Rattle.registry_commands.specs.declared.following.ReplayStop.TheVariants as stop
use Rattle.registry_commands.specs.declared.status.ExitStatus.{ExitStatus}
use Rattle.registry_commands.specs.declared.status.ExitStatus.TheVariants.{Success, Failed, Rejected}
use Rattle.registry_commands.specs.Ends.{Output}
use Rattle.registry_commands.specs.Failures.{IsOfMemory, Prints, PrintsFailure}
use Rattle.registry_commands.specs.Messages.{failure_line, refusal_line, reply_line}

-- why a line of a record is refused, as a line
abbrev pub line_refusal_text : LineRefusal → List ℕ
line_refusal_text TooLong = codes "more than 4194304 bytes\n"
line_refusal_text (NoEntry refusal) = refusal_line refusal
line_refusal_text LateFounding = codes "a founding after the first line\n"
line_refusal_text OtherFounding = codes "the registry was founded otherwise\n"

-- the message for a line that is refused
unfoldable pub refused_line_text : ℕ → LineRefusal → List ℕ
refused_line_text number refusal = codes "line " ++ decimal number ++ codes ": " ++ line_refusal_text refusal

-- the message for a line whose request got another reply
unfoldable pub other_reply_text : ℕ → Reply → List ℕ
other_reply_text number reply = codes "line " ++ decimal number ++ codes ": another reply: " ++ reply_line reply

-- the message for a line of another record
unfoldable pub another_record_text : ℕ → List ℕ
another_record_text number = codes "line " ++ decimal number ++ codes ": another record\n"

-- the message is written with the status Rejected; or memory ran out for it
abbrev pub TellsText : List ℕ → Output → ExitStatus → Type 0
TellsText text errors status = ((status ≡ Rejected) × Prints errors text) ⊎ ((status ≡ Failed) × PrintsFailure IsOfMemory errors)

-- how a replay ends: nothing is printed, or why it ended early
abbrev pub TellsStop : Result (Unit {0}) ReplayStop → Output → ExitStatus → Type 0
TellsStop (Ok done) errors status = (status ≡ Success) × (errors.new ≡ errors.old)
TellsStop (Err (stop.Line number refusal)) errors status = TellsText (refused_line_text number refusal) errors status
TellsStop (Err (stop.Reply number reply)) errors status = TellsText (other_reply_text number reply) errors status
TellsStop (Err (stop.Digest number)) errors status = TellsText (another_record_text number) errors status
TellsStop (Err (stop.Failure failure)) errors status = (status ≡ Failed) × Prints errors (failure_line failure)
