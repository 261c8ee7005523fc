-- Requests that are answered over a log, one after another, and their reply lines.
use Rattle.std.specs.Prelude.{◌≡◌, ◌⊎◌, ℕ, List, [], ◌∷◌, ◌++◌, Option, None, Result, Ok, Err}
use Rattle.std.specs.Io.KnownBytes.{Appends}
use Rattle.sqlite.specs.Store.{Ghosts}
use Rattle.byte_streams.specs.Streams.{AppendsPrefix}
use Rattle.registry_rules.specs.declared.order.Request.{Request}
use Rattle.registry_rules.specs.declared.verdict.Reply.{Reply}
use Rattle.registry_rules.specs.History.{History}
use Rattle.registry_rules.specs.Run.{after_one, reply_to}
use Rattle.registry_laws.specs.Machines.{IsOfMachine, LeadsToLater}
use Rattle.registry_store.specs.declared.fault.Fault.{Fault}
use Rattle.registry_store.specs.declared.registry.Registry.{Registry}
use Rattle.registry_commands.specs.declared.messages.Failure.TheVariants.{File, Memory}
use Rattle.registry_commands.specs.declared.status.ExitStatus.{ExitStatus}
use Rattle.registry_commands.specs.Ends.{Output}
use Rattle.registry_commands.specs.Failures.{IsOfOutput}
use Rattle.registry_commands.specs.Imports.{exit_status_of}
use Rattle.registry_commands.specs.Messages.{reply_line, reply_lines}
use Rattle.shared_log.specs.Calls.{LogLines}
use Rattle.shared_log.specs.declared.log.Log.{Ghosts as LogGhosts}
use Rattle.shared_registry.specs.Asks.{AppendsRequest, IsLogAsked}
use Rattle.shared_registry.specs.Follows.{Follows, IsAnsweredOverLog, IsLeft, WasWhole}
use Rattle.shared_registry.specs.Lines.{fault_of_stop}
use Rattle.shared_registry.specs.declared.cursor.Cursor.{Cursor}
use Rattle.shared_commands.specs.declared.answering.AnswerStop.{AnswerStop}
use Rattle.shared_commands.specs.declared.answering.AnswerStop.TheVariants as stops

-- the fault of a registry that stopped a call, if one did
abbrev pub fault_behind_answer : {A : Type 0} → Result A AnswerStop → Option Fault
fault_behind_answer (Ok it) = None
fault_behind_answer (Err (stops.Share stop)) = fault_of_stop stop
fault_behind_answer (Err (stops.Output failure)) = None

-- What a stop says of the writes. If a line was cut, memory ran out for it, or one write failed. No other write did.
abbrev pub TellsWrites : ℕ → ℕ → AnswerStop → Type 0
TellsWrites old new (stops.Share stop) = new ≡ old
TellsWrites old new (stops.Output failure) = ((failure ≡ Memory) ⊎ (failure ≡ File)) × IsOfOutput old new failure

-- a stop of one request: nothing was written, but for a line that a failed write cut
abbrev pub IsSilentAt : Output → AnswerStop → Type 0
IsSilentAt out (stops.Share stop) = out.new ≡ out.old
IsSilentAt out (stops.Output failure) = failure ≡ Memory → out.new ≡ out.old

module _ {L : Type 0} (l : LogGhosts L) (lines : L → LogLines) where
  -- A request got the reply of a history that was the whole log at some instant of its call. The next history is the one after it, and
  -- the log has its record. No line but that of the request was to be appended.
  pub record IsAnsweredBy (c : Cursor L) (h : History) (r : Request) (reply : Reply) (c_new : Cursor L) (next : History) : Type 0 where
    pub before : History
    pub leads : LeadsToLater h before
    pub whole : WasWhole (lines c.log) (lines c_new.log) before
    pub reply_is : reply ≡ reply_to before r
    pub next_is : next ≡ after_one before r
    pub of_machine : IsOfMachine (lines c_new.log) next
    pub asks : IsLogAsked l (AppendsRequest (lines c_new.log) h r) c.log c_new.log

  -- requests got these replies, one after another
  abbrev pub AreAnswered : Cursor L → History → List Request → List Reply → Cursor L → History → Type 0
  AreAnswered c h [] replies c_new next = (replies ≡ []) × (c_new ≡ c) × (next ≡ h)
  AreAnswered c h (r ∷ rs) replies c_new next =
      (reply : Reply) × (others : List Reply) × (middle : Cursor L) × (x : History)
      × (replies ≡ reply ∷ others) × IsAnsweredBy c h r reply middle x × AreAnswered middle x rs others c_new next

module _ {S : Type 0} {g : Ghosts S} {L : Type 0} (l : LogGhosts L) (lines : L → LogLines) (it_new : Registry S g) (c_new : Cursor L) where
  -- a request is answered, and its reply line written; the status says whether it is a refusal
  pub record HasReplied (c : Cursor L) (h : History) (r : Request) (out : Output) (status : ExitStatus) : Type 0 where
    pub reply : Reply
    pub answered : IsAnsweredOverLog l lines c it_new c_new h r reply
    pub written : Appends out.old.contents out.new.contents (reply_line reply)
    pub status_is : status ≡ exit_status_of reply

  -- Why there is no reply line, from this text on: the registry did not go on with its log, and nothing is written; or the request is
  -- answered, and a prefix of its line is written, which is empty if memory ran out.
  abbrev pub IsCutOverLog : Cursor L → History → Request → Option (List ℕ) → Option (List ℕ) → AnswerStop → Type 0
  IsCutOverLog c h r text text_new (stops.Share stop) = IsLeft l lines c it_new c_new h stop × (text_new ≡ text)
  IsCutOverLog c h r text text_new (stops.Output failure) =
      (reply : Reply) × IsAnsweredOverLog l lines c it_new c_new h r reply × AppendsPrefix text text_new (reply_line reply) × (failure ≡ Memory → text_new ≡ text)

  module _ (c : Cursor L) (h : History) (rs : List Request) (out : Output) where
    -- all requests are answered, their reply lines are written, and the registry follows the log with them
    pub record HasAnsweredAll : Type 0 where
      pub replies : List Reply
      pub next : History
      pub answered : AreAnswered l lines c h rs replies c_new next
      pub follows : Follows l lines it_new c_new next
      pub written : Appends out.old.contents out.new.contents (reply_lines replies)

    -- The first requests are answered, and their reply lines written. This stopped the next one, and no line but that of it was to be
    -- appended then.
    pub record HasAnsweredSome (stop : AnswerStop) : Type 0 where
      pub done : List Request
      pub next : Request
      pub rest : List Request
      pub split : rs ≡ done ++ next ∷ rest
      pub replies : List Reply
      pub place : Cursor L
      pub last : History
      pub answered : AreAnswered l lines c h done replies place last
      pub middle : Option (List ℕ)
      pub written : Appends out.old.contents middle (reply_lines replies)
      pub stopped : IsCutOverLog place last next middle out.new.contents stop
      pub asks : IsLogAsked l (AppendsRequest (lines c_new.log) last next) place.log c_new.log
