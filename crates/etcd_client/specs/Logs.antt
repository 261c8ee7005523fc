-- What a log that etcd keeps asks, and what it takes of the answers.
use Rattle.std.specs.Prelude.{◌≡◌, ℕ, List, false, Option, Some, None, Result, Ok}
use Rattle.serde_json.specs.Written.{compact_text}
use Rattle.shared_log.specs.declared.answers.AppendAnswer.{AppendAnswer}
use Rattle.shared_log.specs.declared.answers.PageAnswer.{PageAnswer}
use Rattle.shared_log.specs.declared.answers.HeadAnswer.{HeadAnswer}
use Rattle.shared_log.specs.declared.fault.LogFault.{LogFault}
use Rattle.etcd_messages.specs.declared.endpoint.Endpoint.{Endpoint}
use Rattle.etcd_messages.specs.declared.endpoint.Endpoint.TheVariants as endpoints
use Rattle.etcd_messages.specs.declared.fault.AnswerFault.{AnswerFault}
use Rattle.etcd_messages.specs.Requests.{append_request, page_request, head_request}
use Rattle.etcd_messages.specs.Answers.{append_reading, page_reading, log_head_reading}
use Rattle.http_exchange.specs.declared.connection.Connection.{Ghosts}
use Rattle.etcd_client.specs.declared.fault.CallFault.{CallFault}
use Rattle.etcd_client.specs.declared.fault.CallFault.TheVariants as faults
use Rattle.etcd_client.specs.declared.session.Session.{Session}
use Rattle.etcd_client.specs.declared.log.EtcdLog.{EtcdLog}
use Rattle.etcd_client.specs.Faults.{log_fault}
use Rattle.etcd_client.specs.Sessions.{Asks, AskFails, HasAnswerFault}

-- the most lines of one page
abbrev pub most_page_lines : ℕ
most_page_lines = 1000

-- the body of the message to append a line to the log with this name
abbrev pub append_body : List ℕ → ℕ → List ℕ → List ℕ
append_body name n line = compact_text (append_request name n line)

-- the body of the message to read lines of it
abbrev pub page_body : List ℕ → ℕ → List ℕ
page_body name n = compact_text (page_request name n most_page_lines)

-- the body of the message to read its head
abbrev pub head_body : List ℕ → List ℕ
head_body name = compact_text (head_request name)

-- a message was sent, and this is the value that is read in its answer
pub record Gets {C A : Type 0} (g : Ghosts C) (old new : Session C) (endpoint : Endpoint) (body : List ℕ) (reading : ℕ → List ℕ → Result A AnswerFault) (value : A) : Type 0 where
  pub status : ℕ
  pub answer : List ℕ
  pub asks : Asks g old new endpoint body status answer
  pub says : reading status answer ≡ Ok value

-- why there is no such value: no memory for the message, no answer, or an answer with a fault
pub data GetsNone {C A : Type 0} (g : Ghosts C) (old new : Session C) (endpoint : Endpoint) (body : List ℕ) (reading : ℕ → List ℕ → Result A AnswerFault) (fault : CallFault) : Type 0 where
  not_sent : fault ≡ faults.NoMemory → new ≡ old → GetsNone g old new endpoint body reading fault
  not_answered : AskFails g old new endpoint body fault → GetsNone g old new endpoint body reading fault
  not_read : (status : ℕ) (answer : List ℕ) → Asks g old new endpoint body status answer → HasAnswerFault (reading status answer) fault → GetsNone g old new endpoint body reading fault

-- a log with this name at this host: no connection is kept, and no user is logged in
abbrev pub new_log : {C : Type 0} → C → List ℕ → List ℕ → Option (List ℕ × List ℕ) → EtcdLog C
new_log connection host name user = record {
  session = record { connection = connection; is_kept = false; host = host; user = user; token = None };
  name = name;
  fault = None;
}

-- the fault of the last call without an answer
abbrev pub last_fault : {C : Type 0} → EtcdLog C → Option CallFault
last_fault log = log.fault

-- nothing but the session has changed
abbrev pub IsSame : {C : Type 0} → EtcdLog C → EtcdLog C → Type 0
IsSame old new = new ≡ record old { session = new.session }

-- nothing but the session has changed, and the fault that is kept
abbrev pub Keeps : {C : Type 0} → EtcdLog C → EtcdLog C → CallFault → Type 0
Keeps old new fault = new ≡ record old { session = new.session; fault = Some fault }

-- the line was to be appended, and this is what the answer says
pub record Appends {C : Type 0} (g : Ghosts C) (old new : EtcdLog C) (n : ℕ) (line : List ℕ) (answer : AppendAnswer) : Type 0 where
  pub gets : Gets g old.session new.session endpoints.Append (append_body old.name n line) (append_reading old.name n) answer
  pub same : IsSame old new

-- lines were to be read, and this is what the answer says
pub record ReadsPage {C : Type 0} (g : Ghosts C) (old new : EtcdLog C) (n : ℕ) (answer : PageAnswer) : Type 0 where
  pub gets : Gets g old.session new.session endpoints.Read (page_body old.name n) (page_reading old.name n) answer
  pub same : IsSame old new

-- the head was to be read, and this is what the answer says
pub record LooksAt {C : Type 0} (g : Ghosts C) (old new : EtcdLog C) (answer : HeadAnswer) : Type 0 where
  pub gets : Gets g old.session new.session endpoints.Read (head_body old.name) (log_head_reading old.name) answer
  pub same : IsSame old new

-- the line was to be appended, and there is no answer; this error is what the fault that is kept is for one who uses the log
pub record AppendFails {C : Type 0} (g : Ghosts C) (old new : EtcdLog C) (n : ℕ) (line : List ℕ) (error : LogFault) : Type 0 where
  pub fault : CallFault
  pub none : GetsNone g old.session new.session endpoints.Append (append_body old.name n line) (append_reading old.name n) fault
  pub kept : Keeps old new fault
  pub kind : error ≡ log_fault fault

-- the same of lines that were to be read
pub record PageFails {C : Type 0} (g : Ghosts C) (old new : EtcdLog C) (n : ℕ) (error : LogFault) : Type 0 where
  pub fault : CallFault
  pub none : GetsNone g old.session new.session endpoints.Read (page_body old.name n) (page_reading old.name n) fault
  pub kept : Keeps old new fault
  pub kind : error ≡ log_fault fault

-- the same of the head that was to be read
pub record LookFails {C : Type 0} (g : Ghosts C) (old new : EtcdLog C) (error : LogFault) : Type 0 where
  pub fault : CallFault
  pub none : GetsNone g old.session new.session endpoints.Read (head_body old.name) (log_head_reading old.name) fault
  pub kept : Keeps old new fault
  pub kind : error ≡ log_fault fault

-- one of the calls of this log got no answer
pub data Fails {C : Type 0} (g : Ghosts C) (old new : EtcdLog C) : Type 0 where
  append_fails : (n : ℕ) (line : List ℕ) (error : LogFault) → AppendFails g old new n line error → Fails g old new
  read_fails : (n : ℕ) (error : LogFault) → PageFails g old new n error → Fails g old new
  look_fails : (error : LogFault) → LookFails g old new error → Fails g old new
