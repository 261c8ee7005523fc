-- The calls of a log.
use Rattle.std.proofs.Common.{◌≡◌, ℕ, List, Some, ap, refl, subst, sym}
use Rattle.shared_log.specs.declared.answers.AppendAnswer.{AppendAnswer}
use Rattle.shared_log.specs.declared.answers.PageAnswer.{PageAnswer}
use Rattle.shared_log.specs.declared.answers.HeadAnswer.{HeadAnswer}
use Rattle.shared_log.specs.declared.fault.LogFault.{LogFault}
use Rattle.etcd_messages.specs.declared.endpoint.Endpoint.TheVariants as endpoints
use Rattle.etcd_messages.specs.Answers.{append_reading, page_reading, log_head_reading}
use Rattle.http_exchange.specs.declared.connection.Connection.{Ghosts}
use Rattle.etcd_client.specs.declared.fault.CallFault.{CallFault}
use Rattle.etcd_client.specs.declared.log.EtcdLog.{EtcdLog}
use Rattle.etcd_client.specs.declared.session.Session.{Session}
use Rattle.etcd_client.specs.Faults.{log_fault}
use Rattle.etcd_client.specs.Logs.{append_body, page_body, head_body, Gets, GetsNone, IsSame, Keeps, Appends, ReadsPage, LooksAt, AppendFails, PageFails, LookFails, Fails, append_fails, read_fails, look_fails}

pub appends : {C : Type 0} (g : Ghosts C) (old new : EtcdLog C) (n : ℕ) (line : List ℕ) (answer : AppendAnswer)
    → Gets g old.session new.session endpoints.Append (append_body old.name n line) (append_reading old.name n) answer → IsSame old new → Appends g old new n line answer
appends g old new n line answer gets same = record { gets = gets; same = same }

pub reads : {C : Type 0} (g : Ghosts C) (old new : EtcdLog C) (n : ℕ) (answer : PageAnswer)
    → Gets g old.session new.session endpoints.Read (page_body old.name n) (page_reading old.name n) answer → IsSame old new → ReadsPage g old new n answer
reads g old new n answer gets same = record { gets = gets; same = same }

pub looks : {C : Type 0} (g : Ghosts C) (old new : EtcdLog C) (answer : HeadAnswer)
    → Gets g old.session new.session endpoints.Read (head_body old.name) (log_head_reading old.name) answer → IsSame old new → LooksAt g old new answer
looks g old new answer gets same = record { gets = gets; same = same }

pub keeps : {C : Type 0} (old new : EtcdLog C) (session : Session C) (fault : CallFault) → new ≡ record old { session = session; fault = Some fault } → Keeps old new fault
keeps {C} old new session fault same = subst (λ (l : EtcdLog C). l ≡ record old { session = l.session; fault = Some fault }) (sym same) refl

pub append_failed : {C : Type 0} (g : Ghosts C) (old new : EtcdLog C) (session : Session C) (n : ℕ) (line : List ℕ) (fault : CallFault) (error : LogFault)
    → GetsNone g old.session session endpoints.Append (append_body old.name n line) (append_reading old.name n) fault
    → new ≡ record old { session = session; fault = Some fault } → error ≡ log_fault fault → AppendFails g old new n line error
append_failed {C} g old new session n line fault error none same kind = record {
  fault = fault;
  none = subst (λ (s : Session C). GetsNone g old.session s endpoints.Append (append_body old.name n line) (append_reading old.name n) fault) (sym (ap (λ (l : EtcdLog C). l.session) same)) none;
  kept = keeps old new session fault same;
  kind = kind;
}

pub append_is_failure : {C : Type 0} (g : Ghosts C) (old new : EtcdLog C) (session : Session C) (n : ℕ) (line : List ℕ) (fault : CallFault) (error : LogFault)
    → GetsNone g old.session session endpoints.Append (append_body old.name n line) (append_reading old.name n) fault
    → new ≡ record old { session = session; fault = Some fault } → error ≡ log_fault fault → Fails g old new
append_is_failure g old new session n line fault error none same kind = append_fails n line error (append_failed g old new session n line fault error none same kind)

pub read_failed : {C : Type 0} (g : Ghosts C) (old new : EtcdLog C) (session : Session C) (n : ℕ) (fault : CallFault) (error : LogFault)
    → GetsNone g old.session session endpoints.Read (page_body old.name n) (page_reading old.name n) fault
    → new ≡ record old { session = session; fault = Some fault } → error ≡ log_fault fault → PageFails g old new n error
read_failed {C} g old new session n fault error none same kind = record {
  fault = fault;
  none = subst (λ (s : Session C). GetsNone g old.session s endpoints.Read (page_body old.name n) (page_reading old.name n) fault) (sym (ap (λ (l : EtcdLog C). l.session) same)) none;
  kept = keeps old new session fault same;
  kind = kind;
}

pub read_is_failure : {C : Type 0} (g : Ghosts C) (old new : EtcdLog C) (session : Session C) (n : ℕ) (fault : CallFault) (error : LogFault)
    → GetsNone g old.session session endpoints.Read (page_body old.name n) (page_reading old.name n) fault
    → new ≡ record old { session = session; fault = Some fault } → error ≡ log_fault fault → Fails g old new
read_is_failure g old new session n fault error none same kind = read_fails n error (read_failed g old new session n fault error none same kind)

pub look_failed : {C : Type 0} (g : Ghosts C) (old new : EtcdLog C) (session : Session C) (fault : CallFault) (error : LogFault)
    → GetsNone g old.session session endpoints.Read (head_body old.name) (log_head_reading old.name) fault
    → new ≡ record old { session = session; fault = Some fault } → error ≡ log_fault fault → LookFails g old new error
look_failed {C} g old new session fault error none same kind = record {
  fault = fault;
  none = subst (λ (s : Session C). GetsNone g old.session s endpoints.Read (head_body old.name) (log_head_reading old.name) fault) (sym (ap (λ (l : EtcdLog C). l.session) same)) none;
  kept = keeps old new session fault same;
  kind = kind;
}

pub look_is_failure : {C : Type 0} (g : Ghosts C) (old new : EtcdLog C) (session : Session C) (fault : CallFault) (error : LogFault)
    → GetsNone g old.session session endpoints.Read (head_body old.name) (log_head_reading old.name) fault
    → new ≡ record old { session = session; fault = Some fault } → error ≡ log_fault fault → Fails g old new
look_is_failure g old new session fault error none same kind = look_fails error (look_failed g old new session fault error none same kind)
