-- What a message gets.
use Rattle.std.proofs.Common.{◌≡◌, ℕ, List, Result, Ok, Err, subst}
use Rattle.etcd_messages.specs.declared.endpoint.Endpoint.{Endpoint}
use Rattle.etcd_messages.specs.declared.fault.AnswerFault.{AnswerFault}
use Rattle.etcd_messages.specs.declared.fault.Unread.{Unread}
use Rattle.etcd_messages.specs.Faults.{GivesReading}
use Rattle.http_exchange.specs.declared.connection.Connection.{Ghosts}
use Rattle.etcd_client.specs.declared.fault.CallFault.{CallFault}
use Rattle.etcd_client.specs.declared.fault.CallFault.TheVariants as faults
use Rattle.etcd_client.specs.declared.session.Session.{Session}
use Rattle.etcd_client.specs.Faults.{call_fault}
use Rattle.etcd_client.specs.Sessions.{Asks, AskFails}
use Rattle.etcd_client.specs.Logs.{Gets, GetsNone, not_sent, not_answered, not_read}
use Rattle.etcd_client.proofs.SessionLemmas.{has_fault}

pub got : {C A : Type 0} (g : Ghosts C) (old new : Session C) (endpoint : Endpoint) (body answer : List ℕ) (status : ℕ) (reading : ℕ → List ℕ → Result A AnswerFault) (value : A)
    → Asks g old new endpoint body status answer → reading status answer ≡ Ok value → Gets g old new endpoint body reading value
got g old new endpoint body answer status reading value asks says = record { status = status; answer = answer; asks = asks; says = says }

pub got_unsent : {C A : Type 0} (g : Ghosts C) (old new : Session C) (endpoint : Endpoint) (body : List ℕ) (reading : ℕ → List ℕ → Result A AnswerFault) (fault : CallFault)
    → fault ≡ faults.NoMemory → new ≡ old → GetsNone g old new endpoint body reading fault
got_unsent g old new endpoint body reading fault is same = not_sent is same

pub got_unanswered : {C A : Type 0} (g : Ghosts C) (old new : Session C) (endpoint : Endpoint) (text body : List ℕ) (reading : ℕ → List ℕ → Result A AnswerFault) (fault : CallFault)
    → AskFails g old new endpoint text fault → text ≡ body → GetsNone g old new endpoint body reading fault
got_unanswered g old new endpoint text body reading fault fails is =
    not_answered (subst (λ (t : List ℕ). AskFails g old new endpoint t fault) is fails)

pub got_unread : {C A : Type 0} (g : Ghosts C) (old new : Session C) (endpoint : Endpoint) (text body bytes answer : List ℕ) (status : ℕ) (reading : ℕ → List ℕ → Result A AnswerFault) (unread : Unread) (fault : CallFault)
    → Asks g old new endpoint text status answer → text ≡ body → GivesReading (Err unread) (reading status bytes) → bytes ≡ answer → fault ≡ call_fault unread
    → GetsNone g old new endpoint body reading fault
got_unread g old new endpoint text body bytes answer status reading unread fault asks sent gives came is =
    not_read status answer (subst (λ (t : List ℕ). Asks g old new endpoint t status answer) sent asks)
    (has_fault (reading status answer) unread fault (subst (λ (t : List ℕ). GivesReading (Err unread) (reading status t)) came gives) is)
