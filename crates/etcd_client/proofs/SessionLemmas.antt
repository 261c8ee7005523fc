-- The steps of a session.
use Rattle.std.proofs.Common.{◌≡◌, ℕ, Bool, true, false, List, Some, None, Result, Ok, Err, inl, inr, sym, subst, ◌∙◌}
use Rattle.std.specs.Prelude.{is_some}
use Rattle.etcd_messages.specs.declared.endpoint.Endpoint.{Endpoint}
use Rattle.etcd_messages.specs.declared.endpoint.Endpoint.TheVariants as endpoints
use Rattle.etcd_messages.specs.declared.fault.AnswerFault.{AnswerFault}
use Rattle.etcd_messages.specs.declared.fault.Unread.{Unread}
use Rattle.etcd_messages.specs.declared.fault.Unread.TheVariants as unreads
use Rattle.etcd_messages.specs.Faults.{GivesReading}
use Rattle.etcd_messages.specs.Answers.{login_reading}
use Rattle.http_exchange.specs.declared.connection.Connection.{Ghosts}
use Rattle.http_exchange.specs.declared.fault.ExchangeFault.{ExchangeFault}
use Rattle.http_exchange.specs.Exchanges.{IsExchange, ExchangeFails}
use Rattle.etcd_client.specs.declared.fault.CallFault.{CallFault}
use Rattle.etcd_client.specs.declared.fault.CallFault.TheVariants as faults
use Rattle.etcd_client.specs.declared.session.Session.{Session}
use Rattle.etcd_client.specs.Faults.{call_fault, message_fault}
use Rattle.etcd_client.specs.Messages.{request_text}
use Rattle.etcd_client.specs.Sessions.{HasAnswerFault, Talks, TalkFails, no_text, no_exchange, with_new, login_of, is_refused, LogsIn, LoginFails, no_answer, bad_answer, GetsToken, has_token, has_no_user, is_logged_in, TokenFails, no_message, no_login, SendsAsUser, SendFails, no_token, no_reply, IsRefused, Asks, at_once, again, AskFails, fails_at_once, fails_again}

-- an answer that was not read has a fault, or memory ran out
pub has_fault : {A : Type 0} (reading : Result A AnswerFault) (unread : Unread) (fault : CallFault) → GivesReading (Err unread) reading → fault ≡ call_fault unread → HasAnswerFault reading fault
has_fault reading (unreads.Bad bad) fault gives is = record { why = inr (bad, gives, is) }
has_fault reading unreads.NoMemory fault gives is = record { why = inl is }

pub talked : {C : Type 0} (g : Ghosts C) (old new : Session C) (endpoint : Endpoint) (body text answer : List ℕ) (status : ℕ) (keeps : Bool)
    → text ≡ request_text endpoint old.host old.token body → IsExchange g old.is_kept old.connection text new.connection status answer keeps
    → keeps ≡ new.is_kept → new ≡ record old { connection = new.connection; is_kept = new.is_kept } → Talks g old new endpoint body status answer
talked g old new endpoint body text answer status keeps made exchanged kept same = record {
  exchanged = subst (λ (t : List ℕ). IsExchange g old.is_kept old.connection t new.connection status answer new.is_kept) made
      (subst (λ (k : Bool). IsExchange g old.is_kept old.connection text new.connection status answer k) kept exchanged);
  same = same;
}

pub got_no_answer : {C : Type 0} (g : Ghosts C) (old new : Session C) (endpoint : Endpoint) (body text : List ℕ) (cause : ExchangeFault) (fault : CallFault)
    → text ≡ request_text endpoint old.host old.token body → ExchangeFails g old.is_kept old.connection text new.connection cause
    → fault ≡ message_fault cause → new ≡ record old { connection = new.connection; is_kept = false } → TalkFails g old new endpoint body fault
got_no_answer g old new endpoint body text cause fault made exchanged is same =
    no_exchange cause (subst (λ (t : List ℕ). ExchangeFails g old.is_kept old.connection t new.connection cause) made exchanged) is same

pub was_not_sent : {C : Type 0} (g : Ghosts C) (old new : Session C) (endpoint : Endpoint) (body : List ℕ) (fault : CallFault)
    → fault ≡ faults.NoMemory → new ≡ old → TalkFails g old new endpoint body fault
was_not_sent g old new endpoint body fault is same = no_text is same

pub logged_in : {C : Type 0} (g : Ghosts C) (old told new : Session C) (body answer token : List ℕ) (status : ℕ)
    → Talks g old told endpoints.Login body status answer → login_reading status answer ≡ Ok token → new ≡ with_new told (Some token) → LogsIn g old new body
logged_in g old told new body answer token status talks says kept = record { status = status; answer = answer; token = token; told = told; talks = talks; says = says; kept = kept }

pub login_unanswered : {C : Type 0} (g : Ghosts C) (old new : Session C) (body : List ℕ) (fault : CallFault) → TalkFails g old new endpoints.Login body fault → LoginFails g old new body fault
login_unanswered g old new body fault fails = no_answer fails

pub login_unread : {C : Type 0} (g : Ghosts C) (old new : Session C) (body answer : List ℕ) (status : ℕ) (unread : Unread) (fault : CallFault)
    → Talks g old new endpoints.Login body status answer → GivesReading (Err unread) (login_reading status answer) → fault ≡ call_fault unread → LoginFails g old new body fault
login_unread g old new body answer status unread fault talks gives is = bad_answer status answer talks (has_fault (login_reading status answer) unread fault gives is)

pub token_there : {C : Type 0} (g : Ghosts C) (old new : Session C) (there : Bool) → there ≡ is_some old.token → there ≡ true → new ≡ old → GetsToken g old new
token_there g old new there is so same = has_token (sym is ∙ so) same

pub nobody : {C : Type 0} (g : Ghosts C) (old new : Session C) (there : Bool) → there ≡ is_some old.token → there ≡ false → login_of old ≡ None → new ≡ old → GetsToken g old new
nobody g old new there is not_there user same = has_no_user (sym is ∙ not_there) user same

pub token_taken : {C : Type 0} (g : Ghosts C) (old new : Session C) (there : Bool) (body : List ℕ) → there ≡ is_some old.token → there ≡ false → login_of old ≡ Some body → LogsIn g old new body → GetsToken g old new
token_taken g old new there body is not_there user logs_in = is_logged_in body (sym is ∙ not_there) user logs_in

pub no_login_message : {C : Type 0} (g : Ghosts C) (old new : Session C) (fault : CallFault) → fault ≡ faults.NoMemory → new ≡ old → TokenFails g old new fault
no_login_message g old new fault is same = no_message is same

pub login_failed : {C : Type 0} (g : Ghosts C) (old new : Session C) (there : Bool) (body : List ℕ) (fault : CallFault) → there ≡ is_some old.token → there ≡ false → login_of old ≡ Some body → LoginFails g old new body fault → TokenFails g old new fault
login_failed g old new there body fault is not_there user fails = no_login body (sym is ∙ not_there) user fails

pub was_sent : {C : Type 0} (g : Ghosts C) (old ready new : Session C) (endpoint : Endpoint) (body answer : List ℕ) (status : ℕ) → GetsToken g old ready → Talks g ready new endpoint body status answer → SendsAsUser g old new endpoint body status answer
was_sent g old ready new endpoint body answer status gets talks = record { ready = ready; gets = gets; talks = talks }

pub had_no_token : {C : Type 0} (g : Ghosts C) (old new : Session C) (endpoint : Endpoint) (body : List ℕ) (fault : CallFault) → TokenFails g old new fault → SendFails g old new endpoint body fault
had_no_token g old new endpoint body fault fails = no_token fails

pub had_no_reply : {C : Type 0} (g : Ghosts C) (old ready new : Session C) (endpoint : Endpoint) (body : List ℕ) (fault : CallFault) → GetsToken g old ready → TalkFails g ready new endpoint body fault → SendFails g old new endpoint body fault
had_no_reply g old ready new endpoint body fault gets fails = no_reply ready gets fails

pub asked_at_once : {C : Type 0} (g : Ghosts C) (old new : Session C) (endpoint : Endpoint) (body answer : List ℕ) (status : ℕ) (refused : Bool) → SendsAsUser g old new endpoint body status answer → refused ≡ is_refused new status → refused ≡ false → Asks g old new endpoint body status answer
asked_at_once g old new endpoint body answer status refused sends is none = at_once sends (sym is ∙ none)

pub was_refused : {C : Type 0} (g : Ghosts C) (old told new : Session C) (endpoint : Endpoint) (body answer : List ℕ) (status : ℕ) (refused : Bool) → SendsAsUser g old told endpoint body status answer → refused ≡ is_refused told status → refused ≡ true → new ≡ with_new told None → IsRefused g old new endpoint body
was_refused g old told new endpoint body answer status refused sends is so forgotten = record { told = told; status = status; answer = answer; sends = sends; refused = sym is ∙ so; forgotten = forgotten }

pub asked_again : {C : Type 0} (g : Ghosts C) (old middle new : Session C) (endpoint : Endpoint) (body answer : List ℕ) (status : ℕ) → IsRefused g old middle endpoint body → SendsAsUser g middle new endpoint body status answer → Asks g old new endpoint body status answer
asked_again g old middle new endpoint body answer status first sends = again middle first sends

pub failed_at_once : {C : Type 0} (g : Ghosts C) (old new : Session C) (endpoint : Endpoint) (body : List ℕ) (fault : CallFault) → SendFails g old new endpoint body fault → AskFails g old new endpoint body fault
failed_at_once g old new endpoint body fault fails = fails_at_once fails

pub failed_again : {C : Type 0} (g : Ghosts C) (old middle new : Session C) (endpoint : Endpoint) (body : List ℕ) (fault : CallFault) → IsRefused g old middle endpoint body → SendFails g middle new endpoint body fault → AskFails g old new endpoint body fault
failed_again g old middle new endpoint body fault first fails = fails_again middle first fails
