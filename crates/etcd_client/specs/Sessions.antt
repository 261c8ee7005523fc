-- Messages to etcd over one connection, as a user who logs in if there is one.
use Rattle.std.specs.Prelude.{◌≡◌, ◌⊎◌, ◌==◌, ◌&&◌, Bool, true, false, is_some, ℕ, List, Option, Some, None, option_map, Result, Ok, Err}
use Rattle.serde_json.specs.Written.{compact_text}
use Rattle.etcd_messages.specs.declared.endpoint.Endpoint.{Endpoint}
use Rattle.etcd_messages.specs.declared.endpoint.Endpoint.TheVariants as endpoints
use Rattle.etcd_messages.specs.declared.fault.AnswerFault.{AnswerFault}
use Rattle.etcd_messages.specs.Requests.{login_request}
use Rattle.etcd_messages.specs.Answers.{login_reading}
use Rattle.http_exchange.specs.declared.connection.Connection.{Ghosts}
use Rattle.http_exchange.specs.declared.fault.ExchangeFault.{ExchangeFault}
use Rattle.etcd_client.specs.declared.fault.CallFault.{CallFault}
use Rattle.etcd_client.specs.declared.fault.CallFault.TheVariants as faults
use Rattle.etcd_client.specs.declared.session.Session.{Session}
use Rattle.etcd_client.specs.Faults.{message_fault}
use Rattle.etcd_client.specs.Messages.{request_text}
use Rattle.http_exchange.specs.Exchanges.{IsExchange, ExchangeFails}

-- the body of the message that logs this user in
abbrev pub login_body : List ℕ × List ℕ → List ℕ
login_body user = compact_text (login_request user.0 user.1)

-- the body of the message that logs the user in, if there is one
abbrev pub login_of : {C : Type 0} → Session C → Option (List ℕ)
login_of session = option_map login_body session.user

-- the answer refuses the token, and there is a user who can log in again
abbrev pub is_refused : {C : Type 0} → Session C → ℕ → Bool
is_refused session status = (status == 401) && is_some session.user

-- the session with this token
abbrev pub with_new : {C : Type 0} → Session C → Option (List ℕ) → Session C
with_new session token = record session { token = token }

-- why a call has no value: the answer is read to have this fault, or memory ran out
pub record HasAnswerFault {A : Type 0} (reading : Result A AnswerFault) (fault : CallFault) : Type 0 where
  pub why : (fault ≡ faults.NoMemory) ⊎ ((bad : AnswerFault) × (reading ≡ Err bad) × (fault ≡ faults.Answer bad))

-- a message was sent once, with the token if there is one, and this is the status and the body of its answer
pub record Talks {C : Type 0} (g : Ghosts C) (old new : Session C) (endpoint : Endpoint) (body : List ℕ) (status : ℕ) (answer : List ℕ) : Type 0 where
  pub exchanged : IsExchange g old.is_kept old.connection (request_text endpoint old.host old.token body) new.connection status answer new.is_kept
  pub same : new ≡ record old { connection = new.connection; is_kept = new.is_kept }

-- why a message got no answer: no memory for it, and nothing has changed; or it was sent at most once, and its connection is
-- not kept
pub data TalkFails {C : Type 0} (g : Ghosts C) (old new : Session C) (endpoint : Endpoint) (body : List ℕ) (fault : CallFault) : Type 0 where
  no_text : fault ≡ faults.NoMemory → new ≡ old → TalkFails g old new endpoint body fault
  no_exchange : (cause : ExchangeFault) → ExchangeFails g old.is_kept old.connection (request_text endpoint old.host old.token body) new.connection cause
      → fault ≡ message_fault cause → new ≡ record old { connection = new.connection; is_kept = false } → TalkFails g old new endpoint body fault

-- the message of a login was sent, and the token of its answer is kept
pub record LogsIn {C : Type 0} (g : Ghosts C) (old new : Session C) (body : List ℕ) : Type 0 where
  pub status : ℕ
  pub answer : List ℕ
  pub token : List ℕ
  pub told : Session C
  pub talks : Talks g old told endpoints.Login body status answer
  pub says : login_reading status answer ≡ Ok token
  pub kept : new ≡ with_new told (Some token)

-- why there is no token: the message of a login got no answer, or its answer has a fault
pub data LoginFails {C : Type 0} (g : Ghosts C) (old new : Session C) (body : List ℕ) (fault : CallFault) : Type 0 where
  no_answer : TalkFails g old new endpoints.Login body fault → LoginFails g old new body fault
  bad_answer : (status : ℕ) (answer : List ℕ) → Talks g old new endpoints.Login body status answer → HasAnswerFault (login_reading status answer) fault → LoginFails g old new body fault

-- there is a token; or there is no user; or the user was logged in
pub data GetsToken {C : Type 0} (g : Ghosts C) (old new : Session C) : Type 0 where
  has_token : is_some old.token ≡ true → new ≡ old → GetsToken g old new
  has_no_user : is_some old.token ≡ false → login_of old ≡ None → new ≡ old → GetsToken g old new
  is_logged_in : (body : List ℕ) → is_some old.token ≡ false → login_of old ≡ Some body → LogsIn g old new body → GetsToken g old new

-- why a user without a token was not logged in
pub data TokenFails {C : Type 0} (g : Ghosts C) (old new : Session C) (fault : CallFault) : Type 0 where
  no_message : fault ≡ faults.NoMemory → new ≡ old → TokenFails g old new fault
  no_login : (body : List ℕ) → is_some old.token ≡ false → login_of old ≡ Some body → LoginFails g old new body fault → TokenFails g old new fault

-- a message was sent once, as the user if there is one
pub record SendsAsUser {C : Type 0} (g : Ghosts C) (old new : Session C) (endpoint : Endpoint) (body : List ℕ) (status : ℕ) (answer : List ℕ) : Type 0 where
  pub ready : Session C
  pub gets : GetsToken g old ready
  pub talks : Talks g ready new endpoint body status answer

-- why a message got no answer
pub data SendFails {C : Type 0} (g : Ghosts C) (old new : Session C) (endpoint : Endpoint) (body : List ℕ) (fault : CallFault) : Type 0 where
  no_token : TokenFails g old new fault → SendFails g old new endpoint body fault
  no_reply : (ready : Session C) → GetsToken g old ready → TalkFails g ready new endpoint body fault → SendFails g old new endpoint body fault

-- a first answer refused the token of the user, which is forgotten
pub record IsRefused {C : Type 0} (g : Ghosts C) (old new : Session C) (endpoint : Endpoint) (body : List ℕ) : Type 0 where
  pub told : Session C
  pub status : ℕ
  pub answer : List ℕ
  pub sends : SendsAsUser g old told endpoint body status answer
  pub refused : is_refused told status ≡ true
  pub forgotten : new ≡ with_new told None

-- a message was sent, once more if the first answer refused the token, and this is the last answer
pub data Asks {C : Type 0} (g : Ghosts C) (old new : Session C) (endpoint : Endpoint) (body : List ℕ) (status : ℕ) (answer : List ℕ) : Type 0 where
  at_once : SendsAsUser g old new endpoint body status answer → is_refused new status ≡ false → Asks g old new endpoint body status answer
  again : (middle : Session C) → IsRefused g old middle endpoint body → SendsAsUser g middle new endpoint body status answer → Asks g old new endpoint body status answer

-- why it got no last answer
pub data AskFails {C : Type 0} (g : Ghosts C) (old new : Session C) (endpoint : Endpoint) (body : List ℕ) (fault : CallFault) : Type 0 where
  fails_at_once : SendFails g old new endpoint body fault → AskFails g old new endpoint body fault
  fails_again : (middle : Session C) → IsRefused g old middle endpoint body → SendFails g middle new endpoint body fault → AskFails g old new endpoint body fault
