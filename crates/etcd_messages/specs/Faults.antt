-- The faults of answers, and the results of functions that read answers.
use Rattle.std.specs.Prelude.{◌≡◌, ℕ, ◌==◌, List, codes, Bool, ⊤, Option, Some, None, Result, Ok, Err, if◌then◌else◌}
use Rattle.etcd_messages.specs.declared.fault.AnswerFault.{AnswerFault}
use Rattle.etcd_messages.specs.declared.fault.AnswerFault.TheVariants.{NoQuorum, BadToken, Forbidden, BadLogin, BadStatus}
use Rattle.etcd_messages.specs.declared.fault.Unread.{Unread}
use Rattle.etcd_messages.specs.declared.fault.Unread.TheVariants.{Bad, NoMemory}
use Rattle.etcd_messages.specs.declared.fault.Member.{Member}
use Rattle.etcd_messages.specs.declared.fault.Member.TheVariants as members

-- the name of a member
abbrev pub member_name : Member → List ℕ
member_name members.Header = codes "header"
member_name members.Succeeded = codes "succeeded"
member_name members.Responses = codes "responses"
member_name members.Kvs = codes "kvs"
member_name members.Key = codes "key"
member_name members.Value = codes "value"
member_name members.More = codes "more"
member_name members.Count = codes "count"
member_name members.Token = codes "token"
member_name members.Error = codes "error"

-- what an answer with this status, which is not 200, says
abbrev pub status_fault : ℕ → AnswerFault
status_fault status =
    if status == 401 then BadToken
    else if status == 403 then Forbidden
    else if status == 503 then NoQuorum
    else BadStatus status

-- the same of the answer to a login, which has status 400 if the name or the password is wrong
abbrev pub login_fault : ℕ → AnswerFault
login_fault status = if status == 400 then BadLogin else status_fault status

-- the value, or the fault if there is no value
abbrev pub value_or_fault : {A : Type 0} → AnswerFault → Option A → Result A AnswerFault
value_or_fault fault None = Err fault
value_or_fault fault (Some x) = Ok x

-- the result is the expected value or fault, unless memory runs out
abbrev pub GivesReading : {A : Type 0} → Result A Unread → Result A AnswerFault → Type 0
GivesReading (Ok x) expected = expected ≡ Ok x
GivesReading (Err (Bad fault)) expected = expected ≡ Err fault
GivesReading (Err NoMemory) expected = ⊤

-- what the result shows, by `seen`, is the expected value or fault, unless memory runs out
abbrev pub ShowsReading : {A B : Type 0} → (A → B) → Result A Unread → Result B AnswerFault → Type 0
ShowsReading seen (Ok x) expected = expected ≡ Ok (seen x)
ShowsReading seen (Err (Bad fault)) expected = expected ≡ Err fault
ShowsReading seen (Err NoMemory) expected = ⊤

-- the second step on the value of the first, or the fault of the first
infixl 10 ◌|>◌
abbrev pub ◌|>◌ : {E A B : Type 0} → Result A E → (A → Result B E) → Result B E
(Ok x) |> f = f x
(Err e) |> f = Err e
