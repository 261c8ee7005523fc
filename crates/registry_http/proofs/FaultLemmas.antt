-- What the exit of a `?` says of a message.
use Rattle.std.proofs.Common.{◌≡◌, ℕ, List, ◌++◌, Bool, true, false, Option, inr, refl, sym, ap, subst}
use Rattle.std.specs.Prelude.{Result, Ok, Err, IsErrAnd}
use Rattle.byte_streams.specs.Streams.{MayGive}
use Rattle.usbids_text.specs.Reading.{ReadsAs}
use Rattle.usbids_text.specs.Readers.{WasFed}
use Rattle.usbids_text.specs.declared.fault.ReadFault.{ReadFault}
use Rattle.usbids_text.specs.declared.fault.ReadFault.TheVariants as lists
use Rattle.usbids_text.specs.declared.reader.Reader.{Reader}
use Rattle.registry_rules.specs.Gives.{Gives}
use Rattle.registry_rules.specs.declared.order.Request.{Request}
use Rattle.registry_rules.specs.declared.rejection.Rejection.{Rejection}
use Rattle.registry_rules.specs.declared.rejection.Rejection.TheVariants as rejections
use Rattle.registry_wire.specs.declared.refusal.WireRefusal.TheVariants.{BadList}
use Rattle.registry_http.specs.declared.fault.MessageFault.{MessageFault}
use Rattle.registry_http.specs.declared.fault.MessageFault.TheVariants as faults
use Rattle.registry_http.specs.declared.fault.StreamFault.{StreamFault}
use Rattle.registry_http.specs.declared.fault.StreamFault.TheVariants as streams
use Rattle.registry_http.specs.declared.message.Message.{Message}
use Rattle.registry_http.specs.declared.reading.Head.{Head}
use Rattle.registry_http.specs.declared.refusal.HttpRefusal.{HttpRefusal}
use Rattle.registry_http.specs.declared.refusal.HttpRefusal.TheVariants.{Wire}
use Rattle.registry_http.specs.declared.route.Endpoint.TheVariants as endpoints
use Rattle.registry_http.specs.Bodies.{body_in, IsFed}
use Rattle.registry_http.specs.Messages.{BodySays, HeadSays}
use Rattle.registry_http.specs.Refusals.{IfSaid, of_list, of_message, of_stream}
use Rattle.registry_http.proofs.MessageLemmas.{may_give_some}

-- what holds of a value or refusal may be said in other words
pub said_so : {A : Type 0} (result : Result A MessageFault) (P Q : Result A HttpRefusal → Type 0) → ((said : Result A HttpRefusal) → P said → Q said) → IfSaid result P → IfSaid result Q
said_so (Ok x) P Q so h = so (Ok x) h
said_so (Err (faults.Refused refusal)) P Q so h = so (Err refusal) h
said_so (Err faults.Broken) P Q so h = tt
said_so (Err faults.NoMemory) P Q so h = tt

-- the source failed, if the message says so
pub source_broken : {A : Type 0} (result : Result A MessageFault) (fault : StreamFault) → IsErrAnd result (λ y. y ≡ of_stream fault) → result ≡ Err faults.Broken → fault ≡ streams.Broken
source_broken (Ok x) fault is so = absurd is
source_broken (Err y) streams.Broken is so = refl
source_broken (Err y) streams.NoMemory is so = absurd cc

-- the head is refused
pub head_refused : (result : Result Message MessageFault) (rejection : Rejection HttpRefusal) (founding : ℕ) (call : Result Head HttpRefusal) (o : Option (List ℕ)) (front : List ℕ)
    → IsErrAnd result (λ y. y ≡ of_message rejection) → Gives (Err rejection) call → IfSaid result (λ said. (rest : List ℕ) × MayGive o rest × HeadSays founding call (front ++ rest) said)
head_refused (Ok x) rejection founding call o front is gives = absurd is
head_refused (Err faults.Broken) rejection founding call o front is gives = tt
head_refused (Err faults.NoMemory) rejection founding call o front is gives = tt
head_refused (Err (faults.Refused refusal)) rejections.NoMemory founding call o front is gives = absurd cc
head_refused (Err (faults.Refused refusal)) (rejections.Refused other) founding call o front is gives =
    let all = may_give_some o in
    let same : refusal ≡ other = cc in
    (all.0, all.1, subst (λ (c : Result Head HttpRefusal). HeadSays founding c (front ++ all.0) (Err refusal)) (sym gives) (ap Err same))

-- a line of the list is faulty
pub list_refused : (result : Result Request MessageFault) (fault : ReadFault) (whole : Bool) (reader : Reader) (founding : ℕ) (caller key org : List ℕ) (vendor : Option ℕ)
    → IsErrAnd result (λ y. y ≡ of_list fault) → whole ≡ true → ((t : List ℕ) → WasFed reader t → ReadsAs t (Err fault))
    → IfSaid result (λ said. (count : ℕ) (rest : List ℕ) → IsFed whole reader count rest → BodySays founding (endpoints.Imports org vendor) caller key (body_in count rest) said)
list_refused (Ok x) fault whole reader founding caller key org vendor is came reads = absurd is
list_refused (Err faults.Broken) fault whole reader founding caller key org vendor is came reads = tt
list_refused (Err faults.NoMemory) fault whole reader founding caller key org vendor is came reads = tt
list_refused (Err (faults.Refused refusal)) fault false reader founding caller key org vendor is came reads = absurd cc
list_refused (Err (faults.Refused refusal)) lists.NoMemory true reader founding caller key org vendor is came reads = absurd cc
list_refused (Err (faults.Refused refusal)) (lists.Line fault) true reader founding caller key org vendor is came reads = λ count rest fed.
    let same : refusal ≡ Wire (BadList fault) = cc in
    subst (λ (body : Result (List ℕ) HttpRefusal). BodySays founding (endpoints.Imports org vendor) caller key body (Err refusal)) (sym fed.1) (inr (fault.line, fault.why, reads fed.0 fed.2, ap Err same))
