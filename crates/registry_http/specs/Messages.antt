-- The query, the request or the refusal in all bytes of a message.
--
-- Its faults are checked in this order, and the first is the refusal:
--   20 the first 8,192 bytes have no complete head of at most 64 fields
--   24 the path is not served, or a part of it is not a value of its kind
--   25 the path is served, but not with this method
--   21 the length of the body is not given exactly once, in 1 to 10 digits and without a transfer encoding
--   22 the body is longer than its path allows
--   26 the caller, then the key, is not given exactly once, or is not a value of its kind; then the time is given twice, or is none
--   23 the body ends early
--   27 and 28, or 29: the body is not an order in JSON, or not a list
use Rattle.std.specs.Prelude.{◌≡◌, ◌⊎◌, ℕ, List, Option, None, Result, Ok, Err}
use Rattle.httparse.specs.Grammar.{RequestHead}
use Rattle.usbids_text.specs.Entries.{TopEntry}
use Rattle.usbids_text.specs.Documents.{IsTextOf, FaultAt}
use Rattle.usbids_text.specs.declared.line.Why.{Why}
use Rattle.registry_rules.specs.declared.order.Request.{Request}
use Rattle.registry_wire.specs.Reading.{body_reading}
use Rattle.registry_wire.specs.Import.{import_of}
use Rattle.registry_wire.specs.declared.refusal.WireRefusal.{WireRefusal}
use Rattle.registry_wire.specs.declared.refusal.WireRefusal.TheVariants.{BadList}
use Rattle.registry_http.specs.declared.refusal.HttpRefusal.{HttpRefusal}
use Rattle.registry_http.specs.declared.refusal.HttpRefusal.TheVariants.{BadHead, Wire}
use Rattle.registry_http.specs.Heads.{HasHead, HasNoHead}
use Rattle.registry_http.specs.Bodies.{body_in}
use Rattle.registry_http.specs.Reading.{head_reading}
use Rattle.registry_http.specs.declared.route.Endpoint.{Endpoint}
use Rattle.registry_http.specs.declared.route.Endpoint.TheVariants as endpoints
use Rattle.registry_http.specs.declared.reading.Head.{Head}
use Rattle.registry_http.specs.declared.reading.Head.TheVariants as heads
use Rattle.registry_http.specs.declared.message.Message.{Message}
use Rattle.registry_http.specs.declared.message.Message.TheVariants as messages

-- the request to import the list of this text, or the refusal of its first faulty line
abbrev pub ListSays : ℕ → List ℕ → List ℕ → List ℕ → Option ℕ → List ℕ → Result Request HttpRefusal → Type 0
ListSays founding caller key org vendor body said =
    ((list : List TopEntry) × IsTextOf body list × (said ≡ Ok (import_of caller key org founding vendor list)))
    ⊎ ((n : ℕ) × (why : Why) × FaultAt body n why × (said ≡ Err (Wire (BadList (record { line = n; why = why })))))

-- a request in JSON, or its refusal as one of the message
abbrev pub as_order : Result Request WireRefusal → Result Request HttpRefusal
as_order (Ok request) = Ok request
as_order (Err refusal) = Err (Wire refusal)

-- the request in a complete body that was sent to this endpoint, still without its time, or a refusal
abbrev pub WholeBodySays : ℕ → Endpoint → List ℕ → List ℕ → List ℕ → Result Request HttpRefusal → Type 0
WholeBodySays founding endpoints.Commands caller key body said = said ≡ as_order (body_reading caller key None body)
WholeBodySays founding (endpoints.Imports org vendor) caller key body said = ListSays founding caller key org vendor body said

-- a body that ends early is refused before its bytes are read
abbrev pub BodySays : ℕ → Endpoint → List ℕ → List ℕ → Result (List ℕ) HttpRefusal → Result Request HttpRefusal → Type 0
BodySays founding endpoint caller key (Err refusal) said = said ≡ Err refusal
BodySays founding endpoint caller key (Ok body) said = WholeBodySays founding endpoint caller key body said

-- the message with a request of this time
abbrev pub as_message : Option (List ℕ) → Result Request HttpRefusal → Result Message HttpRefusal
as_message time (Ok request) = Ok (messages.Request (record request { time = time }))
as_message time (Err refusal) = Err refusal

-- the query or request of a head and all bytes after it, or the first fault
abbrev pub HeadSays : ℕ → Result Head HttpRefusal → List ℕ → Result Message HttpRefusal → Type 0
HeadSays founding (Err refusal) rest said = said ≡ Err refusal
HeadSays founding (Ok (heads.Query query)) rest said = said ≡ Ok (messages.Query query)
HeadSays founding (Ok (heads.Order order)) rest said =
    (request : Result Request HttpRefusal) × BodySays founding order.endpoint order.caller order.key (body_in order.length rest) request × (said ≡ as_message order.time request)

-- the query or request in all bytes that come, for a registry with this founding vendor, or the first fault
abbrev pub Says : ℕ → List ℕ → Result Message HttpRefusal → Type 0
Says founding bytes said =
    (HasNoHead bytes × (said ≡ Err BadHead))
    ⊎ ((head : RequestHead) × (rest : List ℕ) × HasHead bytes head rest × HeadSays founding (head_reading head) rest said)
