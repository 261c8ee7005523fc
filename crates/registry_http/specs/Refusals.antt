-- The refusals of a message that come before the registry is asked, and the faults of reading one.
use Rattle.std.specs.Prelude.{ℕ, List, codes, ⊤, Option, Some, None, Result, Ok, Err}
use Rattle.serde_json.specs.Data.{Data}
use Rattle.registry_rules.specs.Reply.{name_and_detail}
use Rattle.registry_rules.specs.declared.rejection.Rejection.{Rejection}
use Rattle.registry_rules.specs.declared.rejection.Rejection.TheVariants as rejections
use Rattle.usbids_text.specs.declared.fault.ReadFault.{ReadFault}
use Rattle.usbids_text.specs.declared.fault.ReadFault.TheVariants as lists
use Rattle.registry_wire.specs.declared.refusal.WireRefusal.{WireRefusal}
use Rattle.registry_wire.specs.declared.refusal.WireRefusal.TheVariants.{BadList}
use Rattle.registry_wire.specs.Replies.{refused_data, wire_refusal_number, wire_refusal_name, wire_refusal_detail}
use Rattle.registry_http.specs.declared.fault.MessageFault.{MessageFault}
use Rattle.registry_http.specs.declared.fault.MessageFault.TheVariants as faults
use Rattle.registry_http.specs.declared.fault.StreamFault.{StreamFault}
use Rattle.registry_http.specs.declared.fault.StreamFault.TheVariants as streams
use Rattle.registry_http.specs.declared.refusal.Header.{Header}
use Rattle.registry_http.specs.declared.refusal.Header.TheVariants as headers
use Rattle.registry_http.specs.declared.refusal.HttpRefusal.{HttpRefusal}
use Rattle.registry_http.specs.declared.refusal.HttpRefusal.TheVariants.{BadHead, BadLength, TooLarge, ShortBody, NoRoute, WrongMethod, BadHeader, StoreFault, NoMemory, Wire}

-- the name of a header
abbrev pub header_name : Header → List ℕ
header_name headers.Caller = codes "registry-caller"
header_name headers.Key = codes "registry-key"
header_name headers.Time = codes "registry-time"

-- the number of a refusal
abbrev pub http_refusal_number : HttpRefusal → ℕ
http_refusal_number BadHead = 20
http_refusal_number BadLength = 21
http_refusal_number TooLarge = 22
http_refusal_number ShortBody = 23
http_refusal_number NoRoute = 24
http_refusal_number (WrongMethod allow) = 25
http_refusal_number (BadHeader header) = 26
http_refusal_number StoreFault = 30
http_refusal_number NoMemory = 31
http_refusal_number (Wire refusal) = wire_refusal_number refusal

-- the name of a refusal
abbrev pub http_refusal_name : HttpRefusal → List ℕ
http_refusal_name BadHead = codes "BadHead"
http_refusal_name BadLength = codes "BadLength"
http_refusal_name TooLarge = codes "TooLarge"
http_refusal_name ShortBody = codes "ShortBody"
http_refusal_name NoRoute = codes "NoRoute"
http_refusal_name (WrongMethod allow) = codes "WrongMethod"
http_refusal_name (BadHeader header) = codes "BadHeader"
http_refusal_name StoreFault = codes "StoreFault"
http_refusal_name NoMemory = codes "NoMemory"
http_refusal_name (Wire refusal) = wire_refusal_name refusal

-- the name of the bad header, or the detail of the body's refusal
abbrev pub http_refusal_detail : HttpRefusal → Option (List ℕ)
http_refusal_detail (BadHeader header) = Some (header_name header)
http_refusal_detail (Wire refusal) = wire_refusal_detail refusal
http_refusal_detail _ = None

-- BadHead, or BadHeader: registry-key
abbrev pub http_refusal_text : HttpRefusal → List ℕ
http_refusal_text refusal = name_and_detail (http_refusal_name refusal) (http_refusal_detail refusal)

-- a refusal as JSON, in the form of a refused reply
abbrev pub http_refusal_data : HttpRefusal → Data
http_refusal_data refusal = refused_data (http_refusal_number refusal) (http_refusal_name refusal) (http_refusal_detail refusal)

-- the value, or the refusal if there is no value
abbrev pub found_or : {A : Type 0} → HttpRefusal → Option A → Result A HttpRefusal
found_or refusal None = Err refusal
found_or refusal (Some x) = Ok x

-- ---- why no message is read

-- the fault in a few words, or the text of the refusal
abbrev pub message_fault_text : MessageFault → List ℕ
message_fault_text faults.Broken = codes "the source failed"
message_fault_text faults.NoMemory = codes "out of memory"
message_fault_text (faults.Refused refusal) = http_refusal_text refusal

-- this holds of the value or the refusal, unless the source failed or memory ran out
abbrev pub IfSaid : {A : Type 0} → Result A MessageFault → (Result A HttpRefusal → Type 0) → Type 0
IfSaid (Ok x) P = P (Ok x)
IfSaid (Err (faults.Refused refusal)) P = P (Err refusal)
IfSaid (Err faults.Broken) P = ⊤
IfSaid (Err faults.NoMemory) P = ⊤

-- the fault of a message, from that of its source
abbrev pub of_stream : StreamFault → MessageFault
of_stream streams.Broken = faults.Broken
of_stream streams.NoMemory = faults.NoMemory

-- from that of its head
abbrev pub of_message : Rejection HttpRefusal → MessageFault
of_message (rejections.Refused refusal) = faults.Refused refusal
of_message rejections.NoMemory = faults.NoMemory

-- from that of its JSON
abbrev pub of_wire : Rejection WireRefusal → MessageFault
of_wire (rejections.Refused refusal) = faults.Refused (Wire refusal)
of_wire rejections.NoMemory = faults.NoMemory

-- from that of its list
abbrev pub of_list : ReadFault → MessageFault
of_list (lists.Line fault) = faults.Refused (Wire (BadList fault))
of_list lists.NoMemory = faults.NoMemory
