-- Replies and refusals as JSON.
use Rattle.std.specs.Prelude.{ℕ, List, codes, Option, Some, None}
use Rattle.serde_json.specs.Data.{Data, string, number, unsigned, object, Members, member, no_members}
use Rattle.registry_rules.specs.declared.verdict.Reply.{Reply}
use Rattle.registry_rules.specs.declared.verdict.Reply.TheVariants.{Done, Refused}
use Rattle.registry_rules.specs.Reply.{refusal_number, refusal_name, refusal_detail, name_and_detail}
use Rattle.usbids_text.specs.Faults.{line_fault_text}
use Rattle.registry_wire.specs.declared.refusal.WireRefusal.{WireRefusal}
use Rattle.registry_wire.specs.declared.refusal.WireRefusal.TheVariants.{BadJson, BadField, BadList, BadFounding}
use Rattle.registry_wire.specs.Names.{fault_name}
use Rattle.registry_wire.specs.Reading.{field_name}

-- the number of a refusal
abbrev pub wire_refusal_number : WireRefusal → ℕ
wire_refusal_number BadJson = 27
wire_refusal_number (BadField field) = 28
wire_refusal_number (BadList fault) = 29
wire_refusal_number (BadFounding fault) = 32

-- the name of a refusal
abbrev pub wire_refusal_name : WireRefusal → List ℕ
wire_refusal_name BadJson = codes "BadJson"
wire_refusal_name (BadField field) = codes "BadField"
wire_refusal_name (BadList fault) = codes "BadList"
wire_refusal_name (BadFounding fault) = codes "BadFounding"

-- the name of the bad field, the faulty line of a list, or the bad key of a founding file
abbrev pub wire_refusal_detail : WireRefusal → Option (List ℕ)
wire_refusal_detail (BadField field) = Some (field_name field)
wire_refusal_detail (BadList fault) = Some (line_fault_text fault)
wire_refusal_detail (BadFounding fault) = Some (fault_name fault)
wire_refusal_detail BadJson = None

-- BadJson, or BadField: title
abbrev pub wire_refusal_text : WireRefusal → List ℕ
wire_refusal_text refusal = name_and_detail (wire_refusal_name refusal) (wire_refusal_detail refusal)

abbrev pub with_detail : Option (List ℕ) → Members → Members
with_detail None others = others
with_detail (Some detail) others = member (codes "detail") (string detail) others

-- {"name":NAME,"refused":NUMBER}, or {"detail":DETAIL,"name":NAME,"refused":NUMBER}
abbrev pub refused_data : ℕ → List ℕ → Option (List ℕ) → Data
refused_data refused name detail = object (with_detail detail (member (codes "name") (string name) (member (codes "refused") (number (unsigned refused)) no_members)))

abbrev pub refusal_data : WireRefusal → Data
refusal_data refusal = refused_data (wire_refusal_number refusal) (wire_refusal_name refusal) (wire_refusal_detail refusal)

-- {"done":TEXT}, or the refusal
abbrev pub reply_data : Reply → Data
reply_data (Done text) = object (member (codes "done") (string text) no_members)
reply_data (Refused refusal) = refused_data (refusal_number refusal) (refusal_name refusal) (refusal_detail refusal)
