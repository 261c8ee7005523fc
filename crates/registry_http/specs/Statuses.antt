-- The statuses of refusals and replies.
use Rattle.std.specs.Prelude.{ℕ}
use Rattle.registry_rules.specs.declared.refusal.Refusal.{Refusal}
use Rattle.registry_rules.specs.declared.refusal.Refusal.TheVariants as rules
use Rattle.registry_rules.specs.declared.verdict.Reply.{Reply}
use Rattle.registry_rules.specs.declared.verdict.Reply.TheVariants.{Done, Refused}
use Rattle.registry_wire.specs.declared.refusal.WireRefusal.{WireRefusal}
use Rattle.registry_wire.specs.declared.refusal.WireRefusal.TheVariants.{BadJson, BadField, BadList, BadFounding}
use Rattle.registry_http.specs.declared.refusal.HttpRefusal.{HttpRefusal}
use Rattle.registry_http.specs.declared.refusal.HttpRefusal.TheVariants.{BadHead, BadLength, TooLarge, ShortBody, NoRoute, WrongMethod, BadHeader, StoreFault, NoMemory, Wire}

-- the status of a refusal of a body
abbrev pub wire_status : WireRefusal → ℕ
wire_status BadJson = 400
wire_status (BadField field) = 422
wire_status (BadList fault) = 422
wire_status (BadFounding fault) = 422

-- the status of a refusal before the rules
abbrev pub refusal_status : HttpRefusal → ℕ
refusal_status BadHead = 400
refusal_status BadLength = 411
refusal_status TooLarge = 413
refusal_status ShortBody = 400
refusal_status NoRoute = 404
refusal_status (WrongMethod allow) = 405
refusal_status (BadHeader header) = 400
refusal_status StoreFault = 503
refusal_status NoMemory = 503
refusal_status (Wire refusal) = wire_status refusal

-- the status of a refusal by the rules: 409, except for these
abbrev pub rule_status : Refusal → ℕ
rule_status rules.NotCurator = 403
rule_status rules.NotKeeper = 403
rule_status rules.NoOrg = 404
rule_status rules.NoPetition = 404
rule_status rules.NoVendor = 404
rule_status rules.LicenceUnknown = 422
rule_status rules.ImportTooLong = 422
rule_status _ = 409

abbrev pub reply_status : Reply → ℕ
reply_status (Done text) = 200
reply_status (Refused refusal) = rule_status refusal
