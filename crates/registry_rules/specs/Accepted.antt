-- The record of a history: its accepted requests with their replies.
use Rattle.std.specs.Prelude.{List, [], ◌∷◌, ◌++◌, IfSome, All}
use Rattle.usbnum_core.specs.Text.{IsSlug, IsKey, IsTime}
use Rattle.registry_rules.specs.Orders.{IsOrder}
use Rattle.registry_rules.specs.Reply.{act_text}
use Rattle.registry_rules.specs.Run.{request_of}
use Rattle.registry_rules.specs.declared.accepted.Accepted.{Accepted}
use Rattle.registry_rules.specs.declared.deed.Deed.{Deed}

-- the accepted request of a deed, and its reply
abbrev pub accepted_by : Deed → Accepted
accepted_by deed = record { request = request_of deed; reply = act_text deed.act }

-- the accepted requests of the deeds, oldest first
abbrev pub accepted_of : List Deed → List Accepted
accepted_of [] = []
accepted_of (deed ∷ earlier) = accepted_of earlier ++ accepted_by deed ∷ []

-- the request of a deed has valid fields
pub record IsValid (deed : Deed) : Type 0 where
  pub caller : IsSlug deed.caller
  pub key : IsKey deed.key
  pub order : IsOrder deed.order
  pub time : IfSome deed.time IsTime

-- each request has
abbrev pub AreValid : List Deed → Type 0
AreValid = All IsValid
