-- The lines of a record, which are read back.
use Rattle.std.specs.Prelude.{◌≡◌, ℕ, List, [], ◌∷◌, map, All, None, IfSome, Result, Ok}
use Rattle.std.specs.Str.{IsUtf8}
use Rattle.usbnum_core.specs.Number.{IsId}
use Rattle.usbnum_core.specs.Spans.{IsSpread}
use Rattle.usbnum_core.specs.Text.{IsSlug, IsKey, IsTitle, IsTime}
use Rattle.registry_rules.specs.Accepted.{AreValid, accepted_of}
use Rattle.registry_rules.specs.History.{History, founded}
use Rattle.registry_rules.specs.Laws.{requests_of_record, replies_in}
use Rattle.registry_rules.specs.Orders.{IsOrder}
use Rattle.registry_rules.specs.Run.{Legal, after, replies_to}
use Rattle.registry_rules.specs.Texts.{IsCurators, IsLicences}
use Rattle.registry_rules.specs.declared.accepted.Accepted.{Accepted}
use Rattle.registry_rules.specs.declared.founding.Founding.{Founding}
use Rattle.registry_rules.specs.declared.order.Request.{Request}
use Rattle.registry_wire.specs.Record.{accepted_line, founding_line, record_reading}
use Rattle.registry_wire.specs.Digests.{line_digest, digest_of}
use Rattle.registry_wire.specs.declared.record.RecordLine.{RecordLine}
use Rattle.registry_wire.specs.declared.record.RecordLine.TheVariants as lines
use Rattle.registry_wire.specs.declared.refusal.WireRefusal.{WireRefusal}

-- the invariants of an accepted request with its reply
pub record IsAccepted (accepted : Accepted) : Type 0 where
  pub caller : IsSlug accepted.request.caller
  pub key : IsKey accepted.request.key
  pub order : IsOrder accepted.request.order
  pub time : IfSome accepted.request.time IsTime
  pub reply : IsUtf8 accepted.reply

-- the invariants of a founding
pub record IsValidFounding (founding : Founding) : Type 0 where
  pub vendor : IsId founding.vendor
  pub name : IsTitle founding.name
  pub curators : IsCurators founding.curators
  pub slugs : All IsSlug founding.curators
  pub licences : IsLicences founding.licences
  pub titles : All IsTitle founding.licences
  pub fixed : IsSpread 1 founding.fixed

-- the line of an accepted request is read as that request with its reply, and has no digest
abbrev pub ReadsAccepted : Type 0
ReadsAccepted = (accepted : Accepted) → IsAccepted accepted → record_reading (accepted_line accepted) ≡ Ok (lines.Accepted accepted None)

-- the line of a founding is read as that founding
abbrev pub ReadsFoundingLine : Type 0
ReadsFoundingLine = (founding : Founding) → IsValidFounding founding → record_reading (founding_line founding) ≡ Ok (lines.Founding founding)

-- different accepted requests have different lines
abbrev pub HasOwnLine : Type 0
HasOwnLine = (a b : Accepted) → IsAccepted a → IsAccepted b → accepted_line a ≡ accepted_line b → a ≡ b

-- different foundings have different lines
abbrev pub HasOwnFoundingLine : Type 0
HasOwnFoundingLine = (a b : Founding) → IsValidFounding a → IsValidFounding b → founding_line a ≡ founding_line b → a ≡ b

-- the lines of the record of a history, oldest first
abbrev pub record_of : History → List (List ℕ)
record_of h = founding_line h.founding ∷ map accepted_line (accepted_of h.deeds)

-- the digest of the last of these lines, each after the digest of the one before it
abbrev pub digest_of_lines : List ℕ → List (List ℕ) → List ℕ
digest_of_lines before [] = before
digest_of_lines before (line ∷ lines) = digest_of_lines (line_digest before line) lines

-- the digest of a history is that of the lines of its record
abbrev pub IsDigestOfRecord : Type 0
IsDigestOfRecord = (h : History) → digest_of h ≡ digest_of_lines [] (record_of h)

-- what is read from the lines of the record: the founding, and then each accepted request
abbrev pub readings_of : History → List (Result RecordLine WireRefusal)
readings_of h = Ok (lines.Founding h.founding) ∷ map (λ accepted. Ok (lines.Accepted accepted None)) (accepted_of h.deeds)

-- the lines of a record are read as what they were written for; a new registry with that founding, after those requests, has
-- the same history, and gives the same replies
pub record IsKeptWhole (h : History) : Type 0 where
  pub read : map record_reading (record_of h) ≡ readings_of h
  pub history : after (founded h.founding) (requests_of_record (accepted_of h.deeds)) ≡ h
  pub replies : replies_to (founded h.founding) (requests_of_record (accepted_of h.deeds)) ≡ replies_in (accepted_of h.deeds)

-- the record of a legal history keeps the whole history
abbrev pub KeepsWholeHistory : Type 0
KeepsWholeHistory = (h : History) → Legal h → IsValidFounding h.founding → All IsAccepted (accepted_of h.deeds) → IsKeptWhole h

-- the request has valid fields
pub record IsValidRequest (r : Request) : Type 0 where
  pub caller : IsSlug r.caller
  pub key : IsKey r.key
  pub order : IsOrder r.order
  pub time : IfSome r.time IsTime

-- a history whose requests have valid fields, after more requests with valid fields, is such a history; a founded one is
abbrev pub KeepsValid : Type 0
KeepsValid =
    ((founding : Founding) → AreValid (founded founding).deeds) × ((h : History) (rs : List Request) → AreValid h.deeds → All IsValidRequest rs → AreValid (after h rs).deeds)
