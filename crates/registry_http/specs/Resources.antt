-- The responses to queries for a number, an organisation, a petition or the head of the record.
use Rattle.std.specs.Prelude.{ℕ, ◌==◌, List, codes, Bool, Option, Some, None, option_map, if◌then◌else◌}
use Rattle.serde_json.specs.Data.{Members, number, unsigned, object, put, no_members}
use Rattle.serde_json.specs.Written.{compact_text}
use Rattle.usbnum_core.specs.Number.{digits_of}
use Rattle.registry_rules.specs.declared.record.Entry.{Entry}
use Rattle.registry_rules.specs.declared.record.Org.{Org}
use Rattle.registry_rules.specs.declared.record.Petition.{Petition}
use Rattle.registry_rules.specs.declared.record.PetitionState.{PetitionState}
use Rattle.registry_rules.specs.declared.record.PetitionTimes.{PetitionTimes}
use Rattle.registry_rules.specs.declared.record.PetitionState.TheVariants.{Open, Granted, Declined, Withdrawn}
use Rattle.registry_rules.specs.declared.record.Terms.{Terms}
use Rattle.registry_rules.specs.declared.refusal.Refusal.TheVariants.{NoOrg, NoPetition}
use Rattle.registry_rules.specs.declared.verdict.Reply.TheVariants.{Refused}
use Rattle.registry_http.specs.declared.response.Response.{Response}
use Rattle.registry_http.specs.Objects.{put_text, put_if}
use Rattle.registry_http.specs.Responses.{json_response, reply_response}

-- status 200, with an object of these members
unfoldable pub found_response : Members → Response
found_response members = json_response 200 None (compact_text (object members))

abbrev pub put_terms : Terms → Members → Members
put_terms terms members = put_text (codes "licence") terms.licence (put_text (codes "site") terms.site (put_text (codes "source") terms.source members))

-- ---- a number

abbrev pub put_terms_if : Option Terms → Members → Members
put_terms_if None members = members
put_terms_if (Some terms) members = put_terms terms members

abbrev pub held_text : Bool → List ℕ
held_text held = if held then codes "held" else codes "returned"

-- its owner and card, without terms if the card has none
unfoldable pub put_entry : Entry → Members → Members
put_entry entry members =
    put_terms_if entry.card.terms (put_text (codes "org") entry.org (put_text (codes "title") entry.card.title (put_text (codes "state") (held_text entry.held) members)))

abbrev pub put_owned : Option Entry → Members → Members
put_owned None members = put_text (codes "state") (codes "free") members
put_owned (Some entry) members = put_entry entry members

-- the first of these states that applies: reserved, held or returned, free
abbrev pub put_state : Bool → Option Entry → Members → Members
put_state reserved entry members = if reserved then put_text (codes "state") (codes "reserved") members else put_owned entry members

-- a number, with its vendor if the query names one
unfoldable pub number_members : Option ℕ → ℕ → Bool → Option Entry → Members
number_members vendor pid reserved entry =
    put_state reserved entry (put_text (codes "number") (digits_of pid) (put_if (codes "vendor") (option_map digits_of vendor) no_members))

unfoldable pub number_response : Option ℕ → ℕ → Bool → Option Entry → Response
number_response vendor pid reserved entry = found_response (number_members vendor pid reserved entry)

-- ---- an organisation

unfoldable pub org_members : Org → Members
org_members org = put_text (codes "keeper") org.keeper (put_text (codes "org") org.slug (put_text (codes "site") org.site (put_text (codes "title") org.title no_members)))

-- refusal 4 if there is no such organisation
abbrev pub org_response : Option Org → Response
org_response None = reply_response (Refused NoOrg)
org_response (Some org) = found_response (org_members org)

-- ---- a petition

abbrev pub state_text : PetitionState → List ℕ
state_text Open = codes "open"
state_text (Granted pid) = codes "granted"
state_text Declined = codes "declined"
state_text Withdrawn = codes "withdrawn"

abbrev pub granted_of : PetitionState → Option ℕ
granted_of Open = None
granted_of (Granted pid) = Some pid
granted_of Declined = None
granted_of Withdrawn = None

-- the vendor, if it is not the founding one
abbrev pub other_vendor : ℕ → ℕ → Option ℕ
other_vendor founding vid = if vid == founding then None else Some vid

-- the members of every petition
unfoldable pub put_asked : ℕ → Petition → Members → Members
put_asked id petition members =
    put_terms petition.terms
    (put (codes "id") (number (unsigned id))
    (put_text (codes "org") petition.org
    (put_text (codes "state") (state_text petition.state)
    (put_text (codes "title") petition.title members))))

-- the vendor, the wanted number and the granted number
unfoldable pub put_numbers : ℕ → Petition → Members → Members
put_numbers founding petition members =
    put_if (codes "granted") (option_map digits_of (granted_of petition.state))
    (put_if (codes "want") (option_map digits_of petition.want)
    (put_if (codes "vendor") (option_map digits_of (other_vendor founding petition.vid)) members))

-- the times at which it was opened and closed
unfoldable pub put_times : PetitionTimes → Members → Members
put_times times members = put_if (codes "closed") times.closed (put_if (codes "opened") times.opened members)

-- the reason why it was declined too, if one was given, and the times
unfoldable pub petition_members : ℕ → ℕ → Petition → Option (List ℕ) → PetitionTimes → Members
petition_members founding id petition reason times = put_times times (put_if (codes "reason") reason (put_numbers founding petition (put_asked id petition no_members)))

-- refusal 6 if there is no such petition
abbrev pub petition_response : ℕ → ℕ → Option Petition → Option (List ℕ) → PetitionTimes → Response
petition_response founding id None reason times = reply_response (Refused NoPetition)
petition_response founding id (Some petition) reason times = found_response (petition_members founding id petition reason times)

-- ---- the head of the record

-- how many requests were accepted, the digest of the record, and the time of the last request, if it has one
unfoldable pub head_response : ℕ → List ℕ → Option (List ℕ) → Response
head_response requests digest time = found_response (put_if (codes "time") time (put_text (codes "digest") digest (put (codes "requests") (number (unsigned requests)) no_members)))
