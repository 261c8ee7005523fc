-- The bytes of a response.
use Rattle.std.specs.Prelude.{ℕ, ◌≡◌, ◌⊎◌, List, [], ◌∷◌, ◌++◌, codes, decimal, length, unwrap_or, Option, Some, None}
use Rattle.http.specs.StatusCode.{reason_phrase}
use Rattle.serde_json.specs.Written.{compact_text}
use Rattle.registry_rules.specs.declared.verdict.Reply.{Reply}
use Rattle.registry_wire.specs.Replies.{reply_data}
use Rattle.registry_http.specs.declared.refusal.Allow.{Allow}
use Rattle.registry_http.specs.declared.refusal.Allow.TheVariants.{Get, Post}
use Rattle.registry_http.specs.declared.refusal.HttpRefusal.{HttpRefusal}
use Rattle.registry_http.specs.declared.refusal.HttpRefusal.TheVariants as refusals
use Rattle.registry_http.specs.declared.response.Response.{Response}
use Rattle.registry_http.specs.declared.response.ContentType.{ContentType}
use Rattle.registry_http.specs.declared.response.ContentType.TheVariants.{Json, Text}
use Rattle.registry_http.specs.declared.unavailable.Unavailable.{Unavailable}
use Rattle.registry_http.specs.declared.unavailable.Unavailable.TheVariants.{StoreFault, NoMemory}
use Rattle.registry_http.specs.Refusals.{http_refusal_data}
use Rattle.registry_http.specs.Statuses.{refusal_status, reply_status}

-- ---- the head

abbrev pub crlf : List ℕ
crlf = 13 ∷ 10 ∷ []

-- appends a field line
unfoldable pub with_field : List ℕ → List ℕ → List ℕ → List ℕ
with_field text name value = text ++ (name ++ (codes ": " ++ (value ++ crlf)))

unfoldable pub phrase_of : ℕ → List ℕ
phrase_of status = unwrap_or (reason_phrase status) []

-- for example `HTTP/1.1 200 OK`
unfoldable pub status_line : ℕ → List ℕ
status_line status = codes "HTTP/1.1 " ++ (decimal status ++ (codes " " ++ (phrase_of status ++ crlf)))

abbrev pub content_type_text : ContentType → List ℕ
content_type_text Json = codes "application/json"
content_type_text Text = codes "text/plain; charset=utf-8"

abbrev pub allow_text : Allow → List ℕ
allow_text Get = codes "GET"
allow_text Post = codes "POST"

-- appends the allowed method, if the message has a wrong one
abbrev pub with_allow : List ℕ → Option Allow → List ℕ
with_allow text None = text
with_allow text (Some allow) = with_field text (codes "allow") (allow_text allow)

-- appends the digest that a page of the record continues, if it continues one
abbrev pub with_digest : List ℕ → Option (List ℕ) → List ℕ
with_digest text None = text
with_digest text (Some digest) = with_field text (codes "registry-digest") digest

-- the head of a response whose body has `count` bytes
unfoldable pub head_lines : ℕ → ContentType → ℕ → Option Allow → Option (List ℕ) → List ℕ
head_lines status content_type count allow digest =
    with_field (with_digest (with_allow (with_field (with_field (status_line status) (codes "content-type") (content_type_text content_type)) (codes "content-length") (decimal count)) allow) digest) (codes "connection") (codes "close") ++ crlf

-- ---- the whole

abbrev pub response_head : Response → List ℕ
response_head response = head_lines response.status response.content_type (length response.body) response.allow response.digest

unfoldable pub response_bytes : Response → List ℕ
response_bytes response = response_head response ++ response.body

-- a JSON response, which ends in a line feed
unfoldable pub json_response : ℕ → Option Allow → List ℕ → Response
json_response status allow text = record { status = status; content_type = Json; allow = allow; digest = None; body = text ++ 10 ∷ [] }

-- the response to an order
unfoldable pub reply_response : Reply → Response
reply_response reply = json_response (reply_status reply) None (compact_text (reply_data reply))

-- the method that the path allows, if the message has a wrong one
abbrev pub allow_in : HttpRefusal → Option Allow
allow_in (refusals.WrongMethod allow) = Some allow
allow_in _ = None

-- the response to a message that is refused before the registry is asked
unfoldable pub refusal_response : HttpRefusal → Response
refusal_response refusal = json_response (refusal_status refusal) (allow_in refusal) (compact_text (http_refusal_data refusal))

-- a list or a report
unfoldable pub text_response : List ℕ → Response
text_response bytes = record { status = 200; content_type = Text; allow = None; digest = None; body = bytes }

-- a page of the record, and the digest that it continues
unfoldable pub page_response : List ℕ → Option (List ℕ) → Response
page_response bytes digest = record { status = 200; content_type = Text; allow = None; digest = digest; body = bytes }

-- ---- if the registry cannot be asked

abbrev pub unavailable_response : Unavailable → Response
unavailable_response StoreFault = refusal_response refusals.StoreFault
unavailable_response NoMemory = refusal_response refusals.NoMemory

unfoldable pub store_fault_bytes : List ℕ
store_fault_bytes = response_bytes (unavailable_response StoreFault)

unfoldable pub no_memory_bytes : List ℕ
no_memory_bytes = response_bytes (unavailable_response NoMemory)

-- the response itself, or the refusal that memory ran out for its head
abbrev pub IsInPlaceOf : Response → Response → Type 0
IsInPlaceOf written response = (written ≡ response) ⊎ (written ≡ unavailable_response NoMemory)
