-- The query or order that the head of a message asks for.
use Rattle.std.specs.Prelude.{ℕ, List, map, bytes_eq, codes, nat_le, Bool, Option, None, option_and_then, option_map, Some, Result, Ok, Err, if◌then◌else◌}
use Rattle.std.specs.List.{list_any}
use Rattle.httparse.specs.Grammar.{RequestHead}
use Rattle.httparse.specs.Spans.{name_and_value}
use Rattle.registry_rules.specs.Checks.{◌>>=◌}
use Rattle.registry_http.specs.Refusals.{found_or, header_name}
use Rattle.registry_wire.specs.Kinds.{slug_of, key_of, time_of}
use Rattle.registry_http.specs.Limits.{most_command, most_list}
use Rattle.registry_http.specs.Fields.{is_same_name, values_of, only, length_of}
use Rattle.registry_http.specs.Routes.{route_of}
use Rattle.registry_http.specs.declared.refusal.HttpRefusal.{HttpRefusal}
use Rattle.registry_http.specs.declared.refusal.HttpRefusal.TheVariants.{NoRoute, WrongMethod, BadLength, TooLarge, BadHeader}
use Rattle.registry_http.specs.declared.refusal.Allow.TheVariants as allowed
use Rattle.registry_http.specs.declared.refusal.Header.{Header}
use Rattle.registry_http.specs.declared.refusal.Header.TheVariants.{Caller, Key, Time}
use Rattle.registry_http.specs.declared.route.Route.{Route}
use Rattle.registry_http.specs.declared.route.Route.TheVariants.{Get, Post}
use Rattle.registry_http.specs.declared.route.Endpoint.{Endpoint}
use Rattle.registry_http.specs.declared.route.Endpoint.TheVariants as endpoints
use Rattle.registry_http.specs.declared.reading.Head.{Head}
use Rattle.registry_http.specs.declared.reading.Head.TheVariants as heads

abbrev pub Fields : Type 0
Fields = List (List ℕ × List ℕ)

-- whether a field has this name
abbrev pub has_field : List ℕ → Fields → Bool
has_field name fields = list_any (λ field. is_same_name name field.0) fields

-- the body's length: no transfer-encoding, exactly one content-length, and its value is 1 to 10 digits
abbrev pub length_in : Fields → Option ℕ
length_in fields = if has_field (codes "transfer-encoding") fields then None else option_and_then length_of (only (values_of (codes "content-length") fields))

-- the value of the only field with the name of this header
abbrev pub header_in : Header → Fields → Option (List ℕ)
header_in header fields = only (values_of (header_name header) fields)

-- the time, if there is a field with its name
abbrev pub time_in_fields : Fields → Result (Option (List ℕ)) HttpRefusal
time_in_fields fields = if has_field (header_name Time) fields then found_or (BadHeader Time) (option_map Some (option_and_then time_of (header_in Time fields))) else Ok None

-- the most bytes that a body may have
abbrev pub body_limit : Endpoint → ℕ
body_limit endpoints.Commands = most_command
body_limit (endpoints.Imports org vendor) = most_list

abbrev pub within : ℕ → ℕ → Result ℕ HttpRefusal
within most length = if nat_le length most then Ok length else Err TooLarge

-- an order: checks its length (21, 22), then its caller, then its key, then its time (26)
unfoldable pub order_head : Endpoint → Fields → Result Head HttpRefusal
order_head endpoint fields = do
  wanted ← found_or BadLength (length_in fields)
  length ← within (body_limit endpoint) wanted
  caller ← found_or (BadHeader Caller) (option_and_then slug_of (header_in Caller fields))
  key ← found_or (BadHeader Key) (option_and_then key_of (header_in Key fields))
  time ← time_in_fields fields
  Ok (heads.Order (record { endpoint = endpoint; length = length; caller = caller; key = key; time = time }))

unfoldable pub head_for : Route → List ℕ → Fields → Result Head HttpRefusal
head_for (Get query) method fields = if bytes_eq method (codes "GET") then Ok (heads.Query query) else Err (WrongMethod allowed.Get)
head_for (Post endpoint) method fields = if bytes_eq method (codes "POST") then order_head endpoint fields else Err (WrongMethod allowed.Post)

-- checks the path (24), then the method (25), then the parts of an order
unfoldable pub routed_head : List ℕ → List ℕ → Fields → Result Head HttpRefusal
routed_head method target fields = do
  route ← found_or NoRoute (route_of target)
  head_for route method fields

-- the query or order that a head asks for, or its first fault
abbrev pub head_reading : RequestHead → Result Head HttpRefusal
head_reading head = routed_head head.method head.target (map name_and_value head.fields)
