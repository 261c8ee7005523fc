-- The served paths, and the query or endpoint of each.
use Rattle.std.specs.Prelude.{ℕ, ◌≡◌, ◌==◌, nat_lt, List, [], ◌∷◌, length, take, position, unwrap_or, bytes_eq, codes, Bool, false, Option, Some, None, option_and_then, option_map, Result, Ok, Err, if◌then◌else◌}
use Rattle.std.specs.List.{list_all}
use Rattle.matchit.specs.Rows.{RowsOf}
use Rattle.matchit.specs.Order.{placed}
use Rattle.matchit.specs.Route.{Scan, parse_route}
use Rattle.matchit.specs.Router.{RouteOf, route_from}
use Rattle.matchit.specs.Params.{walk}
use Rattle.matchit.specs.Seek.{first}
use Rattle.matchit.specs.declared.error.InsertError.{InsertError}
use Rattle.usbnum_core.specs.Number.{number_of}
use Rattle.registry_http.specs.Fields.{length_of}
use Rattle.registry_wire.specs.Kinds.{slug_of}
use Rattle.registry_reports.specs.Kinds.{report_named}
use Rattle.registry_http.specs.declared.routes.Template.{Template}
use Rattle.registry_http.specs.declared.routes.Template.TheVariants as at
use Rattle.registry_http.specs.declared.route.Query.TheVariants as queries
use Rattle.registry_http.specs.declared.route.Endpoint.TheVariants as endpoints
use Rattle.registry_http.specs.declared.route.Route.{Route}
use Rattle.registry_http.specs.declared.route.Route.TheVariants.{Get, Post}

abbrev pub Templates : Type 0
Templates = RowsOf (RouteOf Template)

abbrev pub with_read : Result Scan InsertError → Template → Templates → Templates
with_read (Ok s) value old = placed (s.pattern, route_from s value) old
with_read (Err e) value old = old

-- adds a served path
unfoldable pub with_template : List ℕ → Template → Templates → Templates
with_template text value old = with_read (parse_route text) value old

-- the served paths
unfoldable pub templates : Templates
templates =
    with_template (codes "/reports/{name}") at.Reports
    (with_template (codes "/petitions/{id}") at.Petitions
    (with_template (codes "/orgs/{org}") at.Orgs
    (with_template (codes "/numbers/{vid}/{pid}") at.VendorNumbers
    (with_template (codes "/numbers/{pid}") at.Numbers
    (with_template (codes "/list") at.List
    (with_template (codes "/imports/{org}/{vid}") at.VendorImports
    (with_template (codes "/imports/{org}") at.Imports
    (with_template (codes "/history/{n}") at.History
    (with_template (codes "/history/founding") at.FirstFounding
    (with_template (codes "/head") at.Head
    (with_template (codes "/founding") at.Founding
    (with_template (codes "/commands") at.Commands []))))))))))))

-- the next of the remaining parts
abbrev pub NextPart : List (List ℕ × List ℕ) → Option (List ℕ) → List (List ℕ × List ℕ) → Type 0
NextPart old None new = old ≡ []
NextPart old (Some part) new = (name : List ℕ) × (old ≡ (name, part) ∷ new)

abbrev pub head_part : List (List ℕ × List ℕ) → Option (List ℕ)
head_part [] = None
head_part (p ∷ rest) = Some p.1

abbrev pub tail_parts : List (List ℕ × List ℕ) → List (List ℕ × List ℕ)
tail_parts [] = []
tail_parts (p ∷ rest) = rest

-- the first two parts of a path
abbrev pub first_two : List (List ℕ × List ℕ) → Option (List ℕ) × Option (List ℕ)
first_two parts = (head_part parts, head_part (tail_parts parts))

-- the number of a petition: 1 to 4,294,967,295 in decimal, without leading zeros
abbrev pub starts_with_zero : List ℕ → Bool
starts_with_zero [] = false
starts_with_zero (b ∷ bytes) = b == 48

abbrev pub below_2_32 : ℕ → Option ℕ
below_2_32 n = if nat_lt n 4294967296 then Some n else None

unfoldable pub petition_written : List ℕ → Option ℕ
petition_written text = if starts_with_zero text then None else option_and_then below_2_32 (length_of text)

-- a count of requests: 0 to 4,294,967,295 in decimal, without leading zeros
unfoldable pub count_written : List ℕ → Option ℕ
count_written text = if bytes_eq text (codes "0") then Some 0 else petition_written text

unfoldable pub number_route : Option (List ℕ) → Option Route
number_route part = option_map (λ pid. Get (queries.Number None pid)) (option_and_then number_of part)

unfoldable pub vendor_number_route : Option (List ℕ) → Option (List ℕ) → Option Route
vendor_number_route vendor part = option_and_then (λ vid. option_map (λ pid. Get (queries.Number (Some vid) pid)) (option_and_then number_of part)) (option_and_then number_of vendor)

unfoldable pub import_route : Option (List ℕ) → Option Route
import_route part = option_map (λ org. Post (endpoints.Imports org None)) (option_and_then slug_of part)

unfoldable pub vendor_import_route : Option (List ℕ) → Option (List ℕ) → Option Route
vendor_import_route part vendor = option_and_then (λ org. option_map (λ vid. Post (endpoints.Imports org (Some vid))) (option_and_then number_of vendor)) (option_and_then slug_of part)

unfoldable pub org_route : Option (List ℕ) → Option Route
org_route part = option_map (λ org. Get (queries.Org org)) (option_and_then slug_of part)

unfoldable pub petition_route : Option (List ℕ) → Option Route
petition_route part = option_map (λ id. Get (queries.Petition id)) (option_and_then petition_written part)

unfoldable pub history_route : Option (List ℕ) → Option Route
history_route part = option_map (λ n. Get (queries.History n)) (option_and_then count_written part)

unfoldable pub report_route : Option (List ℕ) → Option Route
report_route part = option_map (λ report. Get (queries.Report report)) (option_and_then report_named part)

-- the route of a path with this template and these parts
abbrev pub route_for : Template → Option (List ℕ) → Option (List ℕ) → Option Route
route_for at.Commands one two = Some (Post endpoints.Commands)
route_for at.Founding one two = Some (Get queries.Founding)
route_for at.FirstFounding one two = Some (Get queries.FirstFounding)
route_for at.Head one two = Some (Get queries.Head)
route_for at.History one two = history_route one
route_for at.Imports one two = import_route one
route_for at.VendorImports one two = vendor_import_route one two
route_for at.List one two = Some (Get queries.List)
route_for at.Numbers one two = number_route one
route_for at.VendorNumbers one two = vendor_number_route one two
route_for at.Orgs one two = org_route one
route_for at.Petitions one two = petition_route one
route_for at.Reports one two = report_route one

abbrev pub parts_of : List ℕ → RouteOf Template → List (List ℕ × List ℕ)
parts_of path template = walk template.pattern template.text path template.names 0 0

abbrev pub route_at : List ℕ → RouteOf Template → Option Route
route_at path template = route_for template.value (first_two (parts_of path template)).0 (first_two (parts_of path template)).1

-- the route of a path, if it is served
unfoldable pub route_of_path : List ℕ → Option Route
route_of_path path = option_and_then (route_at path) (first templates path)

abbrev pub is_ascii : ℕ → Bool
is_ascii b = nat_lt b 128

abbrev pub is_question_mark : ℕ → Bool
is_question_mark b = b == 63

unfoldable pub path_end : List ℕ → ℕ
path_end target = unwrap_or (position is_question_mark target) (length target)

-- the target up to its first question mark
abbrev pub path_of : List ℕ → List ℕ
path_of target = take (path_end target) target

abbrev pub ascii_path : List ℕ → Option (List ℕ)
ascii_path path = if list_all is_ascii path then Some path else None

-- the route of a target; served paths have only ASCII bytes
unfoldable pub route_of : List ℕ → Option Route
route_of target = option_and_then route_of_path (ascii_path (path_of target))
