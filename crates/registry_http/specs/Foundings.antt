-- The response to a query for the founding.
use Rattle.std.specs.Prelude.{ℕ, List, map, codes}
use Rattle.serde_json.specs.Data.{Data, Members, string, array, object, put, no_members}
use Rattle.serde_json.specs.View.{items_of}
use Rattle.usbnum_core.specs.Number.{digits_of, range_text}
use Rattle.usbnum_core.specs.declared.number.Span.{Span}
use Rattle.registry_rules.specs.declared.founding.Founding.{Founding}
use Rattle.registry_rules.specs.declared.record.Vendor.{Vendor}
use Rattle.registry_http.specs.declared.response.Response.{Response}
use Rattle.registry_http.specs.Objects.{put_text}
use Rattle.registry_http.specs.Resources.{found_response}

-- an array of texts
abbrev pub texts_data : List (List ℕ) → Data
texts_data texts = array (items_of (map string texts))

-- for example `2000-20ff`
abbrev pub range_data : Span → Data
range_data span = string (range_text span.first span.last)

abbrev pub spans_data : List Span → Data
spans_data spans = array (items_of (map range_data spans))

-- a vendor with its name
abbrev pub vendor_data : Vendor → Data
vendor_data vendor = object (put_text (codes "vendor") (digits_of vendor.vid) (put_text (codes "name") vendor.name no_members))

abbrev pub vendors_data : List Vendor → Data
vendors_data vendors = array (items_of (map vendor_data vendors))

unfoldable pub put_lists : Founding → Members → Members
put_lists founding members =
    put (codes "licences") (texts_data founding.licences) (put (codes "fixed") (spans_data founding.fixed) (put (codes "curators") (texts_data founding.curators) members))

unfoldable pub put_names : Founding → Members → Members
put_names founding members = put_text (codes "vendor") (digits_of founding.vendor) (put_text (codes "name") founding.name members)

-- a founding and the vendors of its registry
unfoldable pub founding_members : Founding → List Vendor → Members
founding_members founding vendors = put (codes "vendors") (vendors_data vendors) (put_names founding (put_lists founding no_members))

unfoldable pub founding_response : Founding → List Vendor → Response
founding_response founding vendors = found_response (founding_members founding vendors)
