-- USB numbers, each a vendor ID and a product ID, and their names in replies. A span is all product IDs from its first to its
-- last. In an order `number` is a product ID alone.
use Rattle.std.specs.Prelude.{ℕ, ◌+◌, ◌-◌, zero, suc, List, [], ◌∷◌, Bool, nat_eq, ◌&&◌, not}
use Rattle.usbnum_core.specs.declared.number.Number.{Number}
use Rattle.usbnum_core.specs.declared.number.Span.{Span}
use Rattle.registry_rules.specs.Values.{VendorId, ProductId}
use Rattle.registry_rules.specs.declared.name.NumberName.{NumberName}
use Rattle.registry_rules.specs.declared.name.SpanName.{SpanName}

-- the number with this vendor ID and product ID
abbrev pub number : VendorId → ProductId → Number
number vid pid = record { vid = vid; pid = pid }

-- whether two numbers are equal
abbrev pub number_eq : Number → Number → Bool
number_eq a b = nat_eq a.vid b.vid && nat_eq a.pid b.pid

-- consecutive integers from n on, as many as the second argument
unfoldable pub numbers_from : ℕ → ℕ → List ℕ
numbers_from n zero = []
numbers_from n (suc left) = n ∷ numbers_from (suc n) left

-- the product IDs of a span, ascending
abbrev pub numbers_in : Span → List ProductId
numbers_in span = numbers_from span.first (span.last + 1 - span.first)

-- whether vendor `vid` is foreign: not the founding vendor, for which the registry was created
abbrev pub is_foreign : VendorId → VendorId → Bool
is_foreign founding_vendor vid = not (nat_eq vid founding_vendor)

-- the name of a number in replies, which shows the vendor only if it is foreign
abbrev pub name_of : VendorId → Number → NumberName
name_of founding_vendor n = record { number = n; foreign = is_foreign founding_vendor n.vid }

-- the same for a span of vendor `vid`
abbrev pub span_name_of : VendorId → VendorId → Span → SpanName
span_name_of founding_vendor vid span = record { vid = vid; span = span; foreign = is_foreign founding_vendor vid }
