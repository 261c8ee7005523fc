-- A listing as a value.
use Rattle.registry_wire.specs.declared.founding.Listing.{Listing}
use Rattle.registry_wire.specs.Founding.{Listed}

-- the values of a listing
abbrev pub seen : Listing → Listed
seen listing = record { vendor = listing.vendor; name = listing.name; curators = listing.curators.items; licences = listing.licences.items; fixed = listing.fixed.items }
