-- Names for the texts and numbers in requests, deeds and records. A text is the list of its bytes.
-- A caller sends a request: an order under a key. A deed (an event) is an accepted request with its effect, the act.
-- A record is the current data of an organisation, a petition, a number (its entry), a reservation, a vendor or a licence.
use Rattle.std.specs.Prelude.{ℕ, List}

-- the short name of an organisation or a caller: a-z, 0-9 and hyphens
abbrev pub Slug : Type 0
Slug = List ℕ

-- the caller's name for a request, by which a repeat of it is recognised; two callers may use the same key
abbrev pub Key : Type 0
Key = List ℕ

-- the display name of an organisation, a product, a vendor or a licence
abbrev pub Title : Type 0
Title = List ℕ

-- an http or https address, of a site or of sources
abbrev pub Link : Type 0
Link = List ℕ

-- the time of a request, as whoever hands the request in gives it; no verdict depends on it
abbrev pub Time : Type 0
Time = List ℕ

-- the name of a licence that a product may have
abbrev pub Licence : Type 0
Licence = Title

-- the vendor half of a number, `vid` for short; USB's idVendor, 1 to 65,535
abbrev pub VendorId : Type 0
VendorId = ℕ

-- the product half of a number, `pid` for short; USB's idProduct, 1 to 65,535
abbrev pub ProductId : Type 0
ProductId = ℕ

-- the ID of a petition, 1 for the first. A petition is an organisation's application for a USB number. It is open until a
-- curator, who runs the registry, grants or declines it, or the organisation's keeper withdraws it.
abbrev pub PetitionId : Type 0
PetitionId = ℕ
