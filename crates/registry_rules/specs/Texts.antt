-- Sorted lists of texts: curators and licences. Texts are compared byte by byte.
use Rattle.std.specs.Prelude.{ℕ, ◌≡◌, ◌≤◌, List, length}
use Rattle.std.specs.List.{list_any}
use Rattle.std.specs.Str.{bytes_eq}
use Rattle.std.specs.Ordering.{nat_cmp}
use Rattle.std.specs.Cmp.Lexicographic.{slice_cmp}
use Rattle.std.specs.List.Sorted.{IsStrictlySortedBy}
use Rattle.registry_rules.specs.Limits.{most_curators, most_licences}

-- the texts ascend, without repeats
abbrev pub IsAscending : List (List ℕ) → Type 0
IsAscending = IsStrictlySortedBy (slice_cmp nat_cmp)

-- `ordered` has the texts of `given`, sorted and without repeats
pub record AreSorted (given ordered : List (List ℕ)) : Type 0 where
  pub ascending : IsAscending ordered
  pub same : (text : List ℕ) → list_any (bytes_eq text) ordered ≡ list_any (bytes_eq text) given

-- a valid list of curators, the callers who run the registry: they grant and decline petitions, reserve and release numbers,
-- import, add vendors and licences, correct cards and organisations, and revoke numbers
pub record IsCurators (slugs : List (List ℕ)) : Type 0 where
  pub some : 1 ≤ length slugs
  pub most : length slugs ≤ most_curators
  pub ascending : IsAscending slugs

-- a valid list of the licences that a product may have
pub record IsLicences (titles : List (List ℕ)) : Type 0 where
  pub some : 1 ≤ length titles
  pub most : length titles ≤ most_licences
  pub ascending : IsAscending titles
