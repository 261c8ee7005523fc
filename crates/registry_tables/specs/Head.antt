-- The head of a history: where its record ends.
use Rattle.std.specs.Prelude.{◌≡◌, ℕ, List, [], ◌∷◌, Option, None, length, find}
use Rattle.std.specs.Option.{option_map}
use Rattle.registry_rules.specs.Accepted.{AreValid}
use Rattle.registry_rules.specs.History.{History}
use Rattle.registry_rules.specs.declared.deed.Deed.{Deed}
use Rattle.registry_wire.specs.Digests.{digest_of}
use Rattle.registry_rules.specs.TotalsOf.{AreTotalsOf}
use Rattle.registry_rows.specs.Rows.{is_digest_at}
use Rattle.registry_tables.specs.Rows.{digest_rows}
use Rattle.registry_tables.specs.declared.head.Head.{Head}
use Rattle.registry_tables.specs.declared.opening.Summary.{Summary}

-- the time of the last request, if there is one that has one
abbrev pub last_time : List Deed → Option (List ℕ)
last_time [] = None
last_time (deed ∷ earlier) = deed.time

-- the digest after so many accepted requests, if there are as many
abbrev pub digest_at : History → ℕ → Option (List ℕ)
digest_at h n = option_map (λ row. row.1.digest) (find (is_digest_at n) (digest_rows h))

-- how many requests were accepted, the digest of the record, and the time of the last request
pub record IsHeadOf (h : History) (head : Head) : Type 0 where
  pub count : head.count ≡ length h.deeds
  pub digest : head.digest ≡ digest_of h
  pub time : head.time ≡ last_time h.deeds

-- the same of a history whose requests have valid fields, as the Rust types guarantee of each
abbrev pub IsHead : History → Head → Type 0
IsHead h head = AreValid h.deeds → IsHeadOf h head

-- what a registry keeps in memory is the history's
pub record IsSummaryOf (h : History) (summary : Summary) : Type 0 where
  pub totals : AreTotalsOf h summary.totals
  pub head : IsHead h summary.head
