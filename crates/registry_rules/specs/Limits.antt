-- The limits of a registry, in numbers. The constants of `limits` in the code are these.
use Rattle.std.specs.Prelude.{ℕ}

-- the most organisations
abbrev pub most_orgs : ℕ
most_orgs = 65536

-- the most petitions, over all vendors and including closed ones
abbrev pub most_petitions : ℕ
most_petitions = 1000000

-- the most open petitions of one organisation at a time, over all vendors
abbrev pub most_open : ℕ
most_open = 16

-- the most vendors, including the founding vendor
abbrev pub most_vendors : ℕ
most_vendors = 256

-- the most licences, including those of the founding
abbrev pub most_licences : ℕ
most_licences = 1024

-- the most curators
abbrev pub most_curators : ℕ
most_curators = 64

-- the most items of one import
abbrev pub most_items : ℕ
most_items = 8192

-- the greatest count that totals hold; the limits above keep each count below it
abbrev pub greatest_count : ℕ
greatest_count = 4294967295
