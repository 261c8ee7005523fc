-- The limits of a message, in numbers.
use Rattle.std.specs.Prelude.{ℕ}

-- the most bytes of a head
abbrev pub most_head : ℕ
most_head = 8192

-- the most fields of a head
abbrev pub most_fields : ℕ
most_fields = 64

-- the most bytes of an order in JSON
abbrev pub most_command : ℕ
most_command = 16384

-- the most bytes of a list that is imported
abbrev pub most_list : ℕ
most_list = 4194304
