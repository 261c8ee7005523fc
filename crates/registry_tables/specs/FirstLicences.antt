-- The licences that orders added, by the replies to them.
use Rattle.std.specs.Prelude.{ℕ, List, ◌++◌, Bool, bytes_eq, codes}
use Rattle.std.specs.List.{list_any}
use Rattle.registry_rows.specs.declared.kept.KeptRow.{KeptRow}

-- the row has this reply
abbrev pub is_reply_of : List ℕ → KeptRow → Bool
is_reply_of reply row = bytes_eq row.kept.reply reply

-- a row has the reply to an order that added the licence
abbrev pub was_added : List KeptRow → List ℕ → Bool
was_added rows licence = list_any (is_reply_of (codes "added licence " ++ licence)) rows
