-- JSON objects, member by member. The members are in the order of their keys' bytes, not in the order of insertion.
use Rattle.std.specs.Prelude.{ℕ, List, Option, Some, None}
use Rattle.serde_json.specs.Data.{Members, string, put}

-- puts a text at the key
abbrev pub put_text : List ℕ → List ℕ → Members → Members
put_text key text members = put key (string text) members

-- puts a text at the key, if there is a text
abbrev pub put_if : List ℕ → Option (List ℕ) → Members → Members
put_if key None members = members
put_if key (Some text) members = put_text key text members
