-- The host to which requests are sent.
use Rattle.std.specs.Prelude.{ℕ, ◌&&◌, nat_le, List, length, Bool}
use Rattle.std.specs.List.{list_all}
use Rattle.etcd_messages.specs.Visible.{is_visible}

-- one visible character of ASCII or more, and nothing else
abbrev pub is_host : List ℕ → Bool
is_host text = nat_le 1 (length text) && list_all is_visible text
