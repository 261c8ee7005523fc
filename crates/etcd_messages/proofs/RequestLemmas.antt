-- Requests have no fractions.
use Rattle.std.proofs.Common.{◌≡◌, ℕ, ◌-◌, ◌==◌, List, codes, Bool, true, false, cond, refl}
use Rattle.serde_json.specs.Data.{Items, item, no_items}
use Rattle.serde_json.specs.Written.{has_float, items_have_float}
use Rattle.etcd_messages.specs.Keys.{key_text}
use Rattle.etcd_messages.specs.Requests.{created, append_request}

plain_items : (b : Bool) (xs ys : Items) → items_have_float xs ≡ false → items_have_float ys ≡ false → items_have_float (cond b xs ys) ≡ false
plain_items true xs ys plain other = plain
plain_items false xs ys plain other = other

pub append_plain : (name : List ℕ) (n : ℕ) (line : List ℕ) → has_float (append_request name n line) ≡ false
unfolding append_request
append_plain name n line = rw (plain_items (n == 0) no_items (item (created (codes "GREATER") (key_text name (n - 1))) no_items) refl refl) refl
