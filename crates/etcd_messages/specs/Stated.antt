-- The answers of an etcd that keeps the lines of a log, and that they are read as what it keeps.
--
-- What is in a header, and at which revisions a key was written, is not looked at, so the definitions take any.
use Rattle.std.specs.Prelude.{◌≡◌, ℕ, ◌+◌, ◌-◌, ◌==◌, ◌≤◌, ◌<◌, List, [], ◌∷◌, length, slice_get, codes, Bool, true, false, Option, Some, None, Ok, if◌then◌else◌}
use Rattle.base64.specs.GeneralPurpose.{IsBytes}
use Rattle.serde_json.specs.Data.{Data, string, boolean, array, object, Items, item, no_items, Members, member, no_members}
use Rattle.shared_log.specs.declared.answers.AppendAnswer.{AppendAnswer}
use Rattle.shared_log.specs.declared.answers.AppendAnswer.TheVariants.{Appended, Taken, Behind}
use Rattle.etcd_messages.specs.Answers.{append_in, page_in, line_number_bound}
use Rattle.etcd_messages.specs.Keys.{key_text, in_base64}

-- what an answer says of a pair besides its key and its value
pub record Revisions : Type 0 where
  pub created : Data
  pub modified : Data
  pub version : Data

-- what an answer says besides what is read of it: its header, that of the step in it, and the revisions of each key
pub record Surroundings : Type 0 where
  pub header : Members
  pub step : Members
  pub count : Data
  pub revisions : ℕ → Revisions

-- the last members of a pair: the value, which is left out if it is empty, and the version
abbrev pub with_value : List ℕ → Data → Members
with_value [] version = member (codes "version") version no_members
with_value (b ∷ line) version = member (codes "value") (string (in_base64 (b ∷ line))) (member (codes "version") version no_members)

-- line n as a pair
abbrev pub pair_of : Revisions → List ℕ → ℕ → List ℕ → Data
pair_of r name n line =
    object (member (codes "create_revision") r.created (member (codes "key") (string (key_text name n))
    (member (codes "mod_revision") r.modified (with_value line r.version))))

-- these lines as pairs, the first as line n
abbrev pub pairs_from : (ℕ → Revisions) → List ℕ → ℕ → List (List ℕ) → Items
pairs_from r name n [] = no_items
pairs_from r name n (line ∷ lines) = item (pair_of (r n) name n line) (pairs_from r name (n + 1) lines)

-- an answer with this response to the only step of a transaction that was carried out, or was not
abbrev pub transaction_says : Members → List ℕ → Members → Members → Data
transaction_says header kind response rest =
    object (member (codes "header") (object header) (member (codes "responses") (array (item (object (member kind (object response) no_members)) no_items)) rest))

-- what the look-up of line n found
abbrev pub looked_up : Surroundings → List ℕ → ℕ → Option (List ℕ) → Members
looked_up s name n None = member (codes "header") (object s.step) no_members
looked_up s name n (Some line) =
    member (codes "count") s.count (member (codes "header") (object s.step)
    (member (codes "kvs") (array (item (pair_of (s.revisions n) name n line) no_items)) no_members))

-- the answer to an append of line n, of an etcd that keeps these lines before it
abbrev pub append_says : Surroundings → List ℕ → ℕ → List (List ℕ) → Data
append_says s name n log =
    if n == length log
    then transaction_says s.header (codes "response_put") s.step (member (codes "succeeded") (boolean true) no_members)
    else transaction_says s.header (codes "response_range") (looked_up s name n (slice_get log n)) no_members

abbrev pub refused_append : Option (List ℕ) → AppendAnswer
refused_append None = Behind
refused_append (Some line) = Taken line

-- what becomes of an append of line n, at a log of these lines
abbrev pub append_means : ℕ → List (List ℕ) → AppendAnswer
append_means n log = if n == length log then Appended else refused_append (slice_get log n)

-- the last member of an answer with lines: whether there are more, which is left out if there are none
abbrev pub with_more : Bool → Members
with_more false = no_members
with_more true = member (codes "more") (boolean true) no_members

-- the answer with these lines from n on
abbrev pub page_says : Surroundings → List ℕ → ℕ → List (List ℕ) → Bool → Data
page_says s name n [] more = object (member (codes "header") (object s.header) no_members)
page_says s name n (line ∷ lines) more =
    object (member (codes "count") s.count (member (codes "header") (object s.header)
    (member (codes "kvs") (array (pairs_from s.revisions name n (line ∷ lines))) (with_more more))))

-- each line of a log is one of bytes
abbrev pub AreBytes : List (List ℕ) → Type 0
AreBytes log = (n : ℕ) (line : List ℕ) → slice_get log n ≡ Some line → IsBytes line

-- The answer to an append is read as what became of it.
abbrev pub ReadsAppends : Type 0
ReadsAppends =
    (s : Surroundings) (name : List ℕ) (n : ℕ) (log : List (List ℕ)) → AreBytes log
    → append_in (key_text name n) (append_says s name n log) ≡ Ok (append_means n log)

-- The answer with lines is read as these lines, and whether there are more.
abbrev pub ReadsPages : Type 0
ReadsPages =
    (s : Surroundings) (name : List ℕ) (n : ℕ) (lines : List (List ℕ)) (more : Bool) → AreBytes lines → n + length lines ≤ line_number_bound → (lines ≡ [] → more ≡ false)
    → page_in name n (page_says s name n lines more) ≡ Ok (record { lines = lines; more = more })
