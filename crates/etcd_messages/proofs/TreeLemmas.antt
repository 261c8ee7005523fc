-- The tree of the bytes of an answer, and its pairs.
use Rattle.std.proofs.Common.{◌≡◌, ℕ, ◌≤◌, List, [], ◌∷◌, length, codes, Bool, true, false, cond, Option, Some, None, Result, Ok, Err, refl, ap, ◌∙◌, arith}
use Rattle.std.specs.Str.{IsUtf8, is_utf8}
use Rattle.std.proofs.lemmas.Str.{IsUtf8-from_is_utf8, is_utf8-from_IsUtf8}
use Rattle.serde_json.specs.Data.{Data, Items}
use Rattle.serde_json.specs.Read.{read}
use Rattle.serde_json.specs.View.{items_view}
use Rattle.serde_json.specs.declared.value.Value.{Value}
use Rattle.etcd_messages.specs.declared.fault.AnswerFault.{AnswerFault}
use Rattle.etcd_messages.specs.declared.fault.AnswerFault.TheVariants.{BadJson, BadMember}
use Rattle.etcd_messages.specs.declared.fault.Member.TheVariants.{Kvs}
use Rattle.etcd_messages.specs.Answers.{object_or_bad_json, answer_object, response_in, pairs_in, refused_in, refused_by, log_head_of}
use Rattle.etcd_messages.specs.Faults.{◌|>◌}

object_is_bad : (is_text : Bool) (found : Option Data) → (is_text ≡ true → found ≡ None) → object_or_bad_json (cond is_text found None) ≡ Err BadJson
object_is_bad true found none = rw (none refl) refl
object_is_bad false found none = refl

-- bytes that are not JSON, or not UTF-8, are refused
pub object_of_refused : (bytes : List ℕ) → (IsUtf8 bytes → read bytes ≡ None) → answer_object bytes ≡ Err BadJson
unfolding answer_object
object_of_refused bytes none = object_is_bad (is_utf8 bytes) (read bytes) (λ e. none (IsUtf8-from_is_utf8 bytes e))

pub object_of_read : (bytes : List ℕ) (tree : Data) → IsUtf8 bytes → read bytes ≡ Some tree → answer_object bytes ≡ object_or_bad_json (Some tree)
unfolding answer_object
object_of_read bytes tree text found = rw (is_utf8-from_IsUtf8 bytes text, found) refl

-- two pairs or more are not what was looked up
pub refused_by_many : (key : List ℕ) (pairs : List Value) → 2 ≤ length pairs → refused_by key (items_view pairs) ≡ Err (BadMember Kvs)
unfolding refused_by
refused_by_many key [] many = absurd (omega arith)
refused_by_many key (pair ∷ []) many = absurd (omega arith)
refused_by_many key (pair ∷ other ∷ pairs) many = refl

pub last_of_many : (name : List ℕ) (count : ℕ) (pairs : List Value) → 2 ≤ length pairs → log_head_of name count (items_view pairs) ≡ Err (BadMember Kvs)
unfolding log_head_of
last_of_many name count [] many = absurd (omega arith)
last_of_many name count (pair ∷ []) many = absurd (omega arith)
last_of_many name count (pair ∷ other ∷ pairs) many = refl

-- the look-up of a transaction, step by step
pub refused_steps : (key : List ℕ) (tree found : Data) (pairs : Items) → response_in (codes "response_range") tree ≡ Ok found → pairs_in found ≡ Ok pairs → refused_in key tree ≡ refused_by key pairs
unfolding refused_in
refused_steps key tree found pairs e d =
    ap (λ (r : Result Data AnswerFault). r |> λ x. pairs_in x |> refused_by key) e ∙ ap (λ (r : Result Items AnswerFault). r |> refused_by key) d
