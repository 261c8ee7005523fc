-- The tree of the bytes of a text.
use Rattle.std.proofs.Common.{◌≡◌, ℕ, List, Bool, true, false, cond, Option, Some, None, Ok, Err, refl}
use Rattle.std.specs.Str.{IsUtf8, is_utf8}
use Rattle.std.proofs.lemmas.Str.{IsUtf8-from_is_utf8, is_utf8-from_IsUtf8}
use Rattle.serde_json.specs.Data.{Data}
use Rattle.serde_json.specs.Read.{read}
use Rattle.toml.specs.Data.{Members}
use Rattle.toml.specs.Parse.{parse_document}
use Rattle.registry_wire.specs.declared.refusal.WireRefusal.TheVariants.{BadJson, BadFounding}
use Rattle.registry_wire.specs.declared.refusal.FoundingFault.TheVariants.{Toml}
use Rattle.registry_wire.specs.Refusals.{value_or}
use Rattle.registry_wire.specs.Founding.{table_of}
use Rattle.registry_wire.specs.Reading.{object_or_bad, object_of}

object_is_bad : (is_text : Bool) (found : Option Data) → (is_text ≡ true → found ≡ None) → object_or_bad (cond is_text found None) ≡ Err BadJson
object_is_bad true found none = rw (none refl) refl
object_is_bad false found none = refl

-- bytes that are not JSON, or not UTF-8, are refused
pub object_of_refused : (bytes : List ℕ) → (IsUtf8 bytes → read bytes ≡ None) → object_of bytes ≡ Err BadJson
unfolding object_of
object_of_refused bytes none = object_is_bad (is_utf8 bytes) (read bytes) (λ e. none (IsUtf8-from_is_utf8 bytes e))

pub object_of_read : (bytes : List ℕ) (tree : Data) → IsUtf8 bytes → read bytes ≡ Some tree → object_of bytes ≡ object_or_bad (Some tree)
unfolding object_of
object_of_read bytes tree text found = rw (is_utf8-from_IsUtf8 bytes text, found) refl

table_is_bad : (is_text : Bool) (found : Option Members) → (is_text ≡ true → found ≡ None) → value_or (BadFounding Toml) (cond is_text found None) ≡ Err (BadFounding Toml)
table_is_bad true found none = rw (none refl) refl
table_is_bad false found none = refl

-- the same for bytes that are not TOML
pub table_of_refused : (bytes : List ℕ) → (IsUtf8 bytes → parse_document bytes ≡ None) → table_of bytes ≡ Err (BadFounding Toml)
unfolding table_of
table_of_refused bytes none = table_is_bad (is_utf8 bytes) (parse_document bytes) (λ e. none (IsUtf8-from_is_utf8 bytes e))

pub table_of_read : (bytes : List ℕ) (table : Members) → IsUtf8 bytes → parse_document bytes ≡ Some table → table_of bytes ≡ Ok table
unfolding table_of
table_of_read bytes table text found = rw (is_utf8-from_IsUtf8 bytes text, found) refl
