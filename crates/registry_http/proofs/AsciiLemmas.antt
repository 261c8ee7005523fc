-- Bytes that pass the test are ASCII.
use Rattle.std.proofs.Common.{◌≡◌, ℕ, zero, suc, Bool, true, false, List, [], ◌∷◌, refl, arith}
use Rattle.std.specs.Prelude.{◌&&◌}
use Rattle.std.specs.Str.{IsAscii, IsUtf8}
use Rattle.std.specs.List.{list_all}
use Rattle.std.proofs.lemmas.Bool.{ltb-true}
use Rattle.std.proofs.lemmas.Str.{IsUtf8-from_ascii}
use Rattle.registry_http.specs.Routes.{is_ascii}

both_true : (a b : Bool) → (a && b) ≡ true → (a ≡ true) × (b ≡ true)
both_true true b e = (refl, e)
both_true false b e = absurd cc

pub is_ascii_by_test : (bytes : List ℕ) → list_all is_ascii bytes ≡ true → IsAscii bytes
is_ascii_by_test [] e i = omega arith
is_ascii_by_test (b ∷ bytes) e zero = ltb-true b 128 (both_true (is_ascii b) (list_all is_ascii bytes) e).0
is_ascii_by_test (b ∷ bytes) e (suc i) = is_ascii_by_test bytes (both_true (is_ascii b) (list_all is_ascii bytes) e).1 i

pub is_utf8_by_test : (bytes : List ℕ) → list_all is_ascii bytes ≡ true → IsUtf8 bytes
is_utf8_by_test bytes e = IsUtf8-from_ascii bytes (is_ascii_by_test bytes e)
