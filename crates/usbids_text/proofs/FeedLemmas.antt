-- The pieces in order are the whole.
use Rattle.std.proofs.Common.{◌≡◌, ℕ, ◌+◌, ◌<◌, List, [], ◌∷◌, ◌++◌, length, drop, get_or, refl, drop-cons, add-one}
use Rattle.std.proofs.Math.Seq.{drop-length}
use Rattle.usbids_text.specs.Feeding.{Fed, fed, took}

pub fed_append : (s : Fed) (a b : List ℕ) → fed s (a ++ b) ≡ fed (fed s a) b
unfolding fed
fed_append s [] b = refl
fed_append s (x ∷ a) b = fed_append (took s x) a b

pub fed_step : (s : Fed) (bytes : List ℕ) (i : ℕ) → i < length bytes → fed s (drop i bytes) ≡ fed (took s (get_or bytes i 0)) (drop (i + 1) bytes)
unfolding fed
fed_step s bytes i h = rw (drop-cons bytes i 0, add-one) refl

pub fed_end : (s : Fed) (bytes : List ℕ) (i : ℕ) → i ≡ length bytes → fed s (drop i bytes) ≡ s
unfolding fed
fed_end s bytes i e = rw (e, drop-length bytes) refl
