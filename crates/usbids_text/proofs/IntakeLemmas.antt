-- The bytes that were fed so far.
use Rattle.std.proofs.Common.{◌≡◌, ◌++◌, ◌+◌, ◌≤◌, List, [], ℕ, length, Option, refl, sym, subst, arith, append_assoc, length-append}
use Rattle.std.proofs.lemmas.List.{append-nil}
use Rattle.std.specs.Io.KnownBytes.{Consumes, IsAtEnd}
use Rattle.byte_streams.specs.Streams.{MayGive, most_bytes}
use Rattle.byte_streams.proofs.StreamLemmas.{consumes_none, consumes_then, all_of, all_at_end}

-- after any bytes that were fed before, these bytes were fed
abbrev pub Takes : (I W : Type 0) → (I → W → List ℕ → Type 0) → I → I → List ℕ → Type 0
Takes I W Was before after bytes = (wanted : W) (t : List ℕ) → Was before wanted t → Was after wanted (t ++ bytes)

-- the bytes that were read were fed
pub record Feeds (I W : Type 0) (Was : I → W → List ℕ → Type 0) (old new : Option (List ℕ)) (before after : I) (total : ℕ) : Type 0 where
  pub bytes : List ℕ
  pub count : length bytes ≡ total
  pub read : Consumes old new bytes
  pub takes : Takes I W Was before after bytes

pub feeds_start : (I W : Type 0) (Was : I → W → List ℕ → Type 0) (o : Option (List ℕ)) (i : I) → Feeds I W Was o o i i 0
feeds_start I W Was o i = record { bytes = []; count = refl; read = consumes_none o; takes = λ w t s. subst (Was i w) (sym (append-nil t)) s }

abbrev pub More : (I W : Type 0) → (I → W → List ℕ → Type 0) → Option (List ℕ) → Option (List ℕ) → I → I → ℕ → Type 0
More I W Was old new before after n = (more : List ℕ) × Takes I W Was before after more × (length more ≡ n) × Consumes old new more

pub feeds_next : (I W : Type 0) (Was : I → W → List ℕ → Type 0) (a b c : Option (List ℕ)) (x y z : I) (total n : ℕ) → Feeds I W Was a b x y total → More I W Was b c y z n → Feeds I W Was a c x z (total + n)
feeds_next I W Was a b c x y z total n f m = record {
  bytes = f.bytes ++ m.0;
  count = let k = f.count in let j = m.2 in omega (arith, length-append f.bytes m.0);
  read = consumes_then a b c f.bytes m.0 f.read m.3;
  takes = λ w t s. subst (Was z w) (append_assoc t f.bytes m.0) (m.1 w (t ++ f.bytes) (f.takes w t s));
}

abbrev pub All : (I W : Type 0) → (I → W → List ℕ → Type 0) → Option (List ℕ) → I → I → Type 0
All I W Was old before after = (bytes : List ℕ) × MayGive old bytes × (length bytes ≤ most_bytes) × Takes I W Was before after bytes

-- the source is at its end
pub feeds_end : (I W : Type 0) (Was : I → W → List ℕ → Type 0) (a b c : Option (List ℕ)) (x y z : I) (total n : ℕ)
    → Feeds I W Was a b x y total → More I W Was b c y z n → n ≡ 0 → IsAtEnd c → total ≤ most_bytes → All I W Was a x z
feeds_end I W Was a b c x y z total n f m none over small =
    let whole = feeds_next I W Was a b c x y z total n f m in
    (whole.bytes, all_at_end a c whole.bytes whole.read over, (let k = whole.count in omega (arith, none)), whole.takes)

-- the source may give at least this number of bytes
pub feeds_some : (I W : Type 0) (Was : I → W → List ℕ → Type 0) (a b : Option (List ℕ)) (x y : I) (total : ℕ) → Feeds I W Was a b x y total → (bytes : List ℕ) × MayGive a bytes × (total ≤ length bytes)
feeds_some I W Was a b x y total f = let all = all_of a b f.bytes f.read in (f.bytes ++ all.0, all.1, (let k = f.count in omega (arith, length-append f.bytes all.0)))
