-- Several reads from a source, and several writes to a sink.
use Rattle.std.proofs.Common.{◌≡◌, ℕ, ◌-◌, List, [], ◌++◌, length, take, drop, arith, Option, Some, None, refl, sym, ap, ◌∙◌, append_assoc}
use Rattle.std.specs.Prelude.{Result, Ok, Err}
use Rattle.std.specs.Io.KnownBytes.{Appends, Consumes, IsAtEnd, Keeps}
use Rattle.std.proofs.lemmas.List.{append-nil, take_all, take-append-drop, length-drop}
use Rattle.byte_streams.specs.Streams.{AppendsPrefix, MayGive, Writes, one_more}

pub appends_nil : (o : Option (List ℕ)) → Appends o o []
appends_nil None = tt
appends_nil (Some xs) = sym (append-nil xs)

pub appends_keeps : (o n : Option (List ℕ)) → Keeps o n → Appends o n []
appends_keeps None n h = tt
appends_keeps (Some xs) None h = absurd h
appends_keeps (Some xs) (Some ys) h = h ∙ sym (append-nil xs)

pub appends_then : (a b c : Option (List ℕ)) (x y : List ℕ) → Appends a b x → Appends b c y → Appends a c (x ++ y)
appends_then None b c x y p q = tt
appends_then (Some xs) None c x y p q = absurd p
appends_then (Some xs) (Some ys) None x y p q = absurd q
appends_then (Some xs) (Some ys) (Some zs) x y p q = q ∙ (ap (λ (t : List ℕ). t ++ y) p ∙ append_assoc xs x y)

-- all of the first bytes and a prefix of the second are a prefix of both
pub appends_prefix_then : (a b c : Option (List ℕ)) (x y : List ℕ) → Appends a b x → AppendsPrefix b c y → AppendsPrefix a c (x ++ y)
appends_prefix_then a b c x y p q = record {
  front = x ++ q.front;
  rest = q.rest;
  whole = ap (λ (t : List ℕ). x ++ t) q.whole ∙ sym (append_assoc x q.front q.rest);
  appended = appends_then a b c x q.front p q.appended;
}

-- a prefix of the first bytes is a prefix of both
pub appends_prefix_more : (a b : Option (List ℕ)) (x y : List ℕ) → AppendsPrefix a b x → AppendsPrefix a b (x ++ y)
appends_prefix_more a b x y p = record {
  front = p.front;
  rest = p.rest ++ y;
  whole = ap (λ (t : List ℕ). t ++ y) p.whole ∙ append_assoc p.front p.rest y;
  appended = p.appended;
}

-- after a write that did not fail, the result of the next write is that of both
pub writes_then : {A E : Type 0} (r : Result A E) (a b c : Option (List ℕ)) (f g h : ℕ) (x y : List ℕ) → Appends a b x → g ≡ f → Writes b c g h r y → Writes a c f h r (x ++ y)
writes_then (Ok done) a b c f g h x y p same w = (appends_then a b c x y p w.0, w.1 ∙ same)
writes_then (Err e) a b c f g h x y p same w = (appends_prefix_then a b c x y p w.0, w.1 ∙ ap one_more same)

-- a write that stops after some of the bytes
pub put_fails : (a b c : Option (List ℕ)) (f g h : ℕ) (i : ℕ) (bytes : List ℕ) → Appends a b (take i bytes) → Keeps b c → g ≡ f → h ≡ one_more g → AppendsPrefix a c bytes × (h ≡ one_more f)
put_fails a b c f g h i bytes p keeps same more = (
  record {
    front = take i bytes ++ [];
    rest = drop i bytes;
    whole = sym (ap (λ (t : List ℕ). t ++ drop i bytes) (append-nil (take i bytes)) ∙ take-append-drop i bytes);
    appended = appends_then a b c (take i bytes) [] p (appends_keeps b c keeps);
  },
  more ∙ ap one_more same,
)

-- taking none of some bytes keeps the contents
pub keeps_none : (b c : Option (List ℕ)) (n : ℕ) (bytes : List ℕ) → n ≡ 0 → Appends b c (take n bytes) → Keeps b c
keeps_none None c n bytes e p = tt
keeps_none (Some xs) None n bytes e p = absurd p
keeps_none (Some xs) (Some ys) n bytes e p = p ∙ (ap (λ (k : ℕ). xs ++ take k bytes) e ∙ append-nil xs)

-- a slice up to the end is the rest
pub suffix : (i : ℕ) (bytes : List ℕ) → take (length bytes - i) (drop i bytes) ≡ drop i bytes
suffix i bytes = take_all (length bytes - i) (drop i bytes) (omega (arith, length-drop i bytes))

pub consumes_none : (o : Option (List ℕ)) → Consumes o o []
consumes_none None = tt
consumes_none (Some xs) = refl

pub consumes_then : (a b c : Option (List ℕ)) (x y : List ℕ) → Consumes a b x → Consumes b c y → Consumes a c (x ++ y)
consumes_then None b c x y p q = tt
consumes_then (Some xs) None c x y p q = absurd p
consumes_then (Some xs) (Some ys) None x y p q = absurd q
consumes_then (Some xs) (Some ys) (Some zs) x y p q = p ∙ ap (λ (t : List ℕ). x ++ t) q ∙ sym (append_assoc x y zs)

-- the bytes of a source begin with those that it gave
pub all_of : (a b : Option (List ℕ)) (x : List ℕ) → Consumes a b x → (more : List ℕ) × MayGive a (x ++ more)
all_of None b x p = ([], tt)
all_of (Some xs) None x p = absurd p
all_of (Some xs) (Some ys) x p = (ys, sym p)

-- at its end a source has given all of its bytes
pub all_at_end : (a b : Option (List ℕ)) (x : List ℕ) → Consumes a b x → IsAtEnd b → MayGive a x
all_at_end None b x p e = tt
all_at_end (Some xs) None x p e = absurd p
all_at_end (Some xs) (Some ys) x p e = sym (append-nil x) ∙ ap (λ (t : List ℕ). x ++ t) (sym e) ∙ sym p
