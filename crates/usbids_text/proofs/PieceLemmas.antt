-- Reading line by line equals reading byte by byte.
use Rattle.std.proofs.Common.{◌≡◌, ℕ, zero, suc, ◌+◌, ◌<◌, ◌≤◌, true, false, List, [], ◌∷◌, ◌++◌, length, take, drop, get_or, Option, Some, None, refl, sym, ap, ◌∙◌, inl, inr, arith, append_assoc, length-append, drop-cons, add-one}
use Rattle.std.specs.Prelude.{◌==◌, nat_lt, not, is_some, position, IfNone, IsTrue}
use Rattle.std.specs.List.{list_all, position_or_len}
use Rattle.usbids_text.specs.Words.{is_inner}
use Rattle.usbids_text.proofs.EntryLemmas.{and_both}
use Rattle.std.proofs.lemmas.Bool.{cases_Bool, le-ltb, lt-ltb, ltb-false, ltb-true}
use Rattle.std.proofs.lemmas.List.{append-nil, take-append-drop}
use Rattle.std.proofs.lemmas.List.Quantifiers.{position-Some}
use Rattle.usbids_text.specs.declared.line.Why.TheVariants.{LineTooLong}
use Rattle.usbids_text.specs.Feeding.{Held, Fed, fed, took, line_done, refused, ended, kept}
use Rattle.usbids_text.proofs.FeedLemmas.{fed_append}
use Rattle.usbids_text.proofs.CutLemmas.{IsPart, took_faulty, took_lf, took_more, took_long, line_done_long}

pub fed_faulty : (s : Fed) (t : List ℕ) → is_some s.held.fault ≡ true → fed s t ≡ s
unfolding fed
fed_faulty s [] e = refl
fed_faulty s (b ∷ t) e = ap (λ (x : Fed). fed x t) (took_faulty s b e) ∙ fed_faulty s t e

kept_faulty : (s : Fed) (t : List ℕ) → is_some s.held.fault ≡ true → kept s t ≡ s
unfolding kept
kept_faulty s [] e = refl
kept_faulty s (b ∷ t) e = rw e refl

kept_fits : (p : List ℕ) (h : Held) (t : List ℕ) → is_some h.fault ≡ false → length p + length t ≤ 65536 → kept (record { pending = p; held = h }) t ≡ record { pending = p ++ t; held = h }
unfolding kept
kept_fits p h [] e room = ap (λ (l : List ℕ). record { pending = l; held = h }) (sym (append-nil p))
kept_fits p h (b ∷ t) e room =
    let test : nat_lt 65536 (length p + length (b ∷ t)) ≡ false = le-ltb 65536 (length p + length (b ∷ t)) room in rw (e, test) refl

kept_long : (p : List ℕ) (h : Held) (b : ℕ) (t : List ℕ) → is_some h.fault ≡ false → 65536 < length p + length (b ∷ t) → kept (record { pending = p; held = h }) (b ∷ t) ≡ record { pending = []; held = refused h LineTooLong }
unfolding kept
kept_long p h b t e long =
    let test : nat_lt 65536 (length p + length (b ∷ t)) ≡ true = lt-ltb 65536 (length p + length (b ∷ t)) long in rw (e, test) refl

kept_fits_nil : (p : List ℕ) (h : Held) → kept (record { pending = p; held = h }) [] ≡ record { pending = p; held = h }
unfolding kept
kept_fits_nil p h = refl

kept_more : (p : List ℕ) (h : Held) (b : ℕ) (t : List ℕ) → is_some h.fault ≡ false → length p < 65536 → kept (record { pending = p ++ b ∷ []; held = h }) t ≡ kept (record { pending = p; held = h }) (b ∷ t)
kept_more p h b [] e room = kept_fits_nil (p ++ b ∷ []) h ∙ sym (kept_fits p h (b ∷ []) e (omega arith))
kept_more p h b (x ∷ t) e room =
    elim (cases_Bool (nat_lt 65536 (length p + length (b ∷ (x ∷ t))))) [
      | inl long ↦ let f : 65536 < length p + length (b ∷ (x ∷ t)) = ltb-true 65536 (length p + length (b ∷ (x ∷ t))) long in
          kept_long (p ++ b ∷ []) h x t e (omega (arith, length-append p (b ∷ []))) ∙ sym (kept_long p h b (x ∷ t) e f)
      | inr fits ↦ let f : length p + length (b ∷ (x ∷ t)) ≤ 65536 = ltb-false 65536 (length p + length (b ∷ (x ∷ t))) fits in
          kept_fits (p ++ b ∷ []) h (x ∷ t) e (omega (arith, length-append p (b ∷ [])))
          ∙ (ap (λ (l : List ℕ). record { pending = l; held = h }) (append_assoc p (b ∷ []) (x ∷ t)) ∙ sym (kept_fits p h (b ∷ (x ∷ t)) e f))
    ]

fed_kept_open : (p : List ℕ) (h : Held) (t : List ℕ) → IsPart t → is_some h.fault ≡ false → fed (record { pending = p; held = h }) t ≡ kept (record { pending = p; held = h }) t
unfolding fed
fed_kept_open p h [] part e = sym (kept_fits_nil p h)
fed_kept_open p h (b ∷ t) part e =
    elim (cases_Bool (nat_lt (length p) 65536)) [
      | inl room ↦ ap (λ (x : Fed). fed x t) (took_more p h b e part.0 room) ∙ (fed_kept_open (p ++ b ∷ []) h t part.1 e ∙ kept_more p h b t e (ltb-true (length p) 65536 room))
      | inr full ↦ ap (λ (x : Fed). fed x t) (took_long p h b e part.0 full) ∙ (fed_faulty (record { pending = []; held = refused h LineTooLong }) t refl
          ∙ sym (kept_long p h b t e (let f = ltb-false (length p) 65536 full in omega arith)))
    ]

-- bytes without a line feed are kept
pub fed_kept : (s : Fed) (t : List ℕ) → IsPart t → fed s t ≡ kept s t
fed_kept s t part = elim (cases_Bool (is_some s.held.fault)) [ inl e ↦ fed_faulty s t e ∙ sym (kept_faulty s t e) | inr e ↦ fed_kept_open s.pending s.held t part e ]

ended_faulty : (s : Fed) (t : List ℕ) → is_some s.held.fault ≡ true → ended s t ≡ s
unfolding ended
ended_faulty s t e = rw e refl

ended_open : (p : List ℕ) (h : Held) (t : List ℕ) → is_some h.fault ≡ false → ended (record { pending = p; held = h }) t ≡ record { pending = []; held = line_done h (p ++ t) }
unfolding ended
ended_open p h t e = rw e refl

fed_one : (s : Fed) (b : ℕ) → fed s (b ∷ []) ≡ took s b
unfolding fed
fed_one s b = refl

took_kept : (p : List ℕ) (h : Held) (t : List ℕ) (b : ℕ) → is_some h.fault ≡ false → (b == 10) ≡ true → took (kept (record { pending = p; held = h }) t) b ≡ record { pending = []; held = line_done h (p ++ t) }
took_kept p h [] b e lf = ap (λ (x : Fed). took x b) (kept_fits_nil p h) ∙ (took_lf p h b e lf ∙ ap (λ (l : List ℕ). record { pending = []; held = line_done h l }) (sym (append-nil p)))
took_kept p h (x ∷ t) b e lf =
    elim (cases_Bool (nat_lt 65536 (length p + length (x ∷ t)))) [
      | inl long ↦ let f : 65536 < length p + length (x ∷ t) = ltb-true 65536 (length p + length (x ∷ t)) long in
          ap (λ (y : Fed). took y b) (kept_long p h x t e f) ∙ (took_faulty (record { pending = []; held = refused h LineTooLong }) b refl
          ∙ ap (λ (k : Held). record { pending = []; held = k }) (sym (line_done_long h (p ++ x ∷ t) (omega (arith, length-append p (x ∷ t))))))
      | inr fits ↦ let f : length p + length (x ∷ t) ≤ 65536 = ltb-false 65536 (length p + length (x ∷ t)) fits in
          ap (λ (y : Fed). took y b) (kept_fits p h (x ∷ t) e f) ∙ took_lf (p ++ x ∷ t) h b e lf
    ]

pub fed_ended : (s : Fed) (t : List ℕ) (b : ℕ) → IsPart t → (b == 10) ≡ true → fed s (t ++ b ∷ []) ≡ ended s t
fed_ended s t b part lf = elim (cases_Bool (is_some s.held.fault)) [
  | inl e ↦ fed_faulty s (t ++ b ∷ []) e ∙ sym (ended_faulty s t e)
  | inr e ↦ fed_append s t (b ∷ []) ∙ (fed_one (fed s t) b ∙ (ap (λ (x : Fed). took x b) (fed_kept s t part) ∙ (took_kept s.pending s.held t b e lf ∙ sym (ended_open s.pending s.held t e))))
]

is_part_take : (xs : List ℕ) (i : ℕ) → i ≤ length xs → ((k : ℕ) → k < i → (get_or xs k 0 == 10) ≡ false) → IsPart (take i xs)
is_part_take xs zero h each = tt
is_part_take [] (suc i) h each = tt
is_part_take (x ∷ xs) (suc i) h each = (each 0 (omega arith), is_part_take xs i (omega arith) (λ k l. each (suc k) (omega arith)))

pub fed_line : (s : Fed) (bytes : List ℕ) (i : ℕ) → position (λ b. b == 10) bytes ≡ Some i → fed s bytes ≡ fed (ended s (take i bytes)) (drop (i + 1) bytes)
fed_line s bytes i e =
    let found = position-Some (λ b. b == 10) bytes i 0 e in
    let split : drop i bytes ≡ get_or bytes i 0 ∷ drop (i + 1) bytes = rw (drop-cons bytes i 0 found.0, add-one) refl in
    let whole : bytes ≡ (take i bytes ++ get_or bytes i 0 ∷ []) ++ drop (i + 1) bytes =
    sym (take-append-drop i bytes) ∙ (ap (λ (l : List ℕ). take i bytes ++ l) split ∙ sym (append_assoc (take i bytes) (get_or bytes i 0 ∷ []) (drop (i + 1) bytes))) in
    ap (fed s) whole ∙ (fed_append s (take i bytes ++ get_or bytes i 0 ∷ []) (drop (i + 1) bytes)
    ∙ ap (λ (x : Fed). fed x (drop (i + 1) bytes)) (fed_ended s (take i bytes) (get_or bytes i 0) (is_part_take bytes i (omega (arith, found.0)) found.2) found.1))

position_here : (b : ℕ) (t : List ℕ) → (b == 10) ≡ true → position (λ x. x == 10) (b ∷ t) ≡ None → ⊥
position_here b t lf e =
    let test : nat_lt 0 (length (b ∷ t)) ≡ true = lt-ltb 0 (length (b ∷ t)) (omega arith) in
    let found : position (λ x. x == 10) (b ∷ t) ≡ Some 0 = rw (lf, test) refl in
    absurd cc

position_there : (b : ℕ) (t : List ℕ) → (b == 10) ≡ false → position_or_len (λ x. x == 10) t < length t → position (λ x. x == 10) (b ∷ t) ≡ None → ⊥
position_there b t other below e =
    let m : ℕ = position_or_len (λ x. x == 10) t in
    let test : nat_lt (1 + m) (length (b ∷ t)) ≡ true = lt-ltb (1 + m) (length (b ∷ t)) (omega arith) in
    let found : position (λ x. x == 10) (b ∷ t) ≡ Some (1 + m) = rw (other, test) refl in
    absurd cc

position_cons : (b : ℕ) (t : List ℕ) → position (λ b. b == 10) (b ∷ t) ≡ None → ((b == 10) ≡ false) × (position (λ b. b == 10) t ≡ None)
position_cons b t e =
    let m : ℕ = position_or_len (λ x. x == 10) t in
    elim (cases_Bool (b == 10)) [
      | inl lf ↦ absurd (position_here b t lf e)
      | inr other ↦ (
        other,
        elim (cases_Bool (nat_lt m (length t))) [
          | inl below ↦ absurd (position_there b t other (ltb-true m (length t) below) e)
          | inr past ↦ rw past refl
        ],
      )
    ]

pub is_part_none : (bytes : List ℕ) → position (λ b. b == 10) bytes ≡ None → IsPart bytes
is_part_none [] e = tt
is_part_none (b ∷ t) e = let r = position_cons b t e in (r.0, is_part_none t r.1)

pub fed_rest : (s : Fed) (bytes : List ℕ) → position (λ b. b == 10) bytes ≡ None → fed s bytes ≡ kept s bytes
fed_rest s bytes e = fed_kept s bytes (is_part_none bytes e)

part_inner : (bytes : List ℕ) → IsPart bytes → list_all is_inner bytes ≡ true
part_inner [] part = refl
part_inner (b ∷ bytes) part = and_both (is_inner b) (list_all is_inner bytes) (ap not part.0) (part_inner bytes part.1)

pub inner_none : (bytes : List ℕ) (o : Option ℕ) → o ≡ position (λ b. b == 10) bytes → IfNone o (IsTrue (list_all is_inner bytes))
inner_none bytes None e = part_inner bytes (is_part_none bytes (sym e))
inner_none bytes (Some i) e = tt
