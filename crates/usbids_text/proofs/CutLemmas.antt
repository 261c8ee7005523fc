-- Bytes fed one by one give the same as the lines of the whole text.
use Rattle.std.proofs.Common.{◌≡◌, ℕ, ◌<◌, ◌≤◌, true, false, List, [], ◌∷◌, ◌++◌, length, refl, sym, ap, ◌∙◌, inl, inr, arith, append_assoc, length-append}
use Rattle.std.specs.Prelude.{◌==◌, nat_lt, is_some}
use Rattle.std.proofs.lemmas.Bool.{cases_Bool, le-ltb, lt-ltb, ltb-false, ltb-true}
use Rattle.usbids_text.specs.declared.line.Why.TheVariants.{LineTooLong}
use Rattle.std.proofs.lemmas.List.{append-nil}
use Rattle.usbids_text.specs.Lines.{line_class}
use Rattle.usbids_text.specs.Feeding.{Held, Fed, fed, took, line_done, refused}
use Rattle.usbids_text.proofs.InnerLemmas.{Pieces}
use Rattle.usbids_text.specs.Cut.{prefixed, cut}
use Rattle.usbids_text.specs.Outcome.{done, over, held_after}

-- none of the bytes is a line feed
abbrev pub IsPart : List ℕ → Type 0
IsPart [] = Unit {0}
IsPart (b ∷ bytes) = ((b == 10) ≡ false) × IsPart bytes

pub is_part_push : (p : List ℕ) (b : ℕ) → IsPart p → (b == 10) ≡ false → IsPart (p ++ b ∷ [])
is_part_push [] b h e = (e, tt)
is_part_push (x ∷ p) b h e = (h.0, is_part_push p b h.1 e)

prefixed_prefixed : (x : ℕ) (p : List ℕ) (ls : List (List ℕ)) (rest : List ℕ) → prefixed (x ∷ []) (prefixed p ls rest).0 (prefixed p ls rest).1 ≡ prefixed (x ∷ p) ls rest
prefixed_prefixed x p [] rest = refl
prefixed_prefixed x p (l ∷ ls) rest = refl

prefixed_nil : (ls : List (List ℕ)) (rest : List ℕ) → (ls, rest) ≡ prefixed [] ls rest
prefixed_nil [] rest = refl
prefixed_nil (l ∷ ls) rest = refl

cut_part : (p t : List ℕ) → IsPart p → cut (p ++ t) ≡ prefixed p (cut t).0 (cut t).1
unfolding cut
cut_part [] t h = prefixed_nil (cut t).0 (cut t).1
cut_part (x ∷ p) t h = rw (h.0, cut_part p t h.1) (prefixed_prefixed x p (cut t).0 (cut t).1)

pub done_fault : (h : Held) (ls : List (List ℕ)) → is_some h.fault ≡ true → done h ls ≡ h
unfolding done
done_fault h [] e = refl
done_fault h (l ∷ ls) e = rw e (done_fault h ls e)

outcome_fault : (h : Held) (t : List ℕ) → is_some h.fault ≡ true → held_after h t ≡ h
unfolding held_after
outcome_fault h t e = rw (done_fault h (cut t).0 e, e) refl

-- a line that is too long is faulty
pub line_done_long : (h : Held) (l : List ℕ) → 65536 < length l → line_done h l ≡ refused h LineTooLong
unfolding line_done line_class
line_done_long h l long = let test : nat_lt 65536 (length l) ≡ true = lt-ltb 65536 (length l) long in rw test refl

long_first : (h : Held) (p : List ℕ) (ls : List (List ℕ)) (rest : List ℕ) → is_some h.fault ≡ false → 65536 < length p → over (done h (prefixed p ls rest).0) (prefixed p ls rest).1 ≡ refused h LineTooLong
unfolding done
long_first h p [] rest e long = let test : nat_lt 65536 (length (p ++ rest)) ≡ true = lt-ltb 65536 (length (p ++ rest)) (omega (arith, length-append p rest)) in rw (e, test) refl
long_first h p (l ∷ ls) rest e long = rw (e, line_done_long h (p ++ l) (omega (arith, length-append p l)), done_fault (refused h LineTooLong) ls refl) refl

pub took_faulty : (s : Fed) (b : ℕ) → is_some s.held.fault ≡ true → took s b ≡ s
unfolding took
took_faulty s b e = rw e refl

pub took_lf : (p : List ℕ) (h : Held) (b : ℕ) → is_some h.fault ≡ false → (b == 10) ≡ true → took (record { pending = p; held = h }) b ≡ record { pending = []; held = line_done h p }
unfolding took
took_lf p h b e lf = rw (e, lf) refl

pub took_more : (p : List ℕ) (h : Held) (b : ℕ) → is_some h.fault ≡ false → (b == 10) ≡ false → nat_lt (length p) 65536 ≡ true → took (record { pending = p; held = h }) b ≡ record { pending = p ++ b ∷ []; held = h }
unfolding took
took_more p h b e lf room = rw (e, lf, room) refl

pub took_long : (p : List ℕ) (h : Held) (b : ℕ) → is_some h.fault ≡ false → (b == 10) ≡ false → nat_lt (length p) 65536 ≡ false → took (record { pending = p; held = h }) b ≡ record { pending = []; held = refused h LineTooLong }
unfolding took
took_long p h b e lf room = rw (e, lf, room) refl

pub fed_fault : (s : Fed) (t : List ℕ) → is_some s.held.fault ≡ true → (fed s t).held ≡ s.held
unfolding fed
fed_fault s [] e = refl
fed_fault s (b ∷ t) e = ap (λ (x : Fed). (fed x t).held) (took_faulty s b e) ∙ fed_fault s t e

cut_lf : (b : ℕ) (t : List ℕ) → (b == 10) ≡ true → cut (b ∷ t) ≡ ([] ∷ (cut t).0, (cut t).1)
unfolding cut
cut_lf b t lf = rw lf refl

pub cut_line : (p : List ℕ) (b : ℕ) (t : List ℕ) → IsPart p → (b == 10) ≡ true → cut (p ++ b ∷ t) ≡ (p ∷ (cut t).0, (cut t).1)
cut_line p b t part lf =
    cut_part p (b ∷ t) part ∙ (ap (λ (c : Pieces). prefixed p c.0 c.1) (cut_lf b t lf) ∙ ap (λ (l : List ℕ). (l ∷ (cut t).0, (cut t).1)) (append-nil p))

pub cut_open : (p : List ℕ) → IsPart p → cut (p ++ []) ≡ ([], p)
unfolding cut
cut_open p part = cut_part p [] part ∙ ap (λ (l : List ℕ). ([], l)) (append-nil p)

done_line : (h : Held) (l : List ℕ) (ls : List (List ℕ)) → is_some h.fault ≡ false → done h (l ∷ ls) ≡ done (line_done h l) ls
unfolding done
done_line h l ls e = rw e refl

-- a complete line, and then the rest
outcome_line : (p : List ℕ) (h : Held) (b : ℕ) (t : List ℕ) → IsPart p → is_some h.fault ≡ false → (b == 10) ≡ true → held_after h (p ++ b ∷ t) ≡ held_after (line_done h p) t
unfolding held_after
outcome_line p h b t part e lf =
    ap (λ (c : Pieces). over (done h c.0) c.1) (cut_line p b t part lf) ∙ ap (λ (k : Held). over k (cut t).1) (done_line h p (cut t).0 e)

over_short : (h : Held) (p : List ℕ) → length p ≤ 65536 → over h p ≡ h
over_short h p short =
    let test : nat_lt 65536 (length p) ≡ false = le-ltb 65536 (length p) short in
    elim (cases_Bool (is_some h.fault)) [ inl e ↦ rw e refl | inr e ↦ rw (e, test) refl ]

outcome_long : (p : List ℕ) (h : Held) (t : List ℕ) → IsPart p → is_some h.fault ≡ false → 65536 < length p → held_after h (p ++ t) ≡ refused h LineTooLong
unfolding held_after
outcome_long p h t part e long = rw (cut_part p t part) (long_first h p (cut t).0 (cut t).1 e long)

outcome_start : (p : List ℕ) (h : Held) → IsPart p → length p ≤ 65536 → held_after h (p ++ []) ≡ h
unfolding held_after done
outcome_start p h part short = ap (λ (c : Pieces). over (done h c.0) c.1) (cut_open p part) ∙ over_short h p short

pub fed_outcome : (p : List ℕ) (h : Held) (t : List ℕ) → IsPart p → length p ≤ 65536 → (fed (record { pending = p; held = h }) t).held ≡ held_after h (p ++ t)
unfolding fed
fed_outcome p h [] part short = sym (outcome_start p h part short)
fed_outcome p h (b ∷ t) part short =
    elim (cases_Bool (is_some h.fault)) [
      | inl e ↦ fed_fault (record { pending = p; held = h }) (b ∷ t) e ∙ sym (outcome_fault h (p ++ b ∷ t) e)
      | inr e ↦ elim (cases_Bool (b == 10)) [
        | inl lf ↦ ap (λ (x : Fed). (fed x t).held) (took_lf p h b e lf) ∙ (fed_outcome [] (line_done h p) t tt (omega arith) ∙ sym (outcome_line p h b t part e lf))
        | inr other ↦ elim (cases_Bool (nat_lt (length p) 65536)) [
          | inl room ↦ ap (λ (x : Fed). (fed x t).held) (took_more p h b e other room) ∙ (fed_outcome (p ++ b ∷ []) h t (is_part_push p b part other) (omega (arith, ltb-true (length p) 65536 room, length-append p (b ∷ []))) ∙ ap (held_after h) (append_assoc p (b ∷ []) t))
          | inr full ↦ ap (λ (x : Fed). (fed x t).held) (took_long p h b e other full) ∙ (fed_fault (record { pending = []; held = refused h LineTooLong }) t refl
              ∙ (sym (outcome_long (p ++ b ∷ []) h t (is_part_push p b part other) e (omega (arith, ltb-false (length p) 65536 full, length-append p (b ∷ [])))) ∙ ap (held_after h) (append_assoc p (b ∷ []) t)))
        ]
      ]
    ]
