-- A complete body, and a body that ends early.
use Rattle.std.proofs.Common.{◌≡◌, ℕ, ◌+◌, ◌-◌, ◌≤◌, Bool, true, false, inl, inr, List, [], ◌∷◌, ◌++◌, length, take, drop, Option, refl, sym, ap, subst, ◌∙◌, append_assoc, arith, length-append}
use Rattle.std.specs.Prelude.{nat_le, IfOk, Result, Ok, Err, min, if◌then◌else◌}
use Rattle.std.specs.Io.KnownBytes.{Consumes, IsAtEnd}
use Rattle.std.proofs.lemmas.Bool.{leb-true, le-leb, leb-false, cases_Bool, cases_lt}
use Rattle.std.proofs.lemmas.List.{append-nil, take-append-le, drop-append-le, take_all, length-drop}
use Rattle.byte_streams.specs.Streams.{MayGive}
use Rattle.usbids_text.specs.declared.reader.Reader.{Reader}
use Rattle.usbids_text.specs.Readers.{WasFed}
use Rattle.byte_streams.proofs.StreamLemmas.{all_of, all_at_end}
use Rattle.registry_http.specs.declared.refusal.HttpRefusal.{HttpRefusal}
use Rattle.registry_http.specs.declared.refusal.HttpRefusal.TheVariants.{ShortBody}
use Rattle.registry_http.specs.Bodies.{body_in, IsBuffered, IsFed}

if_true : (b : Bool) → (x y : Result (List ℕ) HttpRefusal) → b ≡ true → (if b then x else y) ≡ x
if_true true x y e = refl
if_true false x y e = absurd cc

if_false : (b : Bool) → (x y : Result (List ℕ) HttpRefusal) → b ≡ false → (if b then x else y) ≡ y
if_false false x y e = refl
if_false true x y e = absurd cc

pub body_whole : (count : ℕ) (front more : List ℕ) → count ≤ length front → body_in count (front ++ more) ≡ Ok (take count front)
unfolding body_in
body_whole count front more fits =
    if_true (nat_le count (length (front ++ more))) (Ok (take count (front ++ more))) (Err ShortBody) (le-leb count (length (front ++ more)) (omega (arith, length-append front more)))
    ∙ ap (λ (t : List ℕ). Ok t) (take-append-le count front more fits)

pub body_short : (count : ℕ) (rest : List ℕ) → nat_le count (length rest) ≡ false → body_in count rest ≡ Err ShortBody
unfolding body_in
body_short count rest short = if_false (nat_le count (length rest)) (Ok (take count rest)) (Err ShortBody) short

not_le_from : (a b c d : ℕ) → (a ≤ b → c ≤ d) → nat_le c d ≡ false → nat_le a b ≡ false
not_le_from a b c d more short = elim (cases_Bool (nat_le a b)) [
  | inl le ↦ let less = more (leb-true a b le) in let above = leb-false c d short in absurd (omega arith)
  | inr gt ↦ gt
]

pub held_body : (a b : Option (List ℕ)) (old more new : List ℕ) (start count wanted : ℕ) (whole : Bool) → start ≤ length old → wanted ≡ start + count → new ≡ old ++ more → Consumes a b more
    → whole ≡ nat_le wanted (length new) → (whole ≡ false → IsAtEnd b) → (rest : List ℕ) × MayGive a rest × IsBuffered whole new start count (drop start old ++ rest)
held_body a b old more new start count wanted true within is grown took test end =
    let all = all_of a b more took in
    let fits : wanted ≤ length new = leb-true wanted (length new) (sym test) in
    let behind : drop start new ≡ drop start old ++ more = ap (drop start) grown ∙ drop-append-le start old more within in
    let room : count ≤ length (drop start new) = omega (arith, length-drop start new) in
    let same : drop start old ++ (more ++ all.0) ≡ drop start new ++ all.0 = sym (append_assoc (drop start old) more all.0) ∙ ap (λ (t : List ℕ). t ++ all.0) (sym behind) in
    (more ++ all.0, all.1, (omega arith, ap (body_in count) same ∙ body_whole count (drop start new) all.0 room))
held_body a b old more new start count wanted false within is grown took test end =
    let behind : drop start new ≡ drop start old ++ more = ap (drop start) grown ∙ drop-append-le start old more within in
    let long = ap length grown in
    let short : nat_le count (length (drop start old ++ more)) ≡ false = not_le_from count (length (drop start old ++ more)) wanted (length new)
    (λ h. omega (arith, ap length (sym behind), length-drop start new, length-append old more, long, h)) (sym test) in
    (more, all_at_end a b more took (end refl), body_short count (drop start old ++ more) short)

is_nil : (xs : List ℕ) → length xs ≡ 0 → xs ≡ []
is_nil [] e = refl
is_nil (x ∷ xs) e = absurd (omega (arith, e))

pub fed_body : (a b : Option (List ℕ)) (come more : List ℕ) (count first : ℕ) (whole : Bool) (reader : Reader) → first ≡ min (length come) count → Consumes a b more → length more ≤ count - first
    → whole ≡ nat_le (count - first) (length more) → (whole ≡ false → IsAtEnd b) → WasFed reader (take first come ++ more) → (rest : List ℕ) × MayGive a rest × IsFed whole reader count (come ++ rest)
fed_body a b come more count first true reader is took most test end stands =
    let all = all_of a b more took in
    let came = leb-true (count - first) (length more) (sym test) in
    elim (cases_lt (length come) count) [
      | inl less ↦
          let first_is_come : first ≡ length come = omega (arith, is) in
          let kept : take first come ++ more ≡ come ++ more = ap (λ (t : List ℕ). t ++ more) (take_all first come (omega (arith, first_is_come))) in
          let size : length (come ++ more) ≡ count = omega (arith, length-append come more, first_is_come) in (
            more ++ all.0,
            all.1,
            (
              come ++ more,
              ap (body_in count) (sym (append_assoc come more all.0)) ∙ (body_whole count (come ++ more) all.0 (omega (arith, size)) ∙ ap (λ (t : List ℕ). Ok t) (take_all count (come ++ more) (omega (arith, size)))),
              subst (WasFed reader) kept stands,
            ),
          )
      | inr most_come ↦
          let first_is_count : first ≡ count = omega (arith, is) in
          let none : more ≡ [] = is_nil more (omega (arith, first_is_count)) in
          let kept : take first come ++ more ≡ take count come = ap (λ (t : List ℕ). take first come ++ t) none ∙ (append-nil (take first come) ∙ ap (λ (n : ℕ). take n come) first_is_count) in
          (more ++ all.0, all.1, (take count come, body_whole count come (more ++ all.0) most_come, subst (WasFed reader) kept stands))
    ]
fed_body a b come more count first false reader is took most test end stands =
    let above = leb-false (count - first) (length more) (sym test) in
    let first_is_come : first ≡ length come = omega (arith, is) in
    let short : nat_le count (length (come ++ more)) ≡ false = not_le_from count (length (come ++ more)) (count - first) (length more) (λ h. omega (arith, length-append come more, h, first_is_come)) (sym test) in
    (more, all_at_end a b more took (end refl), body_short count (come ++ more) short)

pub held_body_of : {E : Type 0} (a b : Option (List ℕ)) (old new : List ℕ) (start count wanted : ℕ) (result : Result Bool E) → start ≤ length old → wanted ≡ start + count
    → IfOk result (λ whole. (more : List ℕ) × (new ≡ old ++ more) × Consumes a b more × (whole ≡ nat_le wanted (length new)) × (whole ≡ false → IsAtEnd b))
    → IfOk result (λ whole. (rest : List ℕ) × MayGive a rest × IsBuffered whole new start count (drop start old ++ rest))
held_body_of a b old new start count wanted (Err e) within is ok = tt
held_body_of a b old new start count wanted (Ok whole) within is ok = held_body a b old ok.0 new start count wanted whole within is ok.1 ok.2 ok.3 ok.4

pub fed_body_of : {E : Type 0} (a b : Option (List ℕ)) (come : List ℕ) (count first : ℕ) (reader fed : Reader) (result : Result Bool E) → first ≡ min (length come) count → WasFed reader (take first come)
    → IfOk result (λ whole. (more : List ℕ) × Consumes a b more × (length more ≤ count - first) × (whole ≡ nat_le (count - first) (length more)) × (whole ≡ false → IsAtEnd b)
    × ((t : List ℕ) → WasFed reader t → WasFed fed (t ++ more)))
    → IfOk result (λ whole. (rest : List ℕ) × MayGive a rest × IsFed whole fed count (come ++ rest))
fed_body_of a b come count first reader fed (Err e) is stands ok = tt
fed_body_of a b come count first reader fed (Ok whole) is stands ok = fed_body a b come ok.0 count first whole fed is ok.1 ok.2 ok.3 ok.4 (ok.5 (take first come) stands)
