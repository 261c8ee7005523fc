-- Lists that ascend strictly.
use Rattle.std.proofs.Common.{◌≡◌, Bool, true, false, ◌||◌, List, [], ◌∷◌, refl, sym, ap, subst, ◌∙◌, Ordering, Less, Equal, Greater, is_eq}
use Rattle.std.proofs.lemmas.Bool.{or_left}
use Rattle.std.specs.Ordering.{ordering_reverse}
use Rattle.std.specs.List.{AllByRecursion, list_any}
use Rattle.std.specs.List.Sorted.{IsStrictlySortedBy}
use Rattle.std.specs.Cmp.{IsTotalOrder}

pub all_weaker : {K : Type 0} (P Q : K → Type 0) → ((k : K) → P k → Q k) → (ks : List K) → AllByRecursion P ks → AllByRecursion Q ks
all_weaker P Q weaker [] all = tt
all_weaker P Q weaker (k ∷ ks) all = (weaker k all.0, all_weaker P Q weaker ks all.1)

module _ {K : Type 0} (cmp : K → K → Ordering) (total : IsTotalOrder cmp) (same : K → K → Bool) (told : (a b : K) → is_eq (cmp a b) ≡ same a b) (exact : (a b : K) → same a b ≡ true → a ≡ b) where
  -- a key below all keys of a list is not in it
  pub lacks : (k : K) (ks : List K) → AllByRecursion (λ y. cmp k y ≡ Less) ks → list_any (same k) ks ≡ false
  lacks k [] below = refl
  lacks k (x ∷ ks) below = let apart : same k x ≡ false = sym (told k x) ∙ ap is_eq below.0 in rw apart (lacks k ks below.1)

  itself : (k : K) → same k k ≡ true
  itself k = go (cmp k k) refl
    where
      go : (o : Ordering) → cmp k k ≡ o → same k k ≡ true
      go Equal is = sym (told k k) ∙ ap is_eq is
      go Less is = absurd (let turned : cmp k k ≡ Greater = total.antisymm k k ∙ ap ordering_reverse is in cc)
      go Greater is = absurd (let turned : cmp k k ≡ Less = total.antisymm k k ∙ ap ordering_reverse is in cc)

  below_both : (x y : K) (ys : List K) → cmp x y ≡ Less → AllByRecursion (λ z. cmp y z ≡ Less) ys → list_any (same x) (y ∷ ys) ≡ false
  below_both x y ys less above = lacks x (y ∷ ys) (less, all_weaker (λ z. cmp y z ≡ Less) (λ z. cmp x z ≡ Less) (λ z more. total.trans x y z less more) ys above)

  rest_same : (x : K) (xs ys : List K) → AllByRecursion (λ z. cmp x z ≡ Less) xs → AllByRecursion (λ z. cmp x z ≡ Less) ys
      → ((k : K) → list_any (same k) (x ∷ xs) ≡ list_any (same k) (x ∷ ys)) → (k : K) → list_any (same k) xs ≡ list_any (same k) ys
  rest_same x xs ys low high agree k = go (same k x) refl (agree k)
    where
      go : (b : Bool) → same k x ≡ b → (b || list_any (same k) xs) ≡ (b || list_any (same k) ys) → list_any (same k) xs ≡ list_any (same k) ys
      go false is h = h
      go true is h = let here = exact k x is in rw here (lacks x xs low ∙ sym (lacks x ys high))

  -- ascending lists with the same keys are equal
  pub one_order : (xs ys : List K) → IsStrictlySortedBy cmp xs → IsStrictlySortedBy cmp ys → ((k : K) → list_any (same k) xs ≡ list_any (same k) ys) → xs ≡ ys
  unfolding IsStrictlySortedBy
  one_order [] [] up rise agree = refl
  one_order [] (y ∷ ys) up rise agree = absurd (let there = agree y ∙ or_left (same y y) (list_any (same y) ys) (itself y) in cc)
  one_order (x ∷ xs) [] up rise agree = absurd (let there = sym (agree x) ∙ or_left (same x x) (list_any (same x) xs) (itself x) in cc)
  one_order (x ∷ xs) (y ∷ ys) up rise agree = go (cmp x y) refl (one_order xs ys up.1 rise.1)
    where
      go : (o : Ordering) → cmp x y ≡ o → (((k : K) → list_any (same k) xs ≡ list_any (same k) ys) → xs ≡ ys) → x ∷ xs ≡ y ∷ ys
      go Less is more = absurd (let there = sym (agree x) ∙ or_left (same x x) (list_any (same x) xs) (itself x) in let not_there = below_both x y ys is rise.0 in cc)
      go Greater is more =
          let turned : cmp y x ≡ Less = total.antisymm y x ∙ ap ordering_reverse is in
          absurd (let there = agree y ∙ or_left (same y y) (list_any (same y) ys) (itself y) in let not_there = below_both y x xs turned up.0 in cc)
      go Equal is more =
          let here : x ≡ y = exact x y (sym (told x y) ∙ ap is_eq is) in
          let rise_x : AllByRecursion (λ z. cmp x z ≡ Less) ys = subst (λ k. AllByRecursion (λ z. cmp k z ≡ Less) ys) (sym here) rise.0 in
          let agree_x = subst (λ l. (k : K) → list_any (same k) (x ∷ xs) ≡ list_any (same k) (l ∷ ys)) (sym here) agree in
          let rest : xs ≡ ys = more (rest_same x xs ys up.0 rise_x agree_x) in
          rw (here, rest) refl
