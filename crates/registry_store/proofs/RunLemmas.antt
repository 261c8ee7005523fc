-- Runs of requests, one more at a time.
use Rattle.std.proofs.Common.{◌≡◌, ◌<◌, ◌+◌, ℕ, zero, suc, List, [], ◌∷◌, ◌++◌, length, take, get_or, refl, sym, ap, ◌∙◌}
use Rattle.std.proofs.lemmas.List.{take_more}
use Rattle.sqlite.specs.State.{State}
use Rattle.registry_rules.specs.declared.order.Request.{Request}
use Rattle.registry_rules.specs.History.{History}
use Rattle.registry_rules.specs.Run.{after, replies_to, after_one, reply_to}
use Rattle.registry_store.specs.Promise.{Leaves}

pub after_append : (h : History) (xs ys : List Request) → after h (xs ++ ys) ≡ after (after h xs) ys
after_append h [] ys = refl
after_append h (x ∷ xs) ys = after_append (after_one h x) xs ys

pub answers_append : (h : History) (xs ys : List Request) → replies_to h (xs ++ ys) ≡ replies_to h xs ++ replies_to (after h xs) ys
answers_append h [] ys = refl
answers_append h (x ∷ xs) ys = ap (λ zs. reply_to h x ∷ zs) (answers_append (after_one h x) xs ys)

pub after_more : (h : History) (xs : List Request) (i : ℕ) (d : Request) → i < length xs → after h (take (i + 1) xs) ≡ after_one (after h (take i xs)) (get_or xs i d)
after_more h xs i d low = ap (after h) (take_more xs i d low) ∙ after_append h (take i xs) (get_or xs i d ∷ [])

pub answers_more : (h : History) (xs : List Request) (i : ℕ) (d : Request) → i < length xs → replies_to h (take (i + 1) xs) ≡ replies_to h (take i xs) ++ reply_to (after h (take i xs)) (get_or xs i d) ∷ []
answers_more h xs i d low = ap (replies_to h) (take_more xs i d low) ∙ answers_append h (take i xs) (get_or xs i d ∷ [])

module _ (v : ℕ) (s : State) where
  pub leaves_weaker : (A B : History → Type 0) → ((x : History) → A x → B x) → Leaves v s A → Leaves v s B
  leaves_weaker A B give left db may = let it = left db may in (it.0, give it.0 it.1, it.2)

-- the same for the element that a loop reads
pub after_item : (h : History) (xs : List Request) (i : ℕ) (x : Request) → i < length xs → x ≡ get_or xs i x → after h (take (i + 1) xs) ≡ after_one (after h (take i xs)) x
after_item h xs i x low is = after_more h xs i x low ∙ ap (after_one (after h (take i xs))) (sym is)

pub answers_item : (h : History) (xs : List Request) (i : ℕ) (x : Request) → i < length xs → x ≡ get_or xs i x → replies_to h (take (i + 1) xs) ≡ replies_to h (take i xs) ++ reply_to (after h (take i xs)) x ∷ []
answers_item h xs i x low is = answers_more h xs i x low ∙ ap (λ (y : Request). replies_to h (take i xs) ++ reply_to (after h (take i xs)) y ∷ []) (sym is)

pub take_answers : (n : ℕ) (h : History) (rs : List Request) → replies_to h (take n rs) ≡ take n (replies_to h rs)
take_answers zero h rs = refl
take_answers (suc n) h [] = refl
take_answers (suc n) h (r ∷ rs) = ap (λ x. reply_to h r ∷ x) (take_answers n (after_one h r) rs)
