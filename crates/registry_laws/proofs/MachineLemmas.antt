-- Histories whose records begin one log.
use Rattle.std.proofs.Common.{◌≡◌, ◌≤◌, ◌<◌, ◌⊎◌, ◌+◌, ℕ, zero, suc, inl, inr, List, [], ◌∷◌, ◌++◌, length, map, slice_get, Option, None, Some, refl, sym, ap, ap₂, subst, ◌∙◌, arith}
use Rattle.std.specs.Prelude.{All, Result, Ok}
use Rattle.std.proofs.lemmas.List.Elements.{All-head, All-tail}
use Rattle.usbnum_core.specs.declared.number.Number.{Number}
use Rattle.registry_rules.specs.Accepted.{accepted_of, accepted_by}
use Rattle.registry_rules.specs.History.{History, founded, with_deed, sooner}
use Rattle.registry_rules.specs.Laws.{requests_of_record}
use Rattle.registry_rules.specs.Query.{owner_of, receiver}
use Rattle.registry_rules.specs.Run.{Legal, after, after_one, after_verdict}
use Rattle.registry_rules.specs.Verdict.{verdict}
use Rattle.registry_rules.specs.declared.accepted.Accepted.{Accepted}
use Rattle.registry_rules.specs.declared.deed.Deed.{Deed}
use Rattle.registry_rules.specs.declared.founding.Founding.{Founding}
use Rattle.registry_rules.specs.declared.order.Request.{Request}
use Rattle.registry_rules.specs.declared.verdict.Verdict.{Verdict}
use Rattle.registry_rules.specs.declared.verdict.Verdict.TheVariants.{Kept, Refused, New}
use Rattle.registry_rules.proofs.ReplayLemmas.{replayed}
use Rattle.registry_wire.specs.Record.{accepted_line, founding_line, record_reading}
use Rattle.registry_wire.specs.declared.record.RecordLine.{RecordLine}
use Rattle.registry_wire.specs.declared.record.RecordLine.TheVariants as lines
use Rattle.registry_wire.specs.declared.refusal.WireRefusal.{WireRefusal}
use Rattle.shared_log.specs.Calls.{LogLines, Grows, AppendMeans}
use Rattle.shared_log.specs.declared.answers.AppendAnswer.TheVariants.{Appended}
use Rattle.registry_laws.specs.Records.{IsAccepted, record_of}
use Rattle.registry_laws.specs.Machines.{IsOfMachine, BeginsWith, LeadsToLater, HaveOneHistory, HaveOneOwner, HaveEachRequest, BeginsWithAppended}
use Rattle.registry_laws.proofs.LineLemmas.{accepted_read, founding_read}
use Rattle.registry_laws.proofs.OwnLineLemmas.{own_line, own_founding_line}

-- ---- lists

module _ {X : Type 0} where
  -- the second list is the first with more behind it
  abbrev HasMore : List X → List X → Type 0
  HasMore xs ys = (more : List X) × (ys ≡ xs ++ more)

  more_of : (x y : X) (xs ys : List X) → x ≡ y → HasMore xs ys → HasMore (x ∷ xs) (y ∷ ys)
  more_of x y xs ys same it = (it.0, ap₂ (λ (z : X) (l : List X). z ∷ l) (sym same) it.1)

  either_of : (x y : X) (xs ys : List X) → x ≡ y → HasMore xs ys ⊎ HasMore ys xs → HasMore (x ∷ xs) (y ∷ ys) ⊎ HasMore (y ∷ ys) (x ∷ xs)
  either_of x y xs ys same (inl it) = inl (more_of x y xs ys same it)
  either_of x y xs ys same (inr it) = inr (more_of y x ys xs (sym same) it)

  -- of two beginnings of one list one is a beginning of the other
  two_beginnings : (xs ys rest others : List X) → xs ++ rest ≡ ys ++ others → HasMore xs ys ⊎ HasMore ys xs
  two_beginnings [] ys rest others same = inl (ys, refl)
  two_beginnings (x ∷ xs) [] rest others same = inr (x ∷ xs, refl)
  two_beginnings (x ∷ xs) (y ∷ ys) rest others same =
      let first : x ≡ y = cc in
      let left : xs ++ rest ≡ ys ++ others = cc in
      either_of x y xs ys first (two_beginnings xs ys rest others left)

  -- a list with as many elements as a beginning of it has no more
  pub whole_beginning : (xs more : List X) → length (xs ++ more) ≡ length xs → xs ++ more ≡ xs
  whole_beginning [] [] same = refl
  whole_beginning [] (m ∷ more) same = absurd (omega (arith, same))
  whole_beginning (x ∷ xs) more same = ap (λ l. x ∷ l) (whole_beginning xs more (omega (arith, same)))

  pub appended_twice : (xs ys zs : List X) → (xs ++ ys) ++ zs ≡ xs ++ (ys ++ zs)
  appended_twice [] ys zs = refl
  appended_twice (x ∷ xs) ys zs = ap (λ l. x ∷ l) (appended_twice xs ys zs)

  pub in_beginning : (xs more : List X) (n : ℕ) → n < length xs → slice_get (xs ++ more) n ≡ slice_get xs n
  in_beginning [] more n lt = absurd (omega (arith, lt))
  in_beginning (x ∷ xs) more zero lt = refl
  in_beginning (x ∷ xs) more (suc n) lt = in_beginning xs more n (omega (arith, lt))

mapped : {A B : Type 0} (f : A → B) (xs ys : List A) → map f (xs ++ ys) ≡ map f xs ++ map f ys
mapped f [] ys = refl
mapped f (x ∷ xs) ys = ap (λ l. f x ∷ l) (mapped f xs ys)

-- a function that tells the values with P apart
module _ {A B : Type 0} (f : A → B) (P : A → Type 0) (own : (a b : A) → P a → P b → f a ≡ f b → a ≡ b) where
  values_more : (xs ys : List A) → All P xs → All P ys → HasMore (map f xs) (map f ys) → HasMore xs ys
  values_more [] ys of_xs of_ys it = (ys, refl)
  values_more (x ∷ xs) [] of_xs of_ys it = absurd (let none : [] ≡ f x ∷ (map f xs ++ it.0) = it.1 in cc)
  values_more (x ∷ xs) (y ∷ ys) of_xs of_ys it =
      let is : f y ∷ map f ys ≡ f x ∷ (map f xs ++ it.0) = it.1 in
      let first : f x ≡ f y = cc in
      let left : map f ys ≡ map f xs ++ it.0 = cc in
      more_of x y xs ys (own x y (All-head P x xs of_xs) (All-head P y ys of_ys) first) (values_more xs ys (All-tail P x xs of_xs) (All-tail P y ys of_ys) (it.0, left))

  value_at : (xs : List A) (a : A) (n : ℕ) → All P xs → P a → slice_get (map f xs) n ≡ Some (f a) → slice_get xs n ≡ Some a
  value_at [] a n of_xs of_a at = absurd (let none : None ≡ Some (f a) = at in cc)
  value_at (x ∷ xs) a zero of_xs of_a at = (let same : f x ≡ f a = cc in ap Some (own x a (All-head P x xs of_xs) of_a same))
  value_at (x ∷ xs) a (suc n) of_xs of_a at = value_at xs a n (All-tail P x xs of_xs) of_a at

-- ---- one history goes on from the other

pub after_both : (h : History) (rs ss : List Request) → after h (rs ++ ss) ≡ after (after h rs) ss
after_both h [] ss = refl
after_both h (r ∷ rs) ss = after_both (after_one h r) rs ss

goes_on : (a b : History) → Legal a → Legal b → a.founding ≡ b.founding → HasMore (accepted_of a.deeds) (accepted_of b.deeds) → LeadsToLater a b
goes_on a b legal_a legal_b same it =
    let request : Accepted → Request = λ accepted. accepted.request in (
      requests_of_record it.0,
      sym (replayed b.founding b.deeds legal_b) ∙ ap (λ (f : Founding). after (founded f) (requests_of_record (accepted_of b.deeds))) (sym same)
          ∙ ap (λ (all : List Accepted). after (founded a.founding) (requests_of_record all)) it.1
          ∙ ap (after (founded a.founding)) (mapped request (accepted_of a.deeds) it.0)
          ∙ after_both (founded a.founding) (requests_of_record (accepted_of a.deeds)) (requests_of_record it.0)
          ∙ ap (λ (h : History). after h (requests_of_record it.0)) (replayed a.founding a.deeds legal_a),
    )

-- the record of the second history has that of the first, and more
record_more : (log : LogLines) (a b : History) → IsOfMachine log a → IsOfMachine log b → HasMore (record_of a) (record_of b) → LeadsToLater a b
record_more log a b of_a of_b it =
    let is : founding_line b.founding ∷ map accepted_line (accepted_of b.deeds) ≡ founding_line a.founding ∷ (map accepted_line (accepted_of a.deeds) ++ it.0) = it.1 in
    let first : founding_line a.founding ≡ founding_line b.founding = cc in
    let left : map accepted_line (accepted_of b.deeds) ≡ map accepted_line (accepted_of a.deeds) ++ it.0 = cc in
    goes_on a b of_a.legal of_b.legal (own_founding_line a.founding b.founding of_a.valid.founding of_b.valid.founding first)
    (values_more accepted_line IsAccepted own_line (accepted_of a.deeds) (accepted_of b.deeds) of_a.valid.accepted of_b.valid.accepted (it.0, left))

one_of : (log : LogLines) (a b : History) → IsOfMachine log a → IsOfMachine log b → HasMore (record_of a) (record_of b) ⊎ HasMore (record_of b) (record_of a) → LeadsToLater a b ⊎ LeadsToLater b a
one_of log a b of_a of_b (inl it) = inl (record_more log a b of_a of_b it)
one_of log a b of_a of_b (inr it) = inr (record_more log b a of_b of_a it)

pub one_history : HaveOneHistory
one_history log a b of_a of_b = one_of log a b of_a of_b (two_beginnings (record_of a) (record_of b) of_a.begins.0 of_b.begins.0 (sym of_a.begins.1 ∙ of_b.begins.1))

-- ---- an owner stays the owner

stays_first : {A : Type 0} (found : Option A) (answer : Option A) (x : A) → found ≡ Some x → sooner found answer ≡ Some x
stays_first found None x is = is
stays_first None (Some answer) x is = absurd cc
stays_first (Some found) (Some answer) x is = is

owner_by : (h : History) (n : Number) (org : List ℕ) (v : Verdict) → owner_of h n ≡ Some org → owner_of (after_verdict h v) n ≡ Some org
owner_by h n org (Kept text) is = is
owner_by h n org (Refused refusal) is = is
owner_by h n org (New deed) is = stays_first (owner_of h n) (receiver n deed.act) org is

owner_after : (h : History) (n : Number) (org : List ℕ) (requests : List Request) → owner_of h n ≡ Some org → owner_of (after h requests) n ≡ Some org
owner_after h n org [] is = is
owner_after h n org (r ∷ requests) is = owner_after (after_one h r) n org requests (owner_by h n org (verdict h r) is)

owner_on : (a b : History) (n : Number) (org other : List ℕ) → LeadsToLater a b → owner_of a n ≡ Some org → owner_of b n ≡ Some other → org ≡ other
owner_on a b n org other it is_a is_b =
    let on : owner_of b n ≡ Some org = ap (λ (h : History). owner_of h n) it.1 ∙ owner_after a n org it.0 is_a in
    let same : Some org ≡ Some other = sym on ∙ is_b in
    cc

owner_either : (a b : History) (n : Number) (org other : List ℕ) → LeadsToLater a b ⊎ LeadsToLater b a → owner_of a n ≡ Some org → owner_of b n ≡ Some other → org ≡ other
owner_either a b n org other (inl it) is_a is_b = owner_on a b n org other it is_a is_b
owner_either a b n org other (inr it) is_a is_b = sym (owner_on b a n other org it is_b is_a)

pub one_owner : HaveOneOwner
one_owner log a b of_a of_b n org other is_a is_b = owner_either a b n org other (one_history log a b of_a of_b) is_a is_b

-- ---- the requests whose lines are in the log

-- the line of a founding is that of no accepted request
no_founding : (founding : List ℕ) (line : List ℕ) (f : RecordLine) (a : RecordLine) → founding ≡ line → record_reading founding ≡ Ok f → record_reading line ≡ Ok a → f ≡ a
no_founding founding line f a same of_f of_a =
    let both : Ok f ≡ Ok a = sym of_f ∙ ap record_reading same ∙ of_a in
    cc

request_at : (h : History) (log : LogLines) → IsOfMachine log h → (accepted : Accepted) → IsAccepted accepted → (n : ℕ) → slice_get (record_of h) n ≡ Some (accepted_line accepted)
    → (k : ℕ) × (n ≡ suc k) × (slice_get (accepted_of h.deeds) k ≡ Some accepted)
request_at h log of_h accepted valid zero at =
    let same : founding_line h.founding ≡ accepted_line accepted = cc in
    absurd (let both : lines.Founding h.founding ≡ lines.Accepted accepted None = no_founding _ _ _ _ same (founding_read h.founding of_h.valid.founding) (accepted_read accepted valid) in cc)
request_at h log of_h accepted valid (suc k) at = (k, refl, value_at accepted_line IsAccepted own_line (accepted_of h.deeds) accepted k of_h.valid.accepted valid at)

pub each_request : HaveEachRequest
each_request log h of_h accepted valid n lt at =
    request_at h log of_h accepted valid n (sym (in_beginning (record_of h) of_h.begins.0 n lt) ∙ ap (λ (l : LogLines). slice_get l n) (sym of_h.begins.1) ∙ at)

-- ---- an append

pub record_with : (h : History) (deed : Deed) → record_of (with_deed h deed) ≡ record_of h ++ accepted_line (accepted_by deed) ∷ []
record_with h deed = ap (λ (l : LogLines). founding_line h.founding ∷ l) (mapped accepted_line (accepted_of h.deeds) (accepted_by deed ∷ []))

pub begins_with_appended : BeginsWithAppended
begins_with_appended old new h deed begins means =
    let line = accepted_line (accepted_by deed) in
    let at : means.instant ≡ record_of h ++ (begins.0 ++ means.before.0) = means.before.1 ∙ ap (λ (l : LogLines). l ++ means.before.0) begins.1 ∙ appended_twice (record_of h) begins.0 means.before.0 in
    let long : length (record_of h ++ (begins.0 ++ means.before.0)) ≡ length (record_of h) = ap length (sym at) ∙ means.next in
    let whole : means.instant ≡ record_of h = at ∙ whole_beginning (record_of h) (begins.0 ++ means.before.0) long in
    (means.after.0, means.after.1 ∙ ap (λ (l : LogLines). (l ++ line ∷ []) ++ means.after.0) whole ∙ ap (λ (l : LogLines). l ++ means.after.0) (sym (record_with h deed)))
