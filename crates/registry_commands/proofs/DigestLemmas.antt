-- The digests in the lines of a record, over the history before each.
use Rattle.std.proofs.Common.{◌≡◌, ◌⊎◌, inl, inr, ℕ, List, length, Option, Some, None, ◌∙◌}
use Rattle.std.proofs.lemmas.List.Elements.{All-tail}
use Rattle.registry_rules.specs.Accepted.{AreValid, IsValid}
use Rattle.registry_rules.specs.History.{History}
use Rattle.registry_rules.specs.Run.{after_one, after_verdict}
use Rattle.registry_rules.specs.Verdict.{verdict}
use Rattle.registry_rules.specs.declared.order.Request.{Request}
use Rattle.registry_rules.specs.declared.verdict.Verdict.{Verdict}
use Rattle.registry_rules.specs.declared.verdict.Verdict.TheVariants.{Kept, Refused, New}
use Rattle.registry_commands.specs.Replayed.{IsDigestAfter, HasAnother, HasDigest, IsAnother}

-- the requests before are valid, if those with one more are
valid_before : (h : History) (r : Request) → AreValid (after_one h r).deeds → AreValid h.deeds
valid_before h r = go (verdict h r)
  where
    go : (v : Verdict) → AreValid (after_verdict h v).deeds → AreValid h.deeds
    go (Kept text) valid = valid
    go (Refused refusal) valid = valid
    go (New deed) valid = All-tail IsValid deed h.deeds valid

module _ (h : History) (r : Request) where
  pub digest_before : (digest : Option (List ℕ)) (before : ℕ) → (AreValid h.deeds → before ≡ length h.deeds) → HasDigest before (after_one h r) digest → IsDigestAfter h r digest
  digest_before None before counted has = tt
  digest_before (Some digest) before counted has = λ valid. elim (has valid) [
    | inl none ↦ inl (none ∙ counted (valid_before h r valid))
    | inr same ↦ inr same
  ]

  pub another_before : (digest : Option (List ℕ)) (before : ℕ) → (AreValid h.deeds → before ≡ length h.deeds) → HasAnother before (after_one h r) digest → IsAnother h r digest
  another_before None before counted has = has
  another_before (Some digest) before counted has = λ valid. let other = has valid in let is = counted (valid_before h r valid) in (λ none. other.0 (cc (none, is)), other.1)
