-- Requests with valid fields keep the record of a history valid.
use Rattle.std.proofs.Common.{◌≡◌, List, [], ◌∷◌, refl, subst, sym}
use Rattle.std.specs.Prelude.{All}
use Rattle.std.proofs.lemmas.List.Elements.{All-nil, All-cons, All-head, All-tail}
use Rattle.registry_rules.specs.Accepted.{AreValid, IsValid}
use Rattle.registry_rules.specs.History.{History, founded}
use Rattle.registry_rules.specs.Run.{after, after_one, after_verdict, request_of}
use Rattle.registry_rules.specs.Verdict.{verdict}
use Rattle.registry_rules.specs.declared.deed.Deed.{Deed}
use Rattle.registry_rules.specs.declared.founding.Founding.{Founding}
use Rattle.registry_rules.specs.declared.order.Request.{Request}
use Rattle.registry_rules.specs.declared.verdict.Verdict.{Verdict}
use Rattle.registry_rules.specs.declared.verdict.Verdict.TheVariants.{Kept, Refused, New}
use Rattle.registry_rules.proofs.RunLemmas.{new_is_of}
use Rattle.registry_laws.specs.Records.{IsValidRequest, KeepsValid}

valid_deed : (deed : Deed) → IsValidRequest (request_of deed) → IsValid deed
valid_deed deed is = record { caller = is.caller; key = is.key; order = is.order; time = is.time }

valid_verdict : (h : History) (r : Request) (v : Verdict) → verdict h r ≡ v → AreValid h.deeds → IsValidRequest r → AreValid (after_verdict h v).deeds
valid_verdict h r (Kept text) is all valid = all
valid_verdict h r (Refused refusal) is all valid = all
valid_verdict h r (New deed) is all valid = All-cons IsValid deed h.deeds (valid_deed deed (subst IsValidRequest (sym (new_is_of h r deed is)) valid)) all

valid_after : (h : History) (rs : List Request) → AreValid h.deeds → All IsValidRequest rs → AreValid (after h rs).deeds
valid_after h [] all valid = all
valid_after h (r ∷ rs) all valid =
    valid_after (after_one h r) rs (valid_verdict h r (verdict h r) refl all (All-head IsValidRequest r rs valid)) (All-tail IsValidRequest r rs valid)

pub kept_valid : KeepsValid
kept_valid = (λ founding. All-nil IsValid, valid_after)
