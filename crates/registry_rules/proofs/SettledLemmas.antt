-- An order for curators by somebody else is refused whatever the history is.
use Rattle.std.proofs.Common.{◌≡◌, refl, List, ℕ, true, false, None, Err, sym, ap, ◌∙◌}
use Rattle.std.specs.Str.{bytes_eq}
use Rattle.std.specs.List.{list_any}
use Rattle.registry_rules.specs.History.{History}
use Rattle.registry_rules.specs.Verdict.{outcome, verdict, verdict_by, kept_under, is_for_curators}
use Rattle.registry_rules.specs.declared.order.Order.{Order}
use Rattle.registry_rules.specs.declared.order.Order.TheVariants as orders
use Rattle.registry_rules.specs.declared.order.Request.{Request}
use Rattle.registry_rules.specs.declared.refusal.Refusal.TheVariants.{NotCurator}
use Rattle.registry_rules.specs.declared.verdict.Verdict.TheVariants.{Refused}

refused_alone : (h : History) (caller : List ℕ) (order : Order) → is_for_curators order ≡ true → list_any (bytes_eq caller) h.founding.curators ≡ false → outcome h caller order ≡ Err NotCurator
unfolding outcome
refused_alone h caller (orders.Enrol it) is none = absurd cc
refused_alone h caller (orders.AmendOrg it) is none = absurd cc
refused_alone h caller (orders.Ask it) is none = absurd cc
refused_alone h caller (orders.Grant it) is none = rw none refl
refused_alone h caller (orders.Decline it) is none = rw none refl
refused_alone h caller (orders.Withdraw it) is none = absurd cc
refused_alone h caller (orders.Amend it) is none = absurd cc
refused_alone h caller (orders.Return it) is none = absurd cc
refused_alone h caller (orders.Reserve it) is none = rw none refl
refused_alone h caller (orders.Release it) is none = rw none refl
refused_alone h caller (orders.Import it) is none = rw none refl
refused_alone h caller (orders.AddVendor it) is none = rw none refl
refused_alone h caller (orders.AddLicence it) is none = rw none refl
refused_alone h caller (orders.HandOver it) is none = absurd cc
refused_alone h caller (orders.Correct it) is none = rw none refl
refused_alone h caller (orders.CorrectOrg it) is none = rw none refl
refused_alone h caller (orders.Revoke it) is none = rw none refl

pub refused_verdict : (h : History) (request : Request) → kept_under h request.caller request.key ≡ None → is_for_curators request.order ≡ true
    → list_any (bytes_eq request.caller) h.founding.curators ≡ false → Refused NotCurator ≡ verdict h request
unfolding verdict
refused_verdict h request unkept is none =
    ap (λ out. verdict_by None request out) (sym (refused_alone h request.caller request.order is none))
    ∙ ap (λ k. verdict_by k request (outcome h request.caller request.order)) (sym unkept)
