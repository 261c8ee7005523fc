-- Parameters of a statement that may be NULL.
use Rattle.std.proofs.Common.{◌≡◌, ℕ, List, Option, Some, None, IfSome, refl}
use Rattle.std.specs.Option.{option_copied, option_map}
use Rattle.std.specs.Borrow.{Bor}
use Rattle.sqlite.specs.declared.types.Value.TheVariants.{Text}
use Rattle.sqlite.specs.Values.{bound_value, or_null}
use Rattle.usbnum_core.specs.Text.{IsTitle, IsLink}
use Rattle.registry_rules.specs.declared.record.Terms.{Terms}
use Rattle.registry_rules.specs.Orders.{IsTerms}
use Rattle.registry_rows.specs.Rows.{part, whole}

pub part_given : (f : Terms → List ℕ) (terms : Option Terms) (o : Option (Bor (List ℕ))) → option_copied o ≡ option_map f terms → bound_value (or_null (λ s. Text s.now) o) ≡ part f terms
part_given f None None h = refl
part_given f None (Some s) h = absurd cc
part_given f (Some t) None h = absurd cc
part_given f (Some t) (Some s) h = let same : s.now ≡ f t = cc in rw same refl

pub time_given : (time : Option (List ℕ)) (o : Option (Bor (List ℕ))) → option_copied o ≡ time → bound_value (or_null (λ s. Text s.now) o) ≡ or_null (λ t. Text t) time
time_given None None h = refl
time_given None (Some s) h = absurd cc
time_given (Some t) None h = absurd cc
time_given (Some t) (Some s) h = let same : s.now ≡ t = cc in rw same refl

pub whole_given : (o : Option ℕ) → bound_value (or_null whole o) ≡ or_null whole o
whole_given None = refl
whole_given (Some n) = refl

pub all_terms : (o : Option Terms) → IfSome o (λ t. IsTitle t.licence) → IfSome o (λ t. IsLink t.site) → IfSome o (λ t. IsLink t.source) → IfSome o IsTerms
all_terms None a b c = tt
all_terms (Some t) a b c = record { licence = a; site = b; source = c }
