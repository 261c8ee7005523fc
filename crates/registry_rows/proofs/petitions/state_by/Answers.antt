use Rattle.std.proofs.Common.{◌≡◌, ℕ, sym, ap, ◌∙◌, arith}
use Rattle.sqlite.specs.declared.types.Value.TheVariants.{Null}
use Rattle.sqlite.specs.Order.{Row, column}
use Rattle.sqlite.specs.Values.{or_null}
use Rattle.registry_rules.specs.declared.record.PetitionState.{PetitionState}
use Rattle.registry_rules.specs.declared.record.PetitionState.TheVariants.{Open, Granted, Declined, Withdrawn}
use Rattle.registry_rows.specs.Rows.{whole, granted, state_code}
use Rattle.registry_rows.proofs.petitions.state_by.Goals as goal

-- only a granted petition has a number, and its code is 1
with_number : (state : PetitionState) (code n : ℕ) → code ≡ state_code state → or_null whole (granted state) ≡ whole n → code ≡ 1
with_number Open code n same number = absurd cc
with_number (Granted pid) code n same number = same
with_number Declined code n same number = absurd cc
with_number Withdrawn code n same number = absurd cc

-- the others have one of three codes
without_number : (state : PetitionState) (code : ℕ) → code ≡ state_code state → or_null whole (granted state) ≡ Null → ¬ (code ≡ 0) → ¬ (code ≡ 2) → ¬ (code ≡ 3) → ⊥
without_number Open code same number a b d = a same
without_number (Granted pid) code same number a b d = absurd cc
without_number Declined code same number a b d = b same
without_number Withdrawn code same number a b d = d same

pub returns-in_default-clause-decodes : goal.returns-in_default-clause-decodes
returns-in_default-clause-decodes c p valid same code foreign =
    let shown = sym (ap (λ (row : Row). column row 9) same) ∙ rw c.in-Some.is at c.in_ok-pid.ensures.ok in
    let is = with_number p.1.state c.args.code c.in-Some.pid code shown in
    absurd (omega (arith, is, c.in_default))

pub returns-in_default-code-clause-decodes : goal.returns-in_default-code-clause-decodes
returns-in_default-code-clause-decodes c p valid same code foreign =
    let shown = sym (ap (λ (row : Row). column row 9) same) ∙ rw c.in-None.is at c.in_ok-pid.ensures.ok in
    without_number p.1.state c.args.code code shown (λ is. absurd (omega (arith, is, c.in_default-code))) (λ is. absurd (omega (arith, is, c.in_default-code))) (λ is. absurd (omega (arith, is, c.in_default-code)))
