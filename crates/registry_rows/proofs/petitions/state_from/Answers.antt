use Rattle.std.proofs.Common.{◌<◌, ◌^◌, Err, ap, arith}
use Rattle.sqlite.specs.Order.{Row, column}
use Rattle.registry_rules.specs.declared.record.PetitionState.{PetitionState}
use Rattle.registry_rules.specs.declared.record.PetitionState.TheVariants.{Open, Granted, Declined, Withdrawn}
use Rattle.registry_rows.specs.Rows.{state_code}
use Rattle.registry_rows.proofs.petitions.state_from.Goals as goal

code_small : (state : PetitionState) → state_code state < 2 ^ 32
code_small Open = omega arith
code_small (Granted pid) = omega arith
code_small Declined = omega arith
code_small Withdrawn = omega arith

pub returns-in-Err-clause-decodes : goal.returns-in-Err-clause-decodes
returns-in-Err-clause-decodes c p valid same foreign = c.in-Err.ensures.foreign (ap Err foreign) (state_code p.1.state) (code_small p.1.state) (ap (λ (row : Row). column row 8) same)
