use Rattle.std.proofs.Common.{arith}
use Rattle.std.proofs.lemmas.Bool.Decides.{nat_tests}
use Rattle.registry_wire.proofs.ValueLemmas.{no_pair}
use Rattle.registry_wire.proofs.json_value.item_of_pair.Goals as goal
use Rattle.registry_wire.proofs.json_value.item_of_pair.Goals.{in_default-via-then-pair-lt2, in_default-via-else-pair-lt2+else-pair-lt3}

pub returns-in_default : goal.returns-in_default
returns-in_default c =
    no_pair c.args.pair.now (λ two. elim c.in_default.branch [
      | in_default-via-then-pair-lt2 w ↦ let h = w in grind (arith, nat_tests)
      | in_default-via-else-pair-lt2+else-pair-lt3 w ↦ let h = w in grind (arith, nat_tests)
    ])
