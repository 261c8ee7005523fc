use Rattle.std.proofs.Common.{◌≡◌, ◌==◌, ℕ, List, true, false, length, refl, rules, subst}
use Rattle.registry_commands.specs.Ends.{output_of}
use Rattle.registry_commands.specs.Failures.{Prints}
use Rattle.registry_commands.proofs.KeyLemmas.{none_said, some_said}
use Rattle.registry_commands.proofs.founding_check.tell_lines.Goals as goal

pub returns-then-is_empty : goal.returns-then-is_empty
returns-then-is_empty g c table is =
    let none : (length c.args.lines.now == 0) ≡ true = search rules in
    rw (none_said table (subst (λ (l : List ℕ). (length l == 0) ≡ true) is none)) (refl, refl)

pub returns-else-is_empty : goal.returns-else-is_empty
returns-else-is_empty g c table is =
    let some : (length c.args.lines.now == 0) ≡ false = search rules in
    rw (some_said table (subst (λ (l : List ℕ). (length l == 0) ≡ false) is some))
    (refl, subst (Prints (output_of g.E.Sink c.args.errors.now c.tell_bytes.new.errors)) is c.tell_bytes.ensures.told)
