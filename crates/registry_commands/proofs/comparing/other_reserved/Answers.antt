use Rattle.std.proofs.Common.{◌≡◌, ◌∙◌, IsTrue, ℕ, sym}
use Rattle.usbnum_core.specs.Spans.{spans_have}
use Rattle.registry_commands.proofs.comparing.other_reserved.Goals as goal

pub returns-then-not-is_same-clause-same : goal.returns-then-not-is_same-clause-same
returns-then-not-is_same-clause-same g c h stored made =
    let yes : IsTrue c.eq-is_same.result = c.eq-is_same.ensures.same_numbers.1 (λ n. c.in_ok-here.ensures.answered h stored n ∙ sym (c.in_ok-there.ensures.answered h made n)) in
    absurd (cc yes)
