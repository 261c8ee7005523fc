use Rattle.std.proofs.Common.{◌≡◌, ◌∙◌, sym}
use Rattle.registry_commands.proofs.comparing.has_same_digest.Goals as goal

pub returns-clause-same : goal.returns-clause-same
returns-clause-same g c h valid stored made other =
    let same = c.is_same.ensures ((c.in_ok-here.ensures.answered h stored valid).digest ∙ sym (c.in_ok-there.ensures.answered h made valid).digest) in
    cc (same, other)
