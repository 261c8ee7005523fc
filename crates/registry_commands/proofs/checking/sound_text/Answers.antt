use Rattle.std.proofs.Common.{◌∙◌, sym, codes}
use Rattle.std.specs.Fmt.{decimal}
use Rattle.registry_commands.specs.Checks.{sound_text}
use Rattle.registry_commands.proofs.CheckLemmas.{five_texts}
use Rattle.registry_commands.proofs.checking.sound_text.Goals as goal

pub returns : goal.returns
unfolding sound_text
returns c = c.in_ok-format.ensures.ok ∙ sym (five_texts (codes "sound: ") (decimal c.args.counts.requests) (codes " requests, ") (decimal c.args.counts.held) (codes " numbers held\n"))
