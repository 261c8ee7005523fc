use Rattle.registry_commands.proofs.LineLemmas.{suffix}
use Rattle.registry_commands.proofs.RecordLineLemmas.{none_after, some_after}
use Rattle.registry_commands.proofs.record_lines.line_feed_after.Goals as goal

pub returns-in-Some : goal.returns-in-Some
returns-in-Some c =
    some_after c.args.bytes.now c.args.searched c.requires.within c.requires.none c.in-Some.more (rw suffix at c.in-Some.ensures)

pub returns-in-None : goal.returns-in-None
returns-in-None c = none_after c.args.bytes.now c.args.searched c.requires.within c.requires.none (rw suffix at c.in-None.ensures)
