use Rattle.registry_commands.specs.RecordLines.{ahead}
use Rattle.registry_commands.proofs.EntryLemmas.{peeks_line}
use Rattle.registry_commands.proofs.entries.peek.Goals as goal

pub returns-in_ok-entry-in-Line-clause-found : goal.returns-in_ok-entry-in-Line-clause-found
returns-in_ok-entry-in-Line-clause-found g c =
    let found = rw c.in-Line.is at c.in_ok-find_line.ensures.found in
    peeks_line (ahead (g.R.Source.remaining c.args.source.now) c.args.unread.now) (g.R.Source.remaining c.find_line.new.source) c.find_line.new.unread c.in-Line.size c.in_ok-entry-in-Line.entry
    found (rw c.rest.ensures at c.in_ok-entry-in-Line.ensures)
