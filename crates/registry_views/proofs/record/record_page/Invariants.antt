use Rattle.registry_views.proofs.PieceLemmas.{Reads}
use Rattle.registry_views.proofs.record.record_page.Given as goal

abbrev pub invariant-loop : goal.invariant-loop
invariant-loop g l = Reads l.initial.registry l.registry l.after l.place l.counter l.page
