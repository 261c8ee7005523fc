use Rattle.usbids_text.proofs.EntryLemmas.{push_top}
use Rattle.usbids_text.proofs.document.Document.push.Goals as goal

pub invariant_of-self-2 : goal.invariant_of-self-2
invariant_of-self-2 c = rw (c.in_ok-push.ensures.items, ← c.top.view_is) (push_top _ _ c.self.invariant c.top.invariant)
