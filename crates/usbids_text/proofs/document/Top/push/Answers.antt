use Rattle.usbids_text.proofs.EntryLemmas.{push_mid}
use Rattle.usbids_text.proofs.document.Top.push.Goals as goal

pub invariant_of-self-2 : goal.invariant_of-self-2
invariant_of-self-2 c = rw (c.in_ok-push.ensures.items, ← c.mid.view_is) (push_mid _ _ c.self.invariant c.mid.invariant (rw (← c.mid.view_is, ← c.self.view_is) at c.requires))
