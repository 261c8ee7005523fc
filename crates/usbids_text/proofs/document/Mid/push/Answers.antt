use Rattle.usbids_text.proofs.EntryLemmas.{push_leaf}
use Rattle.usbids_text.proofs.document.Mid.push.Goals as goal

pub invariant_of-self-2 : goal.invariant_of-self-2
invariant_of-self-2 c = rw (c.in_ok-put_leaf.ensures.ok, ← c.leaf.view_is) (push_leaf _ _ c.self.invariant c.leaf.invariant)
