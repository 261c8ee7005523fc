-- What a crash leaves holds what was answered.
use Rattle.std.proofs.Common.{◌≡◌, ◌⊎◌, ℕ, inl, inr, List, [], ◌∷◌, ◌++◌, Some, refl, sym, subst, ◌∙◌}
use Rattle.std.specs.Prelude.{◌≢◌, Result, Ok, Err, IfOk}
use Rattle.std.specs.Result.{result_ok}
use Rattle.byte_streams.specs.declared.streams.Broken.{Broken}
use Rattle.registry_rules.specs.History.{History}
use Rattle.registry_store.specs.Files.{IsEither}
use Rattle.registry_desk.specs.declared.fault.DeskFault.{DeskFault}
use Rattle.registry_desk.specs.declared.fault.DeskFault.TheVariants.{NoMemory, Registry}
use Rattle.registry_desk.specs.declared.serve.Served.{Served}
use Rattle.registry_desk.specs.Serving.{IsNext}
use Rattle.registry_desk.specs.Server.{Visit, IsTurn, Turns, IsSentWith, IsAnsweredWhole, IsAfterMessage, HoldsAnswered, LeavesAnswered}

sent_short : (sent : Result ℕ Broken) → IfOk sent (λ s. s ≡ 503) → (status : ℕ) → result_ok sent ≡ Some status → status ≢ 503 → ⊥
sent_short (Ok s) is status same other = let here : s ≡ status = cc in other (sym here ∙ is)
sent_short (Err broken) is status same other = absurd cc

not_whole : (bytes text : List ℕ) (end : Result Served Broken) → IsSentWith end 503 → ¬ IsAnsweredWhole (record { bytes = bytes; text = text; end = end })
not_whole bytes text (Ok served) is = λ whole. sent_short served.status is whole.0 whole.1 whole.2
not_whole bytes text (Err broken) is = absurd is

abbrev Held : History → Visit → History → Type 0
Held h visit next = IsAfterMessage h visit.bytes next ⊎ ((next ≡ h) × ¬ IsAnsweredWhole visit)

held_next : (h next : History) (visit : Visit) (fault : DeskFault) → IsNext h visit.bytes fault next → IsSentWith visit.end 503 → Held h visit next
held_next h next visit fault (inl same) is = inr (same.1, not_whole visit.bytes visit.text visit.end is)
held_next h next visit fault (inr it) is = inl (it.0, it.1, it.2)

held_turn_at : (h next : History) (bytes text : List ℕ) (end : Result Served Broken) → IsTurn h (record { bytes = bytes; text = text; end = end }) next
    → Held h (record { bytes = bytes; text = text; end = end }) next
held_turn_at h next bytes text (Ok served) (inl it) = inl (it.said, it.says, it.next_is)
held_turn_at h next bytes text (Ok served) (inr it) = held_next h next (record { bytes = bytes; text = text; end = Ok served }) NoMemory it.next_is it.status_is
held_turn_at h next bytes text (Err broken) same = inr (same, λ whole. let none = whole.1 in absurd cc)

held_turns : (h next : History) (visits : List Visit) → Turns h visits next → HoldsAnswered h visits next
held_turns h next [] same = same
held_turns h next (visit ∷ visits) turns = (turns.0, held_turn_at h turns.0 visit.bytes visit.text visit.end turns.1, held_turns turns.0 next visits turns.2)

held_more : (h middle next : History) (visits : List Visit) (visit : Visit) → HoldsAnswered h visits middle → Held middle visit next → HoldsAnswered h (visits ++ visit ∷ []) next
held_more h middle next [] visit same one = (next, subst (λ (x : History). Held x visit next) same one, refl)
held_more h middle next (first ∷ visits) visit before one = (before.0, before.1, held_more before.0 middle next visits visit before.2 one)

held_either : (h next x : History) (visit : Visit) (fault : DeskFault) → IsNext h visit.bytes fault next → IsSentWith visit.end 503 → IsEither h next x → Held h visit x
held_either h next x visit fault next_is is (inl same) = inr (same, not_whole visit.bytes visit.text visit.end is)
held_either h next x visit fault next_is is (inr same) = subst (λ (y : History). Held h visit y) (sym same) (held_next h next visit fault next_is is)

pub leaves_answered : LeavesAnswered
leaves_answered h visits x (inl turns) = held_turns h x visits turns
leaves_answered h visits x (inr it) =
    subst (λ (v : List Visit). HoldsAnswered h v x) (sym it.all)
    (held_more h it.middle x it.before it.last (held_turns h it.middle it.before it.turns) (held_either it.middle it.next x it.last (Registry it.fault) it.next_is it.status_is it.is))
