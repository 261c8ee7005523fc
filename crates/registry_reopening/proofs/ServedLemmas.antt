-- What is opened after connections were served.
use Rattle.std.proofs.Common.{◌≡◌, ℕ, inl, inr, List, [], ◌∷◌, Option, Some, None, sym, subst, arith}
use Rattle.std.specs.Prelude.{Result, Ok, Err, IfOk, IfErr, MatchResult}
use Rattle.std.proofs.Math.Logic.{∥∥₁_map}
use Rattle.sqlite.specs.Store.{Ghosts}
use Rattle.sqlite.specs.State.{HasCleanDisk}
use Rattle.byte_streams.specs.declared.streams.Broken.{Broken}
use Rattle.registry_rules.specs.History.{History}
use Rattle.registry_rules.specs.Run.{Legal}
use Rattle.registry_rules.proofs.RunLemmas.{legal_after_one}
use Rattle.registry_tables.specs.Rows.{newest}
use Rattle.registry_store.specs.declared.fault.Fault.{Fault}
use Rattle.registry_store.specs.declared.registry.Registry.{Registry as TheRegistry}
use Rattle.registry_store.specs.Promise.{Endures, IsNew, Leaves, Represents, state_of}
use Rattle.registry_store.specs.Files.{IsEither}
use Rattle.registry_store.proofs.RunLemmas.{leaves_weaker}
use Rattle.registry_http.specs.declared.refusal.HttpRefusal.{HttpRefusal}
use Rattle.registry_http.specs.declared.message.Message.{Message}
use Rattle.registry_http.specs.declared.message.Message.TheVariants as messages
use Rattle.registry_desk.specs.declared.serve.Served.{Served}
use Rattle.registry_desk.specs.Acting.{after_message}
use Rattle.registry_desk.specs.Serving.{IsNext}
use Rattle.registry_desk.specs.Server.{Visit, IsTurn, Turns, EndsServing, IsLeftAfter}
use Rattle.registry_reopening.specs.Opening.{ComesAfter}
use Rattle.registry_reopening.specs.Served.{IsReopenedAfterServing}
use Rattle.registry_desk.proofs.ServerLemmas.{in_part}

-- ---- a history stays legal

legal_after_message : (h : History) (said : Result Message HttpRefusal) → Legal h → Legal (after_message h said)
legal_after_message h (Err refusal) legal = legal
legal_after_message h (Ok (messages.Query query)) legal = legal
legal_after_message h (Ok (messages.Request request)) legal = legal_after_one h request legal

legal_next : (h : History) (bytes : List ℕ) (fault : _) (next : History) → Legal h → IsNext h bytes fault next → Legal next
legal_next h bytes fault next legal (inl same) = subst Legal (sym same.1) legal
legal_next h bytes fault next legal (inr it) = subst Legal (sym it.2) (legal_after_message h it.0 legal)

legal_turn_at : (h next : History) (bytes text : List ℕ) (end : Result Served Broken) → Legal h → IsTurn h (record { bytes = bytes; text = text; end = end }) next → Legal next
legal_turn_at h next bytes text (Ok served) legal (inl it) = subst Legal (sym it.next_is) (legal_after_message h it.said legal)
legal_turn_at h next bytes text (Ok served) legal (inr it) = legal_next h bytes _ next legal it.next_is
legal_turn_at h next bytes text (Err broken) legal same = subst Legal (sym same) legal

legal_turn : (h next : History) (visit : Visit) → Legal h → IsTurn h visit next → Legal next
legal_turn h next visit legal turn = legal_turn_at h next visit.bytes visit.text visit.end legal turn

pub legal_turns : (h next : History) (visits : List Visit) → Legal h → Turns h visits next → Legal next
legal_turns h next [] legal same = subst Legal (sym same) legal
legal_turns h next (visit ∷ visits) legal turns = legal_turns turns.0 next visits (legal_turn h turns.0 visit legal turns.1) turns.2

-- ---- what is opened

module _ {S : Type 0} {g : Ghosts S} where
  -- the opened registry represents one of the histories that the last one left
  abbrev Opens : TheRegistry S g → TheRegistry S g → Type 0
  Opens last it = (h next : History) → Legal h → Legal next → (HasCleanDisk (state_of last) → Leaves newest (state_of last) (IsEither h next))
      → HasCleanDisk (state_of it) → ∥ ((x : History) × IsEither h next x × Represents it x) ∥₁

  opened : (last it : TheRegistry S g) (h : History) (visits : List Visit) (fault : Option Fault) → Legal h → EndsServing last h visits fault → Opens last it → HasCleanDisk (state_of it)
      → ∥ ((x : History) × IsLeftAfter h visits x × Represents it x) ∥₁
  opened last it h visits None legal ends opens clean =
      let now = legal_turns h ends.0 visits legal ends.1 in
      ∥∥₁_map (opens ends.0 ends.0 now now (λ was. leaves_weaker newest (state_of last) (λ x. x ≡ ends.0) (IsEither ends.0 ends.0) (λ x e. inl e) (ends.2.at.left was)) clean)
      (λ found. (found.0, inl (subst (λ (x : History). Turns h visits x) (sym (elim found.1 [ inl e ↦ e | inr e ↦ e ])) ends.1), found.2))
  opened last it h visits (Some fault) legal ends opens clean =
      let before = legal_turns h ends.middle ends.before legal ends.turns in
      let after = legal_next ends.middle ends.last.bytes _ ends.halted.next before ends.halted.next_is in
      ∥∥₁_map (opens ends.middle ends.halted.next before after (λ _. ends.halted.left.leaves) clean) (λ found. (found.0, inr (in_part last h visits fault ends found.0 found.1), found.2))

  abbrev MayOpen : {E : Type 0} → TheRegistry S g → Result (TheRegistry S g) E → Type 0
  MayOpen last opened = (h next : History) → Legal h → Legal next → (HasCleanDisk (state_of last) → Leaves newest (state_of last) (IsEither h next))
      → IfOk opened (λ it. HasCleanDisk (state_of it) → ∥ ((x : History) × IsEither h next x × Represents it x) ∥₁)

  abbrev MayLeave : {E : Type 0} → (History → History → E → Type 0) → TheRegistry S g → Result (TheRegistry S g) E → Type 0
  MayLeave Left last opened = (h next : History) → Legal h → Legal next → (HasCleanDisk (state_of last) → Leaves newest (state_of last) (IsEither h next)) → IfErr opened (Left h next)

  -- if a registry is opened, it is this one; otherwise what is left is what the last registry left
  pub if_reopened : {E : Type 0} (first last : TheRegistry S g) (visits : List Visit) (fault : Option Fault)
      → ((h : History) → Represents first h → HasCleanDisk (state_of last) → EndsServing last h visits fault × Leaves newest (state_of last) (IsLeftAfter h visits)) → Endures (state_of first) (state_of last)
      → (Left : History → History → E → Type 0) (opened : Result (TheRegistry S g) E) → MayOpen last opened → IfOk opened (λ it. HasCleanDisk (state_of it) → HasCleanDisk (state_of last)) → IfOk opened IsNew → MayLeave Left last opened
      → MatchResult opened (λ it. IsReopenedAfterServing first visits it × ComesAfter first it)
      (λ e. (h next : History) → Legal h → Legal next → (HasCleanDisk (state_of last) → Leaves newest (state_of last) (IsEither h next)) → Left h next e)
  if_reopened first last visits fault served endures Left (Err e) opens before new leaves = leaves
  if_reopened first last visits fault served endures Left (Ok it) opens before new leaves = (
    λ h stands clean. opened last it h visits fault stands.legal_with.legal (served h stands (before clean)).0 opens clean,
    (new, λ clean. let was : HasCleanDisk (state_of last) = before clean in omega (arith, was, endures.clean)),
  )
