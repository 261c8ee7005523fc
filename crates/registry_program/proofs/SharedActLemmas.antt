-- What the files of a store hold after requests were acted on over a log.
use Rattle.std.proofs.Common.{◌≡◌, ◌⊎◌, inl, inr, ℕ, List, [], ◌∷◌, Option, None, refl, sym, subst, arith}
use Rattle.std.specs.Prelude.{Result, Ok, Err}
use Rattle.sqlite_disk.specs.declared.Disk as disk
use Rattle.sqlite.specs.State.{HasCleanDisk}
use Rattle.sqlite.specs.Store.{Ghosts}
use Rattle.byte_streams.specs.declared.streams.Source as source
use Rattle.registry_rules.specs.History.{History}
use Rattle.registry_rules.specs.Run.{after_one}
use Rattle.registry_rules.specs.declared.order.Request.{Request}
use Rattle.registry_rules.specs.declared.verdict.Reply.{Reply}
use Rattle.registry_rules.specs.declared.rejection.Rejection.{Rejection}
use Rattle.registry_rules.specs.declared.rejection.Rejection.TheVariants.{Refused, NoMemory}
use Rattle.registry_store.specs.Promise.{state_of}
use Rattle.registry_store.specs.declared.fault.Fault.{Fault}
use Rattle.registry_store.specs.declared.registry.Registry.{Registry}
use Rattle.registry_commands.specs.declared.arguments.BadArgument.{BadArgument}
use Rattle.registry_commands.specs.declared.importing.Import.{Import}
use Rattle.registry_commands.specs.declared.lines.BadLine.{BadLine}
use Rattle.registry_commands.specs.declared.messages.Failure.{Failure}
use Rattle.registry_commands.specs.declared.status.ExitStatus.{ExitStatus}
use Rattle.registry_commands.specs.declared.status.ExitStatus.TheVariants.{Success, Failed, Rejected}
use Rattle.registry_commands.specs.Ends.{Ends, Output}
use Rattle.shared_log.specs.Calls.{KeepsLines, LogLines}
use Rattle.shared_log.specs.declared.log.Log as log
use Rattle.shared_registry.specs.Follows.{Follows, IsAnsweredOverLog}
use Rattle.shared_registry.specs.Lines.{fault_in_call, fault_of_stop}
use Rattle.shared_registry.specs.declared.cursor.Cursor.{Cursor}
use Rattle.shared_registry.specs.declared.stop.ShareStop.{ShareStop}
use Rattle.shared_registry.proofs.LineLemmas.{leads_nowhere, leads_on}
use Rattle.shared_commands.specs.declared.answering.AnswerStop.{AnswerStop}
use Rattle.shared_commands.specs.declared.answering.AnswerStop.TheVariants as stops
use Rattle.shared_commands.specs.Answered.{HasAnsweredSome, IsCutOverLog}
use Rattle.shared_commands.specs.Applied.{Did, DidApply, DidNothing, EndsRunOverLog}
use Rattle.shared_commands.specs.Imported.{DidImport, EndsOne}
use Rattle.shared_commands.proofs.AnswerLemmas.{answered_leads}
use Rattle.registry_program.specs.declared.host.Host as host
use Rattle.registry_program.specs.declared.logs.Logs as logs
use Rattle.registry_program.specs.Commands.{RunsReading}
use Rattle.registry_program.specs.Outputs.{earlier}
use Rattle.registry_program.specs.SharedActs.{AnswersListOf, AnswersNamed, AppliesJoined, AppliesShared, DidNotOpen, FollowsReading, ImportsJoined, ImportsSharedAs, did_till}
use Rattle.registry_program.specs.SharedWhole.{AppliesSharedWholly, ImportsSharedWhollyAs, IsAppliedFrom, IsImportedFrom}
use Rattle.registry_program.specs.Sharing.{IsFollowed}
use Rattle.registry_program.specs.Stores.{IsRunOver, Runs, TheRegistry}
use Rattle.registry_program.specs.Whole.{IsCarriedOn, Stays}
use Rattle.registry_program.proofs.SharedWholeLemmas.{LeavesOver, following_over, leads_over, left_over, not_followed, over_earlier}
use Rattle.registry_program.proofs.WholeLemmas.{runs_whole}

-- ---- what the registry leaves

module _ {S L : Type 0} {g : Ghosts S} (l : log.Ghosts L) (it : Did S g L) where
  nothing_clean : (Told : Output → ExitStatus → Type 0) → DidNothing l it Told → HasCleanDisk (state_of it.new) → HasCleanDisk (state_of it.old)
  nothing_clean Told did clean = subst (λ (x : Registry S g). HasCleanDisk (state_of x)) did.same clean

  unopened_clean : (failure : Failure) → DidNotOpen it failure → HasCleanDisk (state_of it.new) → HasCleanDisk (state_of it.old)
  unopened_clean failure did clean = subst (λ (x : Registry S g). HasCleanDisk (state_of x)) did.same clean

  apply_clean : (OfInput : Failure → Type 0) (read : Result (List Request) BadLine) (a : ℕ) → DidApply l it OfInput read a → HasCleanDisk (state_of it.new) → HasCleanDisk (state_of it.old)
  apply_clean OfInput read a (inl nothing) clean = nothing_clean _ nothing clean
  apply_clean OfInput read a (inr run) clean = omega (arith, run.3.endures.clean, clean)

  import_clean : (OfInput : Failure → Type 0) (import : Import) (bytes : List ℕ) → DidImport l it OfInput import bytes → HasCleanDisk (state_of it.new) → HasCleanDisk (state_of it.old)
  import_clean OfInput import bytes (inl nothing) clean = nothing_clean _ nothing clean
  import_clean OfInput import bytes (inr one) clean = omega (arith, one.5.endures.clean, clean)

  module _ (lines : L → LogLines) (kept : KeepsLines l lines) (h : History) (follows : Follows l lines it.old it.from h) (clean : HasCleanDisk (state_of it.new)) where
    abbrev Over : Option Fault → History → Type 0
    Over = LeavesOver l lines it.new it.to clean

    same_over : it.new ≡ it.old → it.to ≡ it.from → Over (fault_in_call it.end) h
    same_over same place = following_over l lines it.new it.to clean h (fault_in_call it.end)
        (h, leads_nowhere h, subst (λ (x : Registry S g). Follows l lines x it.to h) (sym same) (subst (λ (x : Cursor L). Follows l lines it.old x h) (sym place) follows))

    answered_over : (c : Cursor L) (x : History) (r : Request) (reply : Reply) → IsAnsweredOverLog l lines c it.new it.to x r reply → Over None x
    answered_over c x r reply answered = following_over l lines it.new it.to clean x None
        (after_one answered.before r, leads_on x answered.before (after_one answered.before r) answered.leads (r ∷ [], refl), answered.follows)

    -- the fault of the registry that stopped a request, if one did
    abbrev fault_at : AnswerStop → Option Fault
    fault_at (stops.Share stop) = fault_of_stop stop
    fault_at (stops.Output failure) = None

    cut_over : (c : Cursor L) (x : History) (r : Request) (text text_new : Option (List ℕ)) (stop : AnswerStop) → IsCutOverLog l lines it.new it.to c x r text text_new stop → Over (fault_at stop) x
    cut_over c x r text text_new (stops.Share why) cut = left_over l lines it.new it.to clean c x why cut.0
    cut_over c x r text text_new (stops.Output failure) cut = answered_over c x r cut.0 cut.1

    some_over : (rs : List Request) (stop : AnswerStop) → HasAnsweredSome l lines it.new it.to it.from h rs it.out stop → Over (fault_at stop) h
    some_over rs stop some =
        over_earlier l lines it.new it.to clean h some.last (fault_at stop) (answered_leads l lines it.from h some.done some.replies some.place some.last some.answered)
        (cut_over some.place some.last some.next some.middle it.out.new.contents stop some.stopped)

    run_over : (rs : List Request) (end : Result ExitStatus ShareStop) → EndsRunOverLog l it rs end → Over (fault_in_call end) h
    run_over rs (Ok Success) run =
        let all = run.2 lines kept h follows clean in
        following_over l lines it.new it.to clean h None (all.next, answered_leads l lines it.from h rs all.replies it.to all.next all.answered, all.follows)
    run_over rs (Ok Failed) run = some_over rs (stops.Output run.0) (run.3 lines kept h follows clean)
    run_over rs (Ok Rejected) run = absurd run
    run_over rs (Err stop) run = some_over rs (stops.Share stop) (run.2 lines kept h follows clean)

    apply_over : (OfInput : Failure → Type 0) (read : Result (List Request) BadLine) (a : ℕ) → DidApply l it OfInput read a → Over (fault_in_call it.end) h
    apply_over OfInput read a (inl nothing) = same_over nothing.same nothing.same_place
    apply_over OfInput read a (inr run) = run_over _ it.end run.3.ends

    one_over : (r : Request) (end : Result ExitStatus ShareStop) → EndsOne l it r end → Over (fault_in_call end) h
    one_over r (Ok status) (inl replied) = let it = replied.2 lines kept h follows clean in answered_over _ h r it.reply it.answered
    one_over r (Ok status) (inr cut) = cut_over it.from h r it.out.old.contents it.out.new.contents (stops.Output cut.1) (cut.4 lines kept h follows clean)
    one_over r (Err stop) one = cut_over it.from h r it.out.old.contents it.out.new.contents (stops.Share stop) (one.2 lines kept h follows clean)

    import_over : (OfInput : Failure → Type 0) (import : Import) (bytes : List ℕ) → DidImport l it OfInput import bytes → Over (fault_in_call it.end) h
    import_over OfInput import bytes (inl nothing) = same_over nothing.same nothing.same_place
    import_over OfInput import bytes (inr one) = one_over one.1 it.end one.5.ends

  module _ {H F I R : Type 0} (m : host.Ghosts H F I) (s : source.Ghosts I) (r : source.Ghosts R) (input input_new : R) (old new : H) where
    lines_clean : (file : List ℕ) (a : ℕ) → AnswersNamed l it m s r file a input input_new old new → HasCleanDisk (state_of it.new) → HasCleanDisk (state_of it.old)
    lines_clean file a (inl standard) clean = apply_clean _ _ a standard.2.2 clean
    lines_clean file a (inr named) clean = elim named.2 [ inl read ↦ apply_clean _ _ a read.3.2 clean | inr not ↦ unopened_clean not.0 not.2 clean ]

    lines_over : (file : List ℕ) (a : ℕ) → AnswersNamed l it m s r file a input input_new old new → (lines : L → LogLines) → KeepsLines l lines → (h : History) → Follows l lines it.old it.from h → (clean : HasCleanDisk (state_of it.new))
        → LeavesOver l lines it.new it.to clean (fault_in_call it.end) h
    lines_over file a (inl standard) lines kept h follows clean = apply_over lines kept h follows clean _ _ a standard.2.2
    lines_over file a (inr named) lines kept h follows clean = elim named.2 [
      | inl read ↦ apply_over lines kept h follows clean _ _ a read.3.2
      | inr not ↦ same_over lines kept h follows clean not.2.same not.2.same_place
    ]

    list_clean : (list : List ℕ) (import : Import) → AnswersListOf l it m s r list import input input_new old new → HasCleanDisk (state_of it.new) → HasCleanDisk (state_of it.old)
    list_clean list import (inl standard) clean = import_clean _ import standard.2.0 standard.2.2 clean
    list_clean list import (inr named) clean = elim named.2 [ inl read ↦ import_clean _ import read.3.0 read.3.2 clean | inr not ↦ unopened_clean not.0 not.2 clean ]

    list_over : (list : List ℕ) (import : Import) → AnswersListOf l it m s r list import input input_new old new → (lines : L → LogLines) → KeepsLines l lines → (h : History) → Follows l lines it.old it.from h → (clean : HasCleanDisk (state_of it.new))
        → LeavesOver l lines it.new it.to clean (fault_in_call it.end) h
    list_over list import (inl standard) lines kept h follows clean = import_over lines kept h follows clean _ import standard.2.0 standard.2.2
    list_over list import (inr named) lines kept h follows clean = elim named.2 [
      | inl read ↦ import_over lines kept h follows clean _ import read.3.0 read.3.2
      | inr not ↦ same_over lines kept h follows clean not.2.same not.2.same_place
    ]

-- ---- the commands

module _ {H F I R K : Type 0} (m : host.Ghosts H F I) (d : disk.Ghosts F) (s : source.Ghosts I) (r : source.Ghosts R) (k : logs.Ghosts H K) (l : log.Ghosts K) (input input_new : R) (old new : H) (path : List ℕ) where
  -- the standard input aside
  without_input : (ends : Ends) (Does : H → H → TheRegistry m d → TheRegistry m d → Ends → Type 0) → RunsReading m d s r input input_new old new path ends Does → Runs m d old new path ends Does
  without_input ends Does is = elim is [ inl not ↦ inl (not.0, not.1, not.2) | inr over ↦ inr over ]

  module _ (file : List ℕ) (a : ℕ) (address : List ℕ) (ends : Ends) where
    abbrev AppliesOver : H → H → TheRegistry m d → TheRegistry m d → Ends → Type 0
    AppliesOver = FollowsReading m d s r k l input input_new address (AppliesJoined m d s r k l file a input input_new)

    applied_whole : (over : IsRunOver m d old new path ends AppliesOver) → ends.status ≡ over.before
        → IsFollowed k l address (AppliesJoined m d s r k l file a input input_new) over.opened over.done over.it over.after (earlier ends over.errors over.before) → IsAppliedFrom m d s r k l input input_new old new path file a address ends
    applied_whole over same followed =
        let does = followed.does in
        let it = did_till followed.middle over.after followed.cursor does.left (earlier ends over.errors over.before) does.errors does.end in record {
          over = over;
          followed = followed;
          holds = leads_over m d k l old new path address ends AppliesOver over same followed.found followed.middle followed.cursor does.left (fault_in_call does.end) followed.taken (lines_clean l it m s r input input_new followed.found does.read file a does.answers)
              (λ lines kept h follows clean. lines_over l it m s r input input_new followed.found does.read file a does.answers lines kept h follows clean);
        }

    pub applies_shared_whole : AppliesShared m d s r k l input input_new old new path file a address ends → AppliesSharedWholly m d s r k l input input_new old new path file a address ends
    applies_shared_whole is = runs_whole m d old new path ends AppliesOver (IsAppliedFrom m d s r k l input input_new old new path file a address ends ⊎ IsCarriedOn m d old new path Stays) (λ over same. elim over.does [
      | inl not ↦ inr (not_followed m d k l old new path address ends AppliesOver over same not.0)
      | inr followed ↦ inl (applied_whole over same followed)
    ]) (without_input ends AppliesOver is)

  module _ (list : List ℕ) (address : List ℕ) (ends : Ends) where
    module _ (import : Import) where
      abbrev ImportsOver : H → H → TheRegistry m d → TheRegistry m d → Ends → Type 0
      ImportsOver = FollowsReading m d s r k l input input_new address (ImportsJoined m d s r k l list import input input_new)

      imported_whole : (over : IsRunOver m d old new path ends ImportsOver) → ends.status ≡ over.before
          → IsFollowed k l address (ImportsJoined m d s r k l list import input input_new) over.opened over.done over.it over.after (earlier ends over.errors over.before) → IsImportedFrom m d s r k l input input_new old new path list import address ends
      imported_whole over same followed =
          let does = followed.does in
          let it = did_till followed.middle over.after followed.cursor does.left (earlier ends over.errors over.before) does.errors does.end in record {
            over = over;
            followed = followed;
            holds = leads_over m d k l old new path address ends ImportsOver over same followed.found followed.middle followed.cursor does.left (fault_in_call does.end) followed.taken (list_clean l it m s r input input_new followed.found does.read list import does.answers)
                (λ lines kept h follows clean. list_over l it m s r input input_new followed.found does.read list import does.answers lines kept h follows clean);
          }

    pub imports_shared_whole : (asked : Result Import (Rejection BadArgument)) → ImportsSharedAs m d s r k l input input_new old new path list asked address ends → ImportsSharedWhollyAs m d s r k l input input_new old new path list asked address ends
    imports_shared_whole (Ok import) is = runs_whole m d old new path ends (ImportsOver import) (IsImportedFrom m d s r k l input input_new old new path list import address ends ⊎ IsCarriedOn m d old new path Stays) (λ over same. elim over.does [
      | inl not ↦ inr (not_followed m d k l old new path address ends (ImportsOver import) over same not.0)
      | inr followed ↦ inl (imported_whole import over same followed)
    ]) (without_input ends (ImportsOver import) is)
    imports_shared_whole (Err (Refused argument)) is = (is.0, is.2)
    imports_shared_whole (Err NoMemory) is = (is.0, is.2)
