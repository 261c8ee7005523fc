-- A request that a registry acts on over the log that it follows.
use Rattle.std.proofs.Common.{◌≡◌, ◌≢◌, ◌≤◌, ◌⊎◌, ◌∙◌, ◌+◌, ℕ, suc, List, [], ◌∷◌, length, Option, Some, None, inl, inr, refl, sym, ap, subst, arith}
use Rattle.std.proofs.lemmas.List.{length-append}
use Rattle.sqlite.specs.Store.{Ghosts}
use Rattle.sqlite.specs.State.{State}
use Rattle.registry_rules.specs.Accepted.{accepted_by}
use Rattle.registry_rules.specs.History.{History, with_deed}
use Rattle.registry_rules.specs.Reply.{act_text}
use Rattle.registry_rules.specs.Run.{after, after_one, after_verdict, reply_to}
use Rattle.registry_rules.specs.Verdict.{verdict}
use Rattle.registry_rules.specs.declared.deed.Deed.{Deed}
use Rattle.registry_rules.specs.declared.order.Request.{Request}
use Rattle.registry_rules.specs.declared.verdict.Reply.{Reply}
use Rattle.registry_rules.specs.declared.verdict.Verdict.{Verdict}
use Rattle.registry_rules.specs.declared.verdict.Verdict.TheVariants.{Kept, Refused, New}
use Rattle.registry_wire.specs.Record.{accepted_line}
use Rattle.registry_laws.specs.Machines.{IsOfMachine, LeadsToLater}
use Rattle.registry_laws.specs.Records.{record_of}
use Rattle.registry_laws.proofs.MachineLemmas.{record_with}
use Rattle.registry_tables.specs.Rows.{newest}
use Rattle.registry_store.specs.Promise.{Leaves, Represents}
use Rattle.registry_store.specs.Queries.{IsUntouched}
use Rattle.registry_store.specs.Witness.{WasSeen}
use Rattle.registry_store.specs.declared.registry.Registry.{Registry}
use Rattle.shared_log.specs.Calls.{LogLines, Grows, KeepsLines}
use Rattle.shared_log.specs.declared.fault.LogFault.{LogFault}
use Rattle.shared_log.specs.declared.log.Log.{Ghosts as LogGhosts}
use Rattle.shared_registry.specs.declared.cursor.AppendFault.TheVariants as faults
use Rattle.shared_registry.specs.declared.cursor.Cursor.{Cursor}
use Rattle.shared_registry.specs.Cursors.{HasNoNewLine, WasShown, accepted_as}
use Rattle.shared_registry.specs.Follows.{Follows, FollowsLater, HasActed, HasFailed, HasFollowed, HasGoneOn, HasTried, HasTurned, IsAnsweredOverLog, LeavesOfMachine, WasWhole}
use Rattle.shared_registry.specs.Lines.{GoesOver}
use Rattle.shared_registry.proofs.AskLemmas.{WasAskedIfNew}
use Rattle.shared_registry.proofs.AppendLemmas.{line_grows, line_taken, no_line_grows, no_line_next, same_grows, took_line, was_whole}
use Rattle.shared_registry.proofs.FollowLemmas.{at_instant_grows, earlier_start, grows_none, grows_on, of_machine, still_follows, still_of}
use Rattle.shared_registry.proofs.LineLemmas.{after_new, continued, leads_nowhere, leads_on, over_one}

-- ---- a history to which requests lead has no fewer lines, and with as many it is the same

pub longer_by : (h : History) (v : Verdict) → length (record_of h) ≤ length (record_of (after_verdict h v))
longer_by h (Kept text) = omega arith
longer_by h (Refused refusal) = omega arith
longer_by h (New deed) = let is = ap length (record_with h deed) ∙ length-append (record_of h) (accepted_line (accepted_by deed) ∷ []) in omega (arith, is)

longer : (h : History) (requests : List Request) → length (record_of h) ≤ length (record_of (after h requests))
longer h [] = omega arith
longer h (r ∷ requests) = let one = longer_by h (verdict h r) in let more = longer (after_one h r) requests in omega (arith, one, more)

same_by : (h : History) (v : Verdict) → length (record_of (after_verdict h v)) ≤ length (record_of h) → after_verdict h v ≡ h
same_by h (Kept text) short = refl
same_by h (Refused refusal) short = refl
same_by h (New deed) short = let is = ap length (record_with h deed) ∙ length-append (record_of h) (accepted_line (accepted_by deed) ∷ []) in absurd (omega (arith, is, short))

same_history : (h : History) (requests : List Request) → length (record_of (after h requests)) ≤ length (record_of h) → after h requests ≡ h
same_history h [] short = refl
same_history h (r ∷ requests) short =
    let one = longer_by h (verdict h r) in
    let more = longer (after_one h r) requests in
    same_history (after_one h r) requests (omega (arith, short, one)) ∙ same_by h (verdict h r) (omega (arith, short, more))

pub unmoved : (h x : History) → LeadsToLater h x → length (record_of x) ≤ length (record_of h) → x ≡ h
unmoved h x leads short =
    let is = ap (λ (y : History). length (record_of y)) leads.1 in
    leads.1 ∙ same_history h leads.0 (omega (arith, is, short))

module _ {S : Type 0} {g : Ghosts S} {L : Type 0} (l : LogGhosts L) (lines : L → LogLines) where
  -- ---- calls one after another

  pub followed_gone : (start : Cursor L) (new : Registry S g) (c_new : Cursor L) (h : History) → HasFollowed l lines start new c_new h → HasGoneOn l lines start new c_new h
  followed_gone start new c_new h followed = record {
    now = followed.now;
    leads = followed.leads;
    follows = followed.follows;
    grown = at_instant_grows (lines start.log) (lines c_new.log) (λ log. log ≡ record_of followed.now) followed.whole;
  }

  pub tried_gone : (c : Cursor L) (new : Registry S g) (c_new : Cursor L) (h : History) (r : Request) (tried : Option Reply) → HasTried l lines c new c_new h r tried → HasGoneOn l lines c new c_new h
  tried_gone c new c_new h r None it = record { now = h; leads = leads_nowhere h; follows = it.0; grown = it.1 }
  tried_gone c new c_new h r (Some reply) it = record { now = after_one h r; leads = (r ∷ [], refl); follows = it.follows; grown = it.grown }

  pub gone_further : (start : Cursor L) (it : Registry S g) (c : Cursor L) (new : Registry S g) (c_new : Cursor L) (h : History) → (so_far : HasGoneOn l lines start it c h) → HasGoneOn l lines c new c_new so_far.now → HasGoneOn l lines start new c_new h
  gone_further start it c new c_new h so_far more = record {
    now = more.now;
    leads = leads_on h so_far.now more.now so_far.leads more.leads;
    follows = more.follows;
    grown = grows_on (lines start.log) (lines c.log) (lines c_new.log) so_far.grown more.grown;
  }

  pub answered_later : (start : Cursor L) (it : Registry S g) (c : Cursor L) (new : Registry S g) (c_new : Cursor L) (h : History) (r : Request) (reply : Reply) → (so_far : HasGoneOn l lines start it c h) → IsAnsweredOverLog l lines c new c_new so_far.now r reply
      → IsAnsweredOverLog l lines start new c_new h r reply
  answered_later start it c new c_new h r reply so_far answered = record {
    before = answered.before;
    leads = leads_on h so_far.now answered.before so_far.leads answered.leads;
    whole = earlier_start (lines start.log) (lines c.log) (lines c_new.log) (λ log. log ≡ record_of answered.before) so_far.grown answered.whole;
    reply_is = answered.reply_is;
    follows = answered.follows;
  }

  -- ---- a reply

  -- the line was appended, so the history before it was the whole log
  pub answered_now : (c : Cursor L) (new : Registry S g) (c_new : Cursor L) (h : History) (r : Request) (reply : Reply) → HasActed l lines c new c_new h r reply → c_new.next ≢ c.next → IsAnsweredOverLog l lines c new c_new h r reply
  answered_now c new c_new h r reply acted moved = record { before = h; leads = leads_nowhere h; whole = acted.whole moved; reply_is = acted.reply_is; follows = acted.follows }

  pub turned_now : (c : Cursor L) (new : Registry S g) (c_new : Cursor L) (h : History) (r : Request) (tried : Option Reply) → HasTried l lines c new c_new h r tried → (tried ≡ None → c_new.next ≡ c.next) → c_new.next ≢ c.next
      → HasTurned l lines c new c_new h r tried
  turned_now c new c_new h r None it same moved = absurd (moved (same refl))
  turned_now c new c_new h r (Some reply) acted same moved = answered_now c new c_new h r reply acted moved

  -- no line was appended, and the log had no others: it was the record of the history that stays
  pub answered_then : (old : Registry S g) (c : Cursor L) (mid : Registry S g) (c_mid : Cursor L) (new : Registry S g) (c_new : Cursor L) (h : History) (r : Request) (reply : Reply) → Follows l lines old c h → HasActed l lines c mid c_mid h r reply
      → c_mid.next ≡ c.next → HasFollowed l lines c_mid new c_new (after_one h r) → c_new.next ≤ c.next → IsAnsweredOverLog l lines c new c_new h r reply
  answered_then old c mid c_mid new c_new h r reply follows acted same followed stays =
      let here : c.next ≡ length (record_of h) = follows.next in
      let there : c_mid.next ≡ length (record_of (after_one h r)) = acted.follows.next in
      let end : c_new.next ≡ length (record_of followed.now) = followed.follows.next in
      let unchanged : after_one h r ≡ h = unmoved h (after_one h r) (r ∷ [], refl) (omega (arith, here, there, same)) in
      let at : followed.now ≡ h = unmoved (after_one h r) followed.now followed.leads (omega (arith, here, there, same, end, stays)) ∙ unchanged in
      record {
        before = followed.now;
        leads = subst (LeadsToLater h) (sym at) (leads_nowhere h);
        whole = earlier_start (lines c.log) (lines c_mid.log) (lines c_new.log) (λ log. log ≡ record_of followed.now) acted.grown followed.whole;
        reply_is = acted.reply_is ∙ ap (λ (x : History). reply_to x r) (sym at);
        follows = subst (Follows l lines new c_new) (sym (ap (λ (x : History). after_one x r) at ∙ unchanged ∙ sym at)) followed.follows;
      }

  -- ---- a request

  module _ (kept : KeepsLines l lines) (old : Registry S g) (c : Cursor L) (new : Registry S g) (c_new : Cursor L) (h : History) (r : Request) (follows : Follows l lines old c h) where
    over_shown : (deed : Deed) → verdict h r ≡ New deed → (shown : WasShown l c c_new r (act_text deed.act)) → GoesOver h (accepted_line (accepted_as r (act_text deed.act)) ∷ []) (with_deed h deed)
    over_shown deed is shown = over_one h r (accepted_line (accepted_as r (act_text deed.act))) (with_deed h deed) (continued h r deed _ is shown.valid refl)

    shown_of : (deed : Deed) → verdict h r ≡ New deed → WasShown l c c_new r (act_text deed.act) → IsOfMachine (lines c_new.log) (with_deed h deed)
    shown_of deed is shown =
        of_machine (lines c.log) (lines c_new.log) h (with_deed h deed) _ follows.of_machine (over_shown deed is shown) (line_taken l lines kept c c_new (record_of h) follows.of_machine.begins follows.next _ (took_line l c c_new _ shown.line))

    shown_next : (deed : Deed) → verdict h r ≡ New deed → WasShown l c c_new r (act_text deed.act) → c_new.next ≡ length (record_of (with_deed h deed))
    shown_next deed is shown =
        let passed : c_new.next ≡ suc c.next = ap (λ (d : Cursor L). d.next) shown.line.passed in
        let long : length (record_of (with_deed h deed)) ≡ length (record_of h) + 1 = ap length (over_shown deed is shown).written ∙ length-append (record_of h) (accepted_line (accepted_as r (act_text deed.act)) ∷ []) in
        omega (arith, passed, long, follows.next)

    same_after : c_new ≡ c → Represents new h → Follows l lines new c_new h
    same_after same stays = still_follows l lines old c new c_new h follows stays (same_grows l lines kept c c_new same) (ap (λ (d : Cursor L). d.next) same)

    not_new : (Heard : Deed → Type 0) (v : Verdict) → verdict h r ≡ v → ((deed : Deed) → v ≢ New deed) → WasAskedIfNew c c_new h r Heard → c_new ≡ c
    not_new Heard v is other (inl same) = same
    not_new Heard v is other (inr told) = absurd (other told.0 (sym is ∙ told.1))

    acted_by : (v : Verdict) → verdict h r ≡ v → WasAskedIfNew c c_new h r (λ deed. WasShown l c c_new r (act_text deed.act)) → ((deed : Deed) → verdict h r ≡ New deed → WasShown l c c_new r (act_text deed.act))
        → Represents new (after_one h r) → Follows l lines new c_new (after_one h r)
    acted_by (Kept text) is asked shown now =
        let at : after_one h r ≡ h = ap (after_verdict h) is in
        subst (Follows l lines new c_new) (sym at) (same_after (not_new _ (Kept text) is (λ deed e. cc) asked) (subst (Represents new) at now))
    acted_by (Refused refusal) is asked shown now =
        let at : after_one h r ≡ h = ap (after_verdict h) is in
        subst (Follows l lines new c_new) (sym at) (same_after (not_new _ (Refused refusal) is (λ deed e. cc) asked) (subst (Represents new) at now))
    acted_by (New deed) is asked shown now =
        let at = after_new h r deed is in
        subst (Follows l lines new c_new) (sym at) (record { represents = subst (Represents new) at now; of_machine = shown_of deed is (shown deed is); next = shown_next deed is (shown deed is) })

    pub acted : WasAskedIfNew c c_new h r (λ deed. WasShown l c c_new r (act_text deed.act)) → ((deed : Deed) → verdict h r ≡ New deed → WasShown l c c_new r (act_text deed.act))
        → Represents new (after_one h r) → Follows l lines new c_new (after_one h r)
    acted asked shown now = acted_by (verdict h r) refl asked shown now

    pub grown_acted : WasAskedIfNew c c_new h r (λ deed. WasShown l c c_new r (act_text deed.act)) → Grows (lines c.log) (lines c_new.log)
    grown_acted (inl same) = same_grows l lines kept c c_new same
    grown_acted (inr (deed, is, shown)) = line_grows l lines kept c c_new _ (took_line l c c_new _ shown.line)

    -- a log that took the line was the record before it
    pub whole_acted : WasAskedIfNew c c_new h r (λ deed. WasShown l c c_new r (act_text deed.act)) → c_new.next ≢ c.next → WasWhole (lines c.log) (lines c_new.log) h
    whole_acted (inl same) moved = absurd (moved (ap (λ (d : Cursor L). d.next) same))
    whole_acted (inr (deed, is, shown)) moved = was_whole l lines kept c c_new (record_of h) follows.of_machine.begins follows.next _ shown.line

    -- the request was not shown to a log that took its line, and all stays
    pub unacted : (line : List ℕ) (fault : _) → HasNoNewLine l c c_new line fault → IsUntouched old new → Follows l lines new c_new h
    unacted line fault it left =
        still_follows l lines old c new c_new h follows (left.stays h follows.represents) (no_line_grows l lines kept c c_new line fault it) (no_line_next l lines kept c c_new line fault it)

    pub unacted_later : (line : List ℕ) (fault : _) → HasNoNewLine l c c_new line fault → IsUntouched old new → FollowsLater l lines new c_new h
    unacted_later line fault it left = (h, leads_nowhere h, unacted line fault it left)

    pub failed_now : (line : List ℕ) (fault : LogFault) → HasNoNewLine l c c_new line (faults.Log fault) → HasFailed l lines c.log c_new.log fault
    failed_now line fault it = record { old = c.log; grown = grows_none (lines c.log); failed = inl it.0 }

    -- what a crash may leave, where the request was not seen
    left_unseen : (s : State) → c_new ≡ c → Leaves newest s (λ x. (x ≡ h) ⊎ ((x ≡ after_one h r) × WasSeen (WasShown l) c c_new r (reply_to h r))) → LeavesOfMachine s (lines c_new.log) h
    left_unseen s same leaves =
        let of = still_of (lines c.log) (lines c_new.log) h follows.of_machine (same_grows l lines kept c c_new same) in
        let here : c_new.next ≡ c.next = ap (λ (d : Cursor L). d.next) same in
        record {
          last = h;
          next = h;
          leads = leads_nowhere h;
          goes_on = inl refl;
          last_of = of;
          next_of = of;
          leaves = λ db may.
              let it = leaves db may in
              (it.0, elim it.1 [ inl is ↦ inl is | inr seen ↦ (let there : c_new.next ≡ suc c.next = ap (λ (d : Cursor L). d.next) seen.1.2.line.passed in absurd (omega (arith, here, there))) ], it.2);
        }

    -- where it was
    left_seen : (s : State) (deed : Deed) → verdict h r ≡ New deed → WasShown l c c_new r (act_text deed.act)
        → Leaves newest s (λ x. (x ≡ h) ⊎ ((x ≡ after_one h r) × WasSeen (WasShown l) c c_new r (reply_to h r))) → LeavesOfMachine s (lines c_new.log) h
    left_seen s deed is shown leaves = record {
      last = h;
      next = with_deed h deed;
      leads = leads_nowhere h;
      goes_on = inr (accepted_line (accepted_as r (act_text deed.act)), (r, continued h r deed _ is shown.valid refl));
      last_of = still_of (lines c.log) (lines c_new.log) h follows.of_machine (line_grows l lines kept c c_new _ (took_line l c c_new _ shown.line));
      next_of = shown_of deed is shown;
      leaves = λ db may. let it = leaves db may in (it.0, elim it.1 [ inl at ↦ inl at | inr one ↦ inr (one.0 ∙ after_new h r deed is) ], it.2);
    }

    pub left_acted : (s : State) → WasAskedIfNew c c_new h r (λ deed. (c_new ≡ c) ⊎ WasShown l c c_new r (act_text deed.act))
        → Leaves newest s (λ x. (x ≡ h) ⊎ ((x ≡ after_one h r) × WasSeen (WasShown l) c c_new r (reply_to h r))) → LeavesOfMachine s (lines c_new.log) h
    left_acted s (inl same) leaves = left_unseen s same leaves
    left_acted s (inr (deed, is, inl same)) leaves = left_unseen s same leaves
    left_acted s (inr (deed, is, inr shown)) leaves = left_seen s deed is shown leaves
