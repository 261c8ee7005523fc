-- How the calls of a transaction compose.
use Rattle.std.proofs.Common.{◌≡◌, ◌≢◌, inl, inr, ℕ, IsTrue, true, false, refl, sym, ap, subst, ◌∙◌, arith, ◌⊎◌, List, Result, Ok, Err, OnOk, IfOk}
use Rattle.std.specs.Prelude.{IfErr, OnErr}
use Rattle.sqlite.specs.Tree.{Trees}
use Rattle.sqlite.specs.Store.{Ghosts}
use Rattle.sqlite.specs.State.{State, HasCleanDisk, Survives, Shows, IsLive, IsRolledBack}
use Rattle.sqlite.specs.Held.{Held, state}
use Rattle.sqlite.proofs.StateLemmas.{survives_then, survives_weaker}
use Rattle.sqlite.proofs.Callers.{survives_begin}
use Rattle.table_laws.specs.Inside.{CommitsNothing}
use Rattle.registry_tables.specs.Head.{IsHead}
use Rattle.registry_tables.specs.declared.opening.Summary.{Summary}
use Rattle.registry_rules.specs.declared.order.Request.{Request}
use Rattle.registry_rules.specs.declared.deed.Deed.{Deed}
use Rattle.registry_rules.specs.declared.verdict.Reply.{Reply}
use Rattle.registry_rules.specs.declared.verdict.Reply.TheVariants.{Done}
use Rattle.registry_rules.specs.declared.verdict.Verdict.{Verdict}
use Rattle.registry_rules.specs.declared.verdict.Verdict.TheVariants.{Kept, Refused, New}
use Rattle.registry_rules.specs.declared.change.Change.{Change}
use Rattle.registry_rules.specs.History.{History, with_deed}
use Rattle.registry_rules.specs.Run.{Legal, after_verdict, reply_of, after_one, reply_to}
use Rattle.registry_rules.specs.TotalsOf.{AreTotalsOf}
use Rattle.registry_rules.specs.Records.{LeadsTo}
use Rattle.registry_rules.specs.Verdict.{verdict}
use Rattle.registry_rules.specs.Reply.{act_text}
use Rattle.registry_rules.proofs.RunLemmas.{legal_new, legal_after_one, new_is_of}
use Rattle.registry_tables.specs.Rows.{Rows, HoldsRows, HoldsUnkept, newest}
use Rattle.registry_tables.specs.Calls.{IsKeptAs, KeepsAll}
use Rattle.registry_tables.specs.Finds.{Finds}
use Rattle.registry_tables.proofs.RowsLemmas.{enters, goes_out}
use Rattle.registry_schema.specs.declared.fault.TableFault.{TableFault}
use Rattle.registry_store.specs.declared.attempt.Answer.{Answer}
use Rattle.registry_store.specs.Promise.{IsAt, IsLegalWith, Leaves}
use Rattle.registry_store.specs.Attempt.{AddsNoDeed, Answered, AsksIfNew, CommitsOne, IfNew, IsAnswerOf, ShowsAfter, Wrote, WroteRows, new_answer}
use Rattle.registry_store.specs.Witness.{Hears, WasSeen}
use Rattle.registry_store.proofs.OpeningLemmas.{rows_now}

abbrev Goes : State → State → Type 0
Goes old new = Shows old new new.now old.committed true

-- what holds of a result holds of its value
pub ok_of : {A E : Type 0} (P : A → Type 0) {v : Result A E} {it : A} → v ≡ Ok it → IfOk v P → P it
ok_of P is holds = subst (λ x. IfOk x P) is holds

pub err_of : {A E : Type 0} (P : E → Type 0) {v : Result A E} {e : E} → v ≡ Err e → IfErr v P → P e
err_of P is holds = subst (λ x. IfErr x P) is holds

pub on_err_of : {A E P : Type 0} {v : Result A E} {e : E} → v ≡ Err e → OnErr v P → P
on_err_of {A} {E} {P} is holds = subst (λ x. OnErr x P) is holds

-- two writes, one after the other
module _ (old mid new : State) (before : Summary) (r : Request) (d : Deed) (changes : List Change) (reply : List ℕ) (said : reply ≡ act_text d.act)
    (lead : (h : History) (x : Request) → Legal h → verdict h x ≡ New d → LeadsTo changes h (with_deed h d))
    (first : Goes old mid) (rows : (h more : History) → Legal h → Legal more → more.founding ≡ h.founding → HoldsRows newest old.now h → LeadsTo changes h more → HoldsUnkept mid.now h more) where
  kept_as : (h : History) → verdict h r ≡ New d → IsKeptAs d r reply
  kept_as h is = let of = new_is_of h r d is in record { caller = ap (λ (x : Request). x.caller) of; key = ap (λ (x : Request). x.key) of; order = ap (λ (x : Request). x.order) of; time = ap (λ (x : Request). x.time) of; said = said }

  pub wrote_rows : Goes mid new
      → ((h : History) (x : Deed) → Legal (with_deed h x) → IsKeptAs x r reply → x.act ≡ d.act → IsHead h before.head → HoldsUnkept mid.now h (with_deed h x) → HoldsRows newest new.now (with_deed h x))
      → WroteRows old new before r d
  wrote_rows second kept = record {
    shown = record { was_open = first.was_open; is_open = second.is_open; now_is = refl; committed_is = second.committed_is ∙ first.committed_is; mode = second.mode };
    made = λ h counts is rows_of.
        let legal = legal_new h r d counts.legal is in
        kept h d legal (kept_as h is) refl counts.head_is (rows h (with_deed h d) counts.legal legal refl rows_of (lead h r counts.legal is));
  }

  pub wrote_both : (after : Summary) → ((h : History) (x : Request) → Legal h → AreTotalsOf h before.totals → verdict h x ≡ New d → AreTotalsOf (with_deed h d) after.totals)
      → ((h : History) (x : Deed) → IsKeptAs x r reply → IsHead h before.head → IsHead (with_deed h x) after.head)
      → WroteRows old new before r d → Wrote old new before after r d
  wrote_both after carry headed written = record {
    rows = written;
    carried = λ h counts is. record { totals = carry h r counts.legal counts.totals_are is; head = headed h d (kept_as h is) counts.head_is };
  }

-- a state that stays as it is
pub quiet_itself : (s : State) → CommitsNothing s s
quiet_itself s = record { clean = omega arith; shield = λ x. x; counts = omega arith; limit = refl; closes = λ _ o. inl o; crash = λ _ db may. inl may }

pub quiet_then : (a b c : State) → CommitsNothing a b → CommitsNothing b c → CommitsNothing a c
quiet_then a b c p q = survives_then a b c _ _ (λ _. ⊥) (λ _ db none. none) (λ _ db none. none) p q

-- if the calls so far committed nothing, the whole commits what P allows to the last one
pub quiet_to : (a b c : State) (P R : Trees → Type 0) → (HasCleanDisk c → (db : Trees) → P db → R db) → CommitsNothing a b → Survives b c P → Survives a c R
quiet_to a b c P R give p q = survives_then a b c _ _ R (λ _ db none. absurd none) give p q

pub quiet : (a c : State) (R : Trees → Type 0) → CommitsNothing a c → Survives a c R
quiet a c R p = survives_weaker a c _ R (λ _ db none. absurd none) p

-- calls that commit nothing leave what a crash could leave before them
pub commits_none : {S : Type 0} (g : Ghosts S) (old begun mid end : Held S) → begun ≡ record old { in_transaction = true } → CommitsNothing (state g begun) (state g mid)
    → CommitsNothing (state g mid) (state g end) → (R : Trees → Type 0) → Survives (state g old) (state g end) R
commits_none g old begun mid end is first ends R =
    let inner = quiet_then (state g begun) (state g mid) (state g end) first ends in
    quiet (state g old) (state g end) R (survives_begin g old (state g end) _ (subst (λ b. CommitsNothing (state g b) (state g end)) is inner))

-- a read of the tables of a history is never foreign
pub never_foreign : {S : Type 0} (g : Ghosts S) (old begun mid end : Held S) → begun ≡ record old { in_transaction = true } → IsLive (state g old) → (before : Summary)
    → (HasCleanDisk (state g mid) → IsTrue (state g begun).in_transaction → IsTrue (state g begun).is_open × ((h : History) → Legal h → ¬ HoldsRows newest (state g begun).now h))
    → CommitsNothing (state g begun) (state g mid) → CommitsNothing (state g mid) (state g end)
    → HasCleanDisk (state g end) → (h : History) → IsLegalWith before h → IsAt newest (state g old) h → ⊥
never_foreign g old begun mid end is live before none first ends clean h counts at =
    let mids : HasCleanDisk (state g mid) = omega (arith, ends.clean) in
    let start : HasCleanDisk (state g begun) = omega (arith, first.clean) in
    let start_old : HasCleanDisk (state g old) = subst (λ b. HasCleanDisk (state g b)) is start in
    let it = none mids (subst (λ b. IsTrue (state g b).in_transaction) (sym is) refl) in
    let is_open : IsTrue (state g old).is_open = subst (λ b. IsTrue (state g b).is_open) is it.0 in
    it.1 h counts.legal (subst (λ b. HoldsRows newest (state g b).now h) (sym is) (enters (state g old) h live is_open (rows_now (state g old) h at start_old is_open)))

-- the witness is asked about what is new to the history whose rows the connection showed
pub asked_of : {S : Type 0} (g : Ghosts S) (old begun mid : Held S) → begun ≡ record old { in_transaction = true } → IsLive (state g old) → (before : Summary) (r : Request) {W : Type 0} (was is : W) (Heard : Deed → Type 0)
    → (HasCleanDisk (state g mid) → IsTrue (state g begun).in_transaction → AsksIfNew was is (state g begun) before r Heard)
    → CommitsNothing (state g begun) (state g mid)
    → HasCleanDisk (state g mid) → (h : History) → IsLegalWith before h → IsAt newest (state g old) h → (is ≡ was) ⊎ ((d : Deed) × (verdict h r ≡ New d) × Heard d)
asked_of g old begun mid same live before r was is Heard asks first clean h counts at =
    let start : HasCleanDisk (state g begun) = omega (arith, first.clean) in
    let start_old : HasCleanDisk (state g old) = subst (λ b. HasCleanDisk (state g b)) same start in
    elim (asks clean (subst (λ b. IsTrue (state g b).in_transaction) (sym same) refl)) [
      | inl not ↦ inl not
      | inr it ↦
          let is_open : IsTrue (state g old).is_open = subst (λ b. IsTrue (state g b).is_open) same it.0 in
          inr (it.1 h counts (subst (λ b. HoldsRows newest (state g b).now h) (sym same) (enters (state g old) h live is_open (rows_now (state g old) h at start_old is_open))))
    ]

-- a transaction that wrote and was rolled back leaves all as it was
pub keeps_all : {S : Type 0} (g : Ghosts S) (old begun mid end : Held S) → begun ≡ record old { in_transaction = true } → Goes (state g begun) (state g mid) → IsRolledBack (state g mid) (state g end) → KeepsAll (state g old) (state g end)
keeps_all g old begun mid end is goes back still =
    let was : IsTrue (state g old).is_open = subst (λ b. IsTrue (state g b).is_open) is goes.was_open in
    let same : (state g mid).committed ≡ (state g old).committed = subst (λ b. (state g mid).committed ≡ (state g b).committed) is goes.committed_is in
    let undone = back.undone still in
    (was, undone.0 ∙ same, undone.1 ∙ same)

-- a crash leaves the history before the request, or the one after it, and then this holds of its reply
pub leaves_one : (old new : State) (before : Summary) (r : Request) (Seen : Reply → Type 0) → Survives old new (CommitsOne old before r Seen) → (h : History) → IsLegalWith before h → IsAt newest old h → HasCleanDisk new
    → Leaves newest new (λ x. (x ≡ h) ⊎ ((x ≡ after_one h r) × Seen (reply_to h r)))
leaves_one old new before r Seen survives h counts at clean db may =
    let early : HasCleanDisk old = omega (arith, survives.clean) in
    elim (survives.crash clean db may) [
      | inl earlier ↦ let it = at.left early db earlier in (it.0, inl it.1, it.2)
      | inr one ↦ let it = one.1 h counts (rows_now old h at early one.0) in (after_one h r, inr (refl, it.1), it.0)
    ]

-- a verdict that is no new deed leaves the history as it is
stays : (h : History) (v : Verdict) → ((d : Deed) → v ≢ New d) → after_verdict h v ≡ h
stays h (Kept text) none = refl
stays h (Refused refusal) none = refl
stays h (New d) none = absurd (none d refl)

-- what the transaction answers on a verdict
module _ (old mid : State) (before : Summary) (r : Request) (v : Verdict) (judged : Finds old mid (Ok v) (λ h found. AreTotalsOf h before.totals → found ≡ verdict h r)) where
  -- without a new deed nothing is written
  pub answers_quiet : (reply : Reply) → reply_of v ≡ reply → ((d : Deed) → v ≢ New d) → Answered old mid before before r (record { reply = reply; is_new = false })
  answers_quiet reply is none = record {
    shown = judged.0;
    of_history = λ h counts held.
        let it = judged.1 h counts.legal held in
        let says : v ≡ verdict h r = it.1 counts.totals_are in
        let history : h ≡ after_one h r = sym (stays h v none) ∙ ap (after_verdict h) says in record {
          reply = sym is ∙ ap reply_of says;
          adds = λ never. absurd cc;
          adds_none = λ _ d new. none d (says ∙ new);
          counts = subst (IsLegalWith before) history counts;
          rows = subst (HoldsRows newest mid.now) history (subst (λ db. HoldsRows newest db h) (sym it.0.0.now_is) held);
        };
  }

  -- with one its rows are written
  pub shows_after : (last : State) (d : Deed) → v ≡ New d → WroteRows mid last before r d → ShowsAfter old last before r
  shows_after last d new wrote = (
    record { was_open = judged.0.was_open; is_open = wrote.shown.is_open; now_is = refl; committed_is = wrote.shown.committed_is ∙ judged.0.committed_is; mode = wrote.shown.mode },
    λ h counts held.
        let it = judged.1 h counts.legal held in
        let says : verdict h r ≡ New d = sym (it.1 counts.totals_are) ∙ new in
        subst (HoldsRows newest last.now) (ap (after_verdict h) (sym says)) (wrote.made h counts says (subst (λ db. HoldsRows newest db h) (sym it.0.0.now_is) held)),
  )

  -- they are written once the witness is asked
  pub asks_late : {W : Type 0} (was is : W) (last : State) (d : Deed) → v ≡ New d → (is ≡ was) ⊎ WroteRows mid last before r d → (is ≡ was) ⊎ ShowsAfter old last before r
  asks_late was is last d new (inl not) = inl not
  asks_late was is last d new (inr wrote) = inr (shows_after last d new wrote)

  pub answers_new : (last : State) (after : Summary) (d : Deed) → v ≡ New d → Wrote mid last before after r d → (reply : List ℕ) → reply ≡ act_text d.act
      → Answered old last before after r (record { reply = Done reply; is_new = true })
  answers_new last after d new wrote reply said =
      let shows = shows_after last d new wrote.rows in record {
        shown = shows.0;
        of_history = λ h counts held.
            let it = judged.1 h counts.legal held in
            let says : verdict h r ≡ New d = sym (it.1 counts.totals_are) ∙ new in
            let history : with_deed h d ≡ after_one h r = ap (after_verdict h) (sym says) in record {
              reply = ap Done said ∙ ap reply_of (sym says);
              adds = λ _. (d, says);
              adds_none = λ never. absurd cc;
              counts = let carried = wrote.carried h counts says in record { legal = legal_after_one h r counts.legal; totals_are = subst (λ x. AreTotalsOf x after.totals) history carried.totals; head_is = subst (λ x. IsHead x after.head) history carried.head };
              rows = shows.1 h counts held;
            };
      }

  -- if they are written, and the witness saw the request
  pub accepts : {Y : Type 0} (last : State) (after : Summary) (d : Deed) → v ≡ New d → (result : Result (Result Answer Y) TableFault) → IfOk result (λ it. OnOk it (Wrote mid last before after r d))
      → IfOk result (λ it. IfOk it (λ answer. answer ≡ new_answer d)) → IfOk result (λ it. IfOk it (Answered old last before after r))
  accepts last after d new (Ok (Ok answer)) wrote is = subst (λ x. Answered old last before after r x) (sym is) (answers_new last after d new wrote (act_text d.act) refl)
  accepts last after d new (Ok (Err why)) wrote is = tt
  accepts last after d new (Err e) wrote is = tt

  -- the witness is asked only then
  pub asks_if_new : {W : Type 0} (was is : W) (Heard : Deed → Type 0) (d : Deed) → v ≡ New d → Heard d → AsksIfNew was is old before r Heard
  asks_if_new was is Heard d new heard = inr (judged.0.was_open, λ h counts held. let it = judged.1 h counts.legal held in (d, sym (it.1 counts.totals_are) ∙ new, heard))

-- what the witness was told
module _ {W Y : Type 0} (saw : W → W → Request → List ℕ → Type 0) (missed : W → W → Request → List ℕ → Y → Type 0) (was is : W) (r : Request) (d : Deed) where
  pub sees : (result : Result (Result Answer Y) TableFault) → Hears saw missed was is r (act_text d.act) result → IfOk result (λ it. IfOk it (λ answer. answer ≡ new_answer d))
      → IfOk result (λ it. IfOk it (IfNew (WasSeen saw was is r)))
  sees (Ok (Ok answer)) heard same = subst (IfNew (WasSeen saw was is r)) (sym same) (λ _. (act_text d.act, refl, heard))
  sees (Ok (Err why)) heard same = tt
  sees (Err e) heard same = tt

  pub misses : (result : Result (Result Answer Y) TableFault) → Hears saw missed was is r (act_text d.act) result → IfOk result (λ it. IfErr it (λ why. (text : List ℕ) × missed was is r text why))
  misses (Ok (Ok answer)) heard = tt
  misses (Ok (Err why)) heard = (act_text d.act, heard)
  misses (Err e) heard = tt

-- a reply that was seen is the one to the deed
pub saw_deed : {W : Type 0} (saw : W → W → Request → List ℕ → Type 0) (was is : W) (r : Request) (h : History) (d : Deed) (reply : Reply) → reply ≡ reply_to h r → verdict h r ≡ New d → WasSeen saw was is r reply
    → saw was is r (act_text d.act)
saw_deed saw was is r h d reply said new seen =
    let same : Done seen.0 ≡ Done (act_text d.act) = sym seen.1 ∙ (said ∙ ap reply_of new) in
    let text : seen.0 ≡ act_text d.act = cc same in
    subst (saw was is r) text seen.2

-- a transaction that goes on
pub goes_then : (a b c : State) → Goes a b → Goes b c → Goes a c
goes_then a b c first second = record { was_open = first.was_open; is_open = second.is_open; now_is = refl; committed_is = second.committed_is ∙ first.committed_is; mode = second.mode }

pub goes_on_then : {A F : Type 0} (a b c : State) → Goes a b → (result : Result A F) → OnOk result (Goes b c) → OnOk result (Goes a c)
goes_on_then a b c first (Ok it) second = goes_then a b c first second
goes_on_then a b c first (Err e) second = tt

-- the answer with the reply of a deed is the one to its request
abbrev answer_with : List ℕ → Answer
answer_with reply = record { reply = Done reply; is_new = true }

pub answer_is : (reply : List ℕ) (d : Deed) → reply ≡ act_text d.act → answer_with reply ≡ new_answer d
answer_is reply d said = ap answer_with said

-- the whole transaction, once the request was acted on
module _ {S : Type 0} (g : Ghosts S) (old begun last : Held S) (is : begun ≡ record old { in_transaction = true }) (live : IsLive (state g old)) (before after : Summary) (r : Request) (it : Answer)
    (acted : HasCleanDisk (state g last) → IsTrue (state g begun).in_transaction → Answered (state g begun) (state g last) before after r it)
    (first : CommitsNothing (state g begun) (state g last)) where
  answered : HasCleanDisk (state g last) → Answered (state g begun) (state g last) before after r it
  answered clean = acted clean (subst (λ b. IsTrue (state g b).in_transaction) (sym is) refl)

  -- at the start of the transaction the connection shows what it showed before
  holds : (h : History) → IsTrue (state g old).is_open → Rows newest (state g old).now.trees h → HoldsRows newest (state g begun).now h
  holds h is_open rows = subst (λ b. HoldsRows newest (state g b).now h) (sym is) (enters (state g old) h live is_open rows)

  was_open : HasCleanDisk (state g last) → IsTrue (state g old).is_open
  was_open clean = subst (λ b. IsTrue (state g b).is_open) is (answered clean).shown.was_open

  was_clean : HasCleanDisk (state g last) → HasCleanDisk (state g old)
  was_clean clean = let start : HasCleanDisk (state g begun) = omega (arith, first.clean) in subst (λ b. HasCleanDisk (state g b)) is start

  -- the answer is that of the history whose rows the connection showed
  pub said_of : HasCleanDisk (state g last) → (h : History) → IsLegalWith before h → IsAt newest (state g old) h → IsAnswerOf h r it after (state g last).now
  said_of clean h counts at = (answered clean).of_history h counts (holds h (was_open clean) (rows_now (state g old) h at (was_clean clean) (was_open clean)))

  commits_one : (Seen : Reply → Type 0) → Seen it.reply → HasCleanDisk (state g last) → CommitsOne (state g old) before r Seen (state g last).now.trees
  commits_one Seen seen clean = (was_open clean, λ h counts rows. let says = (answered clean).of_history h counts (holds h (was_open clean) rows) in (goes_out (state g last).now (after_one h r) says.rows, subst Seen says.reply seen))

  module _ (Seen : Reply → Type 0) (seen : Seen it.reply) (end : Held S) (third : Survives (state g last) (state g end) (λ db. db ≡ (state g last).now.trees)) where
    -- over the whole call a crash leaves what it left before, or what the request commits
    pub one_at_most : Survives (state g old) (state g end) (CommitsOne (state g old) before r Seen)
    one_at_most =
        let outer = survives_begin g old (state g last) _ (subst (λ b. CommitsNothing (state g b) (state g last)) is first) in
        let given = λ (clean : HasCleanDisk (state g end)) (db : Trees) (same : db ≡ (state g last).now.trees).
        let late : HasCleanDisk (state g last) = omega (arith, third.clean) in
        subst (CommitsOne (state g old) before r Seen) (sym same) (commits_one Seen seen late) in
        quiet_to (state g old) (state g last) (state g end) _ (CommitsOne (state g old) before r Seen) given outer third

    -- so nothing was committed for a request that adds no deed
    pub never_here : it.is_new ≡ true → (h : History) → IsLegalWith before h → IsAt newest (state g old) h → AddsNoDeed h r → CommitsNothing (state g old) (state g end)
    never_here new h counts at none =
        let never = λ (clean : HasCleanDisk (state g end)) (db : Trees) (one : CommitsOne (state g old) before r Seen db).
        let late : HasCleanDisk (state g last) = omega (arith, third.clean) in
        let added = (said_of late h counts at).adds new in
        none added.0 added.1 in
        survives_weaker (state g old) (state g end) (CommitsOne (state g old) before r Seen) (λ _. ⊥) never one_at_most

    -- after a successful commit
    pub committed : (settled : (s : S) (db : Trees) → IsTrue (g.view s).is_open → g.recovers s db → db ≡ (g.view s).committed)
        → (HasCleanDisk (state g end) → Shows (state g last) (state g end) (state g last).now (state g last).now false)
        → HasCleanDisk (state g end) → (h : History) → IsLegalWith before h → IsAt newest (state g old) h
        → (it.reply ≡ reply_to h r) × IsLegalWith after (after_one h r) × IsAt newest (state g end) (after_one h r)
    committed settled went clean h counts at =
        let late : HasCleanDisk (state g last) = omega (arith, third.clean) in
        let says = said_of late h counts at in
        let shows = went clean in
        let kept : Rows newest (state g end).committed.trees (after_one h r) = subst (λ db. Rows newest db.trees (after_one h r)) (sym shows.committed_is) (goes_out (state g last).now (after_one h r) says.rows) in (
          says.reply,
          says.counts,
          record {
            shown = λ _ _. (shows.now_is ∙ sym shows.committed_is, kept);
            left = λ _ db may. (after_one h r, refl, subst (λ x. Rows newest x (after_one h r)) (sym (settled end.store db shows.is_open may)) kept);
          },
        )

  module _ (end : Held S) (ends : CommitsNothing (state g last) (state g end)) where
    -- the transaction was rolled back: nothing was committed
    pub none_at_all : CommitsNothing (state g old) (state g end)
    none_at_all = commits_none g old begun last end is first ends (λ _. ⊥)

    -- an answer that adds no deed is given after it
    pub as_before : it.is_new ≡ false → (HasCleanDisk (state g end) → IsRolledBack (state g last) (state g end))
        → HasCleanDisk (state g end) → (h : History) → IsLegalWith before h → IsAt newest (state g old) h
        → (it.reply ≡ reply_to h r) × IsLegalWith after (after_one h r) × IsAt newest (state g end) (after_one h r)
    as_before quiet back clean h counts at =
        let late : HasCleanDisk (state g last) = omega (arith, ends.clean) in
        let says = said_of late h counts at in
        let history : after_one h r ≡ h = stays h (verdict h r) (says.adds_none quiet) in
        let shown = at.shown (was_clean late) (was_open late) in
        let undone = back clean in
        let same : (state g last).committed ≡ (state g old).committed = subst (λ b. (state g last).committed ≡ (state g b).committed) is (answered late).shown.committed_is in (
          says.reply,
          says.counts,
          subst (IsAt newest (state g end)) (sym history) (record {
            shown = λ _ still. let now = undone.undone still in (now.0 ∙ sym now.1, subst (λ db. Rows newest db.trees h) (sym (now.1 ∙ same)) shown.1);
            left = λ _ db may. at.left (was_clean late) db (elim (none_at_all.crash clean db may) [ inl old_may ↦ old_may | inr none ↦ absurd none ]);
          }),
        )
