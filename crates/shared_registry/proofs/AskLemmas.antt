-- Calls of a log, one after another.
use Rattle.std.proofs.Common.{◌≡◌, ◌⊎◌, ◌∙◌, ◌+◌, ◌<◌, ℕ, List, [], ◌∷◌, length, Some, inl, inr, refl, sym, ap, subst}
use Rattle.std.proofs.Math.ListN.{get_or}
use Rattle.std.proofs.lemmas.Option.{slice_get-get_or}
use Rattle.registry_rules.specs.History.{History}
use Rattle.registry_rules.specs.Reply.{act_text}
use Rattle.registry_rules.specs.Verdict.{verdict}
use Rattle.registry_rules.specs.declared.deed.Deed.{Deed}
use Rattle.registry_rules.specs.declared.order.Request.{Request}
use Rattle.registry_rules.specs.declared.verdict.Verdict.TheVariants.{New}
use Rattle.registry_laws.specs.Machines.{IsOfMachine, LeadsToLater}
use Rattle.registry_laws.specs.Records.{record_of}
use Rattle.registry_wire.specs.Record.{accepted_line}
use Rattle.shared_log.specs.Calls.{Grows, KeepsLines, IsLogPage, LogLines}
use Rattle.shared_log.specs.declared.answers.AppendAnswer.TheVariants as answers
use Rattle.shared_log.specs.declared.answers.PageAnswer.{PageAnswer}
use Rattle.shared_log.specs.declared.log.Log.{Ghosts as LogGhosts}
use Rattle.shared_registry.specs.declared.cursor.AppendFault.{AppendFault}
use Rattle.shared_registry.specs.declared.cursor.AppendFault.TheVariants as faults
use Rattle.shared_registry.specs.declared.cursor.Cursor.{Cursor}
use Rattle.shared_registry.specs.Asks.{AppendsLines, AppendsNothing, AppendsRequest, AreCalls, IsLogAsked, IsCall}
use Rattle.shared_registry.proofs.AppendLemmas.{append_grows, did_not_take, took_line}
use Rattle.shared_registry.proofs.FollowLemmas.{at_instant_grows, grows_none, grows_on, still_of}
use Rattle.shared_registry.proofs.LineLemmas.{leads_nowhere, leads_on}
use Rattle.shared_registry.specs.Cursors.{HasLine, HasNoLine, HasNoNewLine, WasShown, WasNotTaken, accepted_as}

-- the call of the witness, if the request is new
abbrev pub WasAskedIfNew : {L : Type 0} → Cursor L → Cursor L → History → Request → (Deed → Type 0) → Type 0
WasAskedIfNew c c_new h r Heard = (c_new ≡ c) ⊎ ((deed : Deed) × (verdict h r ≡ New deed) × Heard deed)

module _ {L : Type 0} (l : LogGhosts L) (May : ℕ → List ℕ → Type 0) where
  pub asked_nothing : (a : L) → IsLogAsked l May a a
  asked_nothing a = ([], refl)

  -- the same of a log that is left as it is
  pub asked_to : (a b : L) → b ≡ a → IsLogAsked l May a b
  asked_to a b same = subst (λ (x : L). IsLogAsked l May a x) (sym same) (asked_nothing a)

  pub asked_once : (a b : L) → IsCall l May a b → IsLogAsked l May a b
  asked_once a b call = (b ∷ [], (call, refl))

  pub asked_read : (a b : L) (n : ℕ) (page : PageAnswer) → l.reads a b n page → IsLogAsked l May a b
  asked_read a b n page reads = asked_once a b (inl (n, page, reads))

  pub asked_in_vain : (a b : L) → l.fails a b → IsLogAsked l May a b
  asked_in_vain a b fails = asked_once a b (inr (inr fails))

  calls_then : (a b c : L) (states : List L) → AreCalls l May a states b → IsLogAsked l May b c → IsLogAsked l May a c
  calls_then a b c [] same more = subst (λ (x : L). IsLogAsked l May x c) same more
  calls_then a b c (middle ∷ states) calls more =
      let rest = calls_then middle b c states calls.1 more in
      (middle ∷ rest.0, (calls.0, rest.1))

  -- calls and then more calls
  pub asked_then : (a b c : L) → IsLogAsked l May a b → IsLogAsked l May b c → IsLogAsked l May a c
  asked_then a b c one more = calls_then a b c one.0 one.1 more

  -- a line was to be appended
  pub asked_line : (c c_new : Cursor L) (line : List ℕ) → May c.next line → HasLine l c c_new line → IsLogAsked l May c.log c_new.log
  asked_line c c_new line may has =
      elim has.told [
        | inl is ↦ asked_once c.log c_new.log (inr (inl (c.next, line, answers.Appended, may, is)))
        | inr is ↦ asked_once c.log c_new.log (inr (inl (c.next, line, answers.Taken line, may, is)))
      ]

  pub asked_no_line : (c c_new : Cursor L) (line : List ℕ) (fault : AppendFault) → May c.next line → HasNoNewLine l c c_new line fault → IsLogAsked l May c.log c_new.log
  asked_no_line c c_new line faults.Taken may it = asked_once c.log c_new.log (inr (inl (c.next, line, answers.Taken it.0.0, may, it.0.1)))
  asked_no_line c c_new line faults.Behind may it = asked_once c.log c_new.log (inr (inl (c.next, line, answers.Behind, may, it.0)))
  asked_no_line c c_new line faults.Full may it = asked_to c.log c_new.log (ap (λ (d : Cursor L). d.log) it.0)
  asked_no_line c c_new line faults.NoMemory may it = asked_to c.log c_new.log (ap (λ (d : Cursor L). d.log) it)
  asked_no_line c c_new line (faults.Log fault) may it = asked_in_vain c.log c_new.log it.0

-- a line that may be appended later may be appended by an earlier history, to a log that has grown
pub appends_earlier : (log new : LogLines) (h x : History) (r : Request) → LeadsToLater h x → Grows log new → (n : ℕ) (line : List ℕ) → AppendsRequest log x r n line → AppendsRequest new h r n line
appends_earlier log new h x r leads grown n line it = record {
  before = it.before;
  leads = leads_on h x it.before leads it.leads;
  there = still_of log new it.before it.there grown;
  deed = it.deed;
  new = it.new;
  number = it.number;
  written = it.written;
}

module _ {L : Type 0} (l : LogGhosts L) (May Might : ℕ → List ℕ → Type 0) (weaker : (n : ℕ) (line : List ℕ) → May n line → Might n line) where
  call_weaker : (a b : L) → IsCall l May a b → IsCall l Might a b
  call_weaker a b (inl reads) = inl reads
  call_weaker a b (inr (inl it)) = inr (inl (it.0, it.1, it.2, weaker it.0 it.1 it.3, it.4))
  call_weaker a b (inr (inr fails)) = inr (inr fails)

  calls_weaker : (a b : L) (states : List L) → AreCalls l May a states b → AreCalls l Might a states b
  calls_weaker a b [] same = same
  calls_weaker a b (middle ∷ states) calls = (call_weaker a middle calls.0, calls_weaker middle b states calls.1)

  -- where more may be appended
  pub asked_weaker : (a b : L) → IsLogAsked l May a b → IsLogAsked l Might a b
  asked_weaker a b it = (it.0, calls_weaker a b it.0 it.1)

-- reads append nothing, so they append nothing else
pub asked_anyway : {L : Type 0} (l : LogGhosts L) (May : ℕ → List ℕ → Type 0) (a b : L) → IsLogAsked l AppendsNothing a b → IsLogAsked l May a b
asked_anyway l May a b it = asked_weaker l AppendsNothing May (λ n line never. absurd never) a b it

module _ {L : Type 0} (l : LogGhosts L) (these : LogLines) (start c c_new : Cursor L) (i : ℕ) (line : List ℕ) (counted : c.next ≡ start.next + i) (lt : i < length these) (here : line ≡ get_or these i line)
    (so_far : IsLogAsked l (AppendsLines these start.next) start.log c.log) where
  is_next : AppendsLines these start.next c.next line
  is_next = (i, counted, slice_get-get_or these i line lt ∙ ap Some (sym here))

  -- the next of these lines was to be appended
  pub asked_next : HasLine l c c_new line → IsLogAsked l (AppendsLines these start.next) start.log c_new.log
  asked_next has = asked_then l (AppendsLines these start.next) start.log c.log c_new.log so_far (asked_line l (AppendsLines these start.next) c c_new line is_next has)

  pub asked_no_next : (fault : AppendFault) → HasNoLine l c c_new line fault → IsLogAsked l (AppendsLines these start.next) start.log c_new.log
  asked_no_next fault it = asked_then l (AppendsLines these start.next) start.log c.log c_new.log so_far (asked_no_line l (AppendsLines these start.next) c c_new line fault is_next (did_not_take l c c_new line fault it))

-- ---- the line of a request

module _ {L : Type 0} (l : LogGhosts L) (lines : L → LogLines) (kept : KeepsLines l lines) where
  call_grows : (May : ℕ → List ℕ → Type 0) (a b : L) → IsCall l May a b → Grows (lines a) (lines b)
  call_grows May a b (inl read) = at_instant_grows (lines a) (lines b) (IsLogPage read.0 read.1) (kept.reads a b read.0 read.1 read.2)
  call_grows May a b (inr (inl it)) = append_grows l lines it.0 it.1 it.2 (lines a) (lines b) (kept.appends a b it.0 it.1 it.2 it.4)
  call_grows May a b (inr (inr fails)) = kept.fails a b fails

  calls_grow : (May : ℕ → List ℕ → Type 0) (a b : L) (states : List L) → AreCalls l May a states b → Grows (lines a) (lines b)
  calls_grow May a b [] same = subst (λ (x : L). Grows (lines a) (lines x)) (sym same) (grows_none (lines a))
  calls_grow May a b (middle ∷ states) calls = grows_on (lines a) (lines middle) (lines b) (call_grows May a middle calls.0) (calls_grow May middle b states calls.1)

  -- a log that was asked has grown
  pub asked_grows : (May : ℕ → List ℕ → Type 0) (a b : L) → IsLogAsked l May a b → Grows (lines a) (lines b)
  asked_grows May a b it = calls_grow May a b it.0 it.1

  -- calls for a request, and then more calls for it, over a later history
  pub asked_later : (h x : History) (r : Request) (a b c : L) → LeadsToLater h x → IsLogAsked l (AppendsRequest (lines b) h r) a b → IsLogAsked l (AppendsRequest (lines c) x r) b c → IsLogAsked l (AppendsRequest (lines c) h r) a c
  asked_later h x r a b c leads one more =
      let May = AppendsRequest (lines c) h r in
      let grown = asked_grows (AppendsRequest (lines c) x r) b c more in
      asked_then l May a b c
      (asked_weaker l (AppendsRequest (lines b) h r) May (λ n line it. appends_earlier (lines b) (lines c) h h r (leads_nowhere h) grown n line it) a b one)
      (asked_weaker l (AppendsRequest (lines c) x r) May (λ n line it. appends_earlier (lines c) (lines c) h x r leads (grows_none (lines c)) n line it) b c more)

  -- calls for a request, and then reads
  pub asked_and_read : (h : History) (r : Request) (a b c : L) → IsLogAsked l (AppendsRequest (lines b) h r) a b → IsLogAsked l AppendsNothing b c → IsLogAsked l (AppendsRequest (lines c) h r) a c
  asked_and_read h r a b c one reads = asked_later h h r a b c (leads_nowhere h) one (asked_anyway l (AppendsRequest (lines c) h r) b c reads)

  module _ (c c_new : Cursor L) (h : History) (r : Request) (of : IsOfMachine (lines c.log) h) (at : c.next ≡ length (record_of h)) where
    abbrev pub Asks : Type 0
    Asks = IsLogAsked l (AppendsRequest (lines c_new.log) h r) c.log c_new.log

    abbrev May : Deed → ℕ → List ℕ → Type 0
    May deed n line = (n ≡ c.next) × (line ≡ accepted_line (accepted_as r (act_text deed.act)))

    -- the next line is that of a request which is new
    asks_new : (deed : Deed) → verdict h r ≡ New deed → IsLogAsked l (May deed) c.log c_new.log → Asks
    asks_new deed new it =
        let there = still_of (lines c.log) (lines c_new.log) h of (asked_grows (May deed) c.log c_new.log it) in
        asked_weaker l (May deed) (AppendsRequest (lines c_new.log) h r)
        (λ n line next. record { before = h; leads = leads_nowhere h; there = there; deed = deed; new = new; number = next.0 ∙ at; written = next.1 }) c.log c_new.log it

    asked_same : c_new ≡ c → Asks
    asked_same same = asked_to l (AppendsRequest (lines c_new.log) h r) c.log c_new.log (ap (λ (d : Cursor L). d.log) same)

    asked_shown : (deed : Deed) → verdict h r ≡ New deed → WasShown l c c_new r (act_text deed.act) → Asks
    asked_shown deed new it = asks_new deed new (asked_line l (May deed) c c_new (accepted_line (accepted_as r (act_text deed.act))) (refl, refl) (took_line l c c_new _ it.line))

    -- a request was shown to the cursor, or was to be, if it is new
    pub asked_if_shown : WasAskedIfNew c c_new h r (λ deed. WasShown l c c_new r (act_text deed.act)) → Asks
    asked_if_shown (inl same) = asked_same same
    asked_if_shown (inr (deed, new, shown)) = asked_shown deed new shown

    pub asked_if_not : (fault : AppendFault) → WasAskedIfNew c c_new h r (λ deed. WasNotTaken l c c_new r (act_text deed.act) fault) → Asks
    asked_if_not fault (inl same) = asked_same same
    asked_if_not fault (inr (deed, new, it)) = asks_new deed new (asked_no_line l (May deed) c c_new (accepted_line (accepted_as r (act_text deed.act))) fault (refl, refl) it)

    pub asked_by_fault : WasAskedIfNew c c_new h r (λ deed. (c_new ≡ c) ⊎ WasShown l c c_new r (act_text deed.act)) → Asks
    asked_by_fault (inl same) = asked_same same
    asked_by_fault (inr (deed, new, inl same)) = asked_same same
    asked_by_fault (inr (deed, new, inr shown)) = asked_shown deed new shown
