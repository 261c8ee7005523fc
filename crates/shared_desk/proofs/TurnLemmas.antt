-- Where connections lead, one after another, and the lines that are appended then.
use Rattle.std.proofs.Common.{append_assoc, ◌∙◌, ℕ, List, [], ◌∷◌, ◌++◌, inl, inr, refl, sym, ap, subst}
use Rattle.std.specs.Prelude.{Result, Ok, Err}
use Rattle.byte_streams.specs.declared.streams.Broken.{Broken}
use Rattle.registry_http.specs.Messages.{Says}
use Rattle.registry_rules.specs.History.{History}
use Rattle.registry_rules.specs.declared.founding.Founding.{Founding}
use Rattle.registry_laws.specs.Machines.{LeadsToLater}
use Rattle.registry_desk.specs.declared.serve.Served.{Served}
use Rattle.registry_desk.specs.Server.{Visit}
use Rattle.shared_log.specs.Calls.{Grows, KeepsLines, LogLines}
use Rattle.shared_log.specs.declared.log.Log.{Ghosts as LogGhosts}
use Rattle.shared_registry.specs.Asks.{IsLogAsked}
use Rattle.shared_registry.specs.declared.cursor.Cursor.{Cursor}
use Rattle.shared_registry.proofs.AskLemmas.{appends_earlier, asked_grows, asked_then, asked_weaker}
use Rattle.shared_registry.proofs.FollowLemmas.{grows_none}
use Rattle.shared_registry.proofs.LineLemmas.{leads_nowhere, leads_on}
use Rattle.shared_desk.specs.Asks.{AppendsOrderIn, AppendsOrdersIn}
use Rattle.shared_desk.specs.Server.{IsTurnOver, TurnsOver}
use Rattle.shared_desk.proofs.ServeLemmas.{leads_by_message, same_founding}

-- ---- where connections lead

module _ {L : Type 0} (l : LogGhosts L) (lines : L → LogLines) where
  turn_leads : (c : Cursor L) (h : History) (bytes text : List ℕ) (end : Result Served Broken) (c_new : Cursor L) (next : History)
      → IsTurnOver l lines c h (record { bytes = bytes; text = text; end = end }) c_new next → LeadsToLater h next
  turn_leads c h bytes text (Ok served) c_new next (inl responded) =
      let a = responded.answer in
      leads_on h a.before next a.leads (subst (λ (x : History). LeadsToLater a.before x) (sym a.next_is) (leads_by_message a.before responded.said))
  turn_leads c h bytes text (Ok served) c_new next (inr passed) = passed.leads
  turn_leads c h bytes text (Err broken) c_new next same = subst (λ (x : History). LeadsToLater h x) (sym same.0) (leads_nowhere h)

  -- the last history is one to which the first leads
  pub turns_lead : (c : Cursor L) (h : History) (visits : List Visit) (c_new : Cursor L) (next : History) → TurnsOver l lines c h visits c_new next → LeadsToLater h next
  turns_lead c h [] c_new next same = subst (λ (x : History). LeadsToLater h x) (sym same.1) (leads_nowhere h)
  turns_lead c h (visit ∷ visits) c_new next it =
      leads_on h it.1 next (turn_leads c h visit.bytes visit.text visit.end it.0 it.1 it.2) (turns_lead it.0 it.1 visits c_new next it.4)

-- ---- lines

-- an order of a later history
order_earlier : (log new : LogLines) (h x : History) → LeadsToLater h x → Grows log new → (bytes : List ℕ) (n : ℕ) (line : List ℕ) → AppendsOrderIn log x bytes n line → AppendsOrderIn new h bytes n line
order_earlier log new h x leads grown bytes n line it =
    (it.0, subst (λ (founding : ℕ). Says founding bytes it.0) (ap (λ (f : Founding). f.vendor) (same_founding h x leads)) it.1, (it.2.0, it.2.1, appends_earlier log new h x it.2.0 leads grown n line it.2.2))

-- orders of these connections, and then that of one more
pub asked_more : {L : Type 0} (l : LogGhosts L) (lines : L → LogLines) → KeepsLines l lines → (c : Cursor L) (h : History) (visits : List Visit) (c_mid : Cursor L) (x : History) → TurnsOver l lines c h visits c_mid x
    → (visit : Visit) (c_new : Cursor L) → IsLogAsked l (AppendsOrdersIn (lines c_mid.log) h visits) c.log c_mid.log → IsLogAsked l (AppendsOrderIn (lines c_new.log) x visit.bytes) c_mid.log c_new.log
    → IsLogAsked l (AppendsOrdersIn (lines c_new.log) h (visits ++ visit ∷ [])) c.log c_new.log
asked_more l lines kept c h visits c_mid x turns visit c_new so_far one =
    let log = lines c_new.log in
    let May = AppendsOrdersIn log h (visits ++ visit ∷ []) in
    let leads = turns_lead l lines c h visits c_mid x turns in
    let grown = asked_grows l lines kept (AppendsOrderIn log x visit.bytes) c_mid.log c_new.log one in
    asked_then l May c.log c_mid.log c_new.log
    (asked_weaker l (AppendsOrdersIn (lines c_mid.log) h visits) May (λ n line it. (
      it.0,
      it.1,
      it.2 ++ visit ∷ [],
      ap (λ (all : List Visit). all ++ visit ∷ []) it.3 ∙ append_assoc it.0 (it.1 ∷ it.2) (visit ∷ []),
      order_earlier (lines c_mid.log) log h h (leads_nowhere h) grown it.1.bytes n line it.4,
    )) c.log c_mid.log so_far)
    (asked_weaker l (AppendsOrderIn log x visit.bytes) May (λ n line it. (visits, visit, [], refl, order_earlier log log h x leads (grows_none log) visit.bytes n line it)) c_mid.log c_new.log one)
