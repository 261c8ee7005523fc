-- Requests that are answered over a log, one after another.
use Rattle.std.proofs.Common.{◌≡◌, ◌<◌, ◌∙◌, ◌+◌, ℕ, suc, List, [], ◌∷◌, ◌++◌, length, take, drop, refl, sym, ap, subst, arith}
use Rattle.std.proofs.lemmas.List.{append-nil, append_assoc, take-append-drop}
use Rattle.std.proofs.Math.ListN.{get_or}
use Rattle.std.proofs.Math.Seq.{drop-cons, take-suc}
use Rattle.sqlite.specs.Store.{Ghosts}
use Rattle.byte_streams.proofs.StreamLemmas.{appends_nil, appends_then}
use Rattle.registry_rules.specs.History.{History}
use Rattle.registry_rules.specs.Run.{after_one}
use Rattle.registry_rules.specs.declared.order.Request.{Request}
use Rattle.registry_rules.specs.declared.verdict.Reply.{Reply}
use Rattle.registry_laws.specs.Machines.{LeadsToLater}
use Rattle.registry_store.specs.declared.registry.Registry.{Registry}
use Rattle.registry_commands.specs.declared.status.ExitStatus.{ExitStatus}
use Rattle.registry_commands.specs.Ends.{Sunk}
use Rattle.registry_commands.specs.Messages.{reply_line, reply_lines}
use Rattle.shared_log.specs.Calls.{LogLines}
use Rattle.shared_log.specs.declared.log.Log.{Ghosts as LogGhosts}
use Rattle.shared_registry.specs.Asks.{AppendsRequest, IsLogAsked}
use Rattle.shared_registry.specs.Follows.{Follows, IsAnsweredOverLog}
use Rattle.shared_registry.specs.declared.cursor.Cursor.{Cursor}
use Rattle.shared_registry.proofs.LineLemmas.{leads_nowhere, leads_on}
use Rattle.shared_commands.specs.declared.answering.AnswerStop.{AnswerStop}
use Rattle.shared_commands.specs.Answered.{AreAnswered, HasAnsweredAll, HasAnsweredSome, HasReplied, IsAnsweredBy, IsCutOverLog}

-- ---- lists

-- the first requests and the next one
take_next : (rs : List Request) (i : ℕ) (r : Request) → i < length rs → r ≡ get_or rs i r → take (i + 1) rs ≡ take i rs ++ r ∷ []
take_next rs i r lt is =
    let next : i + 1 ≡ suc i = omega arith in
    ap (λ (k : ℕ). take k rs) next ∙ take-suc rs i r lt ∙ ap (λ (q : Request). take i rs ++ q ∷ []) (sym is)

split_at : (rs : List Request) (i : ℕ) (r : Request) → i < length rs → r ≡ get_or rs i r → rs ≡ take i rs ++ r ∷ drop (suc i) rs
split_at rs i r lt is =
    sym (take-append-drop i rs) ∙ ap (λ (rest : List Request). take i rs ++ rest) (drop-cons rs i r lt ∙ ap (λ (q : Request). q ∷ drop (suc i) rs) (sym is))

lines_on : (replies : List Reply) (reply : Reply) → reply_lines (replies ++ reply ∷ []) ≡ reply_lines replies ++ reply_line reply
lines_on [] reply = append-nil (reply_line reply)
lines_on (x ∷ replies) reply = ap (λ (text : List ℕ). reply_line x ++ text) (lines_on replies reply) ∙ sym (append_assoc (reply_line x) (reply_lines replies) (reply_line reply))

-- ---- answers

module _ {L : Type 0} (l : LogGhosts L) (lines : L → LogLines) where
  leads_by : (c : Cursor L) (h : History) (r : Request) (reply : Reply) (c_new : Cursor L) (next : History) → IsAnsweredBy l lines c h r reply c_new next → LeadsToLater h next
  leads_by c h r reply c_new next by = leads_on h by.before next by.leads (r ∷ [], by.next_is)

  pub answered_leads : (c : Cursor L) (h : History) (rs : List Request) (replies : List Reply) (c_new : Cursor L) (next : History) → AreAnswered l lines c h rs replies c_new next → LeadsToLater h next
  answered_leads c h [] replies c_new next same = subst (λ (x : History). LeadsToLater h x) (sym same.2) (leads_nowhere h)
  answered_leads c h (r ∷ rs) replies c_new next it =
      leads_on h it.3 next (leads_by c h r it.0 it.2 it.3 it.5) (answered_leads it.2 it.3 rs it.1 c_new next it.6)

  -- with one more request
  answered_on : (c : Cursor L) (h : History) (rs : List Request) (replies : List Reply) (c_mid : Cursor L) (x : History) (r : Request) (reply : Reply) (c_new : Cursor L) (next : History)
      → AreAnswered l lines c h rs replies c_mid x → IsAnsweredBy l lines c_mid x r reply c_new next → AreAnswered l lines c h (rs ++ r ∷ []) (replies ++ reply ∷ []) c_new next
  answered_on c h [] replies c_mid x r reply c_new next same by = (
    reply,
    [],
    c_new,
    next,
    ap (λ (all : List Reply). all ++ reply ∷ []) same.0,
    subst (λ (p : Cursor L). IsAnsweredBy l lines p h r reply c_new next) same.1 (subst (λ (y : History). IsAnsweredBy l lines c_mid y r reply c_new next) same.2 by),
    (refl, refl, refl),
  )
  answered_on c h (q ∷ rs) replies c_mid x r reply c_new next it by = (
    it.0,
    it.1 ++ reply ∷ [],
    it.2,
    it.3,
    ap (λ (all : List Reply). all ++ reply ∷ []) it.4,
    it.5,
    answered_on it.2 it.3 rs it.1 c_mid x r reply c_new next it.6 by,
  )

module _ {S : Type 0} {g : Ghosts S} {L : Type 0} (l : LogGhosts L) (lines : L → LogLines) where
  of_answered : (c : Cursor L) (it : Registry S g) (c_new : Cursor L) (h : History) (r : Request) (reply : Reply) → (answered : IsAnsweredOverLog l lines c it c_new h r reply) → IsLogAsked l (AppendsRequest (lines c_new.log) h r) c.log c_new.log → IsAnsweredBy l lines c h r reply c_new (after_one answered.before r)
  of_answered c it c_new h r reply answered asks =
      record { before = answered.before; leads = answered.leads; whole = answered.whole; reply_is = answered.reply_is; next_is = refl; of_machine = answered.follows.of_machine; asks = asks }

  -- before the first request
  pub none_answered : (it : Registry S g) (c : Cursor L) (h : History) (out : Sunk) → Follows l lines it c h → HasAnsweredAll l lines it c c h [] (record { old = out; new = out })
  none_answered it c h out follows = record { replies = []; next = h; answered = (refl, refl, refl); follows = follows; written = appends_nil out.contents }

  module _ (c : Cursor L) (h : History) (rs : List Request) (i : ℕ) (r : Request) (lt : i < length rs) (is : r ≡ get_or rs i r) (it_mid : Registry S g) (c_mid : Cursor L) (first middle last : Sunk)
      (so_far : HasAnsweredAll l lines it_mid c_mid c h (take i rs) (record { old = first; new = middle })) (it : Registry S g) (c_new : Cursor L)
      (asks : IsLogAsked l (AppendsRequest (lines c_new.log) so_far.next r) c_mid.log c_new.log) where
    -- one more request is answered
    pub one_answered : (status : ExitStatus) → HasReplied l lines it c_new c_mid so_far.next r (record { old = middle; new = last }) status → HasAnsweredAll l lines it c_new c h (take (i + 1) rs) (record { old = first; new = last })
    one_answered status replied =
        let by = of_answered c_mid it c_new so_far.next r replied.reply replied.answered asks in
        let next = after_one replied.answered.before r in
        record {
          replies = so_far.replies ++ replied.reply ∷ [];
          next = next;
          answered = subst (λ (all : List Request). AreAnswered l lines c h all (so_far.replies ++ replied.reply ∷ []) c_new next) (sym (take_next rs i r lt is))
              (answered_on l lines c h (take i rs) so_far.replies c_mid so_far.next r replied.reply c_new next so_far.answered by);
          follows = replied.answered.follows;
          written = rw (lines_on so_far.replies replied.reply) (appends_then first.contents middle.contents last.contents (reply_lines so_far.replies) (reply_line replied.reply) so_far.written replied.written);
        }

    -- the next one is not
    pub some_answered : (stop : AnswerStop) → IsCutOverLog l lines it c_new c_mid so_far.next r middle.contents last.contents stop → HasAnsweredSome l lines it c_new c h rs (record { old = first; new = last }) stop
    some_answered stop cut = record {
      done = take i rs;
      next = r;
      rest = drop (suc i) rs;
      split = split_at rs i r lt is;
      replies = so_far.replies;
      place = c_mid;
      last = so_far.next;
      answered = so_far.answered;
      middle = middle.contents;
      written = so_far.written;
      stopped = cut;
      asks = asks;
    }
