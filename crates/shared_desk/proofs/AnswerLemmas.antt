-- A query or an order over a log: the texts that stay cached, and what is left.
use Rattle.std.proofs.Common.{◌≡◌, ◌∙◌, ℕ, [], ◌∷◌, length, Bool, true, false, None, inl, inr, refl, sym, ap, subst, arith}
use Rattle.std.specs.Prelude.{Result, Ok, Err, IfErr, IfOk, IsErrAnd, MatchResult, nat_eq, if◌then◌else◌}
use Rattle.std.proofs.lemmas.Bool.{eqb-true}
use Rattle.sqlite.specs.Store.{Ghosts}
use Rattle.registry_rules.specs.History.{History}
use Rattle.registry_rules.specs.Run.{after_one}
use Rattle.registry_rules.specs.Verdict.{verdict}
use Rattle.registry_rules.specs.declared.order.Request.{Request}
use Rattle.registry_rules.specs.declared.verdict.Reply.{Reply}
use Rattle.registry_laws.specs.Machines.{LeadsToLater}
use Rattle.registry_laws.specs.Records.{record_of}
use Rattle.registry_store.specs.declared.registry.Registry.{Registry}
use Rattle.registry_store.specs.Queries.{IsUntouched}
use Rattle.registry_http.specs.declared.message.Message.TheVariants as messages
use Rattle.registry_http.specs.declared.refusal.HttpRefusal.{HttpRefusal}
use Rattle.registry_http.specs.declared.response.Response.{Response}
use Rattle.registry_http.specs.declared.route.Query.{Query}
use Rattle.registry_http.specs.Responses.{refusal_response, reply_response}
use Rattle.registry_desk.specs.declared.cache.Cache.{Cache}
use Rattle.registry_desk.specs.declared.fault.DeskFault.{DeskFault}
use Rattle.registry_desk.specs.declared.fault.DeskFault.TheVariants as desk
use Rattle.registry_desk.specs.Acting.{IsOfQuery, IsQueryResponse}
use Rattle.registry_desk.specs.Cache.{AreTextsOf, no_texts, with_text}
use Rattle.registry_desk.specs.Faults.{fault_of_done}
use Rattle.registry_desk.proofs.CacheLemmas.{none_are}
use Rattle.shared_log.specs.Calls.{LogLines}
use Rattle.shared_log.specs.declared.log.Log.{Ghosts as LogGhosts}
use Rattle.shared_registry.specs.Follows.{Follows, HasFollowed, IsAnsweredOverLog, IsLeft}
use Rattle.shared_registry.specs.Lines.{fault_in_call}
use Rattle.shared_registry.specs.declared.cursor.Cursor.{Cursor}
use Rattle.shared_registry.specs.declared.stop.ShareStop.{ShareStop}
use Rattle.shared_registry.specs.declared.stop.ShareStop.TheVariants as stops
use Rattle.shared_registry.proofs.ActLemmas.{longer_by, unmoved}
use Rattle.shared_registry.proofs.FollowLemmas.{grows_none, still_follows}
use Rattle.shared_registry.proofs.LineLemmas.{leads_nowhere, leads_on}
use Rattle.shared_desk.specs.Answers.{Answers, IsUnanswered}
use Rattle.shared_desk.specs.Refusals.{stop_of}

-- ---- the texts that stay cached

texts_by : (h x : History) (cache new : Cache) (now before : ℕ) (same : Bool) → nat_eq now before ≡ same → new ≡ (if same then cache else no_texts)
    → (now ≡ before → x ≡ h) → AreTextsOf h cache → AreTextsOf x new
texts_by h x cache new now before true test is unchanged of = rw is (rw (unchanged (eqb-true now before test)) of)
texts_by h x cache new now before false test is unchanged of = none_are x new is

-- they are dropped if a line was acted on
pub texts_stay : (h x : History) (cache new : Cache) (now before : ℕ) → new ≡ (if nat_eq now before then cache else no_texts) → before ≡ length (record_of h) → now ≡ length (record_of x) → LeadsToLater h x
    → AreTextsOf h cache → AreTextsOf x new
texts_stay h x cache new now before is at_h at_x leads of =
    texts_by h x cache new now before (nat_eq now before) refl is (λ same. unmoved h x leads (omega (arith, same, at_h, at_x))) of

-- and they are of the history before the order too
texts_before : (h x : History) (r : Request) (cache new : Cache) (now before : ℕ) → new ≡ (if nat_eq now before then cache else no_texts) → before ≡ length (record_of h) → now ≡ length (record_of (after_one x r)) → LeadsToLater h x
    → AreTextsOf h cache → AreTextsOf x new
texts_before h x r cache new now before is at_h at_next leads of =
    let one = longer_by x (verdict x r) in
    texts_by h x cache new now before (nat_eq now before) refl is (λ same. unmoved h x leads (omega (arith, same, at_h, at_next, one))) of

-- ---- the fault of a query

-- what is told of a query is its response, or the stop for its fault
abbrev IsPassedOn : Result Response DeskFault → Result Response ShareStop → Type 0
IsPassedOn asked told = MatchResult asked (λ response. told ≡ Ok response) (λ fault. IsErrAnd told (λ stop. stop ≡ stop_of fault))

pub if_response : (asked : Result Response DeskFault) (told : Result Response ShareStop) (P Q : Response → Type 0) → IsPassedOn asked told → IfOk asked P → ((response : Response) → P response → Q response) → IfOk told Q
if_response (Ok response) told P Q is holds give = rw is (give response holds)
if_response (Err fault) (Ok response) P Q is holds give = absurd is
if_response (Err fault) (Err stop) P Q is holds give = tt

pub if_fault : (asked : Result Response DeskFault) (told : Result Response ShareStop) (P : DeskFault → Type 0) (Q : ShareStop → Type 0) → IsPassedOn asked told → IfErr asked P → ((fault : DeskFault) → P fault → Q (stop_of fault)) → IfErr told Q
if_fault (Ok response) told P Q is holds give = rw is tt
if_fault (Err fault) (Ok response) P Q is holds give = tt
if_fault (Err fault) (Err stop) P Q is holds give = subst Q (sym is) (give fault holds)

pub same_fault_told : (asked : Result Response DeskFault) (told : Result Response ShareStop) → IsPassedOn asked told → fault_of_done asked ≡ fault_in_call told
same_fault_told (Ok response) told is = rw is refl
same_fault_told (Err fault) (Ok response) is = absurd is
same_fault_told (Err (desk.Registry fault)) (Err stop) is = rw is refl
same_fault_told (Err desk.NoMemory) (Err stop) is = rw is refl

module _ {S : Type 0} {g : Ghosts S} {L : Type 0} (l : LogGhosts L) (lines : L → LogLines) (c : Cursor L) (h : History) where
  -- ---- queries

  -- a query was answered over the history of the whole log
  pub query_answered : (mid new : Registry S g) (c_new : Cursor L) (query : Query) (response : Response) (cache cache_new : Cache) → (followed : HasFollowed l lines c mid c_new h) → AreTextsOf followed.now cache
      → IsUntouched mid new → IsQueryResponse followed.now query response → cache_new ≡ with_text cache query None → Answers l lines c new c_new h (Ok (messages.Query query)) response cache_new
  query_answered mid new c_new query response cache cache_new followed of left is taken = record {
    next = followed.now;
    answer = record { before = followed.now; leads = followed.leads; whole = λ asked. followed.whole; unasked = λ refused. absurd cc; response_is = is; next_is = refl };
    follows = still_follows l lines mid c_new new c_new followed.now followed.follows (left.stays followed.now followed.follows.represents) (grows_none (lines c_new.log)) refl;
    texts = cache;
    texts_of = of;
    beside = taken;
  }

  -- the store failed at a query, or memory ran out
  pub query_unanswered : (mid new : Registry S g) (c_new : Cursor L) (fault : DeskFault) → HasFollowed l lines c mid c_new h → IsUntouched mid new → IsOfQuery fault → (query : Query) → IsUnanswered l lines c new c_new h (Ok (messages.Query query)) (stop_of fault)
  query_unanswered mid new c_new fault followed left (inl memory) query = rw memory (inl ((followed.now, followed.leads, still_follows l lines mid c_new new c_new followed.now followed.follows (left.stays followed.now followed.follows.represents) (grows_none (lines c_new.log)) refl), inl refl))
  query_unanswered mid new c_new fault followed left (inr store) query =
      let follows = still_follows l lines mid c_new new c_new followed.now followed.follows (left.stays followed.now followed.follows.represents) (grows_none (lines c_new.log)) refl in
      rw store (inr (query, refl, record { now = followed.now; leads = followed.leads; follows = follows; whole = followed.whole }, refl))

  -- ---- orders

  -- an order was answered over the history of the whole log
  pub order_answered : (new : Registry S g) (c_new : Cursor L) (r : Request) (reply : Reply) (response : Response) (cache cache_new : Cache) → IsAnsweredOverLog l lines c new c_new h r reply → response ≡ reply_response reply
      → c.next ≡ length (record_of h) → AreTextsOf h cache → cache_new ≡ (if nat_eq c_new.next c.next then cache else no_texts) → Answers l lines c new c_new h (Ok (messages.Request r)) response cache_new
  order_answered new c_new r reply response cache cache_new it is at_h of dropped = record {
    next = after_one it.before r;
    answer = record { before = it.before; leads = it.leads; whole = λ asked. it.whole; unasked = λ refused. absurd cc; response_is = is ∙ ap reply_response it.reply_is; next_is = refl };
    follows = it.follows;
    texts = cache_new;
    texts_of = texts_before h it.before r cache cache_new c_new.next c.next dropped at_h it.follows.next it.leads of;
    beside = refl;
  }

  -- it has taken effect, and memory ran out for its response
  pub order_unanswered : (new : Registry S g) (c_new : Cursor L) (r : Request) (reply : Reply) → IsAnsweredOverLog l lines c new c_new h r reply → IsLeft l lines c new c_new h stops.NoMemory
  order_unanswered new c_new r reply it = (after_one it.before r, leads_on h it.before (after_one it.before r) it.leads (r ∷ [], refl), it.follows)

  -- ---- messages that are refused

  pub refused_answered : (it : Registry S g) (refusal : HttpRefusal) (response : Response) (cache : Cache) → Follows l lines it c h → AreTextsOf h cache → response ≡ refusal_response refusal → Answers l lines c it c h (Err refusal) response cache
  refused_answered it refusal response cache follows of is = record {
    next = h;
    answer = record { before = h; leads = leads_nowhere h; whole = λ asked. absurd cc; unasked = λ refused. refl; response_is = is; next_is = refl };
    follows = follows;
    texts = cache;
    texts_of = of;
    beside = refl;
  }

  pub refused_unanswered : (it : Registry S g) → Follows l lines it c h → IsLeft l lines c it c h stops.NoMemory
  refused_unanswered it follows = (h, leads_nowhere h, follows)
