-- One request in one transaction.
use Rattle.std.specs.Prelude.{◌≡◌, ◌≢◌, ◌⊎◌, true, false, IsTrue}
use Rattle.sqlite.specs.Tree.{Trees}
use Rattle.sqlite.specs.Effect.{Database}
use Rattle.sqlite.specs.State.{State, Shows}
use Rattle.table_laws.specs.Inside.{GoesOn}
use Rattle.registry_tables.specs.declared.opening.Summary.{Summary}
use Rattle.registry_rules.specs.declared.order.Request.{Request}
use Rattle.registry_rules.specs.declared.deed.Deed.{Deed}
use Rattle.registry_rules.specs.declared.verdict.Reply.{Reply}
use Rattle.registry_rules.specs.declared.verdict.Reply.TheVariants.{Done}
use Rattle.registry_rules.specs.declared.verdict.Verdict.TheVariants.{New}
use Rattle.registry_rules.specs.Reply.{act_text}
use Rattle.registry_rules.specs.History.{History, with_deed}
use Rattle.registry_tables.specs.Head.{IsSummaryOf}
use Rattle.registry_rules.specs.Verdict.{verdict}
use Rattle.registry_rules.specs.Run.{after_one, reply_to}
use Rattle.registry_tables.specs.Rows.{Rows, HoldsRows, newest}
use Rattle.registry_store.specs.declared.attempt.Answer.{Answer}
use Rattle.registry_store.specs.Promise.{IsLegalWith}

-- what one request may commit, once this holds of its reply
abbrev pub CommitsOne : State → Summary → Request → (Reply → Type 0) → Trees → Type 0
CommitsOne old summary r Seen db = IsTrue old.is_open × ((h : History) → IsLegalWith summary h → Rows newest old.now.trees h → Rows newest db (after_one h r) × Seen (reply_to h r))

-- the request is a repeat or is refused, so it adds no deed
abbrev pub AddsNoDeed : History → Request → Type 0
AddsNoDeed h r = (d : Deed) → verdict h r ≢ New d

-- the transaction shows the rows of the deed and its reply, and nothing is committed
pub record WroteRows (old new : State) (before : Summary) (r : Request) (d : Deed) : Type 0 where
  pub shown : Shows old new new.now old.committed true
  pub made : (h : History) → IsLegalWith before h → verdict h r ≡ New d → HoldsRows newest old.now h → HoldsRows newest new.now (with_deed h d)

-- and the summary is that after the deed
pub record Wrote (old new : State) (before after : Summary) (r : Request) (d : Deed) : Type 0 where
  pub rows : WroteRows old new before r d
  pub carried : (h : History) → IsLegalWith before h → verdict h r ≡ New d → IsSummaryOf (with_deed h d) after

-- the answer to a request that is accepted and new
abbrev pub new_answer : Deed → Answer
new_answer d = record { reply = Done (act_text d.act); is_new = true }

-- if the answer is to a new request, this holds of its reply
abbrev pub IfNew : (Reply → Type 0) → Answer → Type 0
IfNew Seen it = it.is_new ≡ true → Seen it.reply

-- The answer to a request is that of the history: it has its reply, and says whether the request adds a deed. This is the
-- summary after the request, and the database holds the rows after it.
pub record IsAnswerOf (h : History) (r : Request) (it : Answer) (after : Summary) (now : Database) : Type 0 where
  pub reply : it.reply ≡ reply_to h r
  pub adds : it.is_new ≡ true → (d : Deed) × (verdict h r ≡ New d)
  pub adds_none : it.is_new ≡ false → AddsNoDeed h r
  pub counts : IsLegalWith after (after_one h r)
  pub rows : HoldsRows newest now (after_one h r)

-- the transaction shows what the request makes of each history whose rows it showed, and nothing is committed
pub record Answered (old new : State) (before after : Summary) (r : Request) (it : Answer) : Type 0 where
  pub shown : GoesOn old new
  pub of_history : (h : History) → IsLegalWith before h → HoldsRows newest old.now h → IsAnswerOf h r it after new.now

-- the transaction shows the rows after the request, and nothing is committed
abbrev pub ShowsAfter : State → State → Summary → Request → Type 0
ShowsAfter old new before r = GoesOn old new × ((h : History) → IsLegalWith before h → HoldsRows newest old.now h → HoldsRows newest new.now (after_one h r))

-- The witness is not asked, or about a request that is new to each history whose rows the transaction showed. This holds then of
-- its deed.
abbrev pub AsksIfNew : {W : Type 0} → W → W → State → Summary → Request → (Deed → Type 0) → Type 0
AsksIfNew was is old before r Heard = (is ≡ was) ⊎ (IsTrue old.is_open × ((h : History) → IsLegalWith before h → HoldsRows newest old.now h → (d : Deed) × (verdict h r ≡ New d) × Heard d))
