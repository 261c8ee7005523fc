-- The founding that a log begins with.
use Rattle.std.proofs.Common.{◌≡◌, ◌≢◌, ◌∙◌, ℕ, zero, List, [], ◌∷◌, ◌++◌, drop, slice_get, Some, None, inr, refl, sym, ap, subst}
use Rattle.std.specs.Prelude.{IfErr, IfNone, IfOk, Option, Result, Ok, Err}
use Rattle.std.proofs.lemmas.Option.{slice_get_within}
use Rattle.registry_rules.specs.declared.accepted.Accepted.{Accepted}
use Rattle.registry_rules.specs.declared.founding.Founding.{Founding}
use Rattle.registry_wire.specs.Record.{founding_line, record_reading}
use Rattle.registry_wire.specs.declared.record.RecordLine.{RecordLine}
use Rattle.registry_wire.specs.declared.record.RecordLine.TheVariants as says
use Rattle.registry_wire.specs.declared.refusal.WireRefusal.{WireRefusal}
use Rattle.registry_laws.proofs.LineLemmas.{founding_read}
use Rattle.registry_laws.proofs.MachineLemmas.{in_beginning}
use Rattle.shared_log.specs.Calls.{LogLines, AtSomeInstant, IsLogPage}
use Rattle.shared_log.specs.declared.answers.PageAnswer.{PageAnswer}
use Rattle.shared_log.specs.declared.log.Log.{Ghosts as LogGhosts}
use Rattle.shared_registry.specs.declared.stop.ShareStop.{ShareStop}
use Rattle.shared_registry.specs.declared.stop.ShareStop.TheVariants as stops
use Rattle.shared_registry.specs.Founded.{BeginsWithFounding, HasNoFounding, HasNoFoundingLine, IsOfNoFounding}
use Rattle.shared_registry.proofs.FollowLemmas.{at_instant_grows, grows_none}

-- ---- a line

-- the line is read as a founding that has another line
pub other_founding : (line : List ℕ) (read : Founding) → record_reading line ≡ Ok (says.Founding read) → founding_line read ≢ line → IsOfNoFounding line
other_founding line read is other founding valid same =
    let reads : record_reading line ≡ Ok (says.Founding founding) = subst (λ (x : List ℕ). record_reading x ≡ Ok (says.Founding founding)) same (founding_read founding valid) in
    let both : read ≡ founding = cc (is, reads) in
    other (ap founding_line both ∙ same)

-- the line is read as no founding
not_founding : (line : List ℕ) (read : Result RecordLine WireRefusal) → record_reading line ≡ read → ((founding : Founding) → read ≢ Ok (says.Founding founding)) → IsOfNoFounding line
not_founding line read is other founding valid same =
    let reads : record_reading line ≡ Ok (says.Founding founding) = subst (λ (x : List ℕ). record_reading x ≡ Ok (says.Founding founding)) same (founding_read founding valid) in
    other founding (sym is ∙ reads)

pub accepted_instead : (line : List ℕ) (accepted : Accepted) (digest : Option (List ℕ)) → record_reading line ≡ Ok (says.Accepted accepted digest) → IsOfNoFounding line
accepted_instead line accepted digest is = not_founding line (Ok (says.Accepted accepted digest)) is (λ founding same. cc)

pub refused_instead : (line : List ℕ) (refusal : WireRefusal) → record_reading line ≡ Err refusal → IsOfNoFounding line
refused_instead line refusal is = not_founding line (Err refusal) is (λ founding same. cc)

-- where there is nothing, this follows
pub none_so : {A E : Type 0} (result : Result (Option A) E) {P Q : Type 0} → (P → Q) → IfOk result (λ it. IfNone it P) → IfOk result (λ it. IfNone it Q)
none_so (Ok None) so is = so is
none_so (Ok (Some x)) so is = tt
none_so (Err error) so is = tt

-- ---- a page

all_lines : (log : LogLines) → drop zero log ≡ log
all_lines [] = refl
all_lines (line ∷ others) = refl

-- the first line of a page from line 0 on is that of the log
first_line : (page : PageAnswer) (line : List ℕ) → slice_get page.lines 0 ≡ Some line → (log : LogLines) → IsLogPage 0 page log → slice_get log 0 ≡ Some line
first_line page line is log at =
    ap (λ (all : LogLines). slice_get all 0) (sym (all_lines log) ∙ at.1)
    ∙ in_beginning page.lines at.0 0 (slice_get_within page.lines 0 line is) ∙ is

page_begins : (old new : LogLines) (page : PageAnswer) (line : List ℕ) → AtSomeInstant old new (IsLogPage 0 page) → slice_get page.lines 0 ≡ Some line → AtSomeInstant old new (λ log. slice_get log 0 ≡ Some line)
page_begins old new page line at is = record { instant = at.instant; before = at.before; after = at.after; held = first_line page line is at.instant at.held }

module _ {L : Type 0} (l : LogGhosts L) (lines : L → LogLines) where
  -- why the page begins with no founding, of the log
  page_unfounded : (old new : L) (page : PageAnswer) → l.reads old new 0 page → AtSomeInstant (lines old) (lines new) (IsLogPage 0 page)
      → (stop : ShareStop) → HasNoFoundingLine page.lines page.more stop → HasNoFounding l lines old new stop
  page_unfounded old new page reads at (stops.Log fault) it = record { old = old; grown = grows_none (lines old); failed = inr (0, page, reads, it.0, it.1, it.2) }
  page_unfounded old new page reads at (stops.OtherRecord n) it = (
    it.0,
    it.1,
    record { instant = at.instant; before = at.before; after = at.after; held = (first_line page it.1 it.2.0 at.instant at.held, it.2.1) },
  )
  page_unfounded old new page reads at stops.Empty it = record {
    instant = at.instant;
    before = at.before;
    after = at.after;
    held = sym (all_lines at.instant) ∙ at.held.1 ∙ ap (λ (page : LogLines). page ++ at.held.0) it.0 ∙ at.held.2 it.1;
  }
  page_unfounded old new page reads at stops.NoMemory it = at_instant_grows (lines old) (lines new) _ at
  page_unfounded old new page reads at (stops.Registry fault) it = absurd it
  page_unfounded old new page reads at stops.Ahead it = absurd it
  page_unfounded old new page reads at stops.Full it = absurd it

  module _ (old new : L) (page : PageAnswer) (reads : l.reads old new 0 page) (at : AtSomeInstant (lines old) (lines new) (IsLogPage 0 page)) where
    pub read_founded : (result : Result Founding ShareStop) → IfOk result (λ founding. BeginsWithFounding founding page.lines) → IfOk result (λ founding. AtSomeInstant (lines old) (lines new) (BeginsWithFounding founding))
    read_founded (Ok founding) is = page_begins (lines old) (lines new) page (founding_line founding) at is
    read_founded (Err stop) is = tt

    pub read_unfounded : (result : Result Founding ShareStop) → IfErr result (HasNoFoundingLine page.lines page.more) → IfErr result (HasNoFounding l lines old new)
    read_unfounded (Ok founding) is = tt
    read_unfounded (Err stop) is = page_unfounded old new page reads at stop is
