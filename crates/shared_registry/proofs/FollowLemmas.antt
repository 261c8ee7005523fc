-- A registry that follows a log.
use Rattle.std.proofs.Common.{◌≡◌, ◌≢◌, ◌≤◌, ◌<◌, ◌∙◌, ◌+◌, ℕ, List, [], ◌∷◌, ◌++◌, length, drop, slice_get, Some, Bool, true, false, inl, inr, refl, sym, ap, subst, arith}
use Rattle.std.specs.Prelude.{nat_eq}
use Rattle.std.proofs.lemmas.Bool.{eqb-false, eqb-true}
use Rattle.std.proofs.lemmas.List.{append-nil, length-append}
use Rattle.std.proofs.Math.Seq.{drop-append_seam}
use Rattle.sqlite.specs.Store.{Ghosts}
use Rattle.sqlite.specs.State.{State}
use Rattle.registry_rules.specs.History.{History}
use Rattle.registry_rules.specs.Run.{Legal}
use Rattle.registry_rules.proofs.RunLemmas.{legal_after}
use Rattle.registry_laws.specs.Machines.{BeginsWith, IsOfMachine, LeadsToLater}
use Rattle.registry_laws.specs.Records.{record_of}
use Rattle.registry_laws.proofs.MachineLemmas.{appended_twice}
use Rattle.registry_store.specs.Promise.{Represents, state_of}
use Rattle.registry_store.specs.declared.registry.Registry.{Registry}
use Rattle.shared_log.specs.Calls.{LogLines, AtSomeInstant, Grows, KeepsLines, IsLogPage}
use Rattle.shared_log.specs.declared.answers.PageAnswer.{PageAnswer}
use Rattle.shared_log.specs.declared.fault.LogFault.{LogFault}
use Rattle.shared_log.specs.declared.fault.LogFault.TheVariants.{BadAnswer}
use Rattle.shared_log.specs.declared.log.Log.{Ghosts as LogGhosts}
use Rattle.shared_registry.specs.declared.cursor.Cursor.{Cursor}
use Rattle.shared_registry.specs.declared.stop.ShareStop.{ShareStop}
use Rattle.shared_registry.specs.declared.stop.ShareStop.TheVariants as stops
use Rattle.shared_registry.specs.Follows.{Follows, FollowsLater, GoesOnByOne, HasFailed, HasFollowed, HasFollowedPage, HasGoneOn, IsLeft, LeavesOfMachine}
use Rattle.shared_registry.specs.Lines.{GoesOver, IsStoppedBefore, IsStoppedIn, MayHaveGoneOn}
use Rattle.shared_registry.proofs.LineLemmas.{leads_nowhere, leads_on, over_one}

-- ---- lists that grow

pub grows_none : (log : LogLines) → Grows log log
grows_none log = ([], sym (append-nil log))

pub grows_on : (a b c : LogLines) → Grows a b → Grows b c → Grows a c
grows_on a b c one two = (one.0 ++ two.0, two.1 ∙ ap (λ (l : LogLines). l ++ two.0) one.1 ∙ appended_twice a one.0 two.0)

pub no_lines : (xs : LogLines) → nat_eq (length xs) 0 ≡ true → xs ≡ []
no_lines [] is = refl
no_lines (x ∷ xs) is = absurd (let none = eqb-true (length (x ∷ xs)) 0 is in omega (arith, none))

pub some_lines : (xs : LogLines) → nat_eq (length xs) 0 ≡ false → 0 < length xs
some_lines [] is = absurd (eqb-false 0 0 is refl)
some_lines (x ∷ xs) is = omega arith

pub not_none : (xs : LogLines) → nat_eq (length xs) 0 ≡ false → xs ≢ []
not_none [] is none = eqb-false 0 0 is refl
not_none (x ∷ xs) is none = cc

-- what lies behind a beginning
behind : (log front more : LogLines) (n : ℕ) → log ≡ front ++ more → n ≡ length front → drop n log ≡ more
behind log front more n is at = subst (λ (k : ℕ). drop k log ≡ more) (sym at) (ap (drop (length front)) is ∙ drop-append_seam front more)

-- the line behind a beginning
line_behind : (front more : LogLines) (line : List ℕ) → slice_get (front ++ line ∷ more) (length front) ≡ Some line
line_behind [] more line = refl
line_behind (f ∷ front) more line = line_behind front more line

pub longer : (a b : LogLines) → Grows a b → length a ≤ length b
longer a b it = let same : length b ≡ length a + length it.0 = ap length it.1 ∙ length-append a it.0 in omega (arith, same)

-- the property held at an instant of a longer call
pub earlier_start : (first old new : LogLines) (P : LogLines → Type 0) → Grows first old → AtSomeInstant old new P → AtSomeInstant first new P
earlier_start first old new P grown it = record { instant = it.instant; before = grows_on first old it.instant grown it.before; after = it.after; held = it.held }

pub later_end : (old mid new : LogLines) (P : LogLines → Type 0) → AtSomeInstant old mid P → Grows mid new → AtSomeInstant old new P
later_end old mid new P it grown = record { instant = it.instant; before = it.before; after = grows_on it.instant mid new it.after grown; held = it.held }

pub at_instant_grows : (old new : LogLines) (P : LogLines → Type 0) → AtSomeInstant old new P → Grows old new
at_instant_grows old new P it = grows_on old it.instant new it.before it.after

-- ---- a history of a machine that shares the log

-- the log has grown
pub still_of : (log new : LogLines) (h : History) → IsOfMachine log h → Grows log new → IsOfMachine new h
still_of log new h of grown = record { legal = of.legal; valid = of.valid; begins = grows_on (record_of h) log new of.begins grown }

pub legal_later : (h x : History) → Legal h → LeadsToLater h x → Legal x
legal_later h x legal leads = subst Legal (sym leads.1) (legal_after h leads.0 legal)

-- lines were acted on, with which the log goes on
pub of_machine : (log new : LogLines) (h x : History) (lines : LogLines) → IsOfMachine log h → GoesOver h lines x → Grows (record_of h ++ lines) new → IsOfMachine new x
of_machine log new h x lines of over grown = record {
  legal = legal_later h x of.legal over.leads;
  valid = over.valid of.valid;
  begins = subst (λ (l : LogLines). Grows l new) (sym over.written) grown;
}

-- ---- a page

-- A page that was read: the log at an instant is the record with its lines, and then the rest.
pub record IsRead (log new : LogLines) (h : History) (page : PageAnswer) : Type 0 where
  pub rest : LogLines
  pub there : AtSomeInstant log new (λ it. it ≡ record_of h ++ (page.lines ++ rest))
  pub last : page.more ≡ false → rest ≡ []

pub is_read : (log new : LogLines) (h : History) (n : ℕ) (page : PageAnswer) → BeginsWith log h → n ≡ length (record_of h) → AtSomeInstant log new (IsLogPage n page) → IsRead log new h page
is_read log new h n page begins at it =
    let front = record_of h in
    let more = begins.0 ++ it.before.0 in
    let is : it.instant ≡ front ++ more = it.before.1 ∙ ap (λ (l : LogLines). l ++ it.before.0) begins.1 ∙ appended_twice front begins.0 it.before.0 in
    let same : more ≡ page.lines ++ it.held.0 = sym (behind it.instant front more n is at) ∙ it.held.1 in
    record {
      rest = it.held.0;
      there = record { instant = it.instant; before = it.before; after = it.after; held = is ∙ ap (λ (l : LogLines). front ++ l) same };
      last = it.held.2;
    }

-- the lines of the page begin the log, behind the record
grows_over : (log new : LogLines) (h : History) (page : PageAnswer) (front back : LogLines) → IsRead log new h page → page.lines ≡ front ++ back → Grows (record_of h ++ front) new
grows_over log new h page front back it split =
    let is : it.there.instant ≡ (record_of h ++ front) ++ (back ++ it.rest) =
    it.there.held ∙ ap (λ (l : LogLines). record_of h ++ (l ++ it.rest)) split ∙ ap (λ (l : LogLines). record_of h ++ l) (appended_twice front back it.rest) ∙ sym (appended_twice (record_of h) front (back ++ it.rest)) in
    grows_on (record_of h ++ front) it.there.instant new (back ++ it.rest, is) it.there.after

-- what is left of a later history is left of an earlier one
left_earlier : (s : State) (log : LogLines) (h now : History) → LeadsToLater h now → LeavesOfMachine s log now → LeavesOfMachine s log h
left_earlier s log h now leads it =
    record { last = it.last; next = it.next; leads = leads_on h now it.last leads it.leads; goes_on = it.goes_on; last_of = it.last_of; next_of = it.next_of; leaves = it.leaves }

module _ {L : Type 0} (l : LogGhosts L) (lines : L → LogLines) where
  -- what a crash may leave where the line may have been acted on
  left_one : (c_new : Cursor L) (s : State) (h last : History) (line : List ℕ) → LeadsToLater h last → IsOfMachine (lines c_new.log) last → Grows (record_of last ++ line ∷ []) (lines c_new.log)
      → MayHaveGoneOn s last line → LeavesOfMachine s (lines c_new.log) h
  left_one c_new s h last line leads of grown it =
      let both : GoesOnByOne last it.next × IsOfMachine (lines c_new.log) it.next = elim it.goes_on [
        | inl same ↦ (inl same, subst (IsOfMachine (lines c_new.log)) (sym same) of)
        | inr by ↦ (let over = over_one last by.0 line it.next by.1 in (inr (line, by), of_machine (lines c_new.log) (lines c_new.log) last it.next (line ∷ []) of over grown))
      ] in
      record { last = last; next = it.next; leads = leads; goes_on = both.0; last_of = of; next_of = both.1; leaves = it.leaves }

  -- a call that got no answer
  pub failed_here : (c now : L) (fault : LogFault) → l.fails c now → HasFailed l lines c now fault
  failed_here c now fault fails = record { old = c; grown = grows_none (lines c); failed = inl fails }

  -- a call that failed later
  pub failed_since : (start c : L) (now : L) (fault : LogFault) → Grows (lines start) (lines c) → HasFailed l lines c now fault → HasFailed l lines start now fault
  failed_since start c now fault grown it = record { old = it.old; grown = grows_on (lines start) (lines c) (lines it.old) grown it.grown; failed = it.failed }

module _ {S : Type 0} {g : Ghosts S} {L : Type 0} (l : LogGhosts L) (lines : L → LogLines) where
  -- a whole page was acted on
  pub page_followed : (old : Registry S g) (c : Cursor L) (new : Registry S g) (c_new : Cursor L) (h x : History) (page : PageAnswer) → Follows l lines old c h → IsRead (lines c.log) (lines c_new.log) h page
      → GoesOver h page.lines x → Represents new x → c_new.next ≡ c.next + length page.lines → HasFollowedPage l lines c new c_new h page.more
  page_followed old c new c_new h x page follows read over now counted = record {
    now = x;
    leads = over.leads;
    follows = record {
      represents = now;
      of_machine = of_machine (lines c.log) (lines c_new.log) h x page.lines follows.of_machine over (grows_over _ _ h page page.lines [] read (sym (append-nil page.lines)));
      next = counted ∙ ap (λ (n : ℕ). n + length page.lines) follows.next ∙ sym (length-append (record_of h) page.lines) ∙ ap length (sym over.written);
    };
    grown = at_instant_grows (lines c.log) (lines c_new.log) _ read.there;
    whole = λ none. record {
      instant = read.there.instant;
      before = read.there.before;
      after = read.there.after;
      held = read.there.held ∙ ap (λ (r : LogLines). record_of h ++ (page.lines ++ r)) (read.last none) ∙ ap (λ (r : LogLines). record_of h ++ r) (append-nil page.lines) ∙ sym over.written;
    };
  }

  -- what stopped it before a line is left so
  stopped_at : (c : Cursor L) (new : Registry S g) (c_new : Cursor L) (h last : History) (rest more : LogLines) (now : ℕ) → LeadsToLater h last → IsOfMachine (lines c_new.log) last → c_new.next ≡ length (record_of last) → now ≡ c_new.next
      → AtSomeInstant (lines c.log) (lines c_new.log) (λ log. log ≡ record_of last ++ (rest ++ more)) → (stop : ShareStop) → IsStoppedBefore new last rest now stop → IsLeft l lines c new c_new h stop
  stopped_at c new c_new h last [] more now leads of next at there stop it = absurd it
  stopped_at c new c_new h last (line ∷ others) more now leads of next at there (stops.Registry fault) it = (
    it.0,
    left_one l lines c_new (state_of new) h last line leads of
        (grows_on (record_of last ++ line ∷ []) there.instant (lines c_new.log) (others ++ more, there.held ∙ sym (appended_twice (record_of last) (line ∷ []) (others ++ more))) there.after) it.1,
  )
  stopped_at c new c_new h last (line ∷ others) more now leads of next at there (stops.OtherRecord n) it = (
    last,
    leads,
    record { represents = it.1; of_machine = of; next = next },
    it.0 ∙ at ∙ next,
    record {
      line = line;
      there = record {
        instant = there.instant;
        before = there.before;
        after = there.after;
        held = ap (λ (log : LogLines). slice_get log n) there.held ∙ ap (slice_get (record_of last ++ line ∷ (others ++ more))) (it.0 ∙ at ∙ next) ∙ line_behind (record_of last) (others ++ more) line;
      };
      other = it.2;
    },
  )
  stopped_at c new c_new h last (line ∷ others) more now leads of next at there stops.Full it = ((last, leads, record { represents = it.0; of_machine = of; next = next }), sym at ∙ it.1)
  stopped_at c new c_new h last (line ∷ others) more now leads of next at there stops.NoMemory it = (last, leads, record { represents = it; of_machine = of; next = next })
  stopped_at c new c_new h last (line ∷ others) more now leads of next at there (stops.Log fault) it = absurd it
  stopped_at c new c_new h last (line ∷ others) more now leads of next at there stops.Ahead it = absurd it
  stopped_at c new c_new h last (line ∷ others) more now leads of next at there stops.Empty it = absurd it

  -- a page was acted on up to what stopped it
  pub page_stopped : (old : Registry S g) (c : Cursor L) (new : Registry S g) (c_new : Cursor L) (h : History) (page : PageAnswer) → Follows l lines old c h → IsRead (lines c.log) (lines c_new.log) h page
      → (stop : ShareStop) → IsStoppedIn new h page.lines c.next c_new.next stop → IsLeft l lines c new c_new h stop
  page_stopped old c new c_new h page follows read stop it =
      let there = read.there in
      stopped_at c new c_new h it.last it.rest read.rest c_new.next it.over.leads
      (of_machine (lines c.log) (lines c_new.log) h it.last it.front follows.of_machine it.over (grows_over _ _ h page it.front it.rest read it.split))
      (it.counted ∙ ap (λ (n : ℕ). n + length it.front) follows.next ∙ sym (length-append (record_of h) it.front) ∙ ap length (sym it.over.written)) refl
      (record {
        instant = there.instant;
        before = there.before;
        after = there.after;
        held = there.held ∙ ap (λ (p : LogLines). record_of h ++ (p ++ read.rest)) it.split ∙ ap (λ (p : LogLines). record_of h ++ p) (appended_twice it.front it.rest read.rest)
            ∙ sym (appended_twice (record_of h) it.front (it.rest ++ read.rest)) ∙ ap (λ (p : LogLines). p ++ (it.rest ++ read.rest)) (sym it.over.written);
      }) stop it.stopped

  -- ---- calls one after another

  -- nothing but the log has changed, which has grown
  pub still_follows : (old : Registry S g) (c : Cursor L) (new : Registry S g) (c_new : Cursor L) (h : History) → Follows l lines old c h → Represents new h → Grows (lines c.log) (lines c_new.log) → c_new.next ≡ c.next → Follows l lines new c_new h
  still_follows old c new c_new h follows stays grown same =
      record { represents = stays; of_machine = still_of (lines c.log) (lines c_new.log) h follows.of_machine grown; next = same ∙ follows.next }

  -- a page that got no answer
  pub page_failed : KeepsLines l lines → (it : Registry S g) (c c_new : Cursor L) (h : History) → Follows l lines it c h → (fault : LogFault) → l.fails c.log c_new.log → c_new.next ≡ c.next
      → FollowsLater l lines it c_new h × HasFailed l lines c.log c_new.log fault
  page_failed kept it c c_new h follows fault fails same =
      ((h, leads_nowhere h, still_follows it c it c_new h follows follows.represents (kept.fails c.log c_new.log fails) same), failed_here l lines c.log c_new.log fault fails)

  -- an answer without a line, which said that there were more
  pub empty_page : KeepsLines l lines → (it : Registry S g) (c c_new : Cursor L) (h : History) → Follows l lines it c h → (page : PageAnswer) → l.reads c.log c_new.log c.next page → c_new.next ≡ c.next → page.lines ≡ [] → page.more ≡ true
      → FollowsLater l lines it c_new h × HasFailed l lines c.log c_new.log BadAnswer
  empty_page kept it c c_new h follows page reads same none more = (
    (h, leads_nowhere h, still_follows it c it c_new h follows follows.represents (at_instant_grows (lines c.log) (lines c_new.log) _ (kept.reads c.log c_new.log c.next page reads)) same),
    record { old = c.log; grown = grows_none (lines c.log); failed = inr (c.next, page, reads, none, more, refl) },
  )

  -- what a later call left is what the calls together left
  pub left_since : (start c : Cursor L) (new : Registry S g) (c_new : Cursor L) (h now : History) → Grows (lines start.log) (lines c.log) → LeadsToLater h now → (stop : ShareStop) → IsLeft l lines c new c_new now stop → IsLeft l lines start new c_new h stop
  left_since start c new c_new h now grown leads (stops.Registry fault) it = (it.0, left_earlier (state_of new) (lines c_new.log) h now leads it.1)
  left_since start c new c_new h now grown leads (stops.Log fault) it = ((it.0.0, leads_on h now it.0.0 leads it.0.1, it.0.2), failed_since l lines start.log c.log c_new.log fault grown it.1)
  left_since start c new c_new h now grown leads (stops.OtherRecord n) it = (
    it.0,
    leads_on h now it.0 leads it.1,
    it.2,
    it.3,
    record { line = it.4.line; there = earlier_start (lines start.log) (lines c.log) (lines c_new.log) _ grown it.4.there; other = it.4.other },
  )
  left_since start c new c_new h now grown leads stops.Ahead it = it
  left_since start c new c_new h now grown leads stops.Empty it = it
  left_since start c new c_new h now grown leads stops.Full it = ((it.0.0, leads_on h now it.0.0 leads it.0.1, it.0.2), it.1)
  left_since start c new c_new h now grown leads stops.NoMemory it = (it.0, leads_on h now it.0 leads it.1, it.2)

  pub gone_nowhere : (it : Registry S g) (c : Cursor L) (h : History) → Follows l lines it c h → HasGoneOn l lines c it c h
  gone_nowhere it c h follows = record { now = h; leads = leads_nowhere h; follows = follows; grown = grows_none (lines c.log) }

  pub gone_on : (start c : Cursor L) (it new : Registry S g) (c_new : Cursor L) (h : History) (more : Bool) → (so_far : HasGoneOn l lines start it c h) → HasFollowedPage l lines c new c_new so_far.now more → HasGoneOn l lines start new c_new h
  gone_on start c it new c_new h more so_far page = record {
    now = page.now;
    leads = leads_on h so_far.now page.now so_far.leads page.leads;
    follows = page.follows;
    grown = grows_on (lines start.log) (lines c.log) (lines c_new.log) so_far.grown page.grown;
  }

  pub all_followed : (start c : Cursor L) (it new : Registry S g) (c_new : Cursor L) (h : History) → (so_far : HasGoneOn l lines start it c h) → HasFollowedPage l lines c new c_new so_far.now false → HasFollowed l lines start new c_new h
  all_followed start c it new c_new h so_far page = record {
    now = page.now;
    leads = leads_on h so_far.now page.now so_far.leads page.leads;
    follows = page.follows;
    whole = earlier_start (lines start.log) (lines c.log) (lines c_new.log) (λ log. log ≡ record_of page.now) so_far.grown (page.whole refl);
  }

  pub left_later : (start c : Cursor L) (it new : Registry S g) (c_new : Cursor L) (h : History) → (so_far : HasGoneOn l lines start it c h) → (stop : ShareStop) → IsLeft l lines c new c_new so_far.now stop → IsLeft l lines start new c_new h stop
  left_later start c it new c_new h so_far stop it_left = left_since start c new c_new h so_far.now so_far.grown so_far.leads stop it_left

  pub followed_again : (start : Cursor L) (it : Registry S g) (c : Cursor L) (new : Registry S g) (c_new : Cursor L) (h : History) → (so_far : HasGoneOn l lines start it c h) → HasFollowed l lines c new c_new so_far.now → HasFollowed l lines start new c_new h
  followed_again start it c new c_new h so_far followed = record {
    now = followed.now;
    leads = leads_on h so_far.now followed.now so_far.leads followed.leads;
    follows = followed.follows;
    whole = earlier_start (lines start.log) (lines c.log) (lines c_new.log) (λ log. log ≡ record_of followed.now) so_far.grown followed.whole;
  }

  -- a log that is longer than the record has a further line to follow
  pub shows_line : (it : Registry S g) (c : Cursor L) (new : Registry S g) (c_new : Cursor L) (h : History) → Follows l lines it c h → length (record_of h) < length (lines c.log) → HasFollowed l lines c new c_new h → c.next < c_new.next
  shows_line it c new c_new h follows more followed =
      let whole = followed.whole in
      let long = longer (lines c.log) whole.instant whole.before in
      let count : length whole.instant ≡ length (record_of followed.now) = ap length whole.held in
      let here = follows.next in
      let there = followed.follows.next in
      omega (arith, more, long, count, here, there)
