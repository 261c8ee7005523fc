-- The lines with which the record of a history goes on.
use Rattle.std.proofs.Common.{◌≡◌, ◌≢◌, ◌≤◌, ◌<◌, ◌⊎◌, ◌∙◌, ◌+◌, ℕ, zero, suc, List, [], ◌∷◌, ◌++◌, length, take, drop, Option, Some, None, Bool, true, false, inl, inr, Result, Ok, refl, sym, ap, subst, arith}
use Rattle.std.specs.Prelude.{is_some}
use Rattle.std.proofs.lemmas.List.{append-nil, take-append-drop}
use Rattle.std.proofs.lemmas.List.Elements.{All-append, All-cons, All-nil}
use Rattle.std.proofs.Math.ListN.{get_or}
use Rattle.std.proofs.Math.Seq.{drop-cons, take-suc}
use Rattle.sqlite.specs.Store.{Ghosts}
use Rattle.sqlite.specs.State.{State, HasCleanDisk}
use Rattle.registry_rules.specs.Accepted.{accepted_by, accepted_of}
use Rattle.registry_rules.specs.History.{History, with_deed}
use Rattle.registry_rules.specs.Reply.{act_text}
use Rattle.registry_rules.specs.Run.{after, after_one, after_verdict, reply_to}
use Rattle.registry_rules.specs.Verdict.{verdict}
use Rattle.registry_rules.specs.declared.accepted.Accepted.{Accepted}
use Rattle.registry_rules.specs.declared.deed.Deed.{Deed}
use Rattle.registry_rules.specs.declared.order.Request.{Request}
use Rattle.registry_rules.specs.declared.verdict.Verdict.{Verdict}
use Rattle.registry_rules.specs.declared.verdict.Verdict.TheVariants.{Kept, Refused, New}
use Rattle.registry_rules.proofs.RunLemmas.{new_is_of}
use Rattle.registry_wire.specs.Record.{accepted_line, record_reading}
use Rattle.registry_wire.specs.declared.record.RecordLine.{RecordLine}
use Rattle.registry_wire.specs.declared.record.RecordLine.TheVariants as lines
use Rattle.registry_wire.specs.declared.refusal.WireRefusal.{WireRefusal}
use Rattle.registry_laws.specs.Machines.{HasValidFields, LeadsToLater}
use Rattle.registry_laws.specs.Records.{IsAccepted, record_of}
use Rattle.registry_laws.proofs.LineLemmas.{accepted_read}
use Rattle.registry_laws.proofs.MachineLemmas.{after_both, appended_twice, record_with}
use Rattle.registry_tables.specs.Rows.{newest}
use Rattle.registry_store.specs.Promise.{Endures, Leaves, Represents}
use Rattle.registry_store.specs.Witness.{WasSeen}
use Rattle.registry_store.specs.declared.registry.Registry.{Registry}
use Rattle.shared_log.specs.Calls.{LogLines}
use Rattle.shared_registry.specs.declared.expecting.Expected.{Expected}
use Rattle.shared_registry.specs.declared.expecting.Unexpected.{Unexpected}
use Rattle.shared_registry.specs.declared.expecting.Unexpected.TheVariants.{NoMemory, Other}
use Rattle.shared_registry.specs.declared.stop.ShareStop.{ShareStop}
use Rattle.shared_registry.specs.declared.stop.ShareStop.TheVariants as stops
use Rattle.shared_registry.specs.Cursors.{accepted_as}
use Rattle.shared_registry.specs.Lines.{Continues, ContinuesBy, GoesOver, IsExpected, IsStoppedAtLine, IsStoppedBefore, IsStoppedIn, IsUnexpected, LeadsToLine, MayHaveGoneOn, stop_for}

-- ---- one line

-- the accepted request of a new deed is the request with the reply
pub by_new : (h : History) (r : Request) (deed : Deed) → verdict h r ≡ New deed → accepted_by deed ≡ accepted_as r (act_text deed.act)
by_new h r deed is = ap (λ (q : Request). accepted_as q (act_text deed.act)) (new_is_of h r deed is)

pub after_new : (h : History) (r : Request) (deed : Deed) → verdict h r ≡ New deed → after_one h r ≡ with_deed h deed
after_new h r deed is = ap (after_verdict h) is

-- the line of a new request with its reply
pub continued : (h : History) (r : Request) (deed : Deed) (line : List ℕ) → verdict h r ≡ New deed → IsAccepted (accepted_as r (act_text deed.act)) → accepted_line (accepted_as r (act_text deed.act)) ≡ line
    → ContinuesBy h r line (with_deed h deed)
continued h r deed line is valid same = record {
  deed = deed;
  new = is;
  valid = subst IsAccepted (sym (by_new h r deed is)) valid;
  written = sym same ∙ ap accepted_line (sym (by_new h r deed is));
  is = refl;
}

pub over_one : (h : History) (r : Request) (line : List ℕ) (x : History) → ContinuesBy h r line x → GoesOver h (line ∷ []) x
over_one h r line x it = record {
  written = ap record_of it.is ∙ (record_with h it.deed ∙ ap (λ (l : List ℕ). record_of h ++ l ∷ []) (sym it.written));
  leads = (r ∷ [], it.is ∙ sym (after_new h r it.deed it.new));
  valid = λ valid. subst HasValidFields (sym it.is) (record {
    founding = valid.founding;
    accepted = All-append IsAccepted (accepted_of h.deeds) (accepted_by it.deed ∷ []) valid.accepted (All-cons IsAccepted (accepted_by it.deed) [] it.valid (All-nil IsAccepted));
  });
}

-- ---- lines one after another

pub leads_nowhere : (h : History) → LeadsToLater h h
leads_nowhere h = ([], refl)

pub leads_on : (h x y : History) → LeadsToLater h x → LeadsToLater x y → LeadsToLater h y
leads_on h x y one two = (one.0 ++ two.0, two.1 ∙ ap (λ (z : History). after z two.0) one.1 ∙ sym (after_both h one.0 two.0))

pub over_none : (h : History) → GoesOver h [] h
over_none h = record { written = sym (append-nil (record_of h)); leads = leads_nowhere h; valid = λ valid. valid }

pub over_both : (h x y : History) (front rest : LogLines) → GoesOver h front x → GoesOver x rest y → GoesOver h (front ++ rest) y
over_both h x y front rest over it = record {
  written = it.written ∙ ap (λ (l : LogLines). l ++ rest) over.written ∙ appended_twice (record_of h) front rest;
  leads = leads_on h x y over.leads it.leads;
  valid = λ valid. it.valid (over.valid valid);
}

-- ---- lines of a list

pub long_front : (n : ℕ) (xs : LogLines) → n ≤ length xs → length (take n xs) ≡ n
long_front zero xs le = refl
long_front (suc n) [] le = absurd (omega (arith, le))
long_front (suc n) (x ∷ xs) le = ap suc (long_front n xs (omega (arith, le)))

-- the first lines of a list, with the next one
pub take_next : (lines : LogLines) (i : ℕ) (line : List ℕ) → i < length lines → line ≡ get_or lines i line → take (i + 1) lines ≡ take i lines ++ line ∷ []
take_next lines i line lt is =
    let next : i + 1 ≡ suc i = omega arith in
    ap (λ (k : ℕ). take k lines) next ∙ take-suc lines i line lt ∙ ap (λ (l : List ℕ). take i lines ++ l ∷ []) (sym is)

pub one_more : (h x y : History) (lines : LogLines) (i : ℕ) (line : List ℕ) → i < length lines → line ≡ get_or lines i line → GoesOver h (take i lines) x → Continues x line y → GoesOver h (take (i + 1) lines) y
one_more h x y lines i line lt is over by =
    subst (λ (l : LogLines). GoesOver h l y) (sym (take_next lines i line lt is)) (over_both h x y (take i lines) (line ∷ []) over (over_one x by.0 line y by.1))

module _ {S : Type 0} {g : Ghosts S} (new : Registry S g) where
  -- what stopped it at the line behind the first ones of a list
  pub stopped_in : (h x : History) (lines : LogLines) (i : ℕ) (line : List ℕ) (n now : ℕ) → i < length lines → line ≡ get_or lines i line → now ≡ n + i → GoesOver h (take i lines) x → (stop : ShareStop)
      → ((others : LogLines) → IsStoppedBefore new x (line ∷ others) now stop) → IsStoppedIn new h lines n now stop
  stopped_in h x lines i line n now lt is counted over stop at = record {
    front = take i lines;
    rest = drop i lines;
    split = sym (take-append-drop i lines);
    last = x;
    over = over;
    counted = counted ∙ ap (λ (k : ℕ). n + k) (sym (long_front i lines (omega (arith, lt))));
    stopped = subst (λ (rest : LogLines). IsStoppedBefore new x rest now stop) (sym (drop-cons lines i line lt ∙ ap (λ (l : List ℕ). l ∷ drop (suc i) lines) (sym is))) (at (drop (suc i) lines));
  }

  pub before_line : (x : History) (line : List ℕ) (others : LogLines) (n : ℕ) (stop : ShareStop) → IsStoppedAtLine new x line (Continues x line) n stop → IsStoppedBefore new x (line ∷ others) n stop
  before_line x line others n (stops.Registry fault) it = it
  before_line x line others n (stops.OtherRecord at) it = it
  before_line x line others n stops.NoMemory it = it
  before_line x line others n (stops.Log fault) it = it
  before_line x line others n stops.Ahead it = it
  before_line x line others n stops.Empty it = it
  before_line x line others n stops.Full it = absurd it

-- ---- what endures

pub endures_itself : (s : State) → Endures s s
endures_itself s = record { clean = omega arith; shield = λ shielded. shielded; faults_grow = omega arith; limit = refl; closes = λ _ is_open. inl is_open }

pub clean_first : (a b : State) → Endures a b → HasCleanDisk b → HasCleanDisk a
clean_first a b it clean = let more = it.clean in omega (arith, more, clean)

pub endures_then : (a b c : State) → Endures a b → Endures b c → Endures a c
endures_then a b c first second = record {
  clean = (let one = first.clean in let two = second.clean in omega (arith, one, two));
  shield = λ shielded. second.shield (first.shield shielded);
  faults_grow = (let one = first.faults_grow in let two = second.faults_grow in omega (arith, one, two));
  limit = second.limit ∙ first.limit;
  closes = λ clean is_open.
      let one = first.faults_grow in
      let two = second.faults_grow in
      elim (first.closes (clean_first b c second clean) is_open) [
        | inl still ↦ elim (second.closes clean still) [ inl there ↦ inl there | inr more ↦ inr (omega (arith, one, more)) ]
        | inr more ↦ inr (omega (arith, two, more))
      ];
}

-- ---- what a line says

-- a line that leads on is read as its request
pub read_of : (h : History) (line : List ℕ) (x : History) → (it : Continues h line x) → record_reading line ≡ Ok (lines.Accepted (accepted_by it.1.deed) None)
read_of h line x it = ap record_reading it.1.written ∙ accepted_read (accepted_by it.1.deed) it.1.valid

-- so a line that is read as something else leads to nothing
pub unread : (h : History) (line : List ℕ) (found : Result RecordLine WireRefusal) → record_reading line ≡ found → ((accepted : Accepted) → found ≢ Ok (lines.Accepted accepted None))
    → (x : History) → ¬ Continues h line x
unread h line found is other x it = other (accepted_by it.1.deed) (sym is ∙ read_of h line x it)

-- a line that is read as a request leads on by this request alone
pub by_request : (h : History) (line : List ℕ) (accepted : Accepted) (digest : Option (List ℕ)) → record_reading line ≡ Ok (lines.Accepted accepted digest)
    → ((x : History) → ¬ ContinuesBy h accepted.request line x) → (x : History) → ¬ Continues h line x
by_request h line accepted digest is none x it =
    let both : Ok (lines.Accepted accepted digest) ≡ Ok (lines.Accepted (accepted_by it.1.deed) None) = sym is ∙ read_of h line x it in
    let same : accepted ≡ accepted_by it.1.deed = cc in
    let mine : it.0 ≡ accepted.request = sym (new_is_of h it.0 it.1.deed it.1.new) ∙ sym (ap (λ (a : Accepted). a.request) same) in
    none x (subst (λ (r : Request). ContinuesBy h r line x) mine it.1)

-- what stopped a call is what stopped it for any line that leads on in more ways only if it does in these
pub stopped_so : {S : Type 0} {g : Ghosts S} (new : Registry S g) (h : History) (line : List ℕ) (So Also : History → Type 0) (n : ℕ) → (((x : History) → ¬ So x) → (x : History) → ¬ Also x)
    → (stop : ShareStop) → IsStoppedAtLine new h line So n stop → IsStoppedAtLine new h line Also n stop
stopped_so new h line So Also n none (stops.Registry fault) it = it
stopped_so new h line So Also n none (stops.OtherRecord at) it = (it.0, it.1, none it.2)
stopped_so new h line So Also n none stops.NoMemory it = it
stopped_so new h line So Also n none (stops.Log fault) it = it
stopped_so new h line So Also n none stops.Ahead it = it
stopped_so new h line So Also n none stops.Empty it = it
stopped_so new h line So Also n none stops.Full it = it

-- ---- a request that is acted on if it has the expected line

module _ (h : History) (r : Request) (old new : Expected) (fresh : old.is_it ≡ None) where
  -- the request was asked about, once, and this holds of its deed
  abbrev pub WasAsked : (Deed → Type 0) → Type 0
  WasAsked Heard = (new ≡ old) ⊎ ((deed : Deed) × (verdict h r ≡ New deed) × Heard deed)

  untold : (is : Bool) → new ≡ old → new ≡ record old { is_it = Some is } → ⊥
  untold is same told = let none : None ≡ Some is = sym fresh ∙ ap (λ (e : Expected). e.is_it) (sym same ∙ told) in cc

  module _ {S : Type 0} {g : Ghosts S} (it : Registry S g) where
    -- the registry goes on with the line, if a fit was noted
    pub goes_on : WasAsked (λ deed. IsExpected old new r (act_text deed.act)) → is_some new.is_it ≡ true → Represents it (after_one h r) → LeadsToLine it h old.line.now
    goes_on (inl same) noted now = absurd (let none : is_some new.is_it ≡ false = ap (λ (e : Expected). is_some e.is_it) same ∙ ap is_some fresh in cc)
    goes_on (inr told) noted now =
        (with_deed h told.0, (r, continued h r told.0 old.line.now told.1 told.2.valid told.2.same), subst (Represents it) (after_new h r told.0 told.1) now)

    -- without a note the request added no deed
    pub stays : (v : Verdict) → verdict h r ≡ v → ((deed : Deed) → verdict h r ≡ New deed → IsExpected old new r (act_text deed.act)) → is_some new.is_it ≡ false → Represents it (after_one h r) → Represents it h
    stays (Kept text) is seen noted now = subst (Represents it) (ap (after_verdict h) is) now
    stays (Refused refusal) is seen noted now = subst (Represents it) (ap (after_verdict h) is) now
    stays (New deed) is seen noted now = absurd (let some : is_some new.is_it ≡ true = ap (λ (e : Expected). is_some e.is_it) (seen deed is).told in cc)

  -- and the line does not lead on by it
  pub leads_nowhere_else : ((deed : Deed) → verdict h r ≡ New deed → IsExpected old new r (act_text deed.act)) → is_some new.is_it ≡ false → (x : History) → ¬ ContinuesBy h r old.line.now x
  leads_nowhere_else seen noted x by = let some : is_some new.is_it ≡ true = ap (λ (e : Expected). is_some e.is_it) (seen by.deed by.new).told in cc

  -- a request that was shown and has another line does not lead on
  pub has_other : WasAsked (λ deed. IsUnexpected old new r (act_text deed.act) Other) → (text : List ℕ) → IsUnexpected old new r text Other → (x : History) → ¬ ContinuesBy h r old.line.now x
  has_other (inl same) text missed x by = untold false same missed.1
  has_other (inr told) text missed x by =
      let both : New told.0 ≡ New by.deed = sym told.1 ∙ by.new in
      let same : told.0 ≡ by.deed = cc in
      told.2.0 (ap (λ (d : Deed). accepted_line (accepted_as r (act_text d.act))) same ∙ (ap accepted_line (sym (by_new h r by.deed by.new)) ∙ sym by.written))

  -- a request that is not the expected one stops at its line
  pub unexpected : {S : Type 0} {g : Ghosts S} (it : Registry S g) (n : ℕ) (why : Unexpected) → WasAsked (λ deed. IsUnexpected old new r (act_text deed.act) why) → (text : List ℕ) → IsUnexpected old new r text why → Represents it h
      → IsStoppedAtLine it h old.line.now (ContinuesBy h r old.line.now) n (stop_for why n)
  unexpected it n Other asked text missed now = (refl, now, has_other asked text missed)
  unexpected it n NoMemory asked text missed now = now

  -- what a crash leaves is the history, or that to which the line leads
  left_unseen : (s : State) → new ≡ old → Leaves newest s (λ x. (x ≡ h) ⊎ ((x ≡ after_one h r) × WasSeen IsExpected old new r (reply_to h r))) → MayHaveGoneOn s h old.line.now
  left_unseen s same leaves = record {
    next = h;
    goes_on = inl refl;
    leaves = λ db may. let it = leaves db may in (it.0, elim it.1 [ inl is ↦ inl is | inr seen ↦ absurd (untold true same seen.1.2.told) ], it.2);
  }

  left_seen : (s : State) (deed : Deed) → verdict h r ≡ New deed → IsExpected old new r (act_text deed.act) → Leaves newest s (λ x. (x ≡ h) ⊎ ((x ≡ after_one h r) × WasSeen IsExpected old new r (reply_to h r)))
      → MayHaveGoneOn s h old.line.now
  left_seen s deed is seen leaves = record {
    next = with_deed h deed;
    goes_on = inr (r, continued h r deed old.line.now is seen.valid seen.same);
    leaves = λ db may. let it = leaves db may in (it.0, elim it.1 [ inl at ↦ inl at | inr one ↦ inr (one.0 ∙ after_new h r deed is) ], it.2);
  }

  pub left : (s : State) → WasAsked (λ deed. (new ≡ old) ⊎ IsExpected old new r (act_text deed.act)) → Leaves newest s (λ x. (x ≡ h) ⊎ ((x ≡ after_one h r) × WasSeen IsExpected old new r (reply_to h r)))
      → MayHaveGoneOn s h old.line.now
  left s (inl same) leaves = left_unseen s same leaves
  left s (inr (deed, is, inl same)) leaves = left_unseen s same leaves
  left s (inr (deed, is, inr seen)) leaves = left_seen s deed is seen leaves
