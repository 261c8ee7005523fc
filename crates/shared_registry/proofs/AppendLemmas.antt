-- A line that is appended to a log.
use Rattle.std.proofs.Common.{◌≡◌, ◌<◌, ◌∙◌, ◌+◌, ℕ, suc, Bool, true, false, List, [], ◌∷◌, ◌++◌, length, slice_get, Some, None, inl, inr, refl, sym, ap, subst, arith}
use Rattle.std.proofs.lemmas.Option.{slice_get_within}
use Rattle.registry_laws.proofs.MachineLemmas.{whole_beginning}
use Rattle.shared_log.specs.Calls.{LogLines, AppendMeans, AtSomeInstant, Grows, KeepsLines}
use Rattle.shared_log.specs.declared.answers.AppendAnswer.TheVariants as answers
use Rattle.shared_log.specs.declared.log.Log.{Ghosts as LogGhosts}
use Rattle.shared_registry.specs.declared.cursor.AppendFault.{AppendFault}
use Rattle.shared_registry.specs.declared.cursor.AppendFault.TheVariants as faults
use Rattle.shared_registry.specs.declared.cursor.Cursor.{Cursor}
use Rattle.shared_registry.specs.Cursors.{HasLine, HasNoLine, HasNoNewLine, TookLine, WasOffered}
use Rattle.shared_registry.proofs.FollowLemmas.{at_instant_grows, grows_none, grows_on, longer}

-- with one more line the list has grown
grows_by : (log : LogLines) (line : List ℕ) (new : LogLines) → Grows (log ++ line ∷ []) new → Grows log new
grows_by log line new it = grows_on log (log ++ line ∷ []) new (line ∷ [], refl) it

-- a list with this line behind a beginning goes on with it
with_line : (front more : LogLines) (line : List ℕ) → slice_get (front ++ more) (length front) ≡ Some line → (rest : LogLines) × (front ++ more ≡ (front ++ line ∷ []) ++ rest)
with_line [] [] line at = absurd (let none : None ≡ Some line = at in cc)
with_line [] (m ∷ more) line at = (more, (let same : m ≡ line = cc in ap (λ (l : List ℕ). l ∷ more) same))
with_line (f ∷ front) more line at = let it = with_line front more line at in (it.0, ap (λ (l : LogLines). f ∷ l) it.1)

module _ {L : Type 0} (l : LogGhosts L) (c c_new : Cursor L) where
  -- a line that the log took is one that it has
  pub took_line : (line : List ℕ) → TookLine l c c_new line → HasLine l c c_new line
  took_line line it = record { told = inl it.told; passed = it.passed }

  -- and one that it does not have it did not take
  pub did_not_take : (line : List ℕ) (fault : AppendFault) → HasNoLine l c c_new line fault → HasNoNewLine l c c_new line fault
  did_not_take line faults.Taken it = ((it.0.0, it.0.2), it.1)
  did_not_take line faults.Behind it = it
  did_not_take line faults.Full it = it
  did_not_take line faults.NoMemory it = it
  did_not_take line (faults.Log fault) it = it

-- ---- a line that was offered, and is passed

passed_on : {L : Type 0} (c mid : Cursor L) → mid ≡ record c { log = mid.log } → record mid { next = mid.next + 1 } ≡ record c { log = mid.log; next = suc c.next }
passed_on c mid same =
    let more : c.next + 1 ≡ suc c.next = omega arith in
    ap (λ (d : Cursor _). record d { next = d.next + 1 }) same ∙ ap (λ (n : ℕ). record c { log = mid.log; next = n }) more

module _ {L : Type 0} (l : LogGhosts L) (c mid : Cursor L) (line : List ℕ) where
  pub offered_new : WasOffered l c mid line true → TookLine l c (record mid { next = mid.next + 1 }) line
  offered_new it = record { told = it.0; passed = passed_on c mid it.1 }

  pub offered_any : (is_new : Bool) → WasOffered l c mid line is_new → HasLine l c (record mid { next = mid.next + 1 }) line
  offered_any true it = record { told = inl it.0; passed = passed_on c mid it.1 }
  offered_any false it = record { told = inr it.0; passed = passed_on c mid it.1 }

module _ {L : Type 0} (l : LogGhosts L) (lines : L → LogLines) where
  -- ---- what an append means

  pub append_grows : (n : ℕ) (line : List ℕ) (answer : _) (old new : LogLines) → AppendMeans n line answer old new → Grows old new
  append_grows n line answers.Appended old new it = grows_on old it.instant new it.before (grows_by it.instant line new it.after)
  append_grows n line (answers.Taken other) old new it = at_instant_grows old new (λ log. slice_get log n ≡ Some other) it
  append_grows n line answers.Behind old new it = at_instant_grows old new (λ log. length log < n) it

  module _ (kept : KeepsLines l lines) (c c_new : Cursor L) where
    pub line_grows : (line : List ℕ) → HasLine l c c_new line → Grows (lines c.log) (lines c_new.log)
    line_grows line it = elim it.told [
      | inl appended ↦ append_grows c.next line answers.Appended _ _ (kept.appends c.log c_new.log c.next line answers.Appended appended)
      | inr taken ↦ append_grows c.next line (answers.Taken line) _ _ (kept.appends c.log c_new.log c.next line (answers.Taken line) taken)
    ]

    pub same_grows : c_new ≡ c → Grows (lines c.log) (lines c_new.log)
    same_grows same = subst (λ (d : Cursor L). Grows (lines c.log) (lines d.log)) (sym same) (grows_none (lines c.log))

    pub no_line_grows : (line : List ℕ) (fault : _) → HasNoNewLine l c c_new line fault → Grows (lines c.log) (lines c_new.log)
    no_line_grows line faults.Taken it = append_grows c.next line (answers.Taken it.0.0) _ _ (kept.appends c.log c_new.log c.next line (answers.Taken it.0.0) it.0.1)
    no_line_grows line faults.Behind it = append_grows c.next line answers.Behind _ _ (kept.appends c.log c_new.log c.next line answers.Behind it.0)
    no_line_grows line faults.Full it = same_grows it.0
    no_line_grows line faults.NoMemory it = same_grows it
    no_line_grows line (faults.Log fault) it = kept.fails c.log c_new.log it.0

    pub no_line_next : (line : List ℕ) (fault : _) → HasNoNewLine l c c_new line fault → c_new.next ≡ c.next
    no_line_next line faults.Taken it = ap (λ (d : Cursor L). d.next) it.1
    no_line_next line faults.Behind it = ap (λ (d : Cursor L). d.next) it.1
    no_line_next line faults.Full it = ap (λ (d : Cursor L). d.next) it.0
    no_line_next line faults.NoMemory it = ap (λ (d : Cursor L). d.next) it
    no_line_next line (faults.Log fault) it = ap (λ (d : Cursor L). d.next) it.1

    -- the log begins with these lines, and the next one is behind them
    module _ (front : LogLines) (begins : Grows front (lines c.log)) (next : c.next ≡ length front) where
      from_here : (instant : LogLines) → Grows (lines c.log) instant → Grows front instant
      from_here instant grown = grows_on front (lines c.log) instant begins grown

      -- a log with as many lines is these
      all_at : (instant : LogLines) → Grows (lines c.log) instant → length instant ≡ c.next → instant ≡ front
      all_at instant grown count =
          let more = from_here instant grown in
          let long : length (front ++ more.0) ≡ length front = ap length (sym more.1) ∙ count ∙ next in
          more.1 ∙ whole_beginning front more.0 long

      -- the log goes on with the line that it has
      pub line_taken : (line : List ℕ) → HasLine l c c_new line → Grows (front ++ line ∷ []) (lines c_new.log)
      line_taken line it = elim it.told [
        | inl appended ↦ (
            let means = kept.appends c.log c_new.log c.next line answers.Appended appended in
            subst (λ (log : LogLines). Grows (log ++ line ∷ []) (lines c_new.log)) (all_at means.instant means.before means.next) means.after
            )
        | inr taken ↦ (
            let means = kept.appends c.log c_new.log c.next line (answers.Taken line) taken in
            let more = from_here means.instant means.before in
            let at : slice_get (front ++ more.0) (length front) ≡ Some line = ap (λ (log : LogLines). slice_get log (length front)) (sym more.1) ∙ ap (slice_get means.instant) (sym next) ∙ means.held in
            let on = with_line front more.0 line at in
            grows_on (front ++ line ∷ []) means.instant (lines c_new.log) (on.0, more.1 ∙ on.1) means.after
            )
      ]

      -- and it was these lines when it took that one
      pub was_whole : (line : List ℕ) → TookLine l c c_new line → AtSomeInstant (lines c.log) (lines c_new.log) (λ log. log ≡ front)
      was_whole line it =
          let means = kept.appends c.log c_new.log c.next line answers.Appended it.told in
          record { instant = means.instant; before = means.before; after = grows_by means.instant line (lines c_new.log) means.after; held = all_at means.instant means.before means.next }

      -- a line is behind them
      pub other_is_there : (line : List ℕ) → HasNoNewLine l c c_new line faults.Taken → length front < length (lines c_new.log)
      other_is_there line it =
          let means = kept.appends c.log c_new.log c.next line (answers.Taken it.0.0) it.0.1 in
          let within = slice_get_within means.instant c.next it.0.0 means.held in
          let long = longer means.instant (lines c_new.log) means.after in
          omega (arith, within, long, next)

      -- the log has them, so it is not behind
      pub is_not_behind : (line : List ℕ) → HasNoNewLine l c c_new line faults.Behind → ⊥
      is_not_behind line it =
          let means = kept.appends c.log c_new.log c.next line answers.Behind it.0 in
          let long = longer front means.instant (from_here means.instant means.before) in
          omega (arith, means.held, long, next)
