-- What answers say of a log that only grows.
use Rattle.std.proofs.Common.{◌≡◌, ℕ, ◌<◌, List, [], ◌∷◌, ◌++◌, length, take, drop, slice_get, Some, refl, sym, ap, ◌∙◌, append_assoc}
use Rattle.std.proofs.lemmas.List.{append-nil, take-append-drop}
use Rattle.shared_log.specs.declared.answers.AppendAnswer.{AppendAnswer}
use Rattle.shared_log.specs.declared.answers.AppendAnswer.TheVariants.{Appended, Taken, Behind}
use Rattle.shared_log.specs.Calls.{LogLines, Grows, AtSomeInstant, WasAppended, AppendMeans}

pub grows_nothing : (log : LogLines) → Grows log log
grows_nothing log = ([], sym (append-nil log))

pub grows_further : (a b c : LogLines) → Grows a b → Grows b c → Grows a c
grows_further a b c (first, e) (then, d) = (first ++ then, d ∙ ap (λ (xs : LogLines). xs ++ then) e ∙ append_assoc a first then)

pub instant_after : (a b c : LogLines) (P : LogLines → Type 0) → Grows a b → AtSomeInstant b c P → AtSomeInstant a c P
instant_after a b c P grows at =
    record { instant = at.instant; before = grows_further a b at.instant grows at.before; after = at.after; held = at.held }

-- what an answer says of a call that began later, it says of the whole
pub means_after : (a b c : LogLines) (n : ℕ) (line : List ℕ) (answer : AppendAnswer) → Grows a b → AppendMeans n line answer b c → AppendMeans n line answer a c
means_after a b c n line Appended grows means =
    record { instant = means.instant; before = grows_further a b means.instant grows means.before; next = means.next; after = means.after }
means_after a b c n line (Taken other) grows means = instant_after a b c (λ log. slice_get log n ≡ Some other) grows means
means_after a b c n line Behind grows means = instant_after a b c (λ log. length log < n) grows means

instant_grows : (a b : LogLines) (P : LogLines → Type 0) → AtSomeInstant a b P → Grows a b
instant_grows a b P at = grows_further a at.instant b at.before at.after

-- the log grows, whatever the answer says
pub means_grows : (a b : LogLines) (n : ℕ) (line : List ℕ) (answer : AppendAnswer) → AppendMeans n line answer a b → Grows a b
means_grows a b n line Appended means =
    grows_further a means.instant b means.before (grows_further means.instant (means.instant ++ line ∷ []) b (line ∷ [], refl) means.after)
means_grows a b n line (Taken other) means = instant_grows a b (λ log. slice_get log n ≡ Some other) means
means_grows a b n line Behind means = instant_grows a b (λ log. length log < n) means

pub was_appended : (log new : LogLines) (n : ℕ) (line : List ℕ) → length log ≡ n → new ≡ log ++ line ∷ [] → AppendMeans n line Appended log new
was_appended log new n line next e =
    record { instant = log; before = grows_nothing log; next = next; after = ([], e ∙ sym (append-nil (log ++ line ∷ []))) }

pub was_taken : (log : LogLines) (n : ℕ) (line other : List ℕ) → slice_get log n ≡ Some other → AppendMeans n line (Taken other) log log
was_taken log n line other e = record { instant = log; before = grows_nothing log; after = grows_nothing log; held = e }

pub was_behind : (log : LogLines) (n : ℕ) (line : List ℕ) → length log < n → AppendMeans n line Behind log log
was_behind log n line short = record { instant = log; before = grows_nothing log; after = grows_nothing log; held = short }

-- what holds at the end of a call holds at some instant of it
pub at_the_end : (old new : LogLines) (P : LogLines → Type 0) → Grows old new → P new → AtSomeInstant old new P
at_the_end old new P grows held = record { instant = new; before = grows; after = grows_nothing new; held = held }

-- lines are their front and the rest
pub cut_at : (log front : LogLines) (i : ℕ) → front ≡ take i log → log ≡ front ++ drop i log
cut_at log front i e = sym (take-append-drop i log) ∙ ap (λ (xs : LogLines). xs ++ drop i log) (sym e)
