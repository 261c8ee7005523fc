-- With the kept reply the rows are those of the history with the deed.
use Rattle.std.proofs.Common.{◌≡◌, ℕ, suc, ◌+◌, length, ℤ, Bool, true, false, cond, ◌&&◌, List, [], ◌∷◌, ◌++◌, Option, Some, None, Result, map, find, refl, sym, ap, subst, ◌∙◌}
use Rattle.std.proofs.lemmas.List.{map-append}
use Rattle.registry_rules.specs.Accepted.{IsValid, AreValid, accepted_of, accepted_by}
use Rattle.registry_rules.proofs.RunLemmas.{legal_before}
use Rattle.registry_wire.specs.Digests.{line_digest, digest_of}
use Rattle.registry_wire.specs.Record.{accepted_line}
use Rattle.std.proofs.lemmas.List.Elements.{All-tail}
use Rattle.std.specs.Option.{option_map}
use Rattle.std.specs.Str.{bytes_eq}
use Rattle.std.proofs.lemmas.Bool.{and_parts}
use Rattle.sqlite.specs.State.{State}
use Rattle.sqlite_keyed.specs.Keyed.{next_key, insert_by}
use Rattle.sqlite_keyed.specs.Lists.{delete_where}
use Rattle.table_laws.proofs.FoundLemmas.{apart_put}
use Rattle.table_laws.proofs.UnnumberedLemmas.{values_after}
use Rattle.registry_rules.specs.History.{History, with_deed, sooner}
use Rattle.registry_rules.specs.Query.{deed_under, answer_if, opened_by, closed_by}
use Rattle.registry_rules.specs.Run.{Legal}
use Rattle.registry_rules.specs.Orders.{canonical_form}
use Rattle.registry_rules.specs.Verdict.{kept_of, kept_under, verdict, verdict_by}
use Rattle.registry_rules.specs.declared.deed.Act.{Act}
use Rattle.registry_rules.specs.declared.deed.Deed.{Deed}
use Rattle.registry_rules.specs.declared.facts.KeptReply.{KeptReply}
use Rattle.registry_rules.specs.declared.order.Request.{Request}
use Rattle.registry_rules.specs.declared.refusal.Refusal.{Refusal}
use Rattle.registry_rules.specs.declared.refusal.Refusal.TheVariants.{KeyReused}
use Rattle.registry_rules.specs.declared.verdict.Verdict.TheVariants.{Kept as VerdictKept, Refused, New}
use Rattle.registry_rows.specs.declared.digests.DigestRow.{DigestRow}
use Rattle.registry_rows.specs.declared.kept.KeptRow.{KeptRow}
use Rattle.registry_rows.specs.Rows.{is_kept_under, digest_key}
use Rattle.registry_rows.specs.Tables.{Tables, Holds}
use Rattle.registry_tables.specs.Times.{times_with}
use Rattle.registry_tables.specs.Rows.{newest, NoTwo, numbered_from, AreKeptReplies, kept_row_of, digest_rows, HoldsRows, HoldsUnkept}
use Rattle.registry_tables.specs.Head.{IsHead}
use Rattle.registry_tables.specs.declared.head.Head.{Head}
use Rattle.registry_tables.specs.Calls.{IsKeptAs}
use Rattle.registry_tables.proofs.DigestLemmas.{row_of, digest_put, count_after}
use Rattle.registry_tables.proofs.NumberingLemmas.{next_in_turn}
use Rattle.registry_tables.proofs.TimeLemmas.{times_kept}
use Rattle.registry_tables.proofs.ViewLemmas.{same_bytes, kept_put}

never_new : (b : Bool) (text : List ℕ) (refusal : Refusal) (deed : Deed) → cond b (VerdictKept text) (Refused refusal) ≡ New deed → ⊥
never_new true text refusal deed e = absurd cc
never_new false text refusal deed e = absurd cc

-- a new request has no kept reply yet
new_unkept : (k : Option KeptReply) (request : Request) (result : Result Act Refusal) (deed : Deed) → verdict_by k request result ≡ New deed → k ≡ None
new_unkept None request result deed is = refl
new_unkept (Some other) request result deed is = absurd (never_new (bytes_eq other.order (canonical_form request.order)) other.reply KeyReused deed is)

nothing_kept : (o : Option Deed) → option_map kept_of o ≡ None → o ≡ None
nothing_kept None is = refl
nothing_kept (Some deed) is = absurd cc

unkept : (h : History) (deed : Deed) → Legal (with_deed h deed) → deed_under h deed.caller deed.key ≡ None
unfolding Legal verdict
unkept h deed legal = nothing_kept (deed_under h deed.caller deed.key) (new_unkept (kept_under h deed.caller deed.key) _ _ deed legal.1)

one_step : (b : Bool) (earlier : Option Deed) (deed : Deed) (x : KeptRow) (row : KeptReply → KeptRow) → (b ≡ true → earlier ≡ None) → (b ≡ true → x ≡ row (kept_of deed))
    → cond b (Some x) (option_map row (option_map kept_of earlier)) ≡ option_map row (option_map kept_of (sooner earlier (answer_if b deed)))
one_step true earlier deed x row none is = rw (none refl) (ap Some (is refl))
one_step false earlier deed x row none is = refl

step_unless : {X : Type 0} (p : X → Bool) (row : ℤ × X) (rows : List (ℤ × X)) (b : Bool) → p row.1 ≡ b → cond b (Some row.1) (find p (map (λ (k : ℤ × X). k.1) rows)) ≡ None
    → (find p (map (λ (k : ℤ × X). k.1) rows) ≡ None → delete_where (λ (k : ℤ × X). p k.1) rows ≡ rows) → delete_where (λ (k : ℤ × X). p k.1) (row ∷ rows) ≡ row ∷ rows
step_unless p row rows true is none rest = absurd cc
step_unless p row rows false is none rest = rw is (ap (λ ys. row ∷ ys) (rest none))

-- what is not found is not deleted
none_deleted : {X : Type 0} (p : X → Bool) (rows : List (ℤ × X)) → find p (map (λ (k : ℤ × X). k.1) rows) ≡ None → delete_where (λ (k : ℤ × X). p k.1) rows ≡ rows
none_deleted p [] none = refl
none_deleted p (row ∷ rows) none = step_unless p row rows (p row.1) refl none (none_deleted p rows)

no_row : {X Y : Type 0} (found : Option X) (f : X → Y) → found ≡ None → option_map f found ≡ None
no_row found f none = ap (option_map f) none

module _ (h : History) (deed : Deed) (legal : Legal (with_deed h deed)) (request : Request) (reply : List ℕ) (keeps : IsKeptAs deed request reply) (order : List ℕ) (spelled : order ≡ canonical_form request.order) where
  abbrev row : KeptRow
  row = record { caller = request.caller; key = request.key; kept = record { order = order; reply = reply } }

  abbrev under : List ℕ → List ℕ → KeptReply → KeptRow
  under caller key what = record { caller = caller; key = key; kept = what }

  row_is : (caller key : List ℕ) → request.caller ≡ caller → request.key ≡ key → row ≡ under caller key (kept_of deed)
  row_is caller key a b =
      let kept_is : ◌≡◌ {A = KeptReply} (record { order = order; reply = reply }) (kept_of deed) =
      ap (λ o. record { order = o; reply = reply }) (spelled ∙ ap canonical_form (sym keeps.order)) ∙ ap (λ r. record { order = canonical_form deed.order; reply = r }) keeps.said in
      ap (λ (k : KeptReply). under request.caller request.key k) kept_is ∙ ap (λ c. under c request.key (kept_of deed)) a ∙ ap (λ k. under caller k (kept_of deed)) b

  -- the row is new, and its number is the next
  abbrev rows_after : List (ℤ × KeptRow) → List (ℤ × KeptRow)
  rows_after rows = delete_where (λ (other : ℤ × KeptRow). is_kept_under request.caller request.key other.1) rows ++ (next_key (λ (other : ℤ × KeptRow). other.0) rows, row) ∷ []

  abbrev values : List (ℤ × KeptRow) → List KeptRow
  values rows = map (λ (k : ℤ × KeptRow). k.1) rows

  kept_after : (rows : List (ℤ × KeptRow)) → AreKeptReplies h rows → AreKeptReplies (with_deed h deed) (rows_after rows)
  kept_after rows was =
      let values_are : values (rows_after rows) ≡ delete_where (is_kept_under request.caller request.key) (values rows) ++ row ∷ [] =
      values_after (is_kept_under request.caller request.key) rows (next_key (λ (other : ℤ × KeptRow). other.0) rows) row in
      record {
        in_order =
            let unfound : find (is_kept_under request.caller request.key) (values rows) ≡ None =
            was.each request.caller request.key ∙ no_row (kept_under h request.caller request.key) (under request.caller request.key) (no_row (deed_under h request.caller request.key) kept_of (rw (sym keeps.caller, sym keeps.key) (unkept h deed legal))) in
            ap (λ left. left ++ (next_key (λ (other : ℤ × KeptRow). other.0) rows, row) ∷ []) (none_deleted (is_kept_under request.caller request.key) rows unfound)
            ∙ ap (λ (l : List (ℤ × KeptRow)). l ++ (next_key (λ (other : ℤ × KeptRow). other.0) l, row) ∷ []) was.in_order
            ∙ next_in_turn 1 (map kept_row_of (accepted_of h.deeds)) row
            ∙ ap (λ r. numbered_from 1 (map kept_row_of (accepted_of h.deeds) ++ r ∷ [])) (row_is deed.caller deed.key (sym keeps.caller) (sym keeps.key))
            ∙ ap (numbered_from 1) (sym (map-append kept_row_of (accepted_of h.deeds) (accepted_by deed ∷ [])));
        each = λ caller key.
            let b = bytes_eq request.caller caller && bytes_eq request.key key in
            let both = λ (yes : b ≡ true). and_parts (bytes_eq request.caller caller) (bytes_eq request.key key) yes in
            let none : b ≡ true → deed_under h caller key ≡ None = λ yes.
            (let a = keeps.caller ∙ same_bytes request.caller caller (both yes).0 in let k = keeps.key ∙ same_bytes request.key key (both yes).1 in
            rw (sym a, sym k) (unkept h deed legal)) in
            let test : (bytes_eq deed.caller caller && bytes_eq deed.key key) ≡ b = rw (keeps.caller, keeps.key) refl in
            ap (find (is_kept_under caller key)) values_are
            ∙ kept_put row (values rows) caller key ∙ ap (λ o. cond b (Some row) o) (was.each caller key)
            ∙ one_step b (deed_under h caller key) deed row (under caller key) none (λ yes. row_is caller key (same_bytes request.caller caller (both yes).0) (same_bytes request.key key (both yes).1))
            ∙ ap (λ t. option_map (under caller key) (option_map kept_of (sooner (deed_under h caller key) (answer_if t deed)))) (sym test);
        once = subst (NoTwo (λ a b. is_kept_under b.caller b.key a)) (sym values_are) (apart_put (λ a b. is_kept_under b.caller b.key a) row (values rows) was.once);
      }

  -- the digest is the next of the record
  module _ (head next : Head) (is_head : IsHead h head) (count : next.count ≡ head.count + 1) (digest : next.digest ≡ line_digest head.digest (accepted_line (record { request = request; reply = reply }))) where
    abbrev digest_row_put : ℕ × DigestRow
    digest_row_put = row_of next.count request.time next.digest

    digest_kept : (rows : List (ℕ × DigestRow)) → (Legal h → AreValid h.deeds → rows ≡ digest_rows h) → AreValid (deed ∷ h.deeds) → insert_by digest_key rows digest_row_put ≡ digest_rows (with_deed h deed)
    digest_kept rows was valid =
        let after = count_after h deed request reply head next keeps count digest (is_head (All-tail IsValid deed h.deeds valid)) in
        let same : digest_row_put ≡ row_of (suc (length h.deeds)) deed.time (digest_of (with_deed h deed)) =
        ap (λ (n : ℕ). row_of n request.time next.digest) after.0 ∙ ap (row_of (suc (length h.deeds)) request.time) after.1
        ∙ ap (λ (time : Option (List ℕ)). row_of (suc (length h.deeds)) time (digest_of (with_deed h deed))) (sym keeps.time) in
        ap (λ (l : List (ℕ × DigestRow)). insert_by digest_key l digest_row_put) (was (legal_before h.founding deed h.deeds legal) (All-tail IsValid deed h.deeds valid))
        ∙ ap (insert_by digest_key (digest_rows h)) same ∙ digest_put h deed

  pub kept_now : (old new : State) (act : Act) → deed.act ≡ act → (head next : Head) → IsHead h head → next.count ≡ head.count + 1 → next.digest ≡ line_digest head.digest (accepted_line (record { request = request; reply = reply }))
      → ((t : Tables) → Holds old.now t → Holds new.now (record t { kept = rows_after t.kept; digests = insert_by digest_key t.digests (next.count, record { time = request.time; digest = next.digest }); opened = times_with (opened_by act) request.time t.opened; closed = times_with (closed_by act) request.time t.closed }))
      → HoldsUnkept old.now h (with_deed h deed) → HoldsRows newest new.now (with_deed h deed)
  unfolding HoldsUnkept HoldsRows
  kept_now old new act acts head next is_head count digest after had =
      let records = had.2 in (
        refl,
        record had.0 { kept = rows_after had.0.kept; digests = insert_by digest_key had.0.digests (next.count, record { time = request.time; digest = next.digest }); opened = times_with (opened_by act) request.time had.0.opened; closed = times_with (closed_by act) request.time had.0.closed },
        after had.0 had.1,
        record { founding = records.founding; metas = records.metas; curators = records.curators; licences = records.licences; fixed = records.fixed; orgs = records.orgs; vendors = records.vendors; spans = records.spans; entries = records.entries; petitions = records.petitions; reasons = records.reasons },
        record {
          kept = kept_after had.0.kept had.3.kept;
          digests = λ _ valid. digest_kept head next is_head count digest had.0.digests had.3.digests valid;
          times = λ _ valid. times_kept h deed act request.time had.0.opened had.0.closed acts keeps.time (had.3.times (legal_before h.founding deed h.deeds legal) (All-tail IsValid deed h.deeds valid));
        },
      )
