-- A scan's state is part of a reader's state.
use Rattle.std.proofs.Common.{◌≡◌, ℕ, ◌+◌, true, false, List, [], ◌∷◌, ◌++◌, length, take, drop, position, Option, Some, None, refl, sym, ap, subst, ◌∙◌, inl, inr}
use Rattle.std.specs.Prelude.{◌⊎◌, ◌==◌, nat_lt, is_some, Result, Ok, Err, if◌then◌else◌}
use Rattle.std.specs.Option.{option_or}
use Rattle.std.proofs.lemmas.Bool.{cases_Bool}
use Rattle.usbids_text.specs.declared.kind.Kind.{Kind}
use Rattle.usbids_text.specs.declared.kind.Kind.TheVariants.{Vendor, Tagged}
use Rattle.usbids_text.specs.declared.kind.Depth.{Depth}
use Rattle.usbids_text.specs.declared.kind.Depth.TheVariants.{Zero, One, Two}
use Rattle.usbids_text.specs.declared.line.Why.{Why}
use Rattle.usbids_text.specs.declared.line.Why.TheVariants.{NoParent}
use Rattle.usbids_text.specs.declared.fault.ReadFault.{ReadFault}
use Rattle.usbids_text.specs.declared.fault.ReadFault.TheVariants.{Line, NoMemory}
use Rattle.usbids_text.specs.declared.seen.Seen.{Seen}
use Rattle.usbids_text.specs.declared.seen.Wanted.{Wanted}
use Rattle.usbids_text.specs.Entries.{EntryLine, LeafEntry, MidEntry, TopEntry}
use Rattle.usbids_text.specs.Documents.{below_mid, below_top}
use Rattle.usbids_text.specs.Finding.{first_mid, find_in, find_mid, vendor_has}
use Rattle.usbids_text.specs.Lines.{line_class}
use Rattle.usbids_text.specs.Opens.{Open, document_so_far, open_mid, put, misplaced_in, with_mid, with_leaf, more_leaf}
use Rattle.usbids_text.specs.Feeding.{Held, Fed, line_done, with_class, with_fault, ended, kept, finished, with_last, fed, start}
use Rattle.usbids_text.specs.Scanning.{Scanned, scanned_of, seen_of, over_kind, over_of, is_match, seen_below, seen_misplaced, seen_put, seen_class, seen_fault, seen_line, scan_ended, scan_kept, scan_finished, seen_last, seen_next, seen_answer}
use Rattle.usbids_text.specs.declared.scan.Scan.{Scan}
use Rattle.usbids_text.specs.Scans.{LooksUpAs, Seeks, scan_state}
use Rattle.usbids_text.proofs.PieceLemmas.{fed_line, fed_rest, fed_faulty}
use Rattle.usbids_text.proofs.FeedLemmas.{fed_append}
use Rattle.usbids_text.proofs.FinishLemmas.{ended_at, answers_err, with_last_faulty}

or_none_is : {A : Type 0} (a : Option A) → option_or a None ≡ a
or_none_is None = refl
or_none_is (Some x) = refl

or_assoc : {A : Type 0} (a b c : Option A) → option_or (option_or a b) c ≡ option_or a (option_or b c)
or_assoc None b c = refl
or_assoc (Some x) b c = refl

find_push : (v c : ℕ) (tops : List TopEntry) (t : TopEntry) → find_mid v c (tops ++ t ∷ []) ≡ option_or (find_mid v c tops) (find_in v c t)
find_push v c [] t = or_none_is (find_in v c t)
find_push v c (x ∷ tops) t = ap (option_or (find_in v c x)) (find_push v c tops t) ∙ sym (or_assoc (find_in v c x) (find_mid v c tops) (find_in v c t))

first_push : (c : ℕ) (mids : List MidEntry) (m : MidEntry) → first_mid c (mids ++ m ∷ []) ≡ option_or (first_mid c mids) (if m.code == c then Some m.name else None)
first_push c [] m = refl
first_push c (x ∷ mids) m = elim (cases_Bool (x.code == c)) [ inl e ↦ rw e refl | inr e ↦ rw e (first_push c mids m) ]

-- what one more mid adds to the search
abbrev gain : Wanted → Kind → ℕ → ℕ → List ℕ → Option (List ℕ)
gain w kind top code name = if is_match w (over_kind w.vendor kind top) code then Some name else None

in_push : (w : Wanted) (t : TopEntry) (kind : Kind) (m : MidEntry) → t.kind ≡ kind → find_in w.vendor w.code (record t { mids = t.mids ++ m ∷ [] }) ≡ option_or (find_in w.vendor w.code t) (gain w kind t.code m.code m.name)
in_push w t Vendor m k = rw k (elim (cases_Bool (t.code == w.vendor)) [ inl e ↦ rw e (first_push w.code t.mids m) | inr e ↦ rw e refl ])
in_push w t (Tagged tag) m k = rw k refl

find_mid_push : (w : Wanted) (tops : List TopEntry) (t : TopEntry) (m : MidEntry) → find_mid w.vendor w.code (tops ++ record t { mids = t.mids ++ m ∷ [] } ∷ []) ≡ option_or (find_mid w.vendor w.code (tops ++ t ∷ [])) (gain w t.kind t.code m.code m.name)
find_mid_push w tops t m =
    find_push w.vendor w.code tops (record t { mids = t.mids ++ m ∷ [] })
    ∙ (ap (option_or (find_mid w.vendor w.code tops)) (in_push w t t.kind m refl)
    ∙ (sym (or_assoc (find_mid w.vendor w.code tops) (find_in w.vendor w.code t) (gain w t.kind t.code m.code m.name))
    ∙ ap (λ (o : Option (List ℕ)). option_or o (gain w t.kind t.code m.code m.name)) (sym (find_push w.vendor w.code tops t))))

in_none : (v c : ℕ) (t : TopEntry) → t.mids ≡ [] → find_in v c t ≡ None
in_none v c t e = rw e (elim (cases_Bool (vendor_has v t)) [ inl h ↦ rw h refl | inr h ↦ rw h refl ])

-- ---- one entry

abbrev at : Depth → ℕ → ℕ → List ℕ → EntryLine
at depth code digits name = record { depth = depth; code = code; digits = digits; name = name }

abbrev opened : List TopEntry → Option TopEntry → Option MidEntry → Open
opened tops top mid = record { tops = tops; top = top; mid = mid }

below_same : (w : Wanted) (entry_line : EntryLine) (t : TopEntry) (kind : Kind) → t.kind ≡ kind → seen_below (over_kind w.vendor kind t.code) entry_line.digits ≡ below_top entry_line (Some t)
below_same w entry_line t Vendor k = rw k (elim (cases_Bool (t.code == w.vendor)) [
  | inl e ↦ rw e (elim (cases_Bool (entry_line.digits == 4)) [ inl f ↦ rw f refl | inr f ↦ rw f refl ])
  | inr e ↦ rw e (elim (cases_Bool (entry_line.digits == 4)) [ inl f ↦ rw f refl | inr f ↦ rw f refl ])
])
below_same w entry_line t (Tagged tag) k = rw k refl

over_same : (w : Wanted) (entry_line : EntryLine) (top : Option TopEntry) → seen_below (over_of w.vendor top) entry_line.digits ≡ below_top entry_line top
over_same w entry_line None = refl
over_same w entry_line (Some t) = below_same w entry_line t t.kind refl

mid_same : (mid : Option MidEntry) → (if is_some mid then None else Some NoParent) ≡ below_mid mid
mid_same None = refl
mid_same (Some m) = refl

misplaced_depth : (w : Wanted) (h : Held) (depth : Depth) (code digits : ℕ) (name : List ℕ) → seen_misplaced (seen_of w h) (at depth code digits name) ≡ misplaced_in h.built (at depth code digits name)
unfolding seen_misplaced misplaced_in
misplaced_depth w h (Zero kind) code digits name = refl
misplaced_depth w h One code digits name = over_same w (at One code digits name) h.built.top
misplaced_depth w h Two code digits name = mid_same (open_mid h.built.top h.built.mid)

pub misplaced_seen : (w : Wanted) (h : Held) (entry_line : EntryLine) → seen_misplaced (seen_of w h) entry_line ≡ misplaced_in h.built entry_line
misplaced_seen w h entry_line = misplaced_depth w h entry_line.depth entry_line.code entry_line.digits entry_line.name

-- what the search has found in a document under construction
abbrev found : Wanted → List TopEntry → Option TopEntry → Option MidEntry → Option (List ℕ)
found w tops top mid = find_mid w.vendor w.code (document_so_far (opened tops top mid))

found_top : (w : Wanted) (tops : List TopEntry) (top : Option TopEntry) (mid : Option MidEntry) (t : TopEntry) → t.mids ≡ [] → found w (document_so_far (opened tops top mid)) (Some t) None ≡ found w tops top mid
found_top w tops top mid t e =
    find_push w.vendor w.code (document_so_far (opened tops top mid)) t ∙ (ap (option_or (found w tops top mid)) (in_none w.vendor w.code t e) ∙ or_none_is (found w tops top mid))

found_mid : (w : Wanted) (tops : List TopEntry) (t : TopEntry) (mid : Option MidEntry) (m : MidEntry) → found w tops (Some (with_mid t mid)) (Some m) ≡ option_or (found w tops (Some t) mid) (gain w t.kind t.code m.code m.name)
found_mid w tops t None m = find_mid_push w tops t m
found_mid w tops t (Some n) m = find_mid_push w tops (with_mid t (Some n)) m

found_leaf : (w : Wanted) (tops : List TopEntry) (top : Option TopEntry) (mid : Option MidEntry) (l : LeafEntry) → found w tops top (more_leaf mid l) ≡ found w tops top mid
found_leaf w tops None mid l = refl
found_leaf w tops (Some t) None l = refl
found_leaf w tops (Some t) (Some m) l = find_mid_push w tops t (with_leaf m l) ∙ sym (find_mid_push w tops t m)

open_leaf : (top : Option TopEntry) (mid : Option MidEntry) (l : LeafEntry) → is_some (open_mid top (more_leaf mid l)) ≡ is_some (open_mid top mid)
open_leaf None None l = refl
open_leaf None (Some m) l = refl
open_leaf (Some t) None l = refl
open_leaf (Some t) (Some m) l = refl

abbrev built_on : Held → Open → Held
built_on h o = record h { built = o }

kind_mid : (w : Wanted) (t : TopEntry) (mid : Option MidEntry) → over_of w.vendor (Some (with_mid t mid)) ≡ over_of w.vendor (Some t)
kind_mid w t None = refl
kind_mid w t (Some m) = refl

put_depth : (w : Wanted) (line : ℕ) (fault : Option ReadFault) (tops : List TopEntry) (top : Option TopEntry) (mid : Option MidEntry) (depth : Depth) (code digits : ℕ) (name : List ℕ) → misplaced_in (opened tops top mid) (at depth code digits name) ≡ None
    → seen_put w (seen_of w (record { line = line; built = opened tops top mid; fault = fault })) (at depth code digits name) ≡ seen_of w (record { line = line; built = put (opened tops top mid) (at depth code digits name); fault = fault })
unfolding seen_put put misplaced_in
put_depth w line fault tops top mid (Zero kind) code digits name place =
    ap (λ (o : Option (List ℕ)). record { line = line; over = over_kind w.vendor kind code; has_mid = false; found = o; fault = fault }) (sym (found_top w tops top mid (record { kind = kind; code = code; digits = digits; name = name; mids = [] }) refl))
put_depth w line fault tops None mid One code digits name place = absurd (let p : Some NoParent ≡ None = place in cc)
put_depth w line fault tops (Some t) mid One code digits name place =
    rw (kind_mid w t mid, found_mid w tops t mid (record { code = code; digits = digits; name = name; leaves = [] })) refl
put_depth w line fault tops top mid Two code digits name place =
    rw (open_leaf top mid (record { code = code; digits = digits; name = name }), found_leaf w tops top mid (record { code = code; digits = digits; name = name })) refl

pub put_seen : (w : Wanted) (h : Held) (entry_line : EntryLine) → misplaced_in h.built entry_line ≡ None → seen_put w (seen_of w h) entry_line ≡ seen_of w (built_on h (put h.built entry_line))
put_seen w h entry_line place = put_depth w h.line h.fault h.built.tops h.built.top h.built.mid entry_line.depth entry_line.code entry_line.digits entry_line.name place

-- ---- one line

fault_seen : (w : Wanted) (h : Held) (entry_line : EntryLine) (o : Option Why) → misplaced_in h.built entry_line ≡ o → seen_fault w (seen_of w h) entry_line o ≡ seen_of w (with_fault h entry_line o)
fault_seen w h entry_line None place = ap (λ (q : Seen). seen_next q) (put_seen w h entry_line place)
fault_seen w h entry_line (Some why) place = refl

class_seen : (w : Wanted) (h : Held) (c : Result (Option EntryLine) Why) → seen_class w (seen_of w h) c ≡ seen_of w (with_class h c)
class_seen w h (Err why) = refl
class_seen w h (Ok None) = refl
class_seen w h (Ok (Some entry_line)) = ap (seen_fault w (seen_of w h) entry_line) (misplaced_seen w h entry_line) ∙ fault_seen w h entry_line (misplaced_in h.built entry_line) refl

pub line_seen : (w : Wanted) (h : Held) (line : List ℕ) → seen_line w (seen_of w h) line ≡ seen_of w (line_done h line)
unfolding seen_line line_done
line_seen w h line = class_seen w h (line_class line)

-- ---- bytes that come in pieces

pub ended_scanned : (w : Wanted) (s : Fed) (part : List ℕ) → scan_ended w (scanned_of w s) part ≡ scanned_of w (ended s part)
unfolding scan_ended ended
ended_scanned w s part = elim (cases_Bool (is_some s.held.fault)) [
  | inl e ↦ rw e refl
  | inr e ↦ rw e (ap (λ (q : Seen). record { pending = []; seen = q }) (line_seen w s.held (s.pending ++ part)))
]

pub kept_scanned : (w : Wanted) (s : Fed) (part : List ℕ) → scan_kept (scanned_of w s) part ≡ scanned_of w (kept s part)
unfolding scan_kept kept
kept_scanned w s [] = refl
kept_scanned w s (b ∷ t) = elim (cases_Bool (is_some s.held.fault)) [
  | inl e ↦ rw e refl
  | inr e ↦ elim (cases_Bool (nat_lt 65536 (length s.pending + length (b ∷ t)))) [ inl long ↦ rw (e, long) refl | inr fits ↦ rw (e, fits) refl ]
]

last_seen : (w : Wanted) (h : Held) (rest : List ℕ) → seen_last w (seen_of w h) rest ≡ seen_of w (with_last h rest)
last_seen w h [] = refl
last_seen w h (b ∷ t) = elim (cases_Bool (is_some h.fault)) [ inl e ↦ rw e refl | inr e ↦ rw e (line_seen w h (b ∷ t)) ]

pub finished_scanned : (w : Wanted) (s : Fed) → scan_finished w (scanned_of w s) ≡ seen_of w (finished s)
unfolding scan_finished finished
finished_scanned w s = last_seen w s.held s.pending

-- ---- a whole text

-- the state of a scan after a line is that of a reader after it
pub scan_line : (w : Wanted) (s : Fed) (state new : Scanned) (rest past : List ℕ) (i : ℕ) → position (λ b. b == 10) rest ≡ Some i → state ≡ scanned_of w s → new ≡ scan_ended w state (take i rest) → past ≡ drop (i + 1) rest → (s' : Fed) × (new ≡ scanned_of w s') × (fed s' past ≡ fed s rest)
scan_line w s state new rest past i found is step after =
    (ended s (take i rest), step ∙ (ap (λ (x : Scanned). scan_ended w x (take i rest)) is ∙ ended_scanned w s (take i rest)), ap (fed (ended s (take i rest))) after ∙ sym (fed_line s rest i found))

pub scan_rest : (w : Wanted) (s : Fed) (state new : Scanned) (rest : List ℕ) → position (λ b. b == 10) rest ≡ None → state ≡ scanned_of w s → new ≡ scan_kept state rest → new ≡ scanned_of w (fed s rest)
scan_rest w s state new rest none is step = step ∙ (ap (λ (x : Scanned). scan_kept x rest) is ∙ (kept_scanned w s rest ∙ ap (scanned_of w) (sym (fed_rest s rest none))))

pub found_ok : (w : Wanted) (t : List ℕ) (q : Seen) (h : Held) → h ≡ finished (fed start t) → q ≡ seen_of w h → q.fault ≡ None → LooksUpAs w t (Ok q.found)
found_ok w t q h e is clear = elim (ended_at t h e) [
  | inl g ↦ (document_so_far h.built, g.lines_of, ap (λ (x : Seen). x.found) is)
  | inr b ↦ absurd (let none : h.fault ≡ None = sym (ap (λ (x : Seen). x.fault) is) ∙ clear in let w = b.is in cc)
]

pub found_err : (w : Wanted) (t : List ℕ) (q : Seen) (h : Held) (f : ReadFault) → h ≡ finished (fed start t) → q ≡ seen_of w h → q.fault ≡ Some f → LooksUpAs w t (Err f)
found_err w t q h NoMemory e is faulty = tt
found_err w t q h (Line f) e is faulty = answers_err t h (Line f) e (sym (ap (λ (x : Seen). x.fault) is) ∙ faulty)

-- ---- a scan and the text that it was fed

pub seeks_more : (old new : Scan) (w : Wanted) (t piece : List ℕ) → Seeks old w t → new.wanted ≡ old.wanted
    → (new.seen.fault ≡ Some NoMemory) ⊎ ((s : Fed) → scan_state old ≡ scanned_of old.wanted s → scan_state new ≡ scanned_of old.wanted (fed s piece)) → is_some old.seen.fault ≡ false → Seeks new w (t ++ piece)
seeks_more old new w t piece s same (inl m) clear = (same ∙ s.0, inl m)
seeks_more old new w t piece (is, inl m) same (inr step) clear = absurd (let f : is_some old.seen.fault ≡ true = ap is_some m in cc)
seeks_more old new w t piece (is, inr s) same (inr step) clear =
    let here : scan_state old ≡ scanned_of old.wanted (fed start t) = s ∙ ap (λ (x : Wanted). scanned_of x (fed start t)) (sym is) in
    (same ∙ is, inr (step (fed start t) here ∙ (ap (λ (x : Wanted). scanned_of x (fed (fed start t) piece)) is ∙ ap (scanned_of w) (sym (fed_append start t piece)))))

pub seeks_stuck : (old : Scan) (w : Wanted) (t piece : List ℕ) → Seeks old w t → is_some old.seen.fault ≡ true → Seeks old w (t ++ piece)
seeks_stuck old w t piece (is, inl m) e = (is, inl m)
seeks_stuck old w t piece (is, inr s) e =
    (is, inr (s ∙ ap (scanned_of w) (sym (fed_append start t piece ∙ fed_faulty (fed start t) piece (ap (λ (x : Scanned). is_some x.seen.fault) (sym s) ∙ e)))))

finished_stuck : (s : Fed) → is_some s.held.fault ≡ true → finished s ≡ s.held
unfolding finished
finished_stuck s e = with_last_faulty s.held s.pending e

memory : (w : Wanted) (t : List ℕ) (f : ReadFault) → f ≡ NoMemory → LooksUpAs w t (Err f)
memory w t f e = subst (λ (g : ReadFault). LooksUpAs w t (Err g)) (sym e) tt

pub finish_stuck : (r : Scan) (w : Wanted) (t : List ℕ) (f : ReadFault) → Seeks r w t → r.seen.fault ≡ Some f → LooksUpAs w t (Err f)
finish_stuck r w t f (is, inl m) e = memory w t f (cc)
finish_stuck r w t f (is, inr s) e =
    let held : (fed start t).held.fault ≡ Some f = ap (λ (x : Scanned). x.seen.fault) (sym s) ∙ e in
    found_err w t r.seen (fed start t).held f (sym (finished_stuck (fed start t) (ap is_some held))) (ap (λ (x : Scanned). x.seen) s) e

-- the state of a scan after the last line is that of a reader after it
last_seen_of : (r : Scan) (w : Wanted) (t : List ℕ) (q : Seen) → r.wanted ≡ w → scan_state r ≡ scanned_of w (fed start t) → q ≡ scan_finished r.wanted (scan_state r) → q ≡ seen_of w (finished (fed start t))
last_seen_of r w t q is s e = e ∙ (ap (λ (x : Wanted). scan_finished x (scan_state r)) is ∙ (ap (scan_finished w) s ∙ finished_scanned w (fed start t)))

last_kept : (w : Wanted) (q : Seen) (rest : List ℕ) → is_some q.fault ≡ true → seen_last w q rest ≡ q
last_kept w q [] e = refl
last_kept w q (b ∷ t) e = rw e refl

last_stuck : (w : Wanted) (s : Scanned) → is_some s.seen.fault ≡ true → scan_finished w s ≡ s.seen
unfolding scan_finished
last_stuck w s e = last_kept w s.seen s.pending e

finish_err : (r : Scan) (w : Wanted) (t : List ℕ) (q : Seen) (f : ReadFault) → Seeks r w t → q ≡ scan_finished r.wanted (scan_state r) → q.fault ≡ Some f → LooksUpAs w t (Err f)
finish_err r w t q f (is, inl m) e faulty =
    let kept : q.fault ≡ Some NoMemory = ap (λ (x : Seen). x.fault) (e ∙ last_stuck r.wanted (scan_state r) (ap is_some m)) ∙ m in
    memory w t f (cc)
finish_err r w t q f (is, inr s) e faulty = found_err w t q (finished (fed start t)) f refl (last_seen_of r w t q is s e) faulty

finish_ok : (r : Scan) (w : Wanted) (t : List ℕ) (q : Seen) → Seeks r w t → q ≡ scan_finished r.wanted (scan_state r) → q.fault ≡ None → LooksUpAs w t (Ok q.found)
finish_ok r w t q (is, inl m) e clear =
    let kept : q.fault ≡ Some NoMemory = ap (λ (x : Seen). x.fault) (e ∙ last_stuck r.wanted (scan_state r) (ap is_some m)) ∙ m in absurd cc
finish_ok r w t q (is, inr s) e clear = found_ok w t q (finished (fed start t)) refl (last_seen_of r w t q is s e) clear

pub finish_answer : (r : Scan) (w : Wanted) (t : List ℕ) (q : Seen) (o : Option ReadFault) → Seeks r w t → q ≡ scan_finished r.wanted (scan_state r) → q.fault ≡ o → LooksUpAs w t (seen_answer o q.found)
finish_answer r w t q None s e is = finish_ok r w t q s e is
finish_answer r w t q (Some f) s e is = finish_err r w t q f s e is
