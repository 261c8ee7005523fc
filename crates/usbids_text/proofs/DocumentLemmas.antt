-- A document that is built entry by entry has those entries in order.
use Rattle.std.proofs.Common.{◌≡◌, ℕ, Bool, true, false, List, [], ◌∷◌, ◌++◌, Option, Some, None, refl, sym, ap, ◌∙◌, append_assoc}
use Rattle.std.specs.Prelude.{◌==◌, ◌&&◌, ◌||◌, not}
use Rattle.std.specs.List.{list_all}
use Rattle.std.proofs.lemmas.List.Folds.{list_all-append}
use Rattle.usbids_text.specs.declared.line.Why.TheVariants.{BadCode}
use Rattle.std.specs.Prelude.{if◌then◌else◌}
use Rattle.usbids_text.specs.declared.kind.Depth.{Depth}
use Rattle.usbids_text.specs.declared.kind.Depth.TheVariants.{Zero, One, Two}
use Rattle.usbids_text.specs.declared.kind.Kind.{Kind}
use Rattle.usbids_text.specs.declared.kind.Kind.TheVariants.{Vendor, Tagged}
use Rattle.usbids_text.specs.Entries.{EntryLine, LeafEntry, MidEntry, TopEntry, leaf_line, mid_line, top_line, leaves_lines, mids_lines, tops_lines, preorder, is_vendor, has_room, has_four, is_line, is_sound_top, IsSound}
use Rattle.usbids_text.specs.Documents.{last, misplaced, fault_at, below_top}
use Rattle.usbids_text.specs.Opens.{Open, with_mid, document_so_far, put, misplaced_in, with_leaf, open_mid, has_room_in}
use Rattle.usbids_text.proofs.EntryLemmas.{leaves_lines_push, mids_lines_push, tops_lines_push, both, and_both, or_true_is}

-- without an open top there are no closed tops, and without an open mid the open top has no mids
abbrev pub IsOpenAt : List TopEntry → Option TopEntry → Option MidEntry → Type 0
IsOpenAt tops None mid = tops ≡ []
IsOpenAt tops (Some t) None = t.mids ≡ []
IsOpenAt tops (Some t) (Some m) = Unit {0}

abbrev pub IsOpen : Open → Type 0
IsOpen o = IsOpenAt o.tops o.top o.mid

pub last_push : {A : Type 0} (xs : List A) (x : A) → last (xs ++ x ∷ []) ≡ Some x
unfolding last
last_push [] x = refl
last_push (y ∷ []) x = refl
last_push (y ∷ (z ∷ xs)) x = last_push (z ∷ xs) x

last_nil : {A : Type 0} → last {A = A} [] ≡ None
unfolding last
last_nil = refl

last_mid : (t : TopEntry) (mid : Option MidEntry) → IsOpenAt [] (Some t) mid → last (with_mid t mid).mids ≡ mid
unfolding last
last_mid t None e = ap last e
last_mid t (Some m) e = last_push t.mids m

placed : (entry_line : EntryLine) (tops : List TopEntry) (top : Option TopEntry) (mid : Option MidEntry) → IsOpenAt tops top mid → misplaced_in (record { tops = tops; top = top; mid = mid }) entry_line ≡ misplaced (document_so_far (record { tops = tops; top = top; mid = mid })) entry_line
unfolding misplaced misplaced_in
placed entry_line tops None mid e = rw (e, last_nil {A = TopEntry}) refl
placed entry_line tops (Some t) None e = rw last_push (rw (last_mid t None e) refl)
placed entry_line tops (Some t) (Some m) e = rw last_push (rw (last_mid t (Some m) tt) refl)

pub misplaced_same : (o : Open) (entry_line : EntryLine) → IsOpen o → misplaced_in o entry_line ≡ misplaced (document_so_far o) entry_line
misplaced_same o entry_line e = placed entry_line o.tops o.top o.mid e

-- the effect of an entry that is put in its place
pub record Puts (o : Open) (entry_line : EntryLine) : Type 0 where
  pub opens : IsOpen (put o entry_line)
  pub entry_lines : tops_lines (document_so_far (put o entry_line)) ≡ tops_lines (document_so_far o) ++ entry_line ∷ []
  pub fours : list_all is_sound_top (document_so_far o) ≡ true → list_all is_sound_top (document_so_far (put o entry_line)) ≡ true

abbrev entry_at : ℕ → ℕ → List ℕ → Kind → EntryLine
entry_at code digits name kind = record { depth = Zero kind; code = code; digits = digits; name = name }

sound_push : (tops : List TopEntry) (t : TopEntry) → list_all is_sound_top tops ≡ true → is_sound_top t ≡ true → list_all is_sound_top (tops ++ t ∷ []) ≡ true
sound_push tops t a b = list_all-append is_sound_top tops (t ∷ []) ∙ rw (a, b) refl

puts_top : (o : Open) (code digits : ℕ) (name : List ℕ) (kind : Kind) → Puts o (entry_at code digits name kind)
unfolding put mids_lines
puts_top o code digits name kind = record {
  opens = refl;
  entry_lines = tops_lines_push (document_so_far o) (record { kind = kind; code = code; digits = digits; name = name; mids = [] });
  fours = λ s. sound_push (document_so_far o) (record { kind = kind; code = code; digits = digits; name = name; mids = [] }) s (or_true_is (not (is_vendor kind)));
}

lines_mid : (tops : List TopEntry) (t : TopEntry) (m : MidEntry) → tops_lines (tops ++ with_mid t (Some m) ∷ []) ≡ tops_lines (tops ++ t ∷ []) ++ mid_line m ∷ leaves_lines m.leaves
lines_mid tops t m =
    tops_lines_push tops (with_mid t (Some m)) ∙ (ap (λ (r : List EntryLine). tops_lines tops ++ top_line t ∷ r) (mids_lines_push t.mids m)
    ∙ (sym (append_assoc (tops_lines tops) (top_line t ∷ mids_lines t.mids) (mid_line m ∷ leaves_lines m.leaves))
    ∙ ap (λ (r : List EntryLine). r ++ mid_line m ∷ leaves_lines m.leaves) (sym (tops_lines_push tops t))))

lines_leaf : (tops : List TopEntry) (t : TopEntry) (m : MidEntry) (l : LeafEntry) → tops_lines (tops ++ with_mid t (Some (with_leaf m l)) ∷ []) ≡ tops_lines (tops ++ with_mid t (Some m) ∷ []) ++ leaf_line l ∷ []
lines_leaf tops t m l =
    lines_mid tops t (with_leaf m l) ∙ (ap (λ (r : List EntryLine). tops_lines (tops ++ t ∷ []) ++ mid_line m ∷ r) (leaves_lines_push m.leaves l)
    ∙ (sym (append_assoc (tops_lines (tops ++ t ∷ [])) (mid_line m ∷ leaves_lines m.leaves) (leaf_line l ∷ []))
    ∙ ap (λ (r : List EntryLine). r ++ leaf_line l ∷ []) (sym (lines_mid tops t m))))

unless : (b : Bool) → (if b then Some BadCode else None) ≡ None → b ≡ false
unless true e = absurd cc
unless false e = refl

true_of_not_false : (b : Bool) → not b ≡ false → b ≡ true
true_of_not_false true e = refl
true_of_not_false false e = absurd cc

four_push : (kind : Kind) (ms : List MidEntry) (m : MidEntry) → (not (is_vendor kind) || list_all has_four ms) ≡ true → (is_vendor kind && not (m.digits == 4)) ≡ false → (not (is_vendor kind) || list_all has_four (ms ++ m ∷ [])) ≡ true
four_push (Tagged tag) ms m a b = refl
four_push Vendor ms m a b = list_all-append has_four ms (m ∷ []) ∙ rw (a, true_of_not_false (m.digits == 4) b) refl

sound_split : (tops : List TopEntry) (t : TopEntry) → list_all is_sound_top (tops ++ t ∷ []) ≡ true → (list_all is_sound_top tops ≡ true) × (is_sound_top t ≡ true)
sound_split tops t e =
    let parts = both (list_all is_sound_top tops) (is_sound_top t && true) (sym (list_all-append is_sound_top tops (t ∷ [])) ∙ e) in
    (parts.0, (both (is_sound_top t) true parts.1).0)

sound_mid : (tops : List TopEntry) (t : TopEntry) (m : MidEntry) → list_all is_sound_top (tops ++ t ∷ []) ≡ true → (is_vendor t.kind && not (m.digits == 4)) ≡ false → list_all is_sound_top (tops ++ with_mid t (Some m) ∷ []) ≡ true
sound_mid tops t m e four =
    let parts = sound_split tops t e in
    sound_push tops (with_mid t (Some m)) parts.0 (four_push t.kind t.mids m parts.1 four)

sound_leaf : (tops : List TopEntry) (t : TopEntry) (m : MidEntry) (l : LeafEntry) → list_all is_sound_top (tops ++ with_mid t (Some m) ∷ []) ≡ true → list_all is_sound_top (tops ++ with_mid t (Some (with_leaf m l)) ∷ []) ≡ true
sound_leaf tops t m l e =
    let parts = sound_split tops (with_mid t (Some m)) e in
    let same : list_all has_four (t.mids ++ with_leaf m l ∷ []) ≡ list_all has_four (t.mids ++ m ∷ []) = list_all-append has_four t.mids (with_leaf m l ∷ []) ∙ sym (list_all-append has_four t.mids (m ∷ [])) in
    sound_push tops (with_mid t (Some (with_leaf m l))) parts.0 (ap (λ (b : Bool). not (is_vendor t.kind) || b) same ∙ parts.1)

abbrev at : List TopEntry → Option TopEntry → Option MidEntry → Open
at tops top mid = record { tops = tops; top = top; mid = mid }

abbrev entry_at_depth : Depth → ℕ → ℕ → List ℕ → EntryLine
entry_at_depth depth code digits name = record { depth = depth; code = code; digits = digits; name = name }

abbrev bare_mid : ℕ → ℕ → List ℕ → MidEntry
bare_mid code digits name = record { code = code; digits = digits; name = name; leaves = [] }

puts_at : (depth : Depth) (code digits : ℕ) (name : List ℕ) (tops : List TopEntry) (top : Option TopEntry) (mid : Option MidEntry) → misplaced_in (at tops top mid) (entry_at_depth depth code digits name) ≡ None → Puts (at tops top mid) (entry_at_depth depth code digits name)
unfolding misplaced_in put leaves_lines
puts_at (Zero kind) code digits name tops top mid e = puts_top (at tops top mid) code digits name kind
puts_at One code digits name tops None mid e = absurd cc
puts_at One code digits name tops (Some t) None e = record {
  opens = tt;
  entry_lines = lines_mid tops t (bare_mid code digits name);
  fours = λ s. sound_mid tops t (bare_mid code digits name) s (unless _ e);
}
puts_at One code digits name tops (Some t) (Some m) e = record {
  opens = tt;
  entry_lines = lines_mid tops (with_mid t (Some m)) (bare_mid code digits name);
  fours = λ s. sound_mid tops (with_mid t (Some m)) (bare_mid code digits name) s (unless _ e);
}
puts_at Two code digits name tops None mid e = absurd cc
puts_at Two code digits name tops (Some t) None e = absurd cc
puts_at Two code digits name tops (Some t) (Some m) e = record {
  opens = tt;
  entry_lines = lines_leaf tops t m (record { code = code; digits = digits; name = name });
  fours = λ s. sound_leaf tops t m (record { code = code; digits = digits; name = name }) s;
}

pub puts : (o : Open) (entry_line : EntryLine) → misplaced_in o entry_line ≡ None → Puts o entry_line
puts o entry_line e = puts_at entry_line.depth entry_line.code entry_line.digits entry_line.name o.tops o.top o.mid e

pub puts_sound : (o : Open) (entry_line : EntryLine) → misplaced_in o entry_line ≡ None → is_line entry_line ≡ true → IsSound (document_so_far o) → IsSound (document_so_far (put o entry_line))
puts_sound o entry_line place fine s =
    let p = puts o entry_line place in
    record {
      fours = p.fours s.fours;
      each = ap (list_all is_line) p.entry_lines ∙ (list_all-append is_line (preorder (document_so_far o)) (entry_line ∷ []) ∙ and_both (list_all is_line (preorder (document_so_far o))) (is_line entry_line && true) s.each (and_both (is_line entry_line) true fine refl));
    }

room_kind : (kind : Kind) (digits : ℕ) → (is_vendor kind && not (digits == 4)) ≡ false → has_room kind digits ≡ true
room_kind (Tagged tag) digits e = refl
room_kind Vendor digits e = true_of_not_false (digits == 4) e

room_top : (top : Option TopEntry) (entry_line : EntryLine) → below_top entry_line top ≡ None → has_room_in top entry_line.digits ≡ true
room_top None entry_line e = absurd cc
room_top (Some t) entry_line e = room_kind t.kind entry_line.digits (unless _ e)

-- an open top has room for an entry of depth one that is in its place
pub room_in : (o : Open) (entry_line : EntryLine) → entry_line.depth ≡ One → misplaced_in o entry_line ≡ None → has_room_in o.top entry_line.digits ≡ true
unfolding misplaced_in
room_in o entry_line deep e =
    let one : below_top entry_line o.top ≡ fault_at entry_line o.top (open_mid o.top o.mid) = rw deep refl in
    room_top o.top entry_line (one ∙ e)
