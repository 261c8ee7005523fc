-- The entries of a tree in order, and the rules that each keeps.
use Rattle.std.proofs.Common.{◌≡◌, ℕ, Bool, true, false, List, [], ◌∷◌, ◌++◌, refl, sym, ap, ◌∙◌, append_assoc}
use Rattle.std.specs.Prelude.{◌&&◌, ◌||◌, not}
use Rattle.std.specs.List.{list_all}
use Rattle.std.proofs.lemmas.List.{append-nil}
use Rattle.std.proofs.lemmas.List.Folds.{list_all-append}
use Rattle.usbids_text.specs.declared.kind.Kind.{Kind}
use Rattle.usbids_text.specs.declared.kind.Kind.TheVariants.{Vendor, Tagged}
use Rattle.usbids_text.specs.declared.kind.Depth.{Depth}
use Rattle.usbids_text.specs.declared.kind.Depth.TheVariants.{Zero, One}
use Rattle.usbids_text.specs.Words.{is_code, is_name}
use Rattle.usbids_text.specs.Entries.{EntryLine, LeafEntry, MidEntry, TopEntry, leaf_line, mid_line, top_line, leaves_lines, mids_lines, tops_lines, is_vendor, has_room, is_depth, is_line, has_four, is_sound_top, IsSound}

pub leaves_lines_append : (a b : List LeafEntry) → leaves_lines (a ++ b) ≡ leaves_lines a ++ leaves_lines b
unfolding leaves_lines
leaves_lines_append [] b = refl
leaves_lines_append (x ∷ a) b = ap (λ (r : List EntryLine). leaf_line x ∷ r) (leaves_lines_append a b)

pub mids_lines_append : (a b : List MidEntry) → mids_lines (a ++ b) ≡ mids_lines a ++ mids_lines b
unfolding mids_lines
mids_lines_append [] b = refl
mids_lines_append (x ∷ a) b = ap (λ (r : List EntryLine). mid_line x ∷ r) (ap (λ (r : List EntryLine). leaves_lines x.leaves ++ r) (mids_lines_append a b) ∙ sym (append_assoc (leaves_lines x.leaves) (mids_lines a) (mids_lines b)))

pub tops_lines_append : (a b : List TopEntry) → tops_lines (a ++ b) ≡ tops_lines a ++ tops_lines b
unfolding tops_lines
tops_lines_append [] b = refl
tops_lines_append (x ∷ a) b = ap (λ (r : List EntryLine). top_line x ∷ r) (ap (λ (r : List EntryLine). mids_lines x.mids ++ r) (tops_lines_append a b) ∙ sym (append_assoc (mids_lines x.mids) (tops_lines a) (tops_lines b)))

pub leaves_lines_push : (a : List LeafEntry) (l : LeafEntry) → leaves_lines (a ++ l ∷ []) ≡ leaves_lines a ++ leaf_line l ∷ []
unfolding leaves_lines
leaves_lines_push a l = leaves_lines_append a (l ∷ [])

pub mids_lines_push : (a : List MidEntry) (m : MidEntry) → mids_lines (a ++ m ∷ []) ≡ mids_lines a ++ mid_line m ∷ leaves_lines m.leaves
unfolding mids_lines
mids_lines_push a m = mids_lines_append a (m ∷ []) ∙ ap (λ (r : List EntryLine). mids_lines a ++ mid_line m ∷ r) (append-nil (leaves_lines m.leaves))

pub tops_lines_push : (a : List TopEntry) (t : TopEntry) → tops_lines (a ++ t ∷ []) ≡ tops_lines a ++ top_line t ∷ mids_lines t.mids
unfolding tops_lines
tops_lines_push a t = tops_lines_append a (t ∷ []) ∙ ap (λ (r : List EntryLine). tops_lines a ++ top_line t ∷ r) (append-nil (mids_lines t.mids))

pub both : (a b : Bool) → (a && b) ≡ true → (a ≡ true) × (b ≡ true)
both true b e = (refl, e)
both false b e = absurd cc

pub and_both : (a b : Bool) → a ≡ true → b ≡ true → (a && b) ≡ true
and_both a b p q = rw (p, q) refl

pub or_true_is : (b : Bool) → (b || true) ≡ true
or_true_is true = refl
or_true_is false = refl

true_of_not_false : (b : Bool) → not b ≡ false → b ≡ true
true_of_not_false true e = refl
true_of_not_false false e = absurd cc

pub make_entry : (depth : Depth) (code digits : ℕ) (name : List ℕ) → is_code code digits ≡ true → is_name name ≡ true → is_depth depth digits ≡ true → is_line (record { depth = depth; code = code; digits = digits; name = name }) ≡ true
unfolding is_line
make_entry depth code digits name c n d = rw (c, n, d) refl

-- a valid entry line has valid parts
pub entry_code : (entry_line : EntryLine) → is_line entry_line ≡ true → is_code entry_line.code entry_line.digits ≡ true
unfolding is_line
entry_code entry_line e = (both (is_code entry_line.code entry_line.digits) (is_name entry_line.name) (both (is_code entry_line.code entry_line.digits && is_name entry_line.name) (is_depth entry_line.depth entry_line.digits) e).0).0

pub entry_name : (entry_line : EntryLine) → is_line entry_line ≡ true → is_name entry_line.name ≡ true
unfolding is_line
entry_name entry_line e = (both (is_code entry_line.code entry_line.digits) (is_name entry_line.name) (both (is_code entry_line.code entry_line.digits && is_name entry_line.name) (is_depth entry_line.depth entry_line.digits) e).0).1

pub entry_depth : (entry_line : EntryLine) → is_line entry_line ≡ true → is_depth entry_line.depth entry_line.digits ≡ true
unfolding is_line
entry_depth entry_line e = (both (is_code entry_line.code entry_line.digits && is_name entry_line.name) (is_depth entry_line.depth entry_line.digits) e).1

pub new_mid : (code digits : ℕ) (name : List ℕ) → is_code code digits ≡ true → is_name name ≡ true → list_all is_line (mids_lines (record { code = code; digits = digits; name = name; leaves = [] } ∷ [])) ≡ true
unfolding mids_lines leaves_lines
new_mid code digits name c n = let e = make_entry One code digits name c n refl in rw e refl

pub push_leaf : (m : MidEntry) (l : LeafEntry) → list_all is_line (mids_lines (m ∷ [])) ≡ true → is_line (leaf_line l) ≡ true → list_all is_line (mids_lines (record m { leaves = m.leaves ++ l ∷ [] } ∷ [])) ≡ true
unfolding mids_lines
push_leaf m l e r =
    let parts = both (is_line (mid_line m)) (list_all is_line (leaves_lines m.leaves ++ [])) e in
    let old : list_all is_line (leaves_lines m.leaves) ≡ true = ap (list_all is_line) (sym (append-nil (leaves_lines m.leaves))) ∙ parts.1 in
    and_both (is_line (mid_line m)) (list_all is_line (leaves_lines (m.leaves ++ l ∷ []) ++ [])) parts.0
    (ap (list_all is_line) (append-nil (leaves_lines (m.leaves ++ l ∷ [])) ∙ leaves_lines_push m.leaves l) ∙ (list_all-append is_line (leaves_lines m.leaves) (leaf_line l ∷ []) ∙ rw (old, r) refl))

pub new_top : (kind : Kind) (code digits : ℕ) (name : List ℕ) → is_code code digits ≡ true → is_name name ≡ true → is_depth (Zero kind) digits ≡ true → IsSound (record { kind = kind; code = code; digits = digits; name = name; mids = [] } ∷ [])
unfolding tops_lines mids_lines
new_top kind code digits name c n d = record {
  fours = rw (or_true_is (not (is_vendor kind))) refl;
  each = let e = make_entry (Zero kind) code digits name c n d in rw e refl;
}

four_push : (kind : Kind) (ms : List MidEntry) (m : MidEntry) → (not (is_vendor kind) || list_all has_four ms) ≡ true → has_room kind m.digits ≡ true → (not (is_vendor kind) || list_all has_four (ms ++ m ∷ [])) ≡ true
four_push (Tagged tag) ms m e four = refl
four_push Vendor ms m e four = list_all-append has_four ms (m ∷ []) ∙ rw (e, four) refl

mids_lines_one : (m : MidEntry) → mids_lines (m ∷ []) ≡ mid_line m ∷ leaves_lines m.leaves
unfolding mids_lines
mids_lines_one m = ap (λ (r : List EntryLine). mid_line m ∷ r) (append-nil (leaves_lines m.leaves))

tops_lines_one : (t : TopEntry) → tops_lines (t ∷ []) ≡ top_line t ∷ mids_lines t.mids
unfolding tops_lines
tops_lines_one t = ap (λ (r : List EntryLine). top_line t ∷ r) (append-nil (mids_lines t.mids))

pub push_mid : (t : TopEntry) (m : MidEntry) → IsSound (t ∷ []) → list_all is_line (mids_lines (m ∷ [])) ≡ true → has_room t.kind m.digits ≡ true → IsSound (record t { mids = t.mids ++ m ∷ [] } ∷ [])
push_mid t m s e four =
    let old = both (is_line (top_line t)) (list_all is_line (mids_lines t.mids)) (ap (list_all is_line) (sym (tops_lines_one t)) ∙ s.each) in
    let fours = both (is_sound_top t) true s.fours in
    let entry_lines : list_all is_line (mids_lines (t.mids ++ m ∷ [])) ≡ true =
    ap (list_all is_line) (mids_lines_append t.mids (m ∷ [])) ∙ (list_all-append is_line (mids_lines t.mids) (mids_lines (m ∷ [])) ∙ and_both (list_all is_line (mids_lines t.mids)) (list_all is_line (mids_lines (m ∷ []))) old.1 e) in
    record {
      fours = and_both (is_sound_top (record t { mids = t.mids ++ m ∷ [] })) true (four_push t.kind t.mids m fours.0 four) refl;
      each = ap (list_all is_line) (tops_lines_one (record t { mids = t.mids ++ m ∷ [] })) ∙ and_both (is_line (top_line t)) (list_all is_line (mids_lines (t.mids ++ m ∷ []))) old.0 entry_lines;
    }

pub no_tops : IsSound []
unfolding tops_lines
no_tops = record { fours = refl; each = refl }

pub push_top : (tops : List TopEntry) (t : TopEntry) → IsSound tops → IsSound (t ∷ []) → IsSound (tops ++ t ∷ [])
push_top tops t s one = record {
  fours = list_all-append is_sound_top tops (t ∷ []) ∙ and_both (list_all is_sound_top tops) (list_all is_sound_top (t ∷ [])) s.fours one.fours;
  each = ap (list_all is_line) (tops_lines_append tops (t ∷ [])) ∙ (list_all-append is_line (tops_lines tops) (tops_lines (t ∷ [])) ∙ and_both (list_all is_line (tops_lines tops)) (list_all is_line (tops_lines (t ∷ []))) s.each one.each);
}
