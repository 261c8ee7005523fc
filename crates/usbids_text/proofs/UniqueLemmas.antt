-- A text is the text of one document, or has one first fault, and never both.
use Rattle.std.proofs.Common.{◌≡◌, ℕ, true, false, List, [], ◌∷◌, ◌++◌, Option, Some, None, refl, sym, ap, ◌∙◌, inl, inr, append_assoc}
use Rattle.std.specs.Prelude.{◌==◌, ◌&&◌, ◌||◌, not, Result, Ok, Err, is_some, if◌then◌else◌}
use Rattle.std.specs.List.{list_all}
use Rattle.std.proofs.lemmas.List.{append-nil}
use Rattle.usbids_text.specs.declared.line.Why.{Why}
use Rattle.usbids_text.specs.declared.kind.Kind.{Kind}
use Rattle.usbids_text.specs.declared.kind.Kind.TheVariants.{Vendor, Tagged}
use Rattle.usbids_text.specs.Entries.{EntryLine, LeafEntry, MidEntry, TopEntry, leaf_line, mid_line, top_line, leaves_lines, mids_lines, tops_lines, preorder, is_vendor, has_four, is_sound_top, IsSound}
use Rattle.usbids_text.specs.Lines.{line_class}
use Rattle.usbids_text.specs.Documents.{misplaced, AreLinesOf, FaultIn, line_fault, entries, with_line}
use Rattle.usbids_text.specs.declared.fault.LineFault.{LineFault}
use Rattle.usbids_text.specs.declared.fault.ReadFault.TheVariants.{Line}
use Rattle.usbids_text.specs.Feeding.{Held, line_done, with_class, with_fault, refused, start}
use Rattle.usbids_text.specs.Outcome.{done}
use Rattle.usbids_text.proofs.CutLemmas.{done_fault}
use Rattle.usbids_text.proofs.DocumentLemmas.{IsOpen, IsOpenAt, misplaced_same}
use Rattle.usbids_text.proofs.RunLemmas.{joined, entries_append, verdict_of, done_good}
use Rattle.usbids_text.specs.Opens.{Open, with_mid, document_so_far, put, misplaced_in, with_leaf, none_open}
use Rattle.usbids_text.proofs.EntryLemmas.{both}
use Rattle.usbids_text.proofs.InnerLemmas.{AreInner, are_inner_before}

abbrev placed_at : Open → EntryLine → Option Why → Option Open
placed_at o entry_line None = Some (put o entry_line)
placed_at o entry_line (Some why) = None

abbrev tried : Option Open → EntryLine → Option Open
tried None entry_line = None
tried (Some o) entry_line = placed_at o entry_line (misplaced_in o entry_line)

-- puts the entries in their places, if each has one
unfoldable run : Option Open → List EntryLine → Option Open
run o [] = o
run o (entry_line ∷ entry_lines) = run (tried o entry_line) entry_lines

abbrev at : List TopEntry → Option TopEntry → Option MidEntry → Open
at tops top mid = record { tops = tops; top = top; mid = mid }

abbrev with_leaves : MidEntry → List LeafEntry → MidEntry
with_leaves m ls = record m { leaves = m.leaves ++ ls }

run_append : (o : Option Open) (a b : List EntryLine) → run o (a ++ b) ≡ run (run o a) b
unfolding run
run_append o [] b = refl
run_append o (x ∷ a) b = run_append (tried o x) a b

run_none : (entry_lines : List EntryLine) → run None entry_lines ≡ None
unfolding run
run_none [] = refl
run_none (x ∷ entry_lines) = run_none entry_lines

tried_leaf : (tops : List TopEntry) (t : TopEntry) (m : MidEntry) (l : LeafEntry) → tried (Some (at tops (Some t) (Some m))) (leaf_line l) ≡ Some (at tops (Some t) (Some (with_leaf m l)))
unfolding put misplaced_in
tried_leaf tops t m l = refl

run_leaves : (tops : List TopEntry) (t : TopEntry) (m : MidEntry) (ls : List LeafEntry) → run (Some (at tops (Some t) (Some m))) (leaves_lines ls) ≡ Some (at tops (Some t) (Some (with_leaves m ls)))
unfolding leaves_lines run
run_leaves tops t m [] = ap (λ (x : List LeafEntry). Some (at tops (Some t) (Some (record m { leaves = x })))) (sym (append-nil m.leaves))
run_leaves tops t m (l ∷ ls) =
    ap (λ (o : Option Open). run o (leaves_lines ls)) (tried_leaf tops t m l) ∙ (run_leaves tops t (with_leaf m l) ls
    ∙ ap (λ (x : List LeafEntry). Some (at tops (Some t) (Some (record m { leaves = x })))) (append_assoc m.leaves (l ∷ []) ls))

abbrev with_mids : TopEntry → List MidEntry → TopEntry
with_mids t ms = record t { mids = t.mids ++ ms }

-- all entries had a place, and these are the tops
record Ran (o : Option Open) (tops : List TopEntry) : Type 0 where
  ends : Open
  is : o ≡ Some ends
  tops_are : document_so_far ends ≡ tops
  opens : IsOpen ends

four_split : (kind : Kind) (m : MidEntry) (ms : List MidEntry) → (not (is_vendor kind) || list_all has_four (m ∷ ms)) ≡ true → ((is_vendor kind && not (m.digits == 4)) ≡ false) × ((not (is_vendor kind) || list_all has_four ms) ≡ true)
four_split (Tagged tag) m ms e = (refl, refl)
four_split Vendor m ms e = let parts = both (m.digits == 4) (list_all has_four ms) e in (ap not parts.0, parts.1)

tried_mid : (tops : List TopEntry) (t : TopEntry) (mid : Option MidEntry) (m : MidEntry) → (is_vendor t.kind && not (m.digits == 4)) ≡ false → tried (Some (at tops (Some t) mid)) (mid_line m) ≡ Some (at tops (Some (with_mid t mid)) (Some (record m { leaves = [] })))
unfolding put misplaced_in
tried_mid tops t mid m e = rw e refl

kind_same : (t : TopEntry) (mid : Option MidEntry) → (with_mid t mid).kind ≡ t.kind
kind_same t None = refl
kind_same t (Some m) = refl

run_mids : (ms : List MidEntry) (tops : List TopEntry) (t : TopEntry) (mid : Option MidEntry) → IsOpenAt tops (Some t) mid → (not (is_vendor t.kind) || list_all has_four ms) ≡ true → Ran (run (Some (at tops (Some t) mid)) (mids_lines ms)) (tops ++ with_mids (with_mid t mid) ms ∷ [])
unfolding mids_lines run
run_mids [] tops t mid opens four = record {
  ends = at tops (Some t) mid;
  is = refl;
  tops_are = ap (λ (x : List MidEntry). tops ++ record (with_mid t mid) { mids = x } ∷ []) (sym (append-nil (with_mid t mid).mids));
  opens = opens;
}
run_mids (m ∷ ms) tops t mid opens four =
    let parts = four_split t.kind m ms four in
    let one : run (Some (at tops (Some t) mid)) (mids_lines (m ∷ ms)) ≡ run (Some (at tops (Some (with_mid t mid)) (Some m))) (mids_lines ms) =
    ap (λ (o : Option Open). run o (leaves_lines m.leaves ++ mids_lines ms)) (tried_mid tops t mid m parts.0)
    ∙ (run_append (Some (at tops (Some (with_mid t mid)) (Some (record m { leaves = [] })))) (leaves_lines m.leaves) (mids_lines ms)
    ∙ ap (λ (o : Option Open). run o (mids_lines ms)) (run_leaves tops (with_mid t mid) (record m { leaves = [] }) m.leaves)) in
    let rest = run_mids ms tops (with_mid t mid) (Some m) tt (ap (λ (k : Kind). not (is_vendor k) || list_all has_four ms) (kind_same t mid) ∙ parts.1) in
    record {
      ends = rest.ends;
      is = one ∙ rest.is;
      tops_are = rest.tops_are ∙ ap (λ (x : List MidEntry). tops ++ record (with_mid t mid) { mids = x } ∷ []) (append_assoc (with_mid t mid).mids (m ∷ []) ms);
      opens = rest.opens;
    }

tried_top : (o : Open) (t : TopEntry) → tried (Some o) (top_line t) ≡ Some (at (document_so_far o) (Some (record t { mids = [] })) None)
unfolding put misplaced_in
tried_top o t = refl

run_tops : (ts : List TopEntry) (o : Open) → IsOpen o → list_all is_sound_top ts ≡ true → Ran (run (Some o) (tops_lines ts)) (document_so_far o ++ ts)
unfolding tops_lines run
run_tops [] o opens sound = record { ends = o; is = refl; tops_are = sym (append-nil (document_so_far o)); opens = opens }
run_tops (t ∷ ts) o opens sound =
    let parts = both (is_sound_top t) (list_all is_sound_top ts) sound in
    let mids = run_mids t.mids (document_so_far o) (record t { mids = [] }) None refl parts.0 in
    let rest = run_tops ts mids.ends mids.opens parts.1 in
    let one : run (Some o) (tops_lines (t ∷ ts)) ≡ run (Some mids.ends) (tops_lines ts) =
    ap (λ (x : Option Open). run x (mids_lines t.mids ++ tops_lines ts)) (tried_top o t)
    ∙ (run_append (Some (at (document_so_far o) (Some (record t { mids = [] })) None)) (mids_lines t.mids) (tops_lines ts)
    ∙ ap (λ (x : Option Open). run x (tops_lines ts)) mids.is) in
    record {
      ends = rest.ends;
      is = one ∙ rest.is;
      tops_are = rest.tops_are ∙ (ap (λ (x : List TopEntry). x ++ ts) mids.tops_are ∙ append_assoc (document_so_far o) (t ∷ []) ts);
      opens = rest.opens;
    }

run_document : (d : List TopEntry) → IsSound d → Ran (run (Some (none_open [])) (preorder d)) d
run_document d sound = run_tops d (none_open []) refl sound.fours

-- a list of entries is the preorder of one document
pub document_is_one : (a b : List TopEntry) → IsSound a → IsSound b → preorder a ≡ preorder b → a ≡ b
document_is_one a b sa sb e =
    let ra = run_document a sa in
    let rb = run_document b sb in
    let ends : Some ra.ends ≡ Some rb.ends = sym ra.is ∙ (ap (run (Some (none_open []))) e ∙ rb.is) in
    let same : ra.ends ≡ rb.ends = cc in
    sym ra.tops_are ∙ (ap document_so_far same ∙ rb.tops_are)

pub one_spelt : (ls : List (List ℕ)) (a b : List TopEntry) → AreLinesOf ls a → AreLinesOf ls b → a ≡ b
one_spelt ls a b sa sb = let e : Some (preorder a) ≡ Some (preorder b) = sym sa.entry_lines ∙ sb.entry_lines in document_is_one a b sa.sound sb.sound (cc)

tried_misplaced : (o : Open) (entry_line : EntryLine) (why : Why) → misplaced_in o entry_line ≡ Some why → tried (Some o) entry_line ≡ None
tried_misplaced o entry_line why e = rw e refl

no_place : (d before : List TopEntry) (entry_line : EntryLine) (more : List EntryLine) (why : Why) → IsSound d → IsSound before → misplaced before entry_line ≡ Some why → preorder before ++ entry_line ∷ more ≡ preorder d → ⊥
unfolding run
no_place d before entry_line more why sd sb bad e =
    let rd = run_document d sd in
    let rb = run_document before sb in
    let doc : document_so_far rb.ends ≡ before = rb.tops_are in
    let place : misplaced_in rb.ends entry_line ≡ Some why = misplaced_same rb.ends entry_line rb.opens ∙ (ap (λ (x : List TopEntry). misplaced x entry_line) doc ∙ bad) in
    let stops : run (Some (none_open [])) (preorder before ++ entry_line ∷ more) ≡ None =
    run_append (Some (none_open [])) (preorder before) (entry_line ∷ more) ∙ (ap (λ (o : Option Open). run (tried o entry_line) more) rb.is ∙ (ap (λ (o : Option Open). run o more) (tried_misplaced rb.ends entry_line why place) ∙ run_none more)) in
    let goes : None ≡ Some rd.ends = sym stops ∙ (ap (run (Some (none_open []))) e ∙ rd.is) in
    absurd cc

faulty_entry : (d before : List TopEntry) (c : Result (Option EntryLine) Why) (more : Option (List EntryLine)) (why : Why) → IsSound d → IsSound before → line_fault before c ≡ Some why → joined (Some (preorder before)) (with_line c more) ≡ Some (preorder d) → ⊥
faulty_entry d before (Err w) more why sd sb bad e = absurd cc
faulty_entry d before (Ok None) more why sd sb bad e = absurd cc
faulty_entry d before (Ok (Some entry_line)) None why sd sb bad e = absurd cc
faulty_entry d before (Ok (Some entry_line)) (Some more) why sd sb bad e = no_place d before entry_line more why sd sb bad (cc)

-- the lines of a document have no fault
pub not_both_at_once : (ls : List (List ℕ)) (d : List TopEntry) (n : ℕ) (why : Why) → AreLinesOf ls d → FaultIn ls n why → ⊥
unfolding entries
not_both_at_once ls d n why s f =
    faulty_entry d f.doc (line_class f.line) (entries f.after) why s.sound f.lines_of.sound f.faulty
    (ap (λ (r : Option (List EntryLine)). joined r (with_line (line_class f.line) (entries f.after))) (sym f.lines_of.entry_lines) ∙ (sym (entries_append f.before (f.line ∷ f.after)) ∙ (ap entries (sym f.cut) ∙ s.entry_lines)))

with_class_faulty : (h : Held) (c : Result (Option EntryLine) Why) (why : Why) → IsOpen h.built → line_fault (document_so_far h.built) c ≡ Some why → with_class h c ≡ refused h why
with_class_faulty h (Err w) why opens e = ap (refused h) (cc)
with_class_faulty h (Ok None) why opens e = absurd cc
with_class_faulty h (Ok (Some entry_line)) why opens e = ap (with_fault h entry_line) (misplaced_same h.built entry_line opens ∙ e)

done_append : (h : Held) (a b : List (List ℕ)) → done h (a ++ b) ≡ done (done h a) b
unfolding done
done_append h [] b = refl
done_append h (l ∷ a) b = done_append (if is_some h.fault then h else line_done h l) a b

faulty_line : (h : Held) (l : List ℕ) (after : List (List ℕ)) (why : Why) → h.fault ≡ None → IsOpen h.built → line_fault (document_so_far h.built) (line_class l) ≡ Some why → done h (l ∷ after) ≡ refused h why
unfolding line_done
faulty_line h l after why clear opens e =
    done_good h l after clear ∙ (ap (λ (k : Held). done k after) (with_class_faulty h (line_class l) why opens e) ∙ done_fault (refused h why) after refl)

-- a reader of lines with a fault has that fault
pub fault_found : (ls : List (List ℕ)) (n : ℕ) (why : Why) → AreInner ls → FaultIn ls n why → (done start.held ls).fault ≡ Some (Line (record { line = n; why = why }))
fault_found ls n why inner f = elim (verdict_of f.before (are_inner_before ls f.before (f.line ∷ f.after) f.cut inner)) [
  | inr b ↦ absurd (not_both_at_once f.before f.doc b.fault.line b.fault.why f.lines_of b.faulty)
  | inl g ↦
      let h : Held = done start.held f.before in
      let same : f.doc ≡ document_so_far h.built = one_spelt f.before f.doc (document_so_far h.built) f.lines_of g.lines_of in
      let stop : done h (f.line ∷ f.after) ≡ refused h why = faulty_line h f.line f.after why g.clear g.opens (ap (λ (d : List TopEntry). line_fault d (line_class f.line)) (sym same) ∙ f.faulty) in
      let number : h.line ≡ n = g.number ∙ sym f.number in
      ap (λ (x : List (List ℕ)). (done start.held x).fault) f.cut ∙ (ap (λ (k : Held). k.fault) (done_append start.held f.before (f.line ∷ f.after) ∙ stop)
      ∙ ap (λ (m : ℕ). Some (Line (record { line = m; why = why }))) number)
]

abbrev fault_at_line : ℕ → Why → LineFault
fault_at_line n why = record { line = n; why = why }

pub fault_is_one : (ls : List (List ℕ)) (m n : ℕ) (w v : Why) → AreInner ls → FaultIn ls m w → FaultIn ls n v → (m ≡ n) × (w ≡ v)
fault_is_one ls m n w v inner a b =
    let e : Some (Line (record { line = m; why = w })) ≡ Some (Line (record { line = n; why = v })) = sym (fault_found ls m w inner a) ∙ fault_found ls n v inner b in
    let same : fault_at_line m w ≡ fault_at_line n v = cc in
    (ap (λ (x : LineFault). x.line) same, ap (λ (x : LineFault). x.why) same)
