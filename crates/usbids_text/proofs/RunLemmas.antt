-- Lines give their document or their first fault.
use Rattle.std.proofs.Common.{◌≡◌, ℕ, true, List, [], ◌∷◌, ◌++◌, length, Option, Some, None, refl, sym, ap, subst, ◌∙◌, inl, inr, arith, append_assoc, length-append}
use Rattle.std.specs.Prelude.{◌⊎◌, Result, Ok, Err, is_some}
use Rattle.std.proofs.lemmas.List.{append-nil}
use Rattle.usbids_text.specs.declared.line.Why.{Why}
use Rattle.usbids_text.specs.declared.fault.LineFault.{LineFault}
use Rattle.usbids_text.specs.declared.fault.ReadFault.TheVariants.{Line}
use Rattle.std.specs.List.{list_all}
use Rattle.usbids_text.specs.Words.{is_inner}
use Rattle.usbids_text.specs.Entries.{EntryLine, preorder, tops_lines}
use Rattle.usbids_text.specs.Lines.{line_class}
use Rattle.usbids_text.specs.Documents.{entries, with_line, AreLinesOf, FaultIn, line_fault, next}
use Rattle.usbids_text.specs.Opens.{document_so_far, misplaced_in}
use Rattle.usbids_text.specs.Feeding.{Held, line_done, with_class, with_fault, refused, start}
use Rattle.usbids_text.specs.Outcome.{done}
use Rattle.usbids_text.proofs.CutLemmas.{done_fault}
use Rattle.usbids_text.proofs.DocumentLemmas.{IsOpen, puts, puts_sound, misplaced_same}
use Rattle.usbids_text.proofs.ClassLemmas.{class_entry}
use Rattle.usbids_text.proofs.InnerLemmas.{AreInner}

abbrev pub joined : Option (List EntryLine) → Option (List EntryLine) → Option (List EntryLine)
joined None b = None
joined (Some x) None = None
joined (Some x) (Some y) = Some (x ++ y)

with_line_joined : (c : Result (Option EntryLine) Why) (a b : Option (List EntryLine)) → with_line c (joined a b) ≡ joined (with_line c a) b
with_line_joined (Err why) a b = refl
with_line_joined (Ok None) a b = refl
with_line_joined (Ok (Some entry_line)) None b = refl
with_line_joined (Ok (Some entry_line)) (Some x) None = refl
with_line_joined (Ok (Some entry_line)) (Some x) (Some y) = refl

joined_nil : (b : Option (List EntryLine)) → b ≡ joined (Some []) b
joined_nil None = refl
joined_nil (Some y) = refl

pub entries_append : (a b : List (List ℕ)) → entries (a ++ b) ≡ joined (entries a) (entries b)
unfolding entries
entries_append [] b = joined_nil (entries b)
entries_append (l ∷ a) b = ap (with_line (line_class l)) (entries_append a b) ∙ with_line_joined (line_class l) (entries a) (entries b)

entries_push : (ls : List (List ℕ)) (l : List ℕ) (entry_lines : List EntryLine) → entries ls ≡ Some entry_lines → entries (ls ++ l ∷ []) ≡ joined (Some entry_lines) (with_line (line_class l) (Some []))
unfolding entries
entries_push ls l entry_lines e = entries_append ls (l ∷ []) ∙ ap (λ (r : Option (List EntryLine)). joined r (with_line (line_class l) (Some []))) e

-- no line was faulty
pub record Good (h : Held) (ls : List (List ℕ)) : Type 0 where
  pub opens : IsOpen h.built
  pub lines_of : AreLinesOf ls (document_so_far h.built)
  pub number : h.line ≡ next (length ls)
  pub clear : h.fault ≡ None

pub record Bad (h : Held) (ls : List (List ℕ)) : Type 0 where
  pub fault : LineFault
  pub is : h.fault ≡ Some (Line fault)
  pub faulty : FaultIn ls fault.line fault.why

number_push : (n : ℕ) (ls : List (List ℕ)) (l : List ℕ) → n ≡ next (length ls) → next n ≡ next (length (ls ++ l ∷ []))
number_push n ls l e = omega (arith, length-append ls (l ∷ []))

step_faulty : (h : Held) (ls : List (List ℕ)) (l : List ℕ) (why : Why) → Good h ls → line_fault (document_so_far h.built) (line_class l) ≡ Some why → Bad (refused h why) (ls ++ l ∷ [])
step_faulty h ls l why good e = record {
  fault = record { line = h.line; why = why };
  is = refl;
  faulty = record { before = ls; line = l; after = []; doc = document_so_far h.built; cut = refl; number = good.number; lines_of = good.lines_of; faulty = e };
}

step_entry : (h : Held) (ls : List (List ℕ)) (l : List ℕ) (entry_line : EntryLine) (o : Option Why) → Good h ls → list_all is_inner l ≡ true → line_class l ≡ Ok (Some entry_line) → misplaced_in h.built entry_line ≡ o → Good (with_fault h entry_line o) (ls ++ l ∷ []) ⊎ Bad (with_fault h entry_line o) (ls ++ l ∷ [])
step_entry h ls l entry_line None good inner is place =
    let p = puts h.built entry_line place in
    inl (record {
      opens = p.opens;
      lines_of = record {
        sound = puts_sound h.built entry_line place (class_entry l entry_line inner is) good.lines_of.sound;
        entry_lines = entries_push ls l (preorder (document_so_far h.built)) good.lines_of.entry_lines ∙ (ap (λ (c : Result (Option EntryLine) Why). joined (Some (preorder (document_so_far h.built))) (with_line c (Some []))) is ∙ ap (λ (r : List EntryLine). Some r) (sym p.entry_lines));
      };
      number = number_push h.line ls l good.number;
      clear = good.clear;
    })
step_entry h ls l entry_line (Some why) good inner is place =
    inr (step_faulty h ls l why good (ap (line_fault (document_so_far h.built)) is ∙ (sym (misplaced_same h.built entry_line good.opens) ∙ place)))

step_class : (h : Held) (ls : List (List ℕ)) (l : List ℕ) (c : Result (Option EntryLine) Why) → Good h ls → list_all is_inner l ≡ true → line_class l ≡ c → Good (with_class h c) (ls ++ l ∷ []) ⊎ Bad (with_class h c) (ls ++ l ∷ [])
step_class h ls l (Err why) good inner is = inr (step_faulty h ls l why good (ap (line_fault (document_so_far h.built)) is))
step_class h ls l (Ok None) good inner is = inl (record {
  opens = good.opens;
  lines_of = record {
    sound = good.lines_of.sound;
    entry_lines = entries_push ls l (preorder (document_so_far h.built)) good.lines_of.entry_lines ∙ (ap (λ (c : Result (Option EntryLine) Why). joined (Some (preorder (document_so_far h.built))) (with_line c (Some []))) is ∙ ap (λ (r : List EntryLine). Some r) (append-nil (preorder (document_so_far h.built))));
  };
  number = number_push h.line ls l good.number;
  clear = good.clear;
})
step_class h ls l (Ok (Some entry_line)) good inner is = step_entry h ls l entry_line (misplaced_in h.built entry_line) good inner is refl

pub step_line : (h : Held) (ls : List (List ℕ)) (l : List ℕ) → Good h ls → list_all is_inner l ≡ true → Good (line_done h l) (ls ++ l ∷ []) ⊎ Bad (line_done h l) (ls ++ l ∷ [])
unfolding line_done
step_line h ls l good inner = step_class h ls l (line_class l) good inner refl

unfoldable pub more-lines : (ls more : List (List ℕ)) (n : ℕ) (why : Why) → FaultIn ls n why → FaultIn (ls ++ more) n why
more-lines ls more n why f = record {
  before = f.before;
  line = f.line;
  after = f.after ++ more;
  doc = f.doc;
  cut = ap (λ (x : List (List ℕ)). x ++ more) f.cut ∙ append_assoc f.before (f.line ∷ f.after) more;
  number = f.number;
  lines_of = f.lines_of;
  faulty = f.faulty;
}

pub done_good : (h : Held) (l : List ℕ) (ls : List (List ℕ)) → h.fault ≡ None → done h (l ∷ ls) ≡ done (line_done h l) ls
unfolding done
done_good h l ls e = rw e refl

pub verdict : (h : Held) (before ls : List (List ℕ)) → Good h before → AreInner ls → Good (done h ls) (before ++ ls) ⊎ Bad (done h ls) (before ++ ls)
unfolding done
verdict h before [] good inner = inl (rw (append-nil before) good)
verdict h before (l ∷ ls) good inner =
    let assoc : (before ++ l ∷ []) ++ ls ≡ before ++ l ∷ ls = append_assoc before (l ∷ []) ls in
    let same = done_good h l ls good.clear in
    subst (λ (k : Held). Good k (before ++ l ∷ ls) ⊎ Bad k (before ++ l ∷ ls)) (sym same)
    (subst (λ (x : List (List ℕ)). Good (done (line_done h l) ls) x ⊎ Bad (done (line_done h l) ls) x) assoc
    (elim (step_line h before l good inner.0) [
      | inl g ↦ verdict (line_done h l) (before ++ l ∷ []) ls g inner.1
      | inr b ↦ inr (subst (λ (k : Held). Bad k ((before ++ l ∷ []) ++ ls)) (sym (done_fault (line_done h l) ls (ap is_some b.is)))
          (record { fault = b.fault; is = b.is; faulty = more-lines (before ++ l ∷ []) ls b.fault.line b.fault.why b.faulty }))
    ]))

start_good : Good start.held []
unfolding entries tops_lines
start_good = record { opens = refl; lines_of = record { sound = record { fours = refl; each = refl }; entry_lines = refl }; number = refl; clear = refl }

pub verdict_of : (ls : List (List ℕ)) → AreInner ls → Good (done start.held ls) ls ⊎ Bad (done start.held ls) ls
verdict_of ls inner = verdict start.held [] ls start_good inner
