-- What a reader returns before the end.
use Rattle.std.proofs.Common.{◌≡◌, ℕ, ◌+◌, ◌<◌, ◌≤◌, true, List, [], ◌∷◌, ◌++◌, length, Option, Some, None, refl, sym, ap, subst, ◌∙◌, inl, inr, arith, length-append}
use Rattle.std.specs.Prelude.{◌⊎◌, nat_lt, is_some, Err}
use Rattle.std.proofs.lemmas.Bool.{cases_Bool, lt-ltb, ltb-true}
use Rattle.usbids_text.specs.declared.line.Why.{Why}
use Rattle.usbids_text.specs.declared.line.Why.TheVariants.{LineTooLong}
use Rattle.usbids_text.specs.declared.fault.LineFault.{LineFault}
use Rattle.usbids_text.specs.declared.fault.ReadFault.{ReadFault}
use Rattle.usbids_text.specs.declared.fault.ReadFault.TheVariants.{Line, NoMemory}
use Rattle.usbids_text.specs.declared.reader.Reader.{Reader}
use Rattle.usbids_text.specs.Lines.{line_class}
use Rattle.usbids_text.specs.Documents.{FaultIn, line_fault}
use Rattle.usbids_text.specs.Opens.{document_so_far}
use Rattle.usbids_text.specs.Readers.{WasFed, reader_state}
use Rattle.usbids_text.proofs.InnerLemmas.{AreInner, cut_inner, with_rest_inner}
use Rattle.usbids_text.specs.Cut.{cut, lines, with_rest}
use Rattle.usbids_text.specs.Feeding.{Held, Fed, refused, start, with_last}
use Rattle.usbids_text.specs.Outcome.{done, over, held_after}
use Rattle.usbids_text.specs.Reading.{AnswersSoFar, SeenFault}
use Rattle.usbids_text.proofs.CutLemmas.{fed_outcome}
use Rattle.usbids_text.proofs.FinishLemmas.{done_rest, over_open, with_last_faulty}
use Rattle.usbids_text.proofs.UniqueLemmas.{fault_found}
use Rattle.std.proofs.lemmas.Bool.{cases_lt}
use Rattle.usbids_text.proofs.RunLemmas.{Good, Bad, verdict_of, more-lines}

-- the fault of a complete line, or of an incomplete line that is too long
abbrev Seen : List (List ℕ) → List ℕ → ℕ → Why → Type 0
Seen ls rest n why = (f : FaultIn (with_rest ls rest) n why) × ((length f.before < length ls) ⊎ (65536 < length f.line))

before_shorter : (ls : List (List ℕ)) (n : ℕ) (why : Why) (f : FaultIn ls n why) → length f.before < length ls
before_shorter ls n why f = omega (arith, ap length f.cut, length-append f.before (f.line ∷ f.after))

seen_whole : (ls : List (List ℕ)) (rest : List ℕ) (n : ℕ) (why : Why) → FaultIn ls n why → Seen ls rest n why
unfolding more-lines
seen_whole ls [] n why f = (f, inl (before_shorter ls n why f))
seen_whole ls (b ∷ t) n why f = (more-lines ls ((b ∷ t) ∷ []) n why f, inl (before_shorter ls n why f))

class_long : (l : List ℕ) → nat_lt 65536 (length l) ≡ true → line_class l ≡ Err LineTooLong
unfolding line_class
class_long l long = rw long refl

seen_rest : (h : Held) (ls : List (List ℕ)) (rest : List ℕ) → Good h ls → nat_lt 65536 (length rest) ≡ true → Seen ls rest h.line LineTooLong
seen_rest h ls [] g long = absurd (let f = ltb-true 65536 0 long in omega arith)
seen_rest h ls (b ∷ t) g long = (record { before = ls; line = b ∷ t; after = []; doc = document_so_far h.built; cut = refl; number = g.number; lines_of = g.lines_of; faulty = ap (line_fault (document_so_far h.built)) (class_long (b ∷ t) long) }, inr (ltb-true 65536 (length (b ∷ t)) long))

abbrev at_line : ℕ → Why → LineFault
at_line n why = record { line = n; why = why }

seen_over : (h : Held) (ls : List (List ℕ)) (rest : List ℕ) (f : LineFault) → Good h ls ⊎ Bad h ls → (over h rest).fault ≡ Some (Line f) → Seen ls rest f.line f.why
seen_over h ls rest f (inr b) e =
    let same : over h rest ≡ h = rw (ap is_some b.is) refl in
    let found : Some (Line f) ≡ Some (Line b.fault) = sym e ∙ (ap (λ (k : Held). k.fault) same ∙ b.is) in
    let one : b.fault ≡ f = cc in
    subst (λ (x : LineFault). Seen ls rest x.line x.why) one (seen_whole ls rest b.fault.line b.fault.why b.faulty)
seen_over h ls rest f (inl g) e = elim (cases_Bool (nat_lt 65536 (length rest))) [
  | inl long ↦
      let same : over h rest ≡ refused h LineTooLong = rw (ap is_some g.clear, long) refl in
      let found : Some (Line (record { line = h.line; why = LineTooLong })) ≡ Some (Line f) = sym (ap (λ (k : Held). k.fault) same) ∙ e in
      let one : at_line h.line LineTooLong ≡ f = cc in
      subst (λ (x : LineFault). Seen ls rest x.line x.why) one (seen_rest h ls rest g long)
  | inr short ↦
      let same : over h rest ≡ h = rw (ap is_some g.clear, short) refl in
      let none : Some (Line f) ≡ None = sym e ∙ (ap (λ (k : Held). k.fault) same ∙ g.clear) in absurd cc
]

so_far_is : (r : Reader) (t : List ℕ) (o : Option ReadFault) → WasFed r t → r.taken.fault ≡ o → AnswersSoFar t o
unfolding held_after lines
so_far_is r t None s e = tt
so_far_is r t (Some NoMemory) s e = tt
so_far_is r t (Some (Line f)) (inl m) e = absurd cc
so_far_is r t (Some (Line f)) (inr s) e =
    let held : over (done start.held (cut t).0) (cut t).1 ≡ (reader_state r).held = sym (fed_outcome [] start.held t tt (omega arith)) ∙ ap (λ (x : Fed). x.held) (sym s) in
    seen_over (done start.held (cut t).0) (cut t).0 (cut t).1 f (verdict_of (cut t).0 (cut_inner t).0) (ap (λ (k : Held). k.fault) held ∙ e)

pub answers_so_far : (r : Reader) (t : List ℕ) → WasFed r t → AnswersSoFar t r.taken.fault
answers_so_far r t s = so_far_is r t r.taken.fault s refl

abbrev Texts : Type 0
Texts = List (List ℕ)

earlier : (a b : Texts) (x : List ℕ) (ls : Texts) (r : List ℕ) → a ++ x ∷ b ≡ ls ++ r ∷ [] → length a < length ls → (more : Texts) × (ls ≡ a ++ x ∷ more)
earlier [] b x [] r e h = absurd (omega arith)
earlier [] b x (y ∷ ys) r e h = (ys, cc)
earlier (z ∷ a) b x [] r e h = absurd (omega arith)
earlier (z ∷ a) b x (y ∷ ys) r e h =
    let tails : a ++ x ∷ b ≡ ys ++ r ∷ [] = cc in
    let rest = earlier a b x ys r tails (omega arith) in
    (rest.0, (let q = rest.1 in cc))

at_last : (a b : Texts) (x : List ℕ) (ls : Texts) (r : List ℕ) → a ++ x ∷ b ≡ ls ++ r ∷ [] → length ls ≤ length a → x ≡ r
at_last [] b x [] r e h = cc
at_last [] b x (y ∷ ys) r e h = absurd (omega arith)
at_last (z ∷ a) b x [] r e h = absurd (let n : length a + length (x ∷ b) ≡ 0 = sym (length-append a (x ∷ b)) ∙ (let q : a ++ x ∷ b ≡ [] = cc in ap length q) in omega arith)
at_last (z ∷ a) b x (y ∷ ys) r e h = at_last a b x ys r (cc) (omega arith)

in_whole : (ls : Texts) (rest : List ℕ) (n : ℕ) (why : Why) (f : FaultIn (with_rest ls rest) n why) → length f.before < length ls → FaultIn ls n why
in_whole ls [] n why f h = f
in_whole ls (b ∷ t) n why f h =
    let cut = earlier f.before f.after f.line ls (b ∷ t) (sym f.cut) h in
    record { before = f.before; line = f.line; after = cut.0; doc = f.doc; cut = cut.1; number = f.number; lines_of = f.lines_of; faulty = f.faulty }

the_rest : (ls : Texts) (rest : List ℕ) (n : ℕ) (why : Why) (f : FaultIn (with_rest ls rest) n why) → length ls ≤ length f.before → f.line ≡ rest
the_rest ls [] n why f h = absurd (let s = before_shorter ls n why f in omega arith)
the_rest ls (b ∷ t) n why f h = at_last f.before f.after f.line ls (b ∷ t) (sym f.cut) h

over_whole : (h : Held) (rest : List ℕ) (n : ℕ) (why : Why) → h.fault ≡ Some (Line (at_line n why)) → (over h rest).fault ≡ Some (Line (at_line n why))
over_whole h rest n why e = let same : over h rest ≡ h = rw (ap is_some e) refl in ap (λ (k : Held). k.fault) same ∙ e

over_long : (h : Held) (rest : List ℕ) → nat_lt 65536 (length rest) ≡ true → over h rest ≡ with_last h rest
over_long h rest long = elim (cases_Bool (is_some h.fault)) [
  | inl e ↦ (let same : over h rest ≡ h = rw e refl in same ∙ sym (with_last_faulty h rest e))
  | inr e ↦ over_open h rest e long
]

long_rest : (ls : Texts) (rest : List ℕ) (n : ℕ) (why : Why) → AreInner (with_rest ls rest) → (f : FaultIn (with_rest ls rest) n why) → length ls ≤ length f.before → 65536 < length f.line → (over (done start.held ls) rest).fault ≡ Some (Line (at_line n why))
long_rest ls rest n why inner f late long =
    let is : length f.line ≡ length rest = ap length (the_rest ls rest n why f late) in
    let test : nat_lt 65536 (length rest) ≡ true = lt-ltb 65536 (length rest) (omega arith) in
    ap (λ (k : Held). k.fault) (over_long (done start.held ls) rest test ∙ sym (done_rest start.held ls rest)) ∙ fault_found (with_rest ls rest) n why inner f

seen_found : (ls : Texts) (rest : List ℕ) (n : ℕ) (why : Why) → AreInner ls → AreInner (with_rest ls rest) → Seen ls rest n why → (over (done start.held ls) rest).fault ≡ Some (Line (at_line n why))
seen_found ls rest n why whole_inner inner s = elim (cases_lt (length s.0.before) (length ls)) [
  | inl early ↦ over_whole (done start.held ls) rest n why (fault_found ls n why whole_inner (in_whole ls rest n why s.0 early))
  | inr late ↦ elim s.1 [
    | inl early ↦ absurd (omega arith)
    | inr long ↦ long_rest ls rest n why inner s.0 late long
  ]
]

-- the reader has a fault that is seen
pub seen_is : (r : Reader) (t : List ℕ) (n : ℕ) (why : Why) → WasFed r t → SeenFault t n why → (r.taken.fault ≡ Some NoMemory) ⊎ (r.taken.fault ≡ Some (Line (record { line = n; why = why })))
unfolding held_after lines
seen_is r t n why (inl m) seen = inl m
seen_is r t n why (inr s) seen =
    let held : over (done start.held (cut t).0) (cut t).1 ≡ (reader_state r).held = sym (fed_outcome [] start.held t tt (omega arith)) ∙ ap (λ (x : Fed). x.held) (sym s) in
    inr (ap (λ (k : Held). k.fault) (sym held) ∙ seen_found (cut t).0 (cut t).1 n why (cut_inner t).0 (with_rest_inner (cut t).0 (cut t).1 (cut_inner t).0 (cut_inner t).1) seen)
