-- A text that is fed and ended gives the same as its lines.
use Rattle.std.proofs.Common.{◌≡◌, ℕ, Bool, true, false, List, [], ◌∷◌, ◌++◌, length, Some, None, refl, sym, ap, subst, ◌∙◌, inl, inr, arith, append_assoc}
use Rattle.std.specs.Prelude.{◌⊎◌, ◌==◌, nat_lt, is_some, IfOk, IfErr, Result, Ok, Err, if◌then◌else◌}
use Rattle.std.proofs.lemmas.Bool.{cases_Bool, ltb-true}
use Rattle.usbids_text.specs.declared.line.Why.TheVariants.{LineTooLong}
use Rattle.usbids_text.specs.declared.fault.LineFault.{LineFault}
use Rattle.usbids_text.specs.declared.fault.ReadFault.{ReadFault}
use Rattle.usbids_text.specs.declared.fault.ReadFault.TheVariants.{Line, NoMemory}
use Rattle.usbids_text.specs.Documents.{AreLinesOf, FaultAt}
use Rattle.usbids_text.specs.Entries.{TopEntry}
use Rattle.usbids_text.specs.Opens.{Open, none_open, document_so_far}
use Rattle.usbids_text.specs.Building.{open_of}
use Rattle.usbids_text.specs.Readers.{WasFed, reader_state}
use Rattle.usbids_text.specs.Held.{held_of}
use Rattle.usbids_text.proofs.InnerLemmas.{Pieces, lines_inner}
use Rattle.usbids_text.specs.declared.reader.Reader.{Reader}
use Rattle.usbids_text.specs.declared.taken.Taken.{Taken}
use Rattle.usbids_text.proofs.FeedLemmas.{fed_append}
use Rattle.usbids_text.proofs.PieceLemmas.{fed_faulty}
use Rattle.usbids_text.specs.Cut.{cut, lines, with_rest}
use Rattle.usbids_text.specs.Feeding.{Held, Fed, fed, line_done, refused, start, step, finished, with_last}
use Rattle.usbids_text.specs.Outcome.{done, over, held_after}
use Rattle.usbids_text.specs.Reading.{ReadsAs}
use Rattle.usbids_text.proofs.CutLemmas.{IsPart, is_part_push, cut_open, cut_line, fed_fault, fed_outcome, took_lf, took_more, took_long, line_done_long}
use Rattle.usbids_text.proofs.RunLemmas.{Good, Bad, verdict_of}

clash : (b : Bool) → b ≡ true → b ≡ false → ⊥
clash b e f = absurd cc

fed_pending : (p : List ℕ) (h : Held) (t : List ℕ) → IsPart p → is_some (fed (record { pending = p; held = h }) t).held.fault ≡ false → (fed (record { pending = p; held = h }) t).pending ≡ (cut (p ++ t)).1
unfolding fed
fed_pending p h [] part clear = sym (ap (λ (c : Pieces). c.1) (cut_open p part))
fed_pending p h (b ∷ t) part clear =
    elim (cases_Bool (is_some h.fault)) [
      | inl e ↦ let same = fed_fault (record { pending = p; held = h }) (b ∷ t) e in absurd (clash _ (ap (λ (k : Held). is_some k.fault) same ∙ e) clear)
      | inr e ↦ elim (cases_Bool (b == 10)) [
        | inl lf ↦ let same : fed (record { pending = p; held = h }) (b ∷ t) ≡ fed (record { pending = []; held = line_done h p }) t = ap (λ (x : Fed). fed x t) (took_lf p h b e lf) in
            ap (λ (x : Fed). x.pending) same ∙ (fed_pending [] (line_done h p) t tt (ap (λ (x : Fed). is_some x.held.fault) (sym same) ∙ clear) ∙ sym (ap (λ (c : Pieces). c.1) (cut_line p b t part lf)))
        | inr other ↦ elim (cases_Bool (nat_lt (length p) 65536)) [
          | inl room ↦ let same : fed (record { pending = p; held = h }) (b ∷ t) ≡ fed (record { pending = p ++ b ∷ []; held = h }) t = ap (λ (x : Fed). fed x t) (took_more p h b e other room) in
              ap (λ (x : Fed). x.pending) same ∙ (fed_pending (p ++ b ∷ []) h t (is_part_push p b part other) (ap (λ (x : Fed). is_some x.held.fault) (sym same) ∙ clear) ∙ ap (λ (l : List ℕ). (cut l).1) (append_assoc p (b ∷ []) t))
          | inr full ↦ let same : fed (record { pending = p; held = h }) (b ∷ t) ≡ fed (record { pending = []; held = refused h LineTooLong }) t = ap (λ (x : Fed). fed x t) (took_long p h b e other full) in
              absurd (clash _ (ap (λ (x : Fed). is_some x.held.fault) same ∙ ap (λ (k : Held). is_some k.fault) (fed_fault (record { pending = []; held = refused h LineTooLong }) t refl)) clear)
        ]
      ]
    ]

pub with_last_faulty : (h : Held) (rest : List ℕ) → is_some h.fault ≡ true → with_last h rest ≡ h
with_last_faulty h [] e = refl
with_last_faulty h (b ∷ t) e = rw e refl

pub over_open : (h : Held) (rest : List ℕ) → is_some h.fault ≡ false → nat_lt 65536 (length rest) ≡ true → over h rest ≡ with_last h rest
over_open h [] e long = absurd (let f = ltb-true 65536 0 long in omega arith)
over_open h (b ∷ t) e long = rw (e, long) (sym (line_done_long h (b ∷ t) (ltb-true 65536 (length (b ∷ t)) long)))

over_clear : (h : Held) (rest : List ℕ) → is_some (over h rest).fault ≡ false → over h rest ≡ h
over_clear h rest clear = elim (cases_Bool (is_some h.fault)) [
  | inl e ↦ rw e refl
  | inr e ↦ elim (cases_Bool (nat_lt 65536 (length rest))) [
    | inl long ↦ absurd (clash _ (rw (e, long) refl) clear)
    | inr short ↦ rw (e, short) refl
  ]
]

over_faulty : (h : Held) (rest : List ℕ) → is_some (over h rest).fault ≡ true → over h rest ≡ with_last h rest
over_faulty h rest faulty = elim (cases_Bool (is_some h.fault)) [
  | inl e ↦ rw e (sym (with_last_faulty h rest e))
  | inr e ↦ elim (cases_Bool (nat_lt 65536 (length rest))) [
    | inl long ↦ over_open h rest e long
    | inr short ↦ absurd (clash _ faulty (rw (e, short) e))
  ]
]

done_push : (h : Held) (ls : List (List ℕ)) (l : List ℕ) → done h (ls ++ l ∷ []) ≡ step (done h ls) l
unfolding done
done_push h [] l = refl
done_push h (x ∷ ls) l = done_push (if is_some h.fault then h else line_done h x) ls l

pub done_rest : (h : Held) (ls : List (List ℕ)) (rest : List ℕ) → done h (with_rest ls rest) ≡ with_last (done h ls) rest
done_rest h ls [] = refl
done_rest h ls (b ∷ t) = done_push h ls (b ∷ t)

finished_lines : (t : List ℕ) → finished (fed start t) ≡ done start.held (lines t)
unfolding finished lines held_after
finished_lines t =
    let h : Held = done start.held (cut t).0 in
    let rest : List ℕ = (cut t).1 in
    let ends : (fed start t).held ≡ over h rest = fed_outcome [] start.held t tt (omega arith) in
    elim (cases_Bool (is_some (fed start t).held.fault)) [
      | inl e ↦ with_last_faulty (fed start t).held (fed start t).pending e ∙ (ends ∙ (over_faulty h rest (ap (λ (k : Held). is_some k.fault) (sym ends) ∙ e) ∙ sym (done_rest start.held (cut t).0 rest)))
      | inr e ↦ ap (λ (k : Held). with_last k (fed start t).pending) (ends ∙ over_clear h rest (ap (λ (k : Held). is_some k.fault) (sym ends) ∙ e))
          ∙ (ap (λ (l : List ℕ). with_last h l) (fed_pending [] start.held t tt e) ∙ sym (done_rest start.held (cut t).0 rest))
    ]

-- at the end the reader has the text's document or its fault
pub ended_at : (t : List ℕ) (h : Held) → h ≡ finished (fed start t) → Good h (lines t) ⊎ Bad h (lines t)
ended_at t h e = subst (λ (k : Held). Good k (lines t) ⊎ Bad k (lines t)) (sym (e ∙ finished_lines t)) (verdict_of (lines t) (lines_inner t))

pub answers_ok : (t : List ℕ) (h : Held) (doc : List TopEntry) → h ≡ finished (fed start t) → h.fault ≡ None → doc ≡ document_so_far h.built → ReadsAs t (Ok doc)
answers_ok t h doc e clear is = elim (ended_at t h e) [
  | inl g ↦ subst (λ (d : List TopEntry). AreLinesOf (lines t) d) (sym is) g.lines_of
  | inr b ↦ absurd (let w = b.is in cc)
]

pub answers_err : (t : List ℕ) (h : Held) (f : ReadFault) → h ≡ finished (fed start t) → h.fault ≡ Some f → ReadsAs t (Err f)
answers_err t h NoMemory e is = tt
answers_err t h (Line f) e is = elim (ended_at t h e) [
  | inl g ↦ absurd (let w = g.clear in cc)
  | inr b ↦ let same : b.fault ≡ f = let w = b.is in cc in subst (λ (g : LineFault). FaultAt t g.line g.why) same b.faulty
]

pub fed_start : (p : List ℕ) (o : Open) → p ≡ [] → o ≡ none_open [] → record { pending = p; held = record { line = 1; built = o; fault = None } } ≡ fed start []
unfolding fed
fed_start p o e f = ap (λ (l : List ℕ). record { pending = l; held = record { line = 1; built = o; fault = None } }) e ∙ ap (λ (x : Open). record { pending = []; held = record { line = 1; built = x; fault = None } }) f

pub fed_more : (old new : Reader) (t piece : List ℕ) → WasFed old t → (new.taken.fault ≡ Some NoMemory) ⊎ (reader_state new ≡ fed (reader_state old) piece) → WasFed new (t ++ piece)
fed_more old new t piece s (inl m) = inl m
fed_more old new t piece (inl m) (inr e) = inl (ap (λ (x : Fed). x.held.fault) (e ∙ fed_faulty (reader_state old) piece (ap is_some m)) ∙ m)
fed_more old new t piece (inr s) (inr e) = inr (e ∙ (ap (λ (x : Fed). fed x piece) s ∙ sym (fed_append start t piece)))

pub fed_stuck : (old : Reader) (t piece : List ℕ) (f : ReadFault) → old.taken.fault ≡ Some f → WasFed old t → WasFed old (t ++ piece)
fed_stuck old t piece f e s = fed_more old old t piece s (inr (sym (fed_faulty (reader_state old) piece (ap is_some e))))

finished_faulty : (r : Reader) → is_some r.taken.fault ≡ true → finished (reader_state r) ≡ held_of r.taken
unfolding finished
finished_faulty r e = with_last_faulty (held_of r.taken) r.pending.items e

memory : (f : ReadFault) (t : List ℕ) → f ≡ NoMemory → ReadsAs t (Err f)
memory f t e = subst (λ (g : ReadFault). ReadsAs t (Err g)) (sym e) tt

pub finish_stuck : (r : Reader) (t : List ℕ) (f : ReadFault) → WasFed r t → r.taken.fault ≡ Some f → ReadsAs t (Err f)
finish_stuck r t f (inl m) e = memory f t (cc)
finish_stuck r t f (inr s) e = answers_err t (held_of r.taken) f (sym (finished_faulty r (ap is_some e)) ∙ ap finished s) e

abbrev pub Ended : Taken → Result (List TopEntry) ReadFault → Type 0
Ended taken result = IfOk result (λ doc. (taken.fault ≡ None) × (doc ≡ document_so_far (open_of taken.builder))) × IfErr result (λ e. (e ≡ NoMemory) ⊎ (taken.fault ≡ Some e))

finish_err : (r : Reader) (t : List ℕ) (taken : Taken) (f : ReadFault) → WasFed r t → held_of taken ≡ finished (reader_state r) → taken.fault ≡ Some f → ReadsAs t (Err f)
finish_err r t taken f (inl m) e is =
    let gone : taken.fault ≡ Some NoMemory = ap (λ (k : Held). k.fault) (e ∙ finished_faulty r (ap is_some m)) ∙ m in
    memory f t (cc)
finish_err r t taken f (inr s) e is = answers_err t (held_of taken) f (e ∙ ap finished s) is

pub finish_answer : (r : Reader) (t : List ℕ) (taken : Taken) (result : Result (List TopEntry) ReadFault) → WasFed r t → held_of taken ≡ finished (reader_state r) → Ended taken result → ReadsAs t result
finish_answer r t taken (Ok doc) (inl m) e h =
    let gone : taken.fault ≡ Some NoMemory = ap (λ (k : Held). k.fault) (e ∙ finished_faulty r (ap is_some m)) ∙ m in
    let none = h.0.0 in absurd cc
finish_answer r t taken (Ok doc) (inr s) e h = answers_ok t (held_of taken) doc (e ∙ ap finished s) h.0.0 h.0.1
finish_answer r t taken (Err f) s e h = elim h.1 [
  | inl m ↦ memory f t m
  | inr is ↦ finish_err r t taken f s e is
]
