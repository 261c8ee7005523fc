-- Reading the lines of a page one by one.
use Rattle.std.proofs.Common.{◌≡◌, ℕ, suc, ◌+◌, ◌<◌, List, [], ◌∷◌, ◌++◌, length, drop, get_or, Result, Ok, Err, refl, sym, subst, ap, ◌∙◌, append_assoc, drop-cons, add-one}
use Rattle.std.proofs.lemmas.List.{append-nil}
use Rattle.std.proofs.Math.Seq.{drop-length}
use Rattle.serde_json.specs.Data.{Data, Items, item}
use Rattle.serde_json.specs.View.{view, items_view}
use Rattle.serde_json.specs.declared.value.Value.{Value}
use Rattle.etcd_messages.specs.declared.fault.AnswerFault.{AnswerFault}
use Rattle.etcd_messages.specs.declared.fault.Unread.{Unread}
use Rattle.etcd_messages.specs.declared.fault.Unread.TheVariants.{Bad, NoMemory}
use Rattle.etcd_messages.specs.Answers.{numbered_line, lines_from}
use Rattle.etcd_messages.specs.Faults.{GivesReading, ◌|>◌}

abbrev pub Read : Type 0
Read = Result (List (List ℕ)) AnswerFault

-- puts the lines that were read before in front of the later ones
abbrev pub with_front : List (List ℕ) → Read → Read
with_front front found = found |> λ others. Ok (front ++ others)

pub value_step : (values : List Value) (i : ℕ) (value : Value) → i < length values → value ≡ get_or values i value → items_view (drop i values) ≡ item (view value) (items_view (drop (i + 1) values))
value_step values i value within is = rw add-one (ap items_view (drop-cons values i value within) ∙ ap (λ (x : Value). item (view x) (items_view (drop (suc i) values))) (sym is))

front_grows : (front : List (List ℕ)) (line : List ℕ) (found : Read) → with_front front (found |> λ lines. Ok (line ∷ lines)) ≡ with_front (front ++ line ∷ []) found
front_grows front line (Err fault) = refl
front_grows front line (Ok others) = ap (λ (ys : List (List ℕ)). let r : Read = Ok ys in r) (sym (append_assoc front (line ∷ []) others))

pub lines_more : (name : List ℕ) (n : ℕ) (front : List (List ℕ)) (line : List ℕ) (first : Data) (others : Items) → numbered_line name n first ≡ Ok line → with_front front (lines_from name n (item first others)) ≡ with_front (front ++ line ∷ []) (lines_from name (n + 1) others)
unfolding lines_from
lines_more name n front line first others is =
    ap (λ (found : Result (List ℕ) AnswerFault). with_front front (found |> λ x. lines_from name (n + 1) others |> λ xs. Ok (x ∷ xs))) is
    ∙ front_grows front line (lines_from name (n + 1) others)

pub lines_bad : (name : List ℕ) (n : ℕ) (front : List (List ℕ)) (fault : AnswerFault) (first : Data) (others : Items) → numbered_line name n first ≡ Err fault → with_front front (lines_from name n (item first others)) ≡ Err fault
unfolding lines_from
lines_bad name n front fault first others is =
    ap (λ (found : Result (List ℕ) AnswerFault). with_front front (found |> λ x. lines_from name (n + 1) others |> λ xs. Ok (x ∷ xs))) is

pub lines_end : (name : List ℕ) (n : ℕ) (front : List (List ℕ)) (values : List Value) (i : ℕ) → i ≡ length values → with_front front (lines_from name n (items_view (drop i values))) ≡ Ok front
unfolding lines_from
lines_end name n front values i e = rw (e, drop-length values) (ap (λ (xs : List (List ℕ)). let r : Read = Ok xs in r) (append-nil front))

-- the fault of the next line is that of all
pub bad_line : (name : List ℕ) (n : ℕ) (front : List (List ℕ)) (first : Data) (others : Items) (unread : Unread) (whole : Read) → with_front front (lines_from name n (item first others)) ≡ whole
    → (let r : Result (List ℕ) Unread = Err unread in GivesReading r (numbered_line name n first)) → (let r : Result (List (List ℕ)) Unread = Err unread in GivesReading r whole)
bad_line name n front first others (Bad fault) whole e is = sym e ∙ lines_bad name n front fault first others is
bad_line name n front first others NoMemory whole e is = tt
