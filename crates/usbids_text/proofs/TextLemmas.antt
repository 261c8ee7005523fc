-- The text of several entries.
use Rattle.std.proofs.Common.{◌≡◌, ℕ, ◌-◌, List, [], ◌∷◌, ◌++◌, drop, Option, Some, refl, sym, ap, ◌∙◌, append_assoc}
use Rattle.std.specs.Prelude.{Result, codes}
use Rattle.std.proofs.lemmas.List.{append-nil}
use Rattle.usbnum_core.specs.Number.{digits_of}
use Rattle.usbids_text.specs.Entries.{EntryLine, LeafEntry, MidEntry, TopEntry, leaf_line, mid_line, top_line, leaves_lines, mids_lines, tops_lines}
use Rattle.usbids_text.specs.Gathering.{Gathers}
use Rattle.usbids_text.specs.Writing.{front, code_text, gap, line_text, entry_text, lines_text, date_text, time_text, stamp_text}
use Rattle.usbids_text.specs.Moments.{Moment}
use Rattle.usbids_text.proofs.EntryLemmas.{leaves_lines_append, mids_lines_append, tops_lines_append}
use Rattle.usbids_text.proofs.GatherLemmas.{IsInTurn, gathers_as}

lines_text_append : (a b : List EntryLine) → lines_text (a ++ b) ≡ lines_text a ++ lines_text b
unfolding lines_text
lines_text_append [] b = refl
lines_text_append (r ∷ a) b = ap (λ (t : List ℕ). entry_text r ++ t) (lines_text_append a b) ∙ sym (append_assoc (entry_text r) (lines_text a) (lines_text b))

abbrev pub leaves_text : List LeafEntry → List ℕ
leaves_text leaves = lines_text (leaves_lines leaves)

abbrev pub mids_text : List MidEntry → List ℕ
mids_text mids = lines_text (mids_lines mids)

abbrev pub tops_text : List TopEntry → List ℕ
tops_text tops = lines_text (tops_lines tops)

pub leaves_turn : IsInTurn leaves_text
unfolding lines_text leaves_lines
leaves_turn = record { none = refl; more = λ a b. ap lines_text (leaves_lines_append a b) ∙ lines_text_append (leaves_lines a) (leaves_lines b) }

pub mids_turn : IsInTurn mids_text
unfolding lines_text mids_lines
mids_turn = record { none = refl; more = λ a b. ap lines_text (mids_lines_append a b) ∙ lines_text_append (mids_lines a) (mids_lines b) }

pub tops_turn : IsInTurn tops_text
unfolding lines_text tops_lines
tops_turn = record { none = refl; more = λ a b. ap lines_text (tops_lines_append a b) ∙ lines_text_append (tops_lines a) (tops_lines b) }

pub leaf_text : (l : LeafEntry) → entry_text (leaf_line l) ≡ leaves_text (l ∷ [])
unfolding lines_text leaves_lines
leaf_text l = sym (append-nil (entry_text (leaf_line l)))

pub mid_text : (m : MidEntry) → entry_text (mid_line m) ++ leaves_text m.leaves ≡ mids_text (m ∷ [])
unfolding lines_text mids_lines
mid_text m = ap (λ (r : List EntryLine). entry_text (mid_line m) ++ lines_text r) (sym (append-nil (leaves_lines m.leaves)))

pub top_text : (t : TopEntry) → entry_text (top_line t) ++ mids_text t.mids ≡ tops_text (t ∷ [])
unfolding lines_text tops_lines
top_text t = ap (λ (r : List EntryLine). entry_text (top_line t) ++ lines_text r) (sym (append-nil (mids_lines t.mids)))

-- a line in its parts
pub line_parts : (tag space : List ℕ) (digits code : ℕ) (name : List ℕ) → (tag ++ (space ++ code_text digits code)) ++ (gap name ++ (name ++ 10 ∷ [])) ≡ line_text (tag ++ space) digits code name ++ 10 ∷ []
unfolding line_text
line_parts tag space digits code name =
    let c : List ℕ = code_text digits code in
    append_assoc tag (space ++ c) (gap name ++ (name ++ 10 ∷ []))
    ∙ (ap (λ (t : List ℕ). tag ++ t) (append_assoc space c (gap name ++ (name ++ 10 ∷ [])))
    ∙ (sym (append_assoc tag space (c ++ (gap name ++ (name ++ 10 ∷ []))))
    ∙ (ap (λ (t : List ℕ). (tag ++ space) ++ t) (ap (λ (t : List ℕ). c ++ t) (sym (append_assoc (gap name) name (10 ∷ []))) ∙ sym (append_assoc c (gap name ++ name) (10 ∷ [])))
    ∙ sym (append_assoc (tag ++ space) (c ++ (gap name ++ name)) (10 ∷ [])))))

-- a line written from parts that are an entry's
pub line_of_entry : {A E : Type 0} (r : Result A E) (c d : Option (List ℕ)) (h k : List ℕ) (f g : ℕ) (entry_line : EntryLine) (before : List ℕ) (digits code : ℕ) (name : List ℕ) → before ≡ front entry_line.depth → digits ≡ entry_line.digits → code ≡ entry_line.code → name ≡ entry_line.name → Gathers c h d k f g r (line_text before digits code name ++ 10 ∷ []) → Gathers c h d k f g r (entry_text entry_line)
unfolding entry_text
line_of_entry r c d h k f g entry_line before digits code name b e n m w =
    gathers_as r c d h k (line_text before digits code name ++ 10 ∷ []) (line_text (front entry_line.depth) entry_line.digits entry_line.code entry_line.name ++ 10 ∷ []) f g
    (ap (λ (t : List ℕ). line_text t digits code name ++ 10 ∷ []) b
    ∙ (ap (λ (x : ℕ). line_text (front entry_line.depth) x code name ++ 10 ∷ []) e
    ∙ (ap (λ (x : ℕ). line_text (front entry_line.depth) entry_line.digits x name ++ 10 ∷ []) n
    ∙ ap (λ (t : List ℕ). line_text (front entry_line.depth) entry_line.digits entry_line.code t ++ 10 ∷ []) m))) w

pub digits_text : (digits code : ℕ) (all text : List ℕ) → all ≡ digits_of code → text ≡ drop (4 - digits) all → text ≡ code_text digits code
unfolding code_text
digits_text digits code all text a t = t ∙ ap (λ (l : List ℕ). drop (4 - digits) l) a

pub line_whole : (tag space : List ℕ) (digits code : ℕ) (name text between : List ℕ) → text ≡ code_text digits code → between ≡ gap name → (tag ++ (space ++ text)) ++ (between ++ (name ++ 10 ∷ [])) ≡ line_text (tag ++ space) digits code name ++ 10 ∷ []
line_whole tag space digits code name text between t b =
    ap (λ (l : List ℕ). (tag ++ (space ++ l)) ++ (between ++ (name ++ 10 ∷ []))) t
    ∙ (ap (λ (l : List ℕ). (tag ++ (space ++ code_text digits code)) ++ (l ++ (name ++ 10 ∷ []))) b
    ∙ line_parts tag space digits code name)

pub stamp_parts : (m : Moment) (version date time : List ℕ) → version ≡ date_text 46 m → date ≡ date_text 45 m → time ≡ 32 ∷ (time_text m ++ 10 ∷ []) → (codes "# Version: " ++ (version ++ 10 ∷ [])) ++ (codes "# Date:    " ++ (date ++ time)) ≡ stamp_text (Some m)
unfolding stamp_text
stamp_parts m version date time v d t =
    ap (λ (l : List ℕ). (codes "# Version: " ++ (l ++ 10 ∷ [])) ++ (codes "# Date:    " ++ (date ++ time))) v
    ∙ (ap (λ (l : List ℕ). (codes "# Version: " ++ (date_text 46 m ++ 10 ∷ [])) ++ (codes "# Date:    " ++ (l ++ time))) d
    ∙ ap (λ (l : List ℕ). (codes "# Version: " ++ (date_text 46 m ++ 10 ∷ [])) ++ (codes "# Date:    " ++ (date_text 45 m ++ l))) t)
