-- Several writes through waiting bytes.
use Rattle.std.proofs.Common.{◌≡◌, ℕ, ◌+◌, ◌<◌, List, [], ◌∷◌, ◌++◌, length, take, drop, get_or, Option, sym, ap, subst, ◌∙◌, append_assoc, add-one}
use Rattle.std.specs.Prelude.{Result, Ok, Err}
use Rattle.std.specs.Io.KnownBytes.{Appends}
use Rattle.std.proofs.lemmas.List.{append-nil, take-append-drop}
use Rattle.std.proofs.Math.Seq.{take-suc, take-length}
use Rattle.byte_streams.specs.Streams.{AppendsPrefix, FailsOnce, Writes}
use Rattle.usbids_text.specs.Gathering.{Gains, Gathers}
use Rattle.byte_streams.proofs.StreamLemmas.{appends_nil, appends_then, appends_prefix_then, appends_prefix_more}

-- a write that failed
abbrev pub Fails : Option (List ℕ) → List ℕ → Option (List ℕ) → ℕ → ℕ → List ℕ → Type 0
Fails old waited new failures failures_new bytes = AppendsPrefix old new (waited ++ bytes) × FailsOnce failures failures_new

pub gains_kept : (c : Option (List ℕ)) (h k bytes : List ℕ) → k ≡ h ++ bytes → Gains c h c k bytes
gains_kept c h k bytes e = record { taken = []; appended = appends_nil c; whole = e }

pub gains_none : (c : Option (List ℕ)) (h : List ℕ) → Gains c h c h []
gains_none c h = gains_kept c h h [] (sym (append-nil h))

pub gains_poured : (c d : Option (List ℕ)) (h k bytes : List ℕ) → bytes ≡ h → Appends c d bytes → k ≡ [] → Gains c h d k []
gains_poured c d h k bytes same a e = record { taken = bytes; appended = a; whole = ap (λ (t : List ℕ). bytes ++ t) e ∙ ap (λ (t : List ℕ). t ++ []) same }

pub fails_poured : (c d : Option (List ℕ)) (h bytes : List ℕ) (f g : ℕ) → bytes ≡ h → AppendsPrefix c d bytes × FailsOnce f g → Fails c h d f g []
fails_poured c d h bytes f g same w = (subst (λ (t : List ℕ). AppendsPrefix c d t) (same ∙ sym (append-nil h)) w.0, w.1)

gains_then : (c d e : Option (List ℕ)) (h k l x y : List ℕ) → Gains c h d k x → Gains d k e l y → Gains c h e l (x ++ y)
gains_then c d e h k l x y p q = record {
  taken = p.taken ++ q.taken;
  appended = appends_then c d e p.taken q.taken p.appended q.appended;
  whole = append_assoc p.taken q.taken l ∙ (ap (λ (t : List ℕ). p.taken ++ t) q.whole ∙ (sym (append_assoc p.taken k y) ∙ (ap (λ (t : List ℕ). t ++ y) p.whole ∙ append_assoc h x y)));
}

pub fails_in_turn : (c d e : Option (List ℕ)) (h k x y : List ℕ) (f g i : ℕ) → Gains c h d k x → g ≡ f → Fails d k e g i y → Fails c h e f i (x ++ y)
fails_in_turn c d e h k x y f g i p same w =
    let whole : p.taken ++ (k ++ y) ≡ h ++ (x ++ y) = sym (append_assoc p.taken k y) ∙ (ap (λ (t : List ℕ). t ++ y) p.whole ∙ append_assoc h x y) in
    (subst (λ (t : List ℕ). AppendsPrefix c e t) whole (appends_prefix_then c d e p.taken (k ++ y) p.appended w.0), subst (λ (n : ℕ). FailsOnce n i) same w.1)

pub fails_more : (c d : Option (List ℕ)) (h x y : List ℕ) (f g : ℕ) → Fails c h d f g x → Fails c h d f g (x ++ y)
fails_more c d h x y f g w = (subst (λ (t : List ℕ). AppendsPrefix c d t) (append_assoc h x y) (appends_prefix_more c d (h ++ x) y w.0), w.1)

-- a write that did not fail, and then another
pub gathers_then : {A E : Type 0} (r : Result A E) (c d e : Option (List ℕ)) (h k l x y : List ℕ) (f g i : ℕ) → Gains c h d k x → g ≡ f → Gathers d k e l g i r y → Gathers c h e l f i r (x ++ y)
gathers_then (Ok done) c d e h k l x y f g i p same w = (gains_then c d e h k l x y p w.0, w.1 ∙ same)
gathers_then (Err fault) c d e h k l x y f g i p same w = fails_in_turn c d e h k x y f g i p same w

pub gathers_as : {A E : Type 0} (r : Result A E) (c d : Option (List ℕ)) (h k x y : List ℕ) (f g : ℕ) → x ≡ y → Gathers c h d k f g r x → Gathers c h d k f g r y
gathers_as r c d h k x y f g e w = subst (λ (t : List ℕ). Gathers c h d k f g r t) e w

pub two_steps : {A E : Type 0} (r : Result A E) (c d e : Option (List ℕ)) (h k l x y z : List ℕ) (f g i : ℕ) → Gains c h d k x → g ≡ f → Gathers d k e l g i r y → x ++ y ≡ z → Gathers c h e l f i r z
two_steps r c d e h k l x y z f g i p same w whole = gathers_as r c e h l (x ++ y) z f i whole (gathers_then r c d e h k l x y f g i p same w)

pub two_fails : (c d : Option (List ℕ)) (h x y z : List ℕ) (f g : ℕ) → Fails c h d f g x → x ++ y ≡ z → Fails c h d f g z
two_fails c d h x y z f g w whole = subst (λ (t : List ℕ). Fails c h d f g t) whole (fails_more c d h x y f g w)

-- all bytes were written to the sink
pub gains_all : (c d e : Option (List ℕ)) (h k l text : List ℕ) → h ≡ [] → l ≡ [] → Gains c h d k text → Gains d k e l [] → Appends c e text
gains_all c d e h k l text none empty p q =
    let whole = gains_then c d e h k l text [] p q in
    let same : whole.taken ≡ text =
    sym (append-nil whole.taken) ∙ (ap (λ (t : List ℕ). whole.taken ++ t) (sym empty) ∙ (whole.whole ∙ (ap (λ (t : List ℕ). t ++ (text ++ [])) none ∙ append-nil text))) in
    subst (λ (t : List ℕ). Appends c e t) same whole.appended

pub fails_all : (c d : Option (List ℕ)) (h text : List ℕ) (f g : ℕ) → h ≡ [] → Fails c h d f g text → AppendsPrefix c d text × FailsOnce f g
fails_all c d h text f g none w = (subst (λ (t : List ℕ). AppendsPrefix c d (t ++ text)) none w.0, w.1)

pub fails_last : (c d e : Option (List ℕ)) (h k text : List ℕ) (f g i : ℕ) → h ≡ [] → Gains c h d k text → g ≡ f → Fails d k e g i [] → AppendsPrefix c e text × FailsOnce f i
fails_last c d e h k text f g i none p same w =
    let whole = fails_all c e h (text ++ []) f i none (fails_in_turn c d e h k text [] f g i p same w) in
    (subst (λ (t : List ℕ). AppendsPrefix c e t) (append-nil text) whole.0, whole.1)

-- a direct write while no bytes wait
pub gathers_direct : {A E : Type 0} (r : Result A E) (c d : Option (List ℕ)) (k bytes : List ℕ) (f g : ℕ) → k ≡ [] → Writes c d f g r bytes → Gathers c k d k f g r bytes
gathers_direct (Ok done) c d k bytes f g e w = (record { taken = bytes; appended = w.0; whole = ap (λ (t : List ℕ). bytes ++ t) e ∙ (append-nil bytes ∙ ap (λ (t : List ℕ). t ++ bytes) (sym e)) }, w.1)
gathers_direct (Err fault) c d k bytes f g e w = (subst (λ (t : List ℕ). AppendsPrefix c d (t ++ bytes)) (sym e) w.0, w.1)

-- a text that is the elements' texts in order
pub record IsInTurn {A : Type 0} (text : List A → List ℕ) : Type 0 where
  pub none : text [] ≡ []
  pub more : (a b : List A) → text (a ++ b) ≡ text a ++ text b

pub text_next : {A : Type 0} (text : List A → List ℕ) → IsInTurn text → (xs : List A) (i : ℕ) (d : A) → i < length xs → text (take (i + 1) xs) ≡ text (take i xs) ++ text (get_or xs i d ∷ [])
text_next text turn xs i d h = rw add-one (ap text (take-suc xs i d h) ∙ turn.more (take i xs) (get_or xs i d ∷ []))

pub text_whole : {A : Type 0} (text : List A → List ℕ) → IsInTurn text → (xs : List A) (i : ℕ) (d : A) → i < length xs → text xs ≡ (text (take i xs) ++ text (get_or xs i d ∷ [])) ++ text (drop (i + 1) xs)
text_whole text turn xs i d h =
    ap text (sym (take-append-drop (i + 1) xs)) ∙ (turn.more (take (i + 1) xs) (drop (i + 1) xs)
    ∙ ap (λ (t : List ℕ). t ++ text (drop (i + 1) xs)) (text_next text turn xs i d h))

-- the steps of a loop that writes the elements in order
pub turn_starts : {A : Type 0} (text : List A → List ℕ) → IsInTurn text → (c : Option (List ℕ)) (h : List ℕ) (xs : List A) → Gains c h c h (text (take 0 xs))
turn_starts text turn c h xs = subst (λ (t : List ℕ). Gains c h c h t) (sym turn.none) (gains_none c h)

pub turn_goes : {A : Type 0} (text : List A → List ℕ) → IsInTurn text → (c d e : Option (List ℕ)) (h k l : List ℕ) (xs : List A) (i : ℕ) (x : A) → i < length xs → x ≡ get_or xs i x → Gains c h d k (text (take i xs)) → Gains d k e l (text (x ∷ [])) → Gains c h e l (text (take (i + 1) xs))
turn_goes text turn c d e h k l xs i x low is p q =
    subst (λ (t : List ℕ). Gains c h e l t) (sym (text_next text turn xs i x low)) (gains_then c d e h k l (text (take i xs)) (text (get_or xs i x ∷ [])) p (rw (← is) q))

pub turn_fails : {A : Type 0} (text : List A → List ℕ) → IsInTurn text → (c d e : Option (List ℕ)) (h k : List ℕ) (f g j : ℕ) (xs : List A) (i : ℕ) (x : A) → i < length xs → x ≡ get_or xs i x → Gains c h d k (text (take i xs)) → g ≡ f → Fails d k e g j (text (x ∷ [])) → Fails c h e f j (text xs)
turn_fails text turn c d e h k f g j xs i x low is p same q =
    subst (λ (t : List ℕ). Fails c h e f j t) (sym (text_whole text turn xs i x low))
    (fails_more c e h (text (take i xs) ++ text (get_or xs i x ∷ [])) (text (drop (i + 1) xs)) f j
    (fails_in_turn c d e h k (text (take i xs)) (text (get_or xs i x ∷ [])) f g j p same (rw (← is) q)))

pub turn_ends : {A : Type 0} (text : List A → List ℕ) (c d : Option (List ℕ)) (h k : List ℕ) (xs : List A) (i : ℕ) → i ≡ length xs → Gains c h d k (text (take i xs)) → Gains c h d k (text xs)
turn_ends {A = A} text c d h k xs i e p = subst (λ (t : List A). Gains c h d k (text t)) (ap (λ (n : ℕ). take n xs) e ∙ take-length xs) p
