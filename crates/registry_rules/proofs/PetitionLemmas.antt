-- In a legal history no petition is closed before it is asked.
use Rattle.std.proofs.Common.{◌≡◌, ◌≢◌, ℕ, zero, suc, ◌+◌, ◌-◌, ◌<◌, ◌≤◌, List, [], ◌∷◌, Option, Some, None, Bool, true, false, length, length-append, refl, ap, sym, arith}
use Rattle.std.specs.Prelude.{nat_eq, slice_get, unwrap_or, if◌then◌else◌}
use Rattle.std.specs.Option.{option_map, option_or}
use Rattle.std.proofs.lemmas.Bool.{ne_eqb, eqb-false}
use Rattle.registry_rules.specs.History.{History, last_of, all_of, with_answer}
use Rattle.registry_rules.specs.Query.{asks, closes, asked, petition_state, petition_of, with_state, answer_if}
use Rattle.registry_rules.specs.Run.{Legal}
use Rattle.registry_rules.proofs.RunLemmas.{legal_before}
use Rattle.registry_rules.proofs.FollowLemmas.{Follows, legal_follows}
use Rattle.registry_rules.specs.declared.deed.Deed.{Deed}
use Rattle.registry_rules.specs.declared.deed.Act.{Act}
use Rattle.registry_rules.specs.declared.deed.Act.TheVariants.{Asked, Granted, Declined, Withdrawn}
use Rattle.registry_rules.specs.declared.founding.Founding.{Founding}
use Rattle.registry_rules.specs.declared.record.Petition.{Petition}
use Rattle.registry_rules.specs.declared.record.PetitionState.{PetitionState}
use Rattle.registry_rules.specs.declared.record.PetitionState.TheVariants.{Open}

-- a petition by whether its number is 0, the petition as it was asked, and its state
abbrev petition_by : Bool → Option Petition → PetitionState → Option Petition
petition_by is_zero found state = if is_zero then None else option_map (with_state state) found

was_asked : (petitions : List Petition) (place : ℕ) (state : PetitionState) (petition : Petition) → option_map (with_state state) (slice_get petitions place) ≡ Some petition → place < length petitions
was_asked [] place state petition e = absurd cc
was_asked (first ∷ petitions) zero state petition e = omega arith
was_asked (first ∷ petitions) (suc place) state petition e = let more : place < length petitions = was_asked petitions place state petition e in omega arith

asked_by : (is_zero : Bool) (i : ℕ) (petitions : List Petition) (state : PetitionState) (petition : Petition) → (is_zero ≡ false → i ≢ 0) →
    petition_by is_zero (slice_get petitions (i - 1)) state ≡ Some petition → (1 ≤ i) × (i ≤ length petitions)
asked_by true i petitions state petition positive e = absurd cc
asked_by false i petitions state petition positive e =
    let ne : i ≢ 0 = positive refl in
    let within : i - 1 < length petitions = was_asked petitions (i - 1) state petition e in
    (omega (arith, ne), omega (arith, ne))

not_zero : (i : ℕ) → nat_eq i 0 ≡ false → i ≢ 0
not_zero i e = eqb-false i 0 e

-- a petition that exists was asked
pub asked_within : (h : History) (i : ℕ) (petition : Petition) → petition_of h i ≡ Some petition → (1 ≤ i) × (i ≤ length (asked h))
asked_within h i petition e = asked_by (nat_eq i 0) i (asked h) (petition_state h i) petition (not_zero i) e

-- and it has its current state
state_is_by : (found : Option Petition) (state : PetitionState) (petition : Petition) → option_map (with_state state) found ≡ Some petition → petition.state ≡ state
state_is_by None state petition e = absurd cc
state_is_by (Some was) state petition e = let same : Some (with_state state was) ≡ Some petition = e in let is : with_state state was ≡ petition = cc in ap (λ (p : Petition). p.state) (sym is)

state_by : (is_zero : Bool) (found : Option Petition) (state : PetitionState) (petition : Petition) → petition_by is_zero found state ≡ Some petition → petition.state ≡ state
state_by true found state petition e = absurd cc
state_by false found state petition e = state_is_by found state petition e

pub state_is : (h : History) (i : ℕ) (petition : Petition) → petition_of h i ≡ Some petition → petition.state ≡ petition_state h i
state_is h i petition e = state_by (nat_eq i 0) (slice_get (asked h) (i - 1)) (petition_state h i) petition e

-- No deed closes a petition past the count.

given_other : {A : Type 0} (id i : ℕ) (answer : A) (so_far : Option A) → id < i → so_far ≡ None → option_or (answer_if (nat_eq id i) answer) so_far ≡ None
given_other id i answer so_far less none = let ne : id ≢ i = omega arith in rw (ne_eqb id i ne) none

unclosed_now : (h : History) (caller : List ℕ) (act : Act) (i : ℕ) → Follows h caller act → (length (asked h) < i → last_of (λ deed. closes i deed.act) h.deeds ≡ None) →
    length (with_answer (asked h) (asks act)) < i → option_or (closes i act) (last_of (λ deed. closes i deed.act) h.deeds) ≡ None
unclosed_now h caller (Asked id petition) i can before past =
    before (let more = length-append (asked h) (petition ∷ []) in omega arith)
unclosed_now h caller (Granted id petition name) i can before past =
    let within = asked_within h id petition can.there in given_other id i _ _ (omega arith) (before past)
unclosed_now h caller (Declined id petition reason) i can before past =
    let within = asked_within h id petition can.there in given_other id i _ _ (omega arith) (before past)
unclosed_now h caller (Withdrawn id petition) i can before past =
    let within = asked_within h id petition can.there in given_other id i _ _ (omega arith) (before past)
unclosed_now h caller _ i can before past = before past

unclosed_in : (founding : Founding) (i : ℕ) (deeds : List Deed) → Legal (record { founding = founding; deeds = deeds }) →
    length (all_of (λ deed. asks deed.act) deeds) < i → last_of (λ deed. closes i deed.act) deeds ≡ None
unclosed_in founding i [] legal past = refl
unclosed_in founding i (deed ∷ earlier) legal past =
    unclosed_now (record { founding = founding; deeds = earlier }) deed.caller deed.act i (legal_follows founding deed earlier legal)
    (unclosed_in founding i earlier (legal_before founding deed earlier legal)) past

-- in a legal history no deed closes a petition that is not asked yet
pub unclosed : (h : History) (i : ℕ) → Legal h → length (asked h) < i → last_of (λ deed. closes i deed.act) h.deeds ≡ None
unclosed h i legal past = unclosed_in h.founding i h.deeds legal past

-- so the next petition is open
pub next_is_open : (h : History) → Legal h → petition_state h (length (asked h) + 1) ≡ Open
next_is_open h legal = ap (λ last. unwrap_or last Open) (unclosed h (length (asked h) + 1) legal (omega arith))
