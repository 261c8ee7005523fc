-- What the statements that change rows in place do to the values of the tables.
use Rattle.std.proofs.Common.{ℕ, ◌≢◌, pos, Bool, false, [], ◌∷◌, IfSome, Ok, refl, ap, arith, ◌≡◌, ◌∙◌}
use Rattle.std.proofs.lemmas.Int.{ints}
use Rattle.sqlite.specs.declared.types.Value.TheVariants.{Text}
use Rattle.sqlite.specs.State.{State, Executes}
use Rattle.sqlite_keyed.specs.Keyed.{insert_by}
use Rattle.sqlite_keyed.specs.Lists.{update_where}
use Rattle.sqlite_sql.specs.declared.ops.CompareOp.TheVariants.{Eq}
use Rattle.sqlite_typed.proofs.TestLemmas.{at_ints, then_term, last_term}
use Rattle.usbnum_core.specs.Text.{IsTitle}
use Rattle.usbnum_core.specs.declared.number.Number.{Number}
use Rattle.registry_rules.specs.Records.{with_held, with_card}
use Rattle.registry_rules.specs.declared.record.Card.{Card}
use Rattle.registry_rules.specs.declared.record.Entry.{Entry}
use Rattle.registry_rules.specs.declared.record.Petition.{Petition}
use Rattle.table_laws.proofs.StatementLemmas.{changes_numbered, changes_unnumbered}
use Rattle.registry_schema.specs.Schema.{schema_5, entries3_table, petitions3_table}
use Rattle.registry_rules.specs.Orders.{IsTerms}
use Rattle.registry_rows.specs.Rows.{whole, flag, part, entry_row, IsEntry, is_of, petition_key, petition_row, petition_shown, IsPetition}
use Rattle.registry_rows.specs.Tables.{Tables, Holds}
use Rattle.registry_rows.proofs.HoldLemmas.{untied, holds_entries, holds_petitions}
use Rattle.registry_rows.proofs.KeyLemmas.{cast_entry_numbered, cast_petition, turned}
use Rattle.registry_rows.proofs.NumberLemmas.{same_numbers}
use Rattle.registry_rows.proofs.UpdateTexts.{set_held_text, set_held_terms, set_held_news, set_held_is, set_card_text, set_card_terms, set_card_news, set_card_is, close_petition_text, close_petition_terms, close_petition_news, close_petition_is}

-- the entry with this held flag, and the entry with this card
abbrev pub held_as : Bool → Number × Entry → Number × Entry
held_as held e = (e.0, with_held held e.1)

abbrev pub carded_as : Card → Number × Entry → Number × Entry
carded_as card e = (e.0, with_card card e.1)

pub sets_held : (old new : State) (n : Number) (held : Bool) (count : ℕ) → Executes set_held_text (flag held ∷ whole n.vid ∷ whole n.pid ∷ []) old new (Ok count) → (t : Tables) → Holds old.now t
    → Holds new.now (record t { entries = update_where (is_of n) (held_as held) t.entries })
sets_held old new n held count h t has =
    let done = changes_unnumbered schema_5 untied 12 17 entries3_table.name entries3_table.columns IsEntry (1 ∷ 2 ∷ []) refl entry_row (λ db. refl) set_held_text set_held_terms set_held_news set_held_is
    (flag held ∷ whole n.vid ∷ whole n.pid ∷ []) (is_of n) (held_as held)
    (λ id e. then_term (at_ints false Eq (pos e.0.vid) (pos n.vid) ∙ same_numbers e.0.vid n.vid ∙ turned e.0.vid n.vid) (last_term (at_ints false Eq (pos e.0.pid) (pos n.pid) ∙ same_numbers e.0.pid n.pid ∙ turned e.0.pid n.pid)))
    (λ id e. refl) (λ id e. cast_entry_numbered e id) (λ e valid. record { vid = valid.vid; pid = valid.pid; org = valid.org; title = valid.title; terms = valid.terms })
    old new has.schema t.entries has.rows.entries count h in
    holds_entries old.now new.now t done.0 _ has done.1 done.2

pub sets_card : (old new : State) (n : Number) (card : Card) (count : ℕ) → IsTitle card.title → IfSome card.terms IsTerms
    → Executes set_card_text (Text card.title ∷ part (λ t. t.licence) card.terms ∷ part (λ t. t.site) card.terms ∷ part (λ t. t.source) card.terms ∷ whole n.vid ∷ whole n.pid ∷ []) old new (Ok count)
    → (t : Tables) → Holds old.now t → Holds new.now (record t { entries = update_where (is_of n) (carded_as card) t.entries })
sets_card old new n card count title terms h t has =
    let done = changes_unnumbered schema_5 untied 12 17 entries3_table.name entries3_table.columns IsEntry (1 ∷ 2 ∷ []) refl entry_row (λ db. refl) set_card_text set_card_terms set_card_news set_card_is
    (Text card.title ∷ part (λ t. t.licence) card.terms ∷ part (λ t. t.site) card.terms ∷ part (λ t. t.source) card.terms ∷ whole n.vid ∷ whole n.pid ∷ []) (is_of n) (carded_as card)
    (λ id e. then_term (at_ints false Eq (pos e.0.vid) (pos n.vid) ∙ same_numbers e.0.vid n.vid ∙ turned e.0.vid n.vid) (last_term (at_ints false Eq (pos e.0.pid) (pos n.pid) ∙ same_numbers e.0.pid n.pid ∙ turned e.0.pid n.pid)))
    (λ id e. refl) (λ id e. cast_entry_numbered e id) (λ e valid. record { vid = valid.vid; pid = valid.pid; org = valid.org; title = title; terms = terms })
    old new has.schema t.entries has.rows.entries count h in
    holds_entries old.now new.now t done.0 _ has done.1 done.2

-- the petition of the same number with this card
abbrev pub closed_as : ℕ × Petition → ℕ × Petition → ℕ × Petition
closed_as x p = (p.0, x.1)

pub closes_petition : (old new : State) (x : ℕ × Petition) (count : ℕ) → IsPetition x → count ≢ 0 → Executes close_petition_text (petition_shown x) old new (Ok count) → (t : Tables) → Holds old.now t
    → Holds new.now (record t { petitions = insert_by petition_key t.petitions x })
closes_petition old new x count valid some h t has =
    let done = changes_numbered schema_5 untied 13 19 petitions3_table.name petitions3_table.columns IsPetition refl petition_key petition_row (λ _. refl) (λ db. refl) close_petition_text close_petition_terms close_petition_news close_petition_is
    (petition_shown x) x (closed_as x) (λ p. last_term (at_ints false Eq (pos p.0) (pos x.0))) (λ p. refl)
    (λ p same. (let level : p.0 ≡ x.0 = grind (arith, ints) in ap (λ (n : ℕ). (n, x.1)) level))
    (λ p. refl) cast_petition (λ p ok. record { id = ok.id; vid = valid.vid; org = valid.org; want = valid.want; title = valid.title; terms = valid.terms; granted = valid.granted })
    old new has.schema t.petitions has.rows.petitions count some h in
    holds_petitions old.now new.now t done.0 _ has done.1 done.2
