-- What the texts that change rows in place mean.
use Rattle.std.proofs.Common.{ℕ, List, [], ◌∷◌, codes, refl}
use Rattle.sqlite.specs.declared.types.Value.TheVariants.{Null}
use Rattle.sqlite.specs.Term.{Term, lit, col, op2}
use Rattle.sqlite.specs.Listing.{understood}
use Rattle.sqlite_sql.specs.declared.ops.BinaryOp.TheVariants.{Compare}
use Rattle.sqlite_sql.specs.declared.ops.CompareOp.TheVariants.{Eq}
use Rattle.sqlite_tied.specs.Compute.{everything}
use Rattle.sqlite_value.specs.declared.keys.Collation.TheVariants.{Binary}
use Rattle.table_laws.proofs.StatementLemmas.{IsUpdate}
use Rattle.registry_schema.specs.Schema.{schema_5}

abbrev pub set_held_text : List ℕ
set_held_text = codes "UPDATE entries3 SET held = ?1 WHERE vid = ?2 AND pid = ?3"

abbrev pub set_held_terms : List Term
set_held_terms = op2 (Compare Eq Binary) (col 1 1) (col 0 1) ∷ op2 (Compare Eq Binary) (col 1 2) (col 0 2) ∷ []

abbrev pub set_held_news : List Term
set_held_news = col 1 0 ∷ col 1 1 ∷ col 1 2 ∷ col 1 3 ∷ col 0 0 ∷ col 1 5 ∷ col 1 6 ∷ col 1 7 ∷ col 1 8 ∷ []

pub set_held_is : IsUpdate schema_5 12 17 set_held_text set_held_terms set_held_news
unfolding understood everything
set_held_is = record { is = refl; plain = (refl, refl) }

abbrev pub set_card_text : List ℕ
set_card_text = codes "UPDATE entries3 SET title = ?1, licence = ?2, site = ?3, source = ?4 WHERE vid = ?5 AND pid = ?6"

abbrev pub set_card_terms : List Term
set_card_terms = op2 (Compare Eq Binary) (col 1 1) (col 0 4) ∷ op2 (Compare Eq Binary) (col 1 2) (col 0 5) ∷ []

abbrev pub set_card_news : List Term
set_card_news = col 1 0 ∷ col 1 1 ∷ col 1 2 ∷ col 1 3 ∷ col 1 4 ∷ col 0 0 ∷ col 0 1 ∷ col 0 2 ∷ col 0 3 ∷ []

pub set_card_is : IsUpdate schema_5 12 17 set_card_text set_card_terms set_card_news
unfolding understood everything
set_card_is = record { is = refl; plain = (refl, refl) }

abbrev pub close_petition_text : List ℕ
close_petition_text = codes "UPDATE petitions3 SET vid = ?2, org = ?3, want = ?4, title = ?5, licence = ?6, site = ?7, source = ?8, state = ?9, pid = ?10 WHERE id = ?1"

abbrev pub close_petition_terms : List Term
close_petition_terms = op2 (Compare Eq Binary) (col 1 0) (col 0 0) ∷ []

abbrev pub close_petition_news : List Term
close_petition_news = col 1 0 ∷ lit Null ∷ col 0 1 ∷ col 0 2 ∷ col 0 3 ∷ col 0 4 ∷ col 0 5 ∷ col 0 6 ∷ col 0 7 ∷ col 0 8 ∷ col 0 9 ∷ []

pub close_petition_is : IsUpdate schema_5 13 19 close_petition_text close_petition_terms close_petition_news
unfolding understood everything
close_petition_is = record { is = refl; plain = (refl, refl) }
