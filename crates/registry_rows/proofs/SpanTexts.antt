-- What the texts on reserved spans mean.
use Rattle.std.proofs.Common.{ℕ, List, [], ◌∷◌, codes, refl}
use Rattle.sqlite.specs.declared.types.Value.TheVariants.{Null}
use Rattle.sqlite.specs.Term.{Term, lit, col, op2}
use Rattle.sqlite.specs.Listing.{understood}
use Rattle.sqlite.specs.Query.{Query}
use Rattle.sqlite_sql.specs.declared.ops.BinaryOp.TheVariants.{Compare}
use Rattle.sqlite_sql.specs.declared.ops.CompareOp.TheVariants.{Eq, Ge, Le}
use Rattle.sqlite_tied.specs.Compute.{everything}
use Rattle.sqlite_value.specs.declared.keys.Collation.TheVariants.{Binary}
use Rattle.sqlite_value.specs.Keys.{ascending}
use Rattle.table_laws.proofs.StatementLemmas.{IsPut, IsDelete, IsSelect, table_query, no_limit}
use Rattle.registry_schema.specs.Schema.{schema_5}

abbrev pub put_span_text : List ℕ
put_span_text = codes "INSERT OR REPLACE INTO spans3 (vid, lo, hi) VALUES (?1, ?2, ?3)"

abbrev pub put_span_terms : List Term
put_span_terms = lit Null ∷ col 0 0 ∷ col 0 1 ∷ col 0 2 ∷ []

pub put_span_is : IsPut schema_5 11 put_span_text put_span_terms 4
unfolding understood everything
put_span_is = record { is = refl; plain = (refl, refl) }

-- WHERE the vendor's span has any of the numbers between two
abbrev pub meeting : List Term
meeting = op2 (Compare Eq Binary) (col 1 1) (col 0 0) ∷ op2 (Compare Ge Binary) (col 1 3) (col 0 1) ∷ op2 (Compare Le Binary) (col 1 2) (col 0 2) ∷ []

abbrev pub cut_spans_text : List ℕ
cut_spans_text = codes "DELETE FROM spans3 WHERE vid = ?1 AND hi >= ?2 AND lo <= ?3"

pub cut_spans_is : IsDelete schema_5 11 15 cut_spans_text meeting
unfolding understood everything
cut_spans_is = record { is = refl; plain = (refl, refl) }

abbrev pub find_spans_text : List ℕ
find_spans_text = codes "SELECT vid, lo, hi FROM spans3 WHERE vid = ?1 AND hi >= ?2 AND lo <= ?3 ORDER BY vid, lo, rowid"

abbrev pub find_spans_query : Query
find_spans_query = table_query 15 meeting (col 1 1 ∷ col 1 2 ∷ col 1 3 ∷ []) ((col 1 1, ascending Binary) ∷ (col 1 2, ascending Binary) ∷ (col 1 0, ascending Binary) ∷ []) no_limit

pub find_spans_is : IsSelect schema_5 find_spans_text find_spans_query (codes "vid" ∷ codes "lo" ∷ codes "hi" ∷ [])
unfolding understood everything
find_spans_is = record { is = refl; plain = (refl, refl); own = refl }
