-- What the texts of the tables mean.
use Rattle.std.proofs.Common.{◌≡◌, refl}
use Rattle.sqlite.specs.Listing.{understood}
use Rattle.sqlite_tied.specs.Compute.{everything}
use Rattle.table_laws.specs.Making.{no_schema, schema_by}
use Rattle.table_laws.proofs.MakeLemmas.{Makes}
use Rattle.registry_schema.specs.Texts.{meta_text, curators_text, licences_text, fixed_text, orgs_text, petitions_text, entries_text, reserved_text, kept_text, spans_text, vendors_text, spans3_text, entries3_text, petitions3_text, digests4_text, reasons4_text, opened5_text, closed5_text, texts_1, texts_2, texts_3, texts_4, texts_5}
use Rattle.registry_schema.specs.Schema.{meta_table, curators_table, licences_table, fixed_table, orgs_table, petitions_table, entries_table, reserved_table, kept_table, spans_table, vendors_table, spans3_table, entries3_table, petitions3_table, digests4_table, reasons4_table, opened5_table, closed5_table, past_meta, past_curators, past_licences, past_fixed, past_orgs, past_petitions, past_entries, past_reserved, schema_1, schema_2, past_vendors, past_spans3, past_entries3, schema_3, past_digests4, schema_4, past_opened5, schema_5}

pub makes_meta : Makes no_schema meta_text meta_table
unfolding understood everything
makes_meta = record { command = refl; whole = refl; plain = (refl, refl); defined = refl; uncounted = refl }

pub makes_curators : Makes past_meta curators_text curators_table
unfolding understood everything
makes_curators = record { command = refl; whole = refl; plain = (refl, refl); defined = refl; uncounted = refl }

pub makes_licences : Makes past_curators licences_text licences_table
unfolding understood everything
makes_licences = record { command = refl; whole = refl; plain = (refl, refl); defined = refl; uncounted = refl }

pub makes_fixed : Makes past_licences fixed_text fixed_table
unfolding understood everything
makes_fixed = record { command = refl; whole = refl; plain = (refl, refl); defined = refl; uncounted = refl }

pub makes_orgs : Makes past_fixed orgs_text orgs_table
unfolding understood everything
makes_orgs = record { command = refl; whole = refl; plain = (refl, refl); defined = refl; uncounted = refl }

pub makes_petitions : Makes past_orgs petitions_text petitions_table
unfolding understood everything
makes_petitions = record { command = refl; whole = refl; plain = (refl, refl); defined = refl; uncounted = refl }

pub makes_entries : Makes past_petitions entries_text entries_table
unfolding understood everything
makes_entries = record { command = refl; whole = refl; plain = (refl, refl); defined = refl; uncounted = refl }

pub makes_reserved : Makes past_entries reserved_text reserved_table
unfolding understood everything
makes_reserved = record { command = refl; whole = refl; plain = (refl, refl); defined = refl; uncounted = refl }

pub makes_kept : Makes past_reserved kept_text kept_table
unfolding understood everything
makes_kept = record { command = refl; whole = refl; plain = (refl, refl); defined = refl; uncounted = refl }

pub makes_spans : Makes schema_1 spans_text spans_table
unfolding understood everything
makes_spans = record { command = refl; whole = refl; plain = (refl, refl); defined = refl; uncounted = refl }

pub makes_vendors : Makes schema_2 vendors_text vendors_table
unfolding understood everything
makes_vendors = record { command = refl; whole = refl; plain = (refl, refl); defined = refl; uncounted = refl }

pub makes_spans3 : Makes past_vendors spans3_text spans3_table
unfolding understood everything
makes_spans3 = record { command = refl; whole = refl; plain = (refl, refl); defined = refl; uncounted = refl }

pub makes_entries3 : Makes past_spans3 entries3_text entries3_table
unfolding understood everything
makes_entries3 = record { command = refl; whole = refl; plain = (refl, refl); defined = refl; uncounted = refl }

pub makes_petitions3 : Makes past_entries3 petitions3_text petitions3_table
unfolding understood everything
makes_petitions3 = record { command = refl; whole = refl; plain = (refl, refl); defined = refl; uncounted = refl }

pub makes_digests4 : Makes schema_3 digests4_text digests4_table
unfolding understood everything
makes_digests4 = record { command = refl; whole = refl; plain = (refl, refl); defined = refl; uncounted = refl }

pub makes_reasons4 : Makes past_digests4 reasons4_text reasons4_table
unfolding understood everything
makes_reasons4 = record { command = refl; whole = refl; plain = (refl, refl); defined = refl; uncounted = refl }

pub makes_opened5 : Makes schema_4 opened5_text opened5_table
unfolding understood everything
makes_opened5 = record { command = refl; whole = refl; plain = (refl, refl); defined = refl; uncounted = refl }

pub makes_closed5 : Makes past_opened5 closed5_text closed5_table
unfolding understood everything
makes_closed5 = record { command = refl; whole = refl; plain = (refl, refl); defined = refl; uncounted = refl }

pub schema_1_is : schema_by texts_1 ≡ schema_1
unfolding everything
schema_1_is = refl

pub schema_2_is : schema_by texts_2 ≡ schema_2
unfolding everything
schema_2_is = refl

pub schema_3_is : schema_by texts_3 ≡ schema_3
unfolding everything
schema_3_is = refl

pub schema_4_is : schema_by texts_4 ≡ schema_4
unfolding everything
schema_4_is = refl

pub schema_5_is : schema_by texts_5 ≡ schema_5
unfolding everything
schema_5_is = refl
