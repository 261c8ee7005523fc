-- What the texts that insert rows mean.
use Rattle.std.proofs.Common.{ℕ, pos, List, [], ◌∷◌, codes, refl}
use Rattle.sqlite.specs.declared.types.Value.TheVariants.{Null, Int}
use Rattle.sqlite.specs.Term.{Term, lit, col}
use Rattle.sqlite.specs.Listing.{understood}
use Rattle.sqlite_tied.specs.Compute.{everything}
use Rattle.table_laws.proofs.StatementLemmas.{IsInsert, IsPut}
use Rattle.registry_schema.specs.Schema.{schema_5}

abbrev pub put_meta_text : List ℕ
put_meta_text = codes "INSERT OR REPLACE INTO meta (id, version, vendor, name) VALUES (1, ?1, ?2, ?3)"

abbrev pub put_meta_terms : List Term
put_meta_terms = lit (Int (pos 1)) ∷ lit Null ∷ col 0 0 ∷ col 0 1 ∷ col 0 2 ∷ []

pub put_meta_is : IsPut schema_5 0 put_meta_text put_meta_terms 5
unfolding understood everything
put_meta_is = record { is = refl; plain = (refl, refl) }

abbrev pub put_curator_text : List ℕ
put_curator_text = codes "INSERT OR REPLACE INTO curators (name) VALUES (?1)"

abbrev pub put_curator_terms : List Term
put_curator_terms = lit Null ∷ col 0 0 ∷ []

pub put_curator_is : IsPut schema_5 1 put_curator_text put_curator_terms 2
unfolding understood everything
put_curator_is = record { is = refl; plain = (refl, refl) }

abbrev pub put_licence_text : List ℕ
put_licence_text = codes "INSERT OR REPLACE INTO licences (name) VALUES (?1)"

abbrev pub put_licence_terms : List Term
put_licence_terms = lit Null ∷ col 0 0 ∷ []

pub put_licence_is : IsPut schema_5 2 put_licence_text put_licence_terms 2
unfolding understood everything
put_licence_is = record { is = refl; plain = (refl, refl) }

abbrev pub put_fixed_text : List ℕ
put_fixed_text = codes "INSERT OR REPLACE INTO fixed (lo, hi) VALUES (?1, ?2)"

abbrev pub put_fixed_terms : List Term
put_fixed_terms = col 0 0 ∷ lit Null ∷ col 0 1 ∷ []

pub put_fixed_is : IsPut schema_5 3 put_fixed_text put_fixed_terms 3
unfolding understood everything
put_fixed_is = record { is = refl; plain = (refl, refl) }

abbrev pub put_org_text : List ℕ
put_org_text = codes "INSERT OR REPLACE INTO orgs (slug, title, site, keeper) VALUES (?1, ?2, ?3, ?4)"

abbrev pub put_org_terms : List Term
put_org_terms = lit Null ∷ col 0 0 ∷ col 0 1 ∷ col 0 2 ∷ col 0 3 ∷ []

pub put_org_is : IsPut schema_5 4 put_org_text put_org_terms 5
unfolding understood everything
put_org_is = record { is = refl; plain = (refl, refl) }

abbrev pub add_org_text : List ℕ
add_org_text = codes "INSERT INTO orgs (slug, title, site, keeper) VALUES (?1, ?2, ?3, ?4)"

pub add_org_is : IsInsert schema_5 4 add_org_text put_org_terms 5
unfolding understood everything
add_org_is = record { is = refl; plain = (refl, refl) }

abbrev pub put_kept_text : List ℕ
put_kept_text = codes "INSERT INTO kept (caller, request_key, request, reply) VALUES (?1, ?2, ?3, ?4)"

abbrev pub put_kept_terms : List Term
put_kept_terms = lit Null ∷ col 0 0 ∷ col 0 1 ∷ col 0 2 ∷ col 0 3 ∷ []

pub put_kept_is : IsInsert schema_5 8 put_kept_text put_kept_terms 5
unfolding understood everything
put_kept_is = record { is = refl; plain = (refl, refl) }

abbrev pub put_vendor_text : List ℕ
put_vendor_text = codes "INSERT OR REPLACE INTO vendors (vid, name) VALUES (?1, ?2)"

abbrev pub put_vendor_terms : List Term
put_vendor_terms = col 0 0 ∷ lit Null ∷ col 0 1 ∷ []

pub put_vendor_is : IsPut schema_5 10 put_vendor_text put_vendor_terms 3
unfolding understood everything
put_vendor_is = record { is = refl; plain = (refl, refl) }

abbrev pub put_entry_text : List ℕ
put_entry_text = codes "INSERT OR REPLACE INTO entries3 (vid, pid, org, held, title, licence, site, source) VALUES (?1, ?2, ?3, ?4, ?5, ?6, ?7, ?8)"

abbrev pub put_entry_terms : List Term
put_entry_terms = lit Null ∷ col 0 0 ∷ col 0 1 ∷ col 0 2 ∷ col 0 3 ∷ col 0 4 ∷ col 0 5 ∷ col 0 6 ∷ col 0 7 ∷ []

pub put_entry_is : IsPut schema_5 12 put_entry_text put_entry_terms 9
unfolding understood everything
put_entry_is = record { is = refl; plain = (refl, refl) }

abbrev pub add_entry_text : List ℕ
add_entry_text = codes "INSERT INTO entries3 (vid, pid, org, held, title, licence, site, source) VALUES (?1, ?2, ?3, ?4, ?5, ?6, ?7, ?8)"

pub add_entry_is : IsInsert schema_5 12 add_entry_text put_entry_terms 9
unfolding understood everything
add_entry_is = record { is = refl; plain = (refl, refl) }

abbrev pub open_petition_text : List ℕ
open_petition_text = codes "INSERT INTO petitions3 (id, vid, org, want, title, licence, site, source, state, pid) VALUES (?1, ?2, ?3, ?4, ?5, ?6, ?7, ?8, ?9, ?10)"

abbrev pub open_petition_terms : List Term
open_petition_terms = col 0 0 ∷ lit Null ∷ col 0 1 ∷ col 0 2 ∷ col 0 3 ∷ col 0 4 ∷ col 0 5 ∷ col 0 6 ∷ col 0 7 ∷ col 0 8 ∷ col 0 9 ∷ []

pub open_petition_is : IsInsert schema_5 13 open_petition_text open_petition_terms 11
unfolding understood everything
open_petition_is = record { is = refl; plain = (refl, refl) }

abbrev pub put_digest_text : List ℕ
put_digest_text = codes "INSERT INTO digests4 (id, time, digest) VALUES (?1, ?2, ?3)"

abbrev pub put_digest_terms : List Term
put_digest_terms = col 0 0 ∷ lit Null ∷ col 0 1 ∷ col 0 2 ∷ []

pub put_digest_is : IsInsert schema_5 14 put_digest_text put_digest_terms 4
unfolding understood everything
put_digest_is = record { is = refl; plain = (refl, refl) }

abbrev pub put_reason_text : List ℕ
put_reason_text = codes "INSERT INTO reasons4 (petition, reason) VALUES (?1, ?2)"

abbrev pub put_reason_terms : List Term
put_reason_terms = col 0 0 ∷ lit Null ∷ col 0 1 ∷ []

pub put_reason_is : IsInsert schema_5 15 put_reason_text put_reason_terms 3
unfolding understood everything
put_reason_is = record { is = refl; plain = (refl, refl) }

abbrev pub put_opened_text : List ℕ
put_opened_text = codes "INSERT INTO opened5 (petition, time) VALUES (?1, ?2)"

abbrev pub put_opened_terms : List Term
put_opened_terms = col 0 0 ∷ lit Null ∷ col 0 1 ∷ []

pub put_opened_is : IsInsert schema_5 16 put_opened_text put_opened_terms 3
unfolding understood everything
put_opened_is = record { is = refl; plain = (refl, refl) }

abbrev pub put_closed_text : List ℕ
put_closed_text = codes "INSERT INTO closed5 (petition, time) VALUES (?1, ?2)"

abbrev pub put_closed_terms : List Term
put_closed_terms = col 0 0 ∷ lit Null ∷ col 0 1 ∷ []

pub put_closed_is : IsInsert schema_5 17 put_closed_text put_closed_terms 3
unfolding understood everything
put_closed_is = record { is = refl; plain = (refl, refl) }
