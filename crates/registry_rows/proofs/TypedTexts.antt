-- Each query is one statement, and the fourth schema types it.
use Rattle.std.proofs.Common.{ℕ, List, [], ◌∷◌, refl}
use Rattle.sqlite.specs.Listing.{understood}
use Rattle.sqlite.specs.declared.types.Value.TheVariants.{Text}
use Rattle.sqlite_tied.specs.Compute.{everything}
use Rattle.usbnum_core.specs.declared.number.Number.{Number}
use Rattle.table_laws.proofs.FailLemmas.{IsTyped, never_overflows}
use Rattle.registry_schema.specs.Schema.{schema_5}
use Rattle.registry_rows.specs.Rows.{whole}
use Rattle.registry_rows.proofs.ReadTexts.{find_meta_text, find_meta_query, list_curators_text, list_curators_query, list_licences_text, list_licences_query, list_fixed_text, list_fixed_query, find_org_text, find_org_query, list_orgs_text, list_orgs_query, find_kept_text, find_kept_query, kept_after_text, kept_after_query, replies_within_text, replies_within_query, list_vendors_text, list_vendors_query, list_spans_text, list_spans_query, find_entries_text, find_entries_query, find_entry_text, find_entry_query, list_entries_text, list_entries_query, find_petition_text, find_petition_query, list_petitions_text, list_petitions_query, find_petitions_text, find_petitions_query, open_petitions_text, open_petitions_query, last_digest_text, last_digest_query, digests_after_text, digests_after_query, find_digest_text, find_digest_query, find_reason_text, find_reason_query, find_opened_text, find_opened_query, find_closed_text, find_closed_query}
use Rattle.registry_rows.proofs.SpanTexts.{find_spans_text, find_spans_query}

pub find_meta_typed : IsTyped schema_5 find_meta_text find_meta_query ([])
unfolding understood everything
find_meta_typed = record { one = (refl, refl); accepted = refl; counts = never_overflows 0 find_meta_query ([]) }

pub list_curators_typed : IsTyped schema_5 list_curators_text list_curators_query ([])
unfolding understood everything
list_curators_typed = record { one = (refl, refl); accepted = refl; counts = never_overflows 1 list_curators_query ([]) }

pub list_licences_typed : IsTyped schema_5 list_licences_text list_licences_query ([])
unfolding understood everything
list_licences_typed = record { one = (refl, refl); accepted = refl; counts = never_overflows 3 list_licences_query ([]) }

pub list_fixed_typed : IsTyped schema_5 list_fixed_text list_fixed_query ([])
unfolding understood everything
list_fixed_typed = record { one = (refl, refl); accepted = refl; counts = never_overflows 5 list_fixed_query ([]) }

pub find_org_typed : (slug : List ℕ) → IsTyped schema_5 find_org_text find_org_query (Text slug ∷ [])
unfolding understood everything
find_org_typed slug = record { one = (refl, refl); accepted = refl; counts = never_overflows 6 find_org_query (Text slug ∷ []) }

pub list_orgs_typed : IsTyped schema_5 list_orgs_text list_orgs_query ([])
unfolding understood everything
list_orgs_typed = record { one = (refl, refl); accepted = refl; counts = never_overflows 6 list_orgs_query ([]) }

pub find_kept_typed : (caller : List ℕ) (key : List ℕ) → IsTyped schema_5 find_kept_text find_kept_query (Text caller ∷ Text key ∷ [])
unfolding understood everything
find_kept_typed caller key = record { one = (refl, refl); accepted = refl; counts = never_overflows 11 find_kept_query (Text caller ∷ Text key ∷ []) }

pub kept_after_typed : (after most : ℕ) → IsTyped schema_5 kept_after_text kept_after_query (whole after ∷ whole most ∷ [])
unfolding understood everything
kept_after_typed after most = record { one = (refl, refl); accepted = refl; counts = never_overflows 11 kept_after_query (whole after ∷ whole most ∷ []) }

pub replies_within_typed : (low high : List ℕ) → IsTyped schema_5 replies_within_text replies_within_query (Text low ∷ Text high ∷ [])
unfolding understood everything
replies_within_typed low high = record { one = (refl, refl); accepted = refl; counts = never_overflows 11 replies_within_query (Text low ∷ Text high ∷ []) }

pub list_vendors_typed : IsTyped schema_5 list_vendors_text list_vendors_query ([])
unfolding understood everything
list_vendors_typed = record { one = (refl, refl); accepted = refl; counts = never_overflows 14 list_vendors_query ([]) }

pub list_spans_typed : IsTyped schema_5 list_spans_text list_spans_query ([])
unfolding understood everything
list_spans_typed = record { one = (refl, refl); accepted = refl; counts = never_overflows 15 list_spans_query ([]) }

pub find_entries_typed : (vid : ℕ) (low : ℕ) (high : ℕ) → IsTyped schema_5 find_entries_text find_entries_query (whole vid ∷ whole low ∷ whole high ∷ [])
unfolding understood everything
find_entries_typed vid low high = record { one = (refl, refl); accepted = refl; counts = never_overflows 17 find_entries_query (whole vid ∷ whole low ∷ whole high ∷ []) }

pub find_entry_typed : (n : Number) → IsTyped schema_5 find_entry_text find_entry_query (whole n.vid ∷ whole n.pid ∷ [])
unfolding understood everything
find_entry_typed n = record { one = (refl, refl); accepted = refl; counts = never_overflows 17 find_entry_query (whole n.vid ∷ whole n.pid ∷ []) }

pub list_entries_typed : IsTyped schema_5 list_entries_text list_entries_query ([])
unfolding understood everything
list_entries_typed = record { one = (refl, refl); accepted = refl; counts = never_overflows 17 list_entries_query ([]) }

pub find_petition_typed : (id : ℕ) → IsTyped schema_5 find_petition_text find_petition_query (whole id ∷ [])
unfolding understood everything
find_petition_typed id = record { one = (refl, refl); accepted = refl; counts = never_overflows 19 find_petition_query (whole id ∷ []) }

pub list_petitions_typed : IsTyped schema_5 list_petitions_text list_petitions_query ([])
unfolding understood everything
list_petitions_typed = record { one = (refl, refl); accepted = refl; counts = never_overflows 19 list_petitions_query ([]) }

pub open_petitions_typed : (code : ℕ) → IsTyped schema_5 open_petitions_text open_petitions_query (whole code ∷ [])
unfolding understood everything
open_petitions_typed code = record { one = (refl, refl); accepted = refl; counts = never_overflows 19 open_petitions_query (whole code ∷ []) }

pub find_petitions_typed : (low high : ℕ) → IsTyped schema_5 find_petitions_text find_petitions_query (whole low ∷ whole high ∷ [])
unfolding understood everything
find_petitions_typed low high = record { one = (refl, refl); accepted = refl; counts = never_overflows 19 find_petitions_query (whole low ∷ whole high ∷ []) }

pub find_spans_typed : (vid low high : ℕ) → IsTyped schema_5 find_spans_text find_spans_query (whole vid ∷ whole low ∷ whole high ∷ [])
unfolding understood everything
find_spans_typed vid low high = record { one = (refl, refl); accepted = refl; counts = never_overflows 15 find_spans_query (whole vid ∷ whole low ∷ whole high ∷ []) }

pub last_digest_typed : IsTyped schema_5 last_digest_text last_digest_query ([])
unfolding understood everything
last_digest_typed = record { one = (refl, refl); accepted = refl; counts = never_overflows 20 last_digest_query ([]) }

pub digests_after_typed : (after most : ℕ) → IsTyped schema_5 digests_after_text digests_after_query (whole after ∷ whole most ∷ [])
unfolding understood everything
digests_after_typed after most = record { one = (refl, refl); accepted = refl; counts = never_overflows 20 digests_after_query (whole after ∷ whole most ∷ []) }

pub find_digest_typed : (id : ℕ) → IsTyped schema_5 find_digest_text find_digest_query (whole id ∷ [])
unfolding understood everything
find_digest_typed id = record { one = (refl, refl); accepted = refl; counts = never_overflows 20 find_digest_query (whole id ∷ []) }

pub find_reason_typed : (petition : ℕ) → IsTyped schema_5 find_reason_text find_reason_query (whole petition ∷ [])
unfolding understood everything
find_reason_typed petition = record { one = (refl, refl); accepted = refl; counts = never_overflows 21 find_reason_query (whole petition ∷ []) }

pub find_opened_typed : (petition : ℕ) → IsTyped schema_5 find_opened_text find_opened_query (whole petition ∷ [])
unfolding understood everything
find_opened_typed petition = record { one = (refl, refl); accepted = refl; counts = never_overflows 22 find_opened_query (whole petition ∷ []) }

pub find_closed_typed : (petition : ℕ) → IsTyped schema_5 find_closed_text find_closed_query (whole petition ∷ [])
unfolding understood everything
find_closed_typed petition = record { one = (refl, refl); accepted = refl; counts = never_overflows 23 find_closed_query (whole petition ∷ []) }
