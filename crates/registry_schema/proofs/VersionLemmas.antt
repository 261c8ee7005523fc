-- The names of a schema's tables give its version, and each schema has the table meta.
use Rattle.std.proofs.Common.{◌≡◌, Some, true, IsTrue, ap, refl, ◌∙◌}
use Rattle.sqlite_schema.specs.declared.schema.Schema.{Schema}
use Rattle.sqlite.specs.State.{State, IsLive}
use Rattle.table_laws.specs.Making.{HasTables}
use Rattle.table_laws.proofs.CatalogLemmas.{live_schema}
use Rattle.registry_schema.specs.Texts.{texts_1, texts_2, texts_3, texts_4, texts_5}
use Rattle.registry_schema.specs.Schema.{schema_1, schema_2, schema_3, schema_4, schema_5}
use Rattle.registry_schema.specs.Meta.{has_meta_table}
use Rattle.registry_schema.specs.Version.{version_named}
use Rattle.registry_schema.proofs.TextLemmas.{schema_1_is, schema_2_is, schema_3_is, schema_4_is, schema_5_is}

module _ (s : State) (live : IsLive s) (is_open : IsTrue s.is_open) where
  -- the tables determine the schema
  pub has_schema_1 : HasTables texts_1 s.now.trees → s.now.schema ≡ schema_1
  has_schema_1 has = live_schema s _ live is_open has ∙ schema_1_is

  pub has_schema_2 : HasTables texts_2 s.now.trees → s.now.schema ≡ schema_2
  has_schema_2 has = live_schema s _ live is_open has ∙ schema_2_is

  pub has_schema_3 : HasTables texts_3 s.now.trees → s.now.schema ≡ schema_3
  has_schema_3 has = live_schema s _ live is_open has ∙ schema_3_is

  pub has_schema_4 : HasTables texts_4 s.now.trees → s.now.schema ≡ schema_4
  has_schema_4 has = live_schema s _ live is_open has ∙ schema_4_is

  pub has_schema_5 : HasTables texts_5 s.now.trees → s.now.schema ≡ schema_5
  has_schema_5 has = live_schema s _ live is_open has ∙ schema_5_is

  -- and their names give its version
  pub named_1 : HasTables texts_1 s.now.trees → version_named s.now.schema.tables ≡ Some 1
  named_1 has = ap (λ (x : Schema). version_named x.tables) (has_schema_1 has)

  pub named_2 : HasTables texts_2 s.now.trees → version_named s.now.schema.tables ≡ Some 2
  named_2 has = ap (λ (x : Schema). version_named x.tables) (has_schema_2 has)

  pub named_3 : HasTables texts_3 s.now.trees → version_named s.now.schema.tables ≡ Some 3
  named_3 has = ap (λ (x : Schema). version_named x.tables) (has_schema_3 has)

  pub named_4 : HasTables texts_4 s.now.trees → version_named s.now.schema.tables ≡ Some 4
  named_4 has = ap (λ (x : Schema). version_named x.tables) (has_schema_4 has)

  pub named_5 : HasTables texts_5 s.now.trees → version_named s.now.schema.tables ≡ Some 5
  named_5 has = ap (λ (x : Schema). version_named x.tables) (has_schema_5 has)

pub meta_first : has_meta_table schema_1 ≡ true
meta_first = refl

pub meta_second : has_meta_table schema_2 ≡ true
meta_second = refl

pub meta_third : has_meta_table schema_3 ≡ true
meta_third = refl

pub meta_fourth : has_meta_table schema_4 ≡ true
meta_fourth = refl

pub meta_fifth : has_meta_table schema_5 ≡ true
meta_fifth = refl
