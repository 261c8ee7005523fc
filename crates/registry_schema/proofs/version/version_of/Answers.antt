use Rattle.std.proofs.Common.{ap, ◌∙◌}
use Rattle.sqlite_schema.specs.declared.schema.Schema.{Schema}
use Rattle.sqlite.specs.Held.{state}
use Rattle.registry_schema.specs.Version.{version_named}
use Rattle.registry_schema.proofs.VersionLemmas.{named_1, named_2, named_3, named_4, named_5}
use Rattle.registry_schema.proofs.version.version_of.Goals as goal

pub returns-clause-named : goal.returns-clause-named
returns-clause-named g c = c.version_by.ensures ∙ ap version_named c.as_slice.ensures ∙ ap (λ (s : Schema). version_named s.tables) c.schema.ensures.value

pub returns-clause-first : goal.returns-clause-first
returns-clause-first g c is_open has = returns-clause-named g c ∙ named_1 (state g.S.Store c.args.conn.now) c.schema.ensures.live is_open has

pub returns-clause-second : goal.returns-clause-second
returns-clause-second g c is_open has = returns-clause-named g c ∙ named_2 (state g.S.Store c.args.conn.now) c.schema.ensures.live is_open has

pub returns-clause-third : goal.returns-clause-third
returns-clause-third g c is_open has = returns-clause-named g c ∙ named_3 (state g.S.Store c.args.conn.now) c.schema.ensures.live is_open has

pub returns-clause-fourth : goal.returns-clause-fourth
returns-clause-fourth g c is_open has = returns-clause-named g c ∙ named_4 (state g.S.Store c.args.conn.now) c.schema.ensures.live is_open has

pub returns-clause-fifth : goal.returns-clause-fifth
returns-clause-fifth g c is_open has = returns-clause-named g c ∙ named_5 (state g.S.Store c.args.conn.now) c.schema.ensures.live is_open has
