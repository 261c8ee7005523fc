use Rattle.std.proofs.Common.{◌≡◌, inl, inr, Err, IsTrue, MatchResult, sym, subst, ap, ◌∙◌, arith, rules}
use Rattle.sqlite.specs.State.{HasCleanDisk}
use Rattle.sqlite.specs.Held.{state}
use Rattle.table_laws.specs.Inside.{CommitsNothing}
use Rattle.registry_schema.specs.declared.fault.TableFault.TheVariants.{Foreign}
use Rattle.registry_tables.specs.Raising.{CommitsLater, StaysOpen}
use Rattle.registry_store.specs.Promise.{state_of}
use Rattle.registry_store.proofs.MigrationLemmas.{leaves_then, quiet_after, commits_then, foreign_after, open_then, known_then}
use Rattle.registry_store.proofs.IsQueryLemmas.{foreign_of}
use Rattle.registry_store.proofs.OpeningLemmas.{at_rest}
use Rattle.registry_store.proofs.registry.Registry.open.Goals as goal

pub returns-in-Ok-clause-represents : goal.returns-in-Ok-clause-represents
returns-in-Ok-clause-represents g c version h legal at =
    let a = state g.S.Store c.args.conn in
    c.open_newest.ensures.represents h legal (λ clean. (let early : HasCleanDisk a = omega (arith, clean, c.migrate.ensures.survives.clean) in (c.in-Ok.ensures.raised clean).1 h version (at.shown early)))

pub returns-in-Ok-clause-fresh : goal.returns-in-Ok-clause-fresh
returns-in-Ok-clause-fresh g c version h legal fresh =
    let a = state g.S.Store c.args.conn in
    c.open_newest.ensures.represents h legal (λ clean. (let early : HasCleanDisk a = omega (arith, clean, c.migrate.ensures.survives.clean) in let shown = fresh early in (c.in-Ok.ensures.raised clean).1 h version (λ _. (shown.1, shown.2))))

pub returns-in-Ok-clause-open : goal.returns-in-Ok-clause-open
returns-in-Ok-clause-open g c =
    let stays : HasCleanDisk (state g.S.Store c.migrate.new.conn) → StaysOpen (state g.S.Store c.args.conn) (state g.S.Store c.migrate.new.conn) = λ clean. (c.in-Ok.ensures.raised clean).0 in
    open_then (state g.S.Store c.args.conn) (state g.S.Store c.migrate.new.conn) (CommitsLater (state g.S.Store c.args.conn)) state_of (λ e. state g.S.Store e.1)
    c.migrate.ensures.survives stays c.open_newest.result c.open_newest.ensures.survives c.open_newest.ensures.open

pub returns-in-Ok-clause-leaves : goal.returns-in-Ok-clause-leaves
returns-in-Ok-clause-leaves g c version h legal at =
    let a = state g.S.Store c.args.conn in
    let b = state g.S.Store c.migrate.new.conn in
    quiet_after b state_of (λ e. state g.S.Store e.1) version h (leaves_then a b c.migrate.ensures.survives version h at) c.open_newest.result c.open_newest.ensures.survives

pub returns-in-Err-clause-leaves : goal.returns-in-Err-clause-leaves
returns-in-Err-clause-leaves g c version h legal at =
    leaves_then (state g.S.Store c.args.conn) (state g.S.Store c.migrate.new.conn) c.migrate.ensures.survives version h at

pub returns-in-Ok-clause-survives : goal.returns-in-Ok-clause-survives
returns-in-Ok-clause-survives g c =
    let a = state g.S.Store c.args.conn in
    commits_then a (state g.S.Store c.migrate.new.conn) (CommitsLater a) state_of (λ e. state g.S.Store e.1) c.migrate.ensures.survives c.open_newest.result c.open_newest.ensures.survives

pub returns-in-Ok-clause-foreign : goal.returns-in-Ok-clause-foreign
returns-in-Ok-clause-foreign g c =
    let idle : IsTrue c.is_autocommit.result = search rules in
    foreign_after (state g.S.Store c.args.conn) (state g.S.Store c.migrate.new.conn) state_of (λ e. state g.S.Store e.1) (λ e. e.0) (c.is_autocommit.ensures.settled idle) c.in-Ok.ensures.raised c.open_newest.result c.open_newest.ensures.survives c.open_newest.ensures.foreign

pub returns-in-Err-clause-foreign : goal.returns-in-Err-clause-foreign
returns-in-Err-clause-foreign g c clean foreign version h legal =
    let told : c.migrate.result ≡ Err Foreign = c.in-Err.is ∙ ap Err (foreign_of c.in-Err.fault (sym c.from.ensures ∙ foreign)) in
    (c.migrate.ensures.foreign clean told).1 h version

pub returns-in-Ok-clause-newest : goal.returns-in-Ok-clause-newest
returns-in-Ok-clause-newest g c is_open has =
    let same = (c.in-Ok.ensures.newest is_open has).1 in
    subst (λ x. MatchResult c.open_newest.result (λ it. CommitsNothing (state g.S.Store x) (state_of it)) (λ e. CommitsNothing (state g.S.Store x) (state g.S.Store e.1))) same c.open_newest.ensures.survives

pub returns-in-Err-clause-newest : goal.returns-in-Err-clause-newest
returns-in-Err-clause-newest g c is_open has =
    let fine = (c.migrate.ensures.newest is_open has).0 in
    let failed = c.in-Err.is in
    absurd cc

pub returns-in-Ok-clause-untouched : goal.returns-in-Ok-clause-untouched
returns-in-Ok-clause-untouched g c = elim c.migrate.ensures.untouched [
  | inl older ↦ inl older
  | inr quiet ↦ inr (commits_then (state g.S.Store c.args.conn) (state g.S.Store c.migrate.new.conn) (λ _. ⊥) state_of (λ e. state g.S.Store e.1) quiet c.open_newest.result c.open_newest.ensures.survives)
]

pub returns-in-Ok-clause-known : goal.returns-in-Ok-clause-known
returns-in-Ok-clause-known g c =
    known_then g.S.Store c.args.conn c.migrate.new.conn state_of (λ e. state g.S.Store e.1) c.in-Ok.ensures.known c.open_newest.result c.open_newest.ensures.survives c.open_newest.ensures.says_newest

-- ---- the same of a connection that was just opened

pub returns-in-Ok-clause-leaves_fresh : goal.returns-in-Ok-clause-leaves_fresh
returns-in-Ok-clause-leaves_fresh g c version h legal fresh =
    let a = state g.S.Store c.args.conn in
    let b = state g.S.Store c.migrate.new.conn in
    let at = at_rest g.S.Store c.args.conn version h g.met.S.Store.settled fresh in
    quiet_after b state_of (λ e. state g.S.Store e.1) version h (leaves_then a b c.migrate.ensures.survives version h at) c.open_newest.result c.open_newest.ensures.survives

pub returns-in-Err-clause-leaves_fresh : goal.returns-in-Err-clause-leaves_fresh
returns-in-Err-clause-leaves_fresh g c version h legal fresh =
    leaves_then (state g.S.Store c.args.conn) (state g.S.Store c.migrate.new.conn) c.migrate.ensures.survives version h
    (at_rest g.S.Store c.args.conn version h g.met.S.Store.settled fresh)
