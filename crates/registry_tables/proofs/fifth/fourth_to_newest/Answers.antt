use Rattle.std.proofs.Common.{◌≡◌, Err, arith, rules, subst}
use Rattle.sqlite.specs.State.{HasCleanDisk}
use Rattle.sqlite.specs.Held.{state}
use Rattle.table_laws.specs.Inside.{CommitsNothing}
use Rattle.registry_schema.specs.declared.fault.TableFault.TheVariants.{Foreign}
use Rattle.registry_tables.specs.Known.{SaysFourth}
use Rattle.registry_tables.specs.Raising.{Raises}
use Rattle.registry_tables.proofs.StepLemmas.{step_survives, step_made, step_named, step_foreign}
use Rattle.registry_tables.proofs.fifth.fourth_to_newest.Goals as goal

pub returns-clause-made : goal.returns-clause-made
returns-clause-made g c =
    let same : c.commit.new.tx.0 ≡ c.conn-2-1.given.0 = search rules in
    step_made g.S.Store 4 c.args.conn.now c.begin-tx.result.conn.now c.raise_fifth.new.tx.conn.now c.begin-tx.ensures.begun c.begin-tx.ensures.live c.in_ok-raise_fifth.ensures.raised c.raise_fifth.ensures.survives c.commit.new.tx.0 c.conn-2-1.given.0 c.commit.ensures.survives same c.commit.result c.commit.ensures.ok

pub returns-clause-survives : goal.returns-clause-survives
returns-clause-survives g c =
    let same : c.commit.new.tx.0 ≡ c.conn-2-1.given.0 = search rules in
    step_survives g.S.Store 4 c.args.conn.now c.begin-tx.result.conn.now c.raise_fifth.new.tx.conn.now c.begin-tx.ensures.begun c.begin-tx.ensures.live c.in_ok-raise_fifth.ensures.raised c.raise_fifth.ensures.survives c.commit.new.tx.0 c.conn-2-1.given.0 c.commit.ensures.survives same

pub returns-in_err-raise_fifth-clause-foreign : goal.returns-in_err-raise_fifth-clause-foreign
returns-in_err-raise_fifth-clause-foreign g c clean foreign =
    let begun = c.begin-tx.result.conn.now in
    let mid = c.raise_fifth.new.tx.conn.now in
    let end = c.conn-1.given.0 in
    let ends : CommitsNothing (state g.S.Store mid) (state g.S.Store end) = search rules in
    let was : c.raise_fifth.result ≡ Err Foreign = search rules in
    let early : HasCleanDisk (state g.S.Store mid) = omega (arith, ends.clean) in
    step_foreign g.S.Store 4 c.args.conn.now begun mid c.begin-tx.ensures.begun c.begin-tx.ensures.live
    (λ mids inside. subst (λ x. Raises 4 (state g.S.Store begun) (state g.S.Store mid) x) was (c.raise_fifth.ensures.raised mids inside)) early

pub returns-clause-named : goal.returns-clause-named
returns-clause-named g c clean =
    let same : c.commit.new.tx.0 ≡ c.conn-2-1.given.0 = search rules in
    let late : HasCleanDisk (state g.S.Store c.commit.new.tx.0) = search rules in
    let mids : HasCleanDisk (state g.S.Store c.raise_fifth.new.tx.conn.now) = omega (arith, c.commit.ensures.survives.clean) in
    step_named g.S.Store 4 c.args.conn.now c.begin-tx.result.conn.now c.raise_fifth.new.tx.conn.now c.begin-tx.ensures.begun c.begin-tx.ensures.live SaysFourth c.in_ok-raise_fifth.ensures.named mids c.commit.result
