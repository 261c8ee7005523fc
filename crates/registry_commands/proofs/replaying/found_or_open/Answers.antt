use Rattle.std.proofs.Common.{◌∙◌, inl, sym, arith, true≢false}
use Rattle.std.proofs.lemmas.Result.{IfErr-weaker, IfOk-weaker}
use Rattle.sqlite.specs.Held.{state}
use Rattle.sqlite.specs.State.{HasCleanDisk}
use Rattle.registry_store.specs.Promise.{state_of}
use Rattle.registry_commands.specs.Replayed.{CommitsFirst, CommitsIfEmpty, CommitsIfOlder, IsLeftByOpening, IsOpen}
use Rattle.registry_commands.proofs.FoundOrOpenLemmas.{foreign_fault, fresh_meta, is_not, left_found, left_there, opened_there, survives_as}
use Rattle.registry_commands.proofs.replaying.found_or_open.Goals as goal

pub returns-in-Ok-clause-ok : goal.returns-in-Ok-clause-ok
returns-in-Ok-clause-ok g c =
    let conn = state g.S.Store c.args.conn in
    let founding = c.args.founding.now in
    let was : HasCleanDisk (state_of c.in-Ok.registry) → HasCleanDisk conn = λ clean. omega (arith, c.in-Ok.ensures.survives.clean, clean) in
    record {
      is_new = c.in-Ok.ensures.is_new;
      idle = is_not c.args.conn.in_transaction (λ inside. c.in-Ok.ensures.busy inside);
      survives = survives_as conn (state_of c.in-Ok.registry) (CommitsIfEmpty founding conn) (CommitsFirst founding conn) (λ db made. inl made) c.in-Ok.ensures.survives;
      empty = λ none. c.in-Ok.ensures.empty;
      opened = λ live version h legal fresh clean. absurd (true≢false (sym (fresh_meta version conn h live fresh (was clean)) ∙ c.in-Ok.ensures.fresh));
      founds = λ none clean. c.in-Ok.ensures.represents clean;
      known = inl c.in-Ok.ensures.fresh;
      clean = was;
    }

pub returns-in-Taken-clause-ok : goal.returns-in-Taken-clause-ok
returns-in-Taken-clause-ok g c =
    let taken = c.in-Err.ensures.taken c.in-Taken.is in
    IfOk-weaker c.open_there.result (IsOpen g.S.Store c.in-Err.conn) _ (λ registry opened. opened_there g.S.Store c.args.conn c.args.founding.now c.in-Err.conn taken.0 taken.1 registry opened) c.open_there.ensures.ok

pub returns-in-Taken-clause-err : goal.returns-in-Taken-clause-err
returns-in-Taken-clause-err g c =
    let taken = c.in-Err.ensures.taken c.in-Taken.is in
    IfErr-weaker c.open_there.result (λ e. IsLeftByOpening g.S.Store (CommitsIfOlder (state g.S.Store c.in-Err.conn)) c.in-Err.conn e.0 e.1) _
    (λ e left. left_there g.S.Store c.args.conn c.args.founding.now c.in-Err.conn taken.0 e.0 e.1 left) c.open_there.ensures.err

pub returns-in_default-clause-err : goal.returns-in_default-clause-err
returns-in_default-clause-err g c =
    left_found g.S.Store c.args.conn c.args.founding.now c.in-Err.conn c.in-Err.fault c.failure_of.result c.failure_of.ensures c.in-Err.ensures.kind c.in_default.not-Taken
    g.met.S.Store.settled (c.in-Err.ensures.untaken c.in_default.not-Taken) c.in-Err.ensures.idle c.in-Err.ensures.busy c.in-Err.ensures.survives

pub returns-in-Taken-clause-named : goal.returns-in-Taken-clause-named
returns-in-Taken-clause-named g c =
    IfErr-weaker c.open_there.result (λ e. IsLeftByOpening g.S.Store (CommitsIfOlder (state g.S.Store c.in-Err.conn)) c.in-Err.conn e.0 e.1) _
    (λ e left told. (c.in-Err.ensures.taken c.in-Taken.is).1) c.open_there.ensures.err

pub returns-in_default-clause-named : goal.returns-in_default-clause-named
returns-in_default-clause-named g c told = absurd (c.in-Err.ensures.kind.1 (foreign_fault c.in-Err.fault (sym c.failure_of.ensures ∙ told)))
