use Rattle.std.proofs.Common.{Option, subst}
use Rattle.registry_store.specs.declared.fault.Fault.{Fault}
use Rattle.registry_store.specs.Promise.{NotesForeign}
use Rattle.registry_store.proofs.IsQueryLemmas.{notes_then}
use Rattle.shared_registry.specs.Lines.{fault_in_call}
use Rattle.shared_registry.proofs.JoinLemmas.{clean_before}
use Rattle.shared_desk.proofs.AnswerLemmas.{if_fault, if_response, query_answered, query_unanswered, same_fault_told}
use Rattle.shared_desk.proofs.answering.answer_after_following.Goals as goal

pub returns-clause-ok : goal.returns-clause-ok
returns-clause-ok g c lines kept h follows clean of =
    let asked = c.answer_query.ensures in
    let mid = clean_before c.follow_first.new.registry c.answer_query.new.registry asked.left clean in
    let followed = c.in_ok-follow_first.ensures.ok lines kept h follows mid of in
    if_response c.answer_query.result c.map_err.result _ _ c.map_err.ensures.cases (asked.answered followed.0.now followed.0.follows.represents clean followed.1)
    (λ response is. query_answered g.L.Log lines c.args.cursor.now h c.follow_first.new.registry c.answer_query.new.registry c.follow_first.new.cursor c.args.query.now response c.follow_first.new.cache c.answer_query.new.cache followed.0 followed.1
    asked.left is asked.taken)

pub returns-clause-err : goal.returns-clause-err
returns-clause-err g c lines kept h follows clean =
    let asked = c.answer_query.ensures in
    let mid = clean_before c.follow_first.new.registry c.answer_query.new.registry asked.left clean in
    let followed = c.in_ok-follow_first.ensures.followed lines kept h follows mid in
    if_fault c.answer_query.result c.map_err.result _ _ c.map_err.ensures.cases (asked.kind followed.now followed.follows.represents clean)
    (λ fault kind. query_unanswered g.L.Log lines c.args.cursor.now h c.follow_first.new.registry c.answer_query.new.registry c.follow_first.new.cursor fault followed asked.left kind c.args.query.now)

pub returns-clause-notes : goal.returns-clause-notes
returns-clause-notes g c =
    let mid = c.follow_first.new.registry in
    let last = c.answer_query.new.registry in
    let same = same_fault_told c.answer_query.result c.map_err.result c.map_err.ensures.cases in
    notes_then c.args.registry.now mid last (fault_in_call c.map_err.result) c.in_ok-follow_first.ensures.notes (subst (λ (fault : Option Fault). NotesForeign mid last fault) same c.answer_query.ensures.notes)
