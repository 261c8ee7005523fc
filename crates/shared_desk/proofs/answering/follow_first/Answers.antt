use Rattle.std.proofs.Common.{◌∙◌}
use Rattle.shared_desk.proofs.AnswerLemmas.{texts_stay}
use Rattle.shared_desk.proofs.answering.follow_first.Goals as goal

pub returns-clause-ok : goal.returns-clause-ok
returns-clause-ok g c lines kept h follows clean of =
    let followed = c.in_ok-follow.ensures.ok lines kept h follows clean in
    (followed, texts_stay h followed.now c.args.cache.now c.drop_if_moved.new.cache c.follow.new.cursor.next c.next-before.result c.drop_if_moved.ensures (c.next-before.ensures ∙ follows.next) followed.follows.next followed.leads of)
