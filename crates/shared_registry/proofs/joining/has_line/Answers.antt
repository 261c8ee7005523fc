use Rattle.std.proofs.Common.{◌≡◌, ◌∙◌, Some, None, ap, sym}
use Rattle.std.proofs.lemmas.Option.{slice_get_past}
use Rattle.shared_registry.proofs.joining.has_line.Goals as goal

pub returns-in-Some-clause-has : goal.returns-in-Some-clause-has
returns-in-Some-clause-has c is = c.in-Some.ensures.there ∙ ap Some (c.are_same.ensures.same is)

pub returns-in-Some-clause-hasnt : goal.returns-in-Some-clause-hasnt
returns-in-Some-clause-hasnt c is same =
    let both : Some c.in-Some.other.now ≡ Some c.args.line.now = sym c.in-Some.ensures.there ∙ same in
    c.are_same.ensures.other is cc

pub returns-in-None-clause-hasnt : goal.returns-in-None-clause-hasnt
returns-in-None-clause-hasnt c is same =
    let both : None ≡ Some c.args.line.now = sym (slice_get_past c.args.lines.now c.args.n c.in-None.ensures.past) ∙ same in
    cc
