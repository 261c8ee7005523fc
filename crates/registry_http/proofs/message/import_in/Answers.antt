use Rattle.std.proofs.Common.{rules, ◌≡◌, true}
use Rattle.registry_http.proofs.FaultLemmas.{list_refused}
use Rattle.registry_http.proofs.message.import_in.Goals as goal

pub returns-in_err-list-clause-ok : goal.returns-in_err-list-clause-ok
returns-in_err-list-clause-ok c =
    let whole : c.args.whole ≡ true = search rules in
    list_refused c.from_residual.result c.in_err-list.field-0.0 c.args.whole c.args.reader c.args.founding c.args.caller c.args.key c.args.org c.args.vendor c.from_residual.ensures.1 whole c.in_err-list.ensures.answers
