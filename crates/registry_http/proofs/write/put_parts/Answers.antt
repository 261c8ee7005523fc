use Rattle.std.proofs.Common.{rules, ◌≡◌}
use Rattle.std.specs.Prelude.{Err}
use Rattle.byte_streams.proofs.StreamLemmas.{writes_then, appends_prefix_more}
use Rattle.registry_http.proofs.write.put_parts.Goals as goal

pub returns-in_err-put_all : goal.returns-in_err-put_all
returns-in_err-put_all g c =
    let is : c.from_residual.result ≡ Err c.in_err-put_all.field-0.0 = search rules in
    rw is (appends_prefix_more _ _ c.args.head.now c.args.body.now c.in_err-put_all.ensures.0, c.in_err-put_all.ensures.1)

pub returns : goal.returns
returns g c = writes_then _ _ _ _ _ _ _ c.args.head.now c.args.body.now c.in_ok-put_all.ensures.0 c.in_ok-put_all.ensures.1 c.put_all-2.ensures
