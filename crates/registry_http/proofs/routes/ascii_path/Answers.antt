use Rattle.std.proofs.Common.{sym}
use Rattle.registry_http.proofs.AsciiLemmas.{is_utf8_by_test}
use Rattle.registry_http.proofs.routes.ascii_path.Goals as goal

pub unreachable-requires : goal.unreachable-requires
unreachable-requires c = c.in-Err.ensures.cases.0 (is_utf8_by_test c.args.path.now (sym c.if-not-are_ascii.ensures))
