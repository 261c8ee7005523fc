use Rattle.std.proofs.Common.{ℕ, List, sym, subst}
use Rattle.http_exchange.specs.Bodies.{IsBodyAt}
use Rattle.http_exchange.proofs.BodyLemmas.{begins_at}
use Rattle.http_exchange.proofs.reading.read_body.Goals as goal

pub pieces-init : goal.pieces-init
pieces-init g c = record {
  read = λ first read. read;
  is_at = subst (λ (t : List ℕ). IsBodyAt c.args.buffer.now.items c.args.start c.new.result c.args.start.len t) (sym c.new-2.ensures.items)
      (begins_at c.args.buffer.now.items c.args.start c.new.result c.requires.head c.requires.few (cc (c.new.ensures, c.limits.ensures)));
}
