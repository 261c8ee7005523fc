use Rattle.std.proofs.Common.{ℕ, List, length, ap, sym, subst, arith}
use Rattle.httparse.specs.Spans.{ResponseOverflows}
use Rattle.httparse.specs.Grammar.{MayBecomeResponse, ReadsResponse}
use Rattle.http_exchange.specs.Exchanges.{HasRead, none_read}
use Rattle.http_exchange.proofs.CallLemmas.{never_read, read_on}
use Rattle.http_exchange.proofs.HeadLemmas.{awaits_head, never_overflowing, no_response_nil, response_may_nil}
use Rattle.http_exchange.proofs.reading.read_head.Goals as goal

pub parts-init : goal.parts-init
parts-init g c =
    let none = ap length c.requires.fresh in
    record {
      read = subst (λ (t : List ℕ). HasRead g.C.Connection c.args.connection.now c.args.connection.now t) (sym c.requires.fresh) none_read;
      none = λ h rest reads. no_response_nil h rest (subst (λ (t : List ℕ). ReadsResponse t h rest) c.requires.fresh reads);
      begun = subst MayBecomeResponse (sym c.requires.fresh) response_may_nil;
      few = omega (arith, none);
    }

pub returns-in-Err-clause-err : goal.returns-in-Err-clause-err
returns-in-Err-clause-err g c =
    let awaited = awaits_head c.parts.buffer.items c.parts.invariant.none c.parts.invariant.begun (omega (arith, c.parts-test.true, c.len.ensures)) in
    let read = read_on g.C.Connection c.args.connection.now c.parts.connection c.read_more.new.connection c.parts.buffer.items c.read_more.new.buffer.items c.parts.invariant.read awaited c.in_ok-read_more.ensures.ok in
    let over = subst (λ (t : List ℕ). ResponseOverflows (length c.parts.spans) t) c.deref.ensures.value c.in-Err.ensures.no_room in
    never_read g.C.Connection c.args.connection.now c.read_more.new.connection c.read_more.new.buffer.items read (never_overflowing c.read_more.new.buffer.items (length c.parts.spans) (omega arith) over)
