use Rattle.std.proofs.Common.{◌≡◌, drop, refl, rules}
use Rattle.httparse.specs.Spans.{span_bytes}
use Rattle.http_exchange.proofs.BodyLemmas.{ends_at, is_dry, is_further, is_past, never_at}
use Rattle.http_exchange.proofs.CallLemmas.{read_on, never_read}
use Rattle.http_exchange.proofs.reading.read_piece.Goals as goal

pub read_more-requires : goal.read_more-requires
read_more-requires g c =
    let same : c.bytes_from-unread.result.now ≡ drop c.args.part.now.at c.args.buffer.now.items = cc (c.bytes_from-unread.ensures, c.deref.ensures.value) in
    let dry = rw c.in-Ok-NeedMore.field-0-is at c.in-Ok-NeedMore.ensures.ok in
    is_dry c.args.buffer.now.items c.bytes_from-unread.result.now c.args.part.now.body.items c.args.start c.args.part.now.decoder c.decode.new.self c.args.part.now.at c.in-Ok-NeedMore.len c.requires same dry

pub returns-in_ok-extend_from_slice-in-Ok-Data-clause-on : goal.returns-in_ok-extend_from_slice-in-Ok-Data-clause-on
returns-in_ok-extend_from_slice-in-Ok-Data-clause-on g c =
    let same : c.bytes_from-unread.result.now ≡ drop c.args.part.now.at c.args.buffer.now.items = cc (c.bytes_from-unread.ensures, c.deref.ensures.value) in
    let found = rw c.in-Ok-Data.field-0-is at c.in-Ok-Data.ensures.ok in
    is_past c.args.buffer.now.items c.args.start c.args.part.now.decoder c.decode.new.self c.args.part.now.at c.in-Ok-Data.piece.end c.bytes_from-unread.result.now c.args.part.now.body.items (span_bytes c.bytes_from-unread.result.now c.in-Ok-Data.piece) c.extend_from_slice.new.self.items
    c.requires same found.1 (cc (c.in_ok-extend_from_slice-in-Ok-Data.ensures.items, c.of.ensures))

pub returns-in_ok-read_more-in-Ok-NeedMore-clause-read : goal.returns-in_ok-read_more-in-Ok-NeedMore-clause-read
returns-in_ok-read_more-in-Ok-NeedMore-clause-read g c = λ first read.
    let same : c.bytes_from-unread.result.now ≡ drop c.args.part.now.at c.args.buffer.now.items = cc (c.bytes_from-unread.ensures, c.deref.ensures.value) in
    let dry = rw c.in-Ok-NeedMore.field-0-is at c.in-Ok-NeedMore.ensures.ok in
    let none = is_dry c.args.buffer.now.items c.bytes_from-unread.result.now c.args.part.now.body.items c.args.start c.args.part.now.decoder c.decode.new.self c.args.part.now.at c.in-Ok-NeedMore.len c.requires same dry in
    read_on g.C.Connection first c.args.connection.now c.read_more.new.connection c.args.buffer.now.items c.read_more.new.buffer.items read none c.in_ok-read_more-in-Ok-NeedMore.ensures.ok

pub returns-in-Err-clause-err : goal.returns-in-Err-clause-err
returns-in-Err-clause-err g c = λ first read.
    let same : c.bytes_from-unread.result.now ≡ drop c.args.part.now.at c.args.buffer.now.items = cc (c.bytes_from-unread.ensures, c.deref.ensures.value) in
    let never = never_at c.args.buffer.now.items c.args.start c.args.part.now.decoder c.args.part.now.at 64 c.bytes_from-unread.result.now c.args.part.now.body.items c.requires same refl c.in-Err.ensures.err in
    never_read g.C.Connection first c.args.connection.now c.args.buffer.now.items read never

pub returns-in_ok-read_more-in-Ok-NeedMore-clause-on : goal.returns-in_ok-read_more-in-Ok-NeedMore-clause-on
returns-in_ok-read_more-in-Ok-NeedMore-clause-on g c =
    let same : c.bytes_from-unread.result.now ≡ drop c.args.part.now.at c.args.buffer.now.items = cc (c.bytes_from-unread.ensures, c.deref.ensures.value) in
    let dry = rw c.in-Ok-NeedMore.field-0-is at c.in-Ok-NeedMore.ensures.ok in
    is_further g.C.Connection c.args.connection.now c.read_more.new.connection c.args.buffer.now.items c.read_more.new.buffer.items c.bytes_from-unread.result.now c.args.part.now.body.items c.args.start c.args.part.now.decoder c.decode.new.self c.args.part.now.at c.in-Ok-NeedMore.len
    c.requires same dry c.in_ok-read_more-in-Ok-NeedMore.ensures.ok c.in_ok-read_more-in-Ok-NeedMore.ensures.few

pub returns-in-Ok-End-clause-end : goal.returns-in-Ok-End-clause-end
returns-in-Ok-End-clause-end g c =
    let same : c.bytes_from-unread.result.now ≡ drop c.args.part.now.at c.args.buffer.now.items = cc (c.bytes_from-unread.ensures, c.deref.ensures.value) in
    let ends = rw c.in-Ok-End.field-0-is at c.in-Ok-End.ensures.ok in
    ends_at c.args.buffer.now.items c.args.start c.args.part.now.decoder c.args.part.now.at c.in-Ok-End.len c.in-Ok-End.field-0-1 c.bytes_from-unread.result.now c.args.part.now.body.items c.decode.new.trailers c.is_empty.result c.requires same (search rules) ends (search rules)
