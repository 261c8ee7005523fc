use Rattle.std.proofs.Common.{◌≡◌, ◌-◌, length, ap, ◌∙◌, rules}
use Rattle.std.specs.String.{string_bytes}
use Rattle.std.proofs.lemmas.Bool.{ltb-true, lt-ltb}
use Rattle.registry_reports.proofs.PageLemmas.{room_follows, follows_room}
use Rattle.registry_reports.proofs.page.Page.takes.Goals as goal

pub returns-then-self-lt-MOST_LINES-clause-follows :
    goal.returns-then-self-lt-MOST_LINES-clause-follows
returns-then-self-lt-MOST_LINES-clause-follows c = λ lines has.
    let line = c.args.line.now in
    let count = c.args.self.now.count in
    let room : c.saturating_sub.result ≡ 1048576 - c.len.result = search rules in
    let bytes : c.len.result ≡ length (string_bytes c.args.self.now.text) = search rules in (
      λ less. room_follows lines line count c.len.result c.saturating_sub.result has.1 (bytes ∙ ap length has.0) c.if-self-lt-MOST_LINES.true room (ltb-true (length line) c.saturating_sub.result less),
      λ may. lt-ltb (length line) c.saturating_sub.result (follows_room lines line count c.len.result c.saturating_sub.result has.1 (bytes ∙ ap length has.0) c.if-self-eq0.false room may),
    )
