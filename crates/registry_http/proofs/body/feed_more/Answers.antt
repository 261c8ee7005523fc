use Rattle.std.proofs.Common.{rules, take}
use Rattle.std.proofs.lemmas.List.{take-append-le}
use Rattle.registry_http.proofs.body.feed_more.Goals as goal

pub returns-in-Ok-clause-ok : goal.returns-in-Ok-clause-ok
returns-in-Ok-clause-ok g c =
    let moves = c.in-Ok.ensures.moves in (
      take c.in-Ok.count c.take.new.room,
      search rules,
      search rules,
      moves.1,
      λ none. moves.2 none (search rules),
      rw (take-append-le c.in-Ok.count c.take.new.room _ moves.0) at c.feed.ensures.was_fed,
    )
