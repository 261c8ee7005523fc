use Rattle.std.proofs.Common.{All, sym, subst}
use Rattle.registry_http.proofs.PartLemmas.{HasText, parts_are_text, rest_is_text}
use Rattle.registry_http.proofs.routes.first_two.Goals as goal

pub next_part-requires : goal.next_part-requires
next_part-requires c =
    let p = c.args.params.now in
    subst (All HasText) (sym c.iter-parts.ensures.value) (parts_are_text p.pattern.now p.text.now p.path.now p.names.now 0 0 c.requires)

pub next_part-requires-in-Some : goal.next_part-requires-in-Some
next_part-requires-in-Some c =
    let p = c.args.params.now in
    let all = subst (All HasText) (sym c.iter-parts.ensures.value) (parts_are_text p.pattern.now p.text.now p.path.now p.names.now 0 0 c.requires) in
    let gives = c.in-Some.ensures in
    rest_is_text c.iter-parts.result c.next_part.new.params (gives.0, c.in-Some.first.now) gives.1 all
