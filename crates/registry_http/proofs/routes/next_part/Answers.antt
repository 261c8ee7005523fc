use Rattle.std.proofs.Common.{ℕ, List, ◌∷◌, ap, ◌∙◌, sym}
use Rattle.registry_http.proofs.PartLemmas.{first_is_text}
use Rattle.registry_http.proofs.routes.next_part.Goals as goal

pub returns-in-Some : goal.returns-in-Some
returns-in-Some c =
    let gives = c.in-Some.ensures.steps in
    let text = first_is_text c.args.params.now c.next.new.self gives.0 gives.1 c.requires in
    (gives.0.0, gives.1 ∙ ap (λ (x : List ℕ). (gives.0.0, x) ∷ c.next.new.self) (sym (gives.3 text)))
