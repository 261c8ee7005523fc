use Rattle.std.proofs.Common.{◌≡◌, ◌∙◌, true≢false, sym, ap}
use Rattle.std.specs.Cmp.Lexicographic.{pointwise}
use Rattle.std.proofs.lemmas.Cmp.{lists_equiv}
use Rattle.registry_commands.proofs.comparing.place_of_other.Goals as goal

pub returns-else-eq : goal.returns-else-eq
returns-else-eq g c same =
    let itself = (lists_equiv g.met.T.Eq.laws).refl c.args.a.now in
    absurd (true≢false (sym itself ∙ ap (λ l. pointwise g.T.PartialEq.eq c.args.a.now l) same ∙ sym c.eq.ensures ∙ c.if-eq.false))
