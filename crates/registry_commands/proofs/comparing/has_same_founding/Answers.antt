use Rattle.std.proofs.Common.{◌≡◌, ap}
use Rattle.registry_rules.specs.declared.founding.Founding.{Founding}
use Rattle.registry_wire.specs.Record.{founding_line}
use Rattle.registry_views.proofs.OnceLemmas.{one_founding}
use Rattle.registry_commands.proofs.comparing.has_same_founding.Goals as goal

pub returns : goal.returns
returns g c h stored made other =
    c.has_same_line.ensures.other other
    (ap (λ (f : Founding). founding_line f) (one_founding h _ _ (c.founding-a.ensures h stored) (c.founding-b.ensures h made) c.as_slice.ensures.valid c.as_slice-2.ensures.valid))
