use Rattle.std.proofs.Common.{◌≡◌, codes, false, inl, inr, refl, rules}
use Rattle.std.specs.Str.{bytes_eq}
use Rattle.registry_program.proofs.shared_acts.answer_list.Goals as goal

pub returns-in-Ok : goal.returns-in-Ok
returns-in-Ok g c =
    let other : bytes_eq c.args.list.now (codes "-") ≡ false = search rules in
    inr (other, refl, inl (c.in-Ok.source, c.import_shared-in-Ok.new.source, c.in-Ok.ensures.opened, c.import_shared-in-Ok.ensures))
