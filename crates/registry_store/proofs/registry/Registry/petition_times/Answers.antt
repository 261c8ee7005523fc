use Rattle.std.proofs.Common.{refl}
use Rattle.registry_store.proofs.IsQueryLemmas.{queried}
use Rattle.registry_store.proofs.registry.Registry.petition_times.Goals as goal

pub returns : goal.returns
returns g c = record { query = queried c.in_ok-check_not_poisoned.ensures.sound refl refl refl c.find_petition_times-times.ensures.looked_up c.note.ensures }
