use Rattle.registry_tables.proofs.times.put_act_times.Goals as goal

pub returns : goal.returns
returns g c = record { writes = rw (c.opened_by.ensures, c.closed_by.ensures) at c.put_times.ensures.writes }
