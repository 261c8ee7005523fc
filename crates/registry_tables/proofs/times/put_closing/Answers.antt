use Rattle.std.proofs.Common.{refl, rules}
use Rattle.registry_tables.proofs.WriteLemmas.{written_open}
use Rattle.registry_tables.proofs.times.put_closing.Goals as goal

pub returns-in-None : goal.returns-in-None
returns-in-None g c = record {
  writes = record {
    same_reference = refl;
    done = λ clean inside is_open. (search rules, λ t had. rw c.in-None.is had);
    fault = λ never. absurd cc;
    survives = search rules;
  };
}

pub returns-in-None-time : goal.returns-in-None-time
returns-in-None-time g c = record {
  writes = record {
    same_reference = refl;
    done = λ clean inside is_open. (search rules, λ t had. rw (c.in-Some.is, c.in-None-time.is) had);
    fault = λ never. absurd cc;
    survives = search rules;
  };
}

pub returns-in-Some-time : goal.returns-in-Some-time
returns-in-Some-time g c = record { writes = written_open (λ done. (done.0, λ t had. rw (c.in-Some.is, c.in-Some-time.is) (done.1 t had))) c.put_closed.ensures.writes }
