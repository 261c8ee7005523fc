use Rattle.std.proofs.Common.{refl}
use Rattle.registry_store.proofs.IsQueryLemmas.{untouched_itself}
use Rattle.registry_desk.proofs.CacheLemmas.{never_taken, taken_of}
use Rattle.registry_desk.proofs.acting.answer_query.Goals as goal

pub returns-in-Some : goal.returns-in-Some
returns-in-Some g c = record {
  answered = λ h stands clean are. taken_of h c.args.cache.now c.args.query.now c.in-Some.response c.in-Some.ensures.taken are;
  kind = λ h stands clean. tt;
  left = untouched_itself c.args.registry.now;
  notes = refl;
  only_poisoned = λ never. absurd cc;
  when_poisoned = λ poisoned none. absurd (never_taken c.args.cache.now c.args.query.now c.in-Some.response c.in-Some.ensures.taken none);
  taken = c.in-Some.ensures.left;
}
