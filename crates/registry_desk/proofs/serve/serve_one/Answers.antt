use Rattle.std.proofs.lemmas.Result.{IfErr-weaker, IfOk-weaker}
use Rattle.registry_desk.proofs.CacheLemmas.{none_are}
use Rattle.registry_desk.proofs.serve.serve_one.Goals as goal

pub returns-clause-served : goal.returns-clause-served
returns-clause-served g c =
    let it = c.serve_message.ensures.served in
    let none = c.new-cache.ensures in (
      it.0,
      it.1,
      IfOk-weaker c.serve_message.result _ _
          (λ served said. (said.0, said.1, λ h stands clean. (said.2 h stands clean (none_are h c.new-cache.result none)).0, λ poisoned. let away = said.3 poisoned none in (away.0, away.1), said.4))
          it.2,
    )

pub returns-clause-read : goal.returns-clause-read
returns-clause-read g c = IfErr-weaker c.serve_message.result _ _ (λ e it. (it.0, it.1, it.2)) c.serve_message.ensures.read
