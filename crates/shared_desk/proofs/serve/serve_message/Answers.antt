use Rattle.std.proofs.Common.{ℕ, List, Option, inl, inr, refl, sym, subst}
use Rattle.byte_streams.specs.Streams.{MayGive}
use Rattle.registry_http.specs.Messages.{Says}
use Rattle.registry_http.specs.Responses.{unavailable_response}
use Rattle.registry_http.proofs.MessageLemmas.{may_give_some}
use Rattle.registry_store.specs.declared.fault.Fault.{Fault}
use Rattle.registry_store.specs.Promise.{NotesForeign}
use Rattle.shared_registry.proofs.AskLemmas.{asked_nothing, asked_weaker}
use Rattle.shared_registry.proofs.LineLemmas.{leads_nowhere}
use Rattle.shared_registry.specs.declared.stop.ShareStop.TheVariants as stops
use Rattle.shared_desk.specs.Asks.{AppendsOrder, AppendsOrderIn}
use Rattle.shared_desk.specs.Refusals.{unavailable_for}
use Rattle.shared_desk.proofs.ServeLemmas.{same_fault, served_then, told_by, turned_away}
use Rattle.shared_desk.proofs.serve.serve_message.Goals as goal
use Rattle.shared_desk.proofs.serve.serve_message.Goals.{in-Ok, in-Err-Refused}

pub returns-clause-served : goal.returns-clause-served
returns-clause-served g c =
    let says : (bytes : List ℕ) × MayGive (g.R.Source.remaining c.args.source.now) bytes × Says c.founding.result.now.vendor bytes c.match-read_message.said = elim c.match-read_message.branch [
      | in-Ok w ↦ rw w.said-is w.in-Ok.ensures.ok
      | in-Err-Refused w ↦ rw w.said-is (rw w.in-Err-Refused.field-0-is at w.in-Err-Refused.ensures.ok)
    ] in
    let stop = c.send-turn.result.stop in
    let told = c.send-turn.ensures in
    let done = c.answer-done.ensures in (
      says.0,
      says.1,
      (
        told.0,
        told.3,
        told.2,
        told_by c.answer-done.result told.0 stop told.1,
        λ lines kept h follows clean of.
            let here = subst (λ (founding : ℕ). Says founding says.0 c.match-read_message.said) (c.founding.ensures h follows.represents).vendor says.2 in
            served_then g.L.Log lines c.args.cursor.now c.answer-done.new.registry c.answer-done.new.cursor h says.0 c.match-read_message.said c.answer-done.result told.0 stop c.answer-done.new.cache c.remember.new.cache here
            (done.ok lines kept h follows clean of) (done.err lines kept h follows clean) c.remember.ensures told.1,
        λ poisoned.
            turned_away c.args.registry.now c.answer-done.new.registry c.args.cursor.now c.answer-done.new.cursor c.founding.result.now.vendor says.0 c.match-read_message.said c.answer-done.result told.0 stop says.2 done.refused (done.when_poisoned poisoned)
            told.1,
        λ lines kept h follows clean.
            let here = subst (λ (founding : ℕ). Says founding says.0 c.match-read_message.said) (c.founding.ensures h follows.represents).vendor says.2 in
            let log = lines c.answer-done.new.cursor.log in
            asked_weaker g.L.Log (AppendsOrder log h c.match-read_message.said) (AppendsOrderIn log h says.0) (λ n line it. (c.match-read_message.said, here, it))
            c.args.cursor.now.log c.answer-done.new.cursor.log (done.asks lines kept h follows clean),
      ),
    )

pub returns-clause-notes : goal.returns-clause-notes
returns-clause-notes g c =
    let told = c.send-turn.ensures in
    subst (λ (fault : Option Fault). NotesForeign c.args.registry.now c.answer-done.new.registry fault) (sym (same_fault c.answer-done.result told.0 c.send-turn.result.stop told.1)) c.answer-done.ensures.notes

pub returns-in-Err-Broken-clause-served : goal.returns-in-Err-Broken-clause-served
returns-in-Err-Broken-clause-served g c =
    let all = may_give_some (g.R.Source.remaining c.args.source.now) in
    (all.0, all.1, tt)

pub returns-in-Err-NoMemory-clause-served : goal.returns-in-Err-NoMemory-clause-served
returns-in-Err-NoMemory-clause-served g c =
    let all = may_give_some (g.R.Source.remaining c.args.source.now) in (
      all.0,
      all.1,
      rw c.give_up.ensures.stop (
        unavailable_response (unavailable_for stops.NoMemory),
        c.give_up.ensures.sent,
        c.give_up.ensures.fault,
        refl,
        λ lines kept h follows clean of. (inl ((h, leads_nowhere h, follows), inl refl), c.clear.ensures),
        λ poisoned. (inr refl, refl, refl),
        λ lines kept h follows clean. asked_nothing g.L.Log (AppendsOrderIn (lines c.args.cursor.now.log) h all.0) c.args.cursor.now.log,
      ),
    )
