use Rattle.std.proofs.Common.{inr, inl, ◌||◌, Bool, ℕ, List, Option, refl, sym, ap, subst, ◌∙◌}
use Rattle.byte_streams.specs.Streams.{MayGive}
use Rattle.registry_http.specs.Messages.{Says}
use Rattle.registry_http.specs.Responses.{unavailable_response}
use Rattle.registry_http.proofs.MessageLemmas.{may_give_some}
use Rattle.registry_store.specs.declared.fault.Fault.{Fault}
use Rattle.registry_store.specs.Promise.{NotesForeign, has_met_foreign, is_poisoned}
use Rattle.registry_desk.specs.declared.fault.DeskFault.TheVariants.{NoMemory}
use Rattle.registry_desk.specs.Faults.{unavailable_of}
use Rattle.registry_desk.proofs.CacheLemmas.{none_after, none_are, only_done, texts_after}
use Rattle.registry_desk.specs.Serving.{IsToldBy}
use Rattle.registry_desk.proofs.ServeLemmas.{not_asked, same_fault, served_early, served_then, tells_poisoned, told_by, turned_away}
use Rattle.registry_desk.proofs.serve.serve_message.Goals as goal
use Rattle.registry_desk.proofs.serve.serve_message.Goals.{in-Ok, in-Err-Refused}

pub returns-clause-served : goal.returns-clause-served
returns-clause-served g c =
    let says : (bytes : List ℕ) × MayGive (g.R.Source.remaining c.args.source.now) bytes × Says c.founding.result.now.vendor bytes c.match-read_message.said = elim c.match-read_message.branch [
      | in-Ok w ↦ rw w.said-is w.in-Ok.ensures.ok
      | in-Err-Refused w ↦ rw w.said-is (rw w.in-Err-Refused.field-0-is at w.in-Err-Refused.ensures.ok)
    ] in
    let fault = c.send-served.result.fault in
    let told = c.send-served.ensures in
    let acted = c.response_to-done.ensures in (
      says.0,
      says.1,
      (
        told.0,
        told.2,
        λ h stands clean of.
            let here = subst (λ (founding : ℕ). Says founding says.0 c.match-read_message.said) (c.founding.ensures h stands).vendor says.2 in
            let answered = acted.answered h stands clean of in (
              served_then c.response_to-done.new.registry h says.0 told.0 fault c.match-read_message.said c.response_to-done.result here clean answered (acted.left h stands clean) acted.asked told.1,
              texts_after _ h says.0 c.args.cache.now c.response_to-done.new.cache c.keep.new.self c.response_to-done.result c.match-read_message.said acted.beside c.keep.ensures here of answered,
            ),
        λ poisoned none.
            let away = acted.when_poisoned poisoned none in
            let turned = turned_away c.args.registry.now c.response_to-done.new.registry c.match-read_message.said c.response_to-done.result told.0 fault acted.refused away told.1 in (
              inr (_, c.match-read_message.said, says.2, turned.0),
              turned.1,
              none_after c.args.cache.now c.response_to-done.new.cache c.keep.new.self c.response_to-done.result c.match-read_message.said acted.beside c.keep.ensures none (only_done _ _ c.match-read_message.said away),
            ),
        λ sane. told_by c.response_to-done.result told.0 fault told.1,
      ),
    )

pub returns-clause-goes_on : goal.returns-clause-goes_on
returns-clause-goes_on g c = λ sane none.
    let told = c.send-served.ensures in
    c.response_to-done.ensures.goes_on sane (sym (same_fault c.response_to-done.result told.0 c.send-served.result.fault told.1) ∙ none)

pub returns-clause-notes : goal.returns-clause-notes
returns-clause-notes g c =
    let told = c.send-served.ensures in
    subst (λ (fault : Option Fault). NotesForeign c.args.registry.now c.response_to-done.new.registry fault)
    (sym (same_fault c.response_to-done.result told.0 c.send-served.result.fault told.1)) c.response_to-done.ensures.notes

pub returns-clause-poisoned : goal.returns-clause-poisoned
returns-clause-poisoned g c = λ poisoned.
    let told = c.send-served.ensures in
    c.response_to-done.ensures.only_poisoned (tells_poisoned c.response_to-done.result told.0 c.send-served.result.fault told.1 poisoned)

pub returns-in-Err-Broken-clause-served : goal.returns-in-Err-Broken-clause-served
returns-in-Err-Broken-clause-served g c =
    let all = may_give_some (g.R.Source.remaining c.args.source.now) in
    (all.0, all.1, tt)

pub returns-in-Err-NoMemory-clause-served : goal.returns-in-Err-NoMemory-clause-served
returns-in-Err-NoMemory-clause-served g c =
    let all = may_give_some (g.R.Source.remaining c.args.source.now) in
    let poison = c.poison_of.ensures in (
      all.0,
      all.1,
      (
        unavailable_response (unavailable_of NoMemory),
        c.give_up-given.ensures.sent,
        λ h stands clean of. (
          served_early c.args.registry.now h all.0 c.poison_of.result (poison.none stands.not_poisoned) stands clean,
          λ next next_is. none_are next c.clear.new.self c.clear.ensures,
        ),
        λ poisoned none. (inl (refl, poison.when_poisoned poisoned), refl {a = c.args.registry.now}, c.clear.ensures),
        λ sane. subst (λ (fault : Option Fault). IsToldBy fault (unavailable_response (unavailable_of NoMemory))) (sym (poison.none sane)) tt,
      ),
    )

pub returns-in-Err-NoMemory-clause-notes : goal.returns-in-Err-NoMemory-clause-notes
returns-in-Err-NoMemory-clause-notes g c =
    let poison = c.poison_of.ensures in
    let it = c.args.registry.now in
    ap (λ (met : Bool). met || has_met_foreign it) (sym (not_asked (is_poisoned it) c.poison_of.result poison.when_poisoned poison.none))
