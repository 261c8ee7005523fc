use Rattle.std.proofs.Common.{◌≡◌, ◌⊎◌, ℕ, drop, ap, subst, ◌∙◌}
use Rattle.std.specs.Prelude.{Err, Some, true, false}
use Rattle.sqlite.specs.State.{HasCleanDisk}
use Rattle.registry_rules.specs.History.{History}
use Rattle.registry_store.specs.Promise.{is_poisoned, poisoned_by, state_of}
use Rattle.registry_store.specs.Run.{HasAnsweredNone}
use Rattle.registry_store.specs.declared.fault.Fault.TheVariants.{Store, NoMemory, Poisoned}
use Rattle.registry_store.specs.declared.replies.RunStop.TheVariants as stop
use Rattle.registry_commands.specs.Failures.{IsOfOutput}
use Rattle.registry_commands.proofs.FailureLemmas.{not_of_output, of_fault, of_reply}
use Rattle.registry_commands.proofs.ReplyLemmas.{no_more, none_cut, stopped_lines, taken_lines}
use Rattle.registry_commands.proofs.apply.write_replies.Goals as goal

pub returns-in-Ok-clause-same_reference : goal.returns-in-Ok-clause-same_reference
returns-in-Ok-clause-same_reference g c =
    let given = c.in-Ok.ensures.given in
    (taken_lines g.W.Sink.contents g.W.Sink.failures c.args.lines.now c.run_to.new.replies given.0 given.1).same_output

pub returns-in-Ok-clause-kept : goal.returns-in-Ok-clause-kept
returns-in-Ok-clause-kept g c =
    let given = c.in-Ok.ensures.given in
    (taken_lines g.W.Sink.contents g.W.Sink.failures c.args.lines.now c.run_to.new.replies given.0 given.1).kept

pub returns-in-Ok-clause-through : goal.returns-in-Ok-clause-through
returns-in-Ok-clause-through g c h at clean =
    let done = c.in-Ok.ensures.through h at clean in
    let out = taken_lines g.W.Sink.contents g.W.Sink.failures c.args.lines.now c.run_to.new.replies _ done.0 in
    record { gained = (out.gained, out.kept); represents = done.1 }

pub returns-in-Err-Fault-clause-same_reference : goal.returns-in-Err-Fault-clause-same_reference
returns-in-Err-Fault-clause-same_reference g c =
    let given = rw c.in-Err-Fault.field-0-is at c.in-Err-Fault.ensures.cut in
    (no_more g.W.Sink.contents g.W.Sink.failures c.args.lines.now given.middle c.run_to.new.replies given.replies given.taken given.last).same_output

pub returns-in-Err-Fault-clause-stopped : goal.returns-in-Err-Fault-clause-stopped
returns-in-Err-Fault-clause-stopped g c h at clean =
    let halted = c.in-Err-Fault.ensures.stopped h at clean in
    stopped_lines g.W.Sink.contents g.W.Sink.failures c.run_to.new.self h (drop c.args.answered c.args.requests.now) halted.0 c.args.lines.now c.run_to.new.replies _ halted.1

pub returns-in-Err-Fault-clause-failure : goal.returns-in-Err-Fault-clause-failure
returns-in-Err-Fault-clause-failure g c =
    let given = rw c.in-Err-Fault.field-0-is at c.in-Err-Fault.ensures.cut in
    let old = c.args.lines.now in
    let new = c.run_to.new.replies in
    let out = no_more g.W.Sink.contents g.W.Sink.failures old given.middle new given.replies given.taken given.last in
    let fault = c.in-Err-Fault.fault in
    let kind : (h : History) → HasAnsweredNone c.args.registry.now h (drop c.args.answered c.args.requests.now) → HasCleanDisk (state_of c.run_to.new.self) → (fault ≡ Store) ⊎ (fault ≡ NoMemory) =
    λ h at clean. let halted = rw c.in-Err-Fault.field-0-is at (c.in-Err-Fault.ensures.stopped h at clean) in halted.1.reply.2.1 in
    let spent : is_poisoned c.args.registry.now ≡ true → fault ≡ Poisoned = λ e. let failed = c.in-Err-Fault.ensures.when_poisoned e in cc (failed.0, c.in-Err-Fault.field-0-is) in
    let keeps : is_poisoned c.args.registry.now ≡ false → poisoned_by c.run_to.new.self ≡ Some fault = λ e. rw c.in-Err-Fault.field-0-is at (c.in-Err-Fault.ensures.keeps_fault e) in
    rw c.failure_of.ensures (
      of_fault c.args.registry.now c.run_to.new.self (λ h. HasAnsweredNone c.args.registry.now h (drop c.args.answered c.args.requests.now)) fault
          (λ poisoned. c.in-Err-Fault.ensures.only_poisoned (ap Err (c.in-Err-Fault.field-0-is ∙ ap stop.Fault poisoned))) spent keeps
          (rw c.in-Err-Fault.field-0-is at c.in-Err-Fault.ensures.notes)
          (λ taken. c.in-Err-Fault.ensures.never_taken (ap Err (c.in-Err-Fault.field-0-is ∙ ap stop.Fault taken))) kind,
      (not_of_output (g.W.Sink.failures old.output.now) (g.W.Sink.failures new.output.now) out.kept fault, λ _. (given.replies, out.gained)),
    )

pub returns-in-Err-Cut-clause-same_reference : goal.returns-in-Err-Cut-clause-same_reference
returns-in-Err-Cut-clause-same_reference g c =
    let given = rw c.in-Err-Cut.field-0-is at c.in-Err-Cut.ensures.cut in
    given.last.1.same_output ∙ (taken_lines g.W.Sink.contents g.W.Sink.failures c.args.lines.now given.middle given.replies given.taken).same_output

pub returns-in-Err-Cut-clause-stopped : goal.returns-in-Err-Cut-clause-stopped
returns-in-Err-Cut-clause-stopped g c h at clean =
    let halted = c.in-Err-Cut.ensures.stopped h at clean in
    stopped_lines g.W.Sink.contents g.W.Sink.failures c.run_to.new.self h (drop c.args.answered c.args.requests.now) halted.0 c.args.lines.now c.run_to.new.replies _ halted.1

pub returns-in-Err-Cut-clause-failure : goal.returns-in-Err-Cut-clause-failure
returns-in-Err-Cut-clause-failure g c =
    let given = rw c.in-Err-Cut.field-0-is at c.in-Err-Cut.ensures.cut in
    let cut = given.last.1 in
    let old = g.W.Sink.failures c.args.lines.now.output.now in
    let new = g.W.Sink.failures c.run_to.new.replies.output.now in
    let kept : g.W.Sink.failures given.middle.output.now ≡ old = (taken_lines g.W.Sink.contents g.W.Sink.failures c.args.lines.now given.middle given.replies given.taken).kept in
    let sound : is_poisoned c.run_to.new.self ≡ false = rw c.in-Err-Cut.field-0-is at c.in-Err-Cut.ensures.ends in (
      of_reply c.args.registry.now c.run_to.new.self (λ h. HasAnsweredNone c.args.registry.now h (drop c.args.answered c.args.requests.now)) c.in-Err-Cut.failure sound (rw c.in-Err-Cut.field-0-is at c.in-Err-Cut.ensures.notes) cut.kind,
      (
        subst (λ (n : ℕ). IsOfOutput n new c.in-Err-Cut.failure) kept cut.cause,
        λ other. (given.replies, none_cut g.W.Sink.contents g.W.Sink.failures c.args.lines.now given.middle c.run_to.new.replies given.replies given.last.0 c.in-Err-Cut.failure given.taken cut other),
      ),
    )
