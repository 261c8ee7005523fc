use Rattle.std.proofs.Common.{◌≡◌, ◌⊎◌, ◌∙◌, ◌+◌, ◌-◌, ◌^◌, ℕ, List, Option, refl, sym, ap, subst, inl, inr, length, arith}
use Rattle.std.specs.Prelude.{Err}
use Rattle.std.proofs.lemmas.Bool.{cases_lt}
use Rattle.std.proofs.lemmas.Result.{err_from_is_err_and}
use Rattle.byte_streams.specs.Streams.{FailsOnce}
use Rattle.registry_commands.specs.declared.entries.Entry.TheVariants.{Accepted as Request}
use Rattle.registry_commands.specs.declared.following.ReplayStop.TheVariants as stop
use Rattle.registry_commands.specs.Entries.{PassesOne}
use Rattle.registry_commands.specs.declared.input.ReadAllFault.TheVariants as inputs
use Rattle.registry_commands.specs.RecordLines.{ahead}
use Rattle.registry_commands.proofs.EntryLemmas.{none_left}
use Rattle.registry_commands.proofs.ReplayLemmas.{at_digest, at_end, at_fault, at_reply, at_unread, none_yet, noted_record, of_record, then_blank, then_request}
use Rattle.registry_commands.specs.Replayed.{IsAnother, IsOfActing}
use Rattle.registry_commands.specs.declared.messages.Failure.{Failure}
use Rattle.registry_commands.specs.declared.messages.Failure.TheVariants.{File}
use Rattle.registry_commands.proofs.BeginLemmas.{file_input, kept_unless_file}
use Rattle.registry_commands.proofs.RecordLineLemmas.{may_have, read_on, same_lines}
use Rattle.registry_commands.proofs.following.follow_lines.Goals as goal

pub loop-accepted-init : goal.loop-accepted-init
loop-accepted-init g c = record {
  so_far = none_yet (ahead (g.R.Source.remaining c.args.source.now) c.args.unread.now) c.args.unread.now.lines c.args.registry.now;
  kept = refl;
}

pub returns-in-End-clause-replays : goal.returns-in-End-clause-replays
returns-in-End-clause-replays g c =
    at_end _ _ _ _ _ _ c.loop-accepted.invariant.so_far (g.R.Source.failures c.args.source.now) (g.R.Source.failures c.next_entry.new.source)
    (none_left _ (rw c.in-End.is at c.in_ok-next_entry.ensures.taken).0)

pub returns-in-End-clause-passed : goal.returns-in-End-clause-passed
returns-in-End-clause-passed g c =
    let so_far = c.loop-accepted.invariant.so_far in
    let end = c.in_ok-next_entry.ensures.end c.in-End.is in
    let taken = rw c.in-End.is at c.in_ok-next_entry.ensures.taken in
    (so_far.front, λ rest has. so_far.passed rest (same_lines _ _ rest end has), taken.1 ∙ so_far.counted)

pub returns-in-Other-clause-replays : goal.returns-in-Other-clause-replays
returns-in-Other-clause-replays g c =
    let taken = rw c.in-Accepted.is at c.in_ok-next_entry.ensures.taken in
    at_reply _ _ _ _ _ _ c.loop-accepted.invariant.so_far (g.R.Source.failures c.args.source.now) (g.R.Source.failures c.next_entry.new.source)
    c.lines.result c.in-Other.reply c.in-Accepted.accepted c.in-Accepted.digest c.follow_line.new.registry _ taken.0 (c.lines.ensures ∙ taken.1)
    (λ h stands clean. rw c.in-Other.is at (c.in_ok-follow_line-in-Accepted.ensures.answered h stands clean))
    (c.in_ok-follow_line-in-Accepted.ensures.other c.in-Other.reply c.in-Other.is) c.in_ok-follow_line-in-Accepted.ensures.goes_on.0 c.in_ok-follow_line-in-Accepted.ensures.endures c.in_ok-follow_line-in-Accepted.ensures.notes

pub returns-in-Elsewhere-clause-replays : goal.returns-in-Elsewhere-clause-replays
returns-in-Elsewhere-clause-replays g c =
    let old = ahead (g.R.Source.remaining c.loop-accepted.source) c.loop-accepted.unread in
    let new = ahead (g.R.Source.remaining c.next_entry.new.source) c.next_entry.new.unread in
    let a = c.in-Accepted.accepted in
    let taken = rw c.in-Accepted.is at c.in_ok-next_entry.ensures.taken in
    let given = c.in_ok-follow_line-in-Accepted.ensures.given c.in-Elsewhere.is in
    at_digest _ _ _ _ _ _ c.loop-accepted.invariant.so_far (g.R.Source.failures c.args.source.now) (g.R.Source.failures c.next_entry.new.source)
    c.lines-in-Elsewhere.result a given.0 c.follow_line.new.registry new (subst (λ (d : Option (List ℕ)). PassesOne old new (Request a d)) given.1 taken.0) (c.lines-in-Elsewhere.ensures ∙ taken.1)
    (λ h stands clean. let did = rw c.in-Elsewhere.is at (c.in_ok-follow_line-in-Accepted.ensures.answered h stands clean) in (did.0, did.1.0, subst (IsAnother h a.request) given.1 did.1.1))
    c.in_ok-follow_line-in-Accepted.ensures.goes_on.0 c.in_ok-follow_line-in-Accepted.ensures.endures c.in_ok-follow_line-in-Accepted.ensures.notes

pub returns-in_err-next_entry-clause-replays : goal.returns-in_err-next_entry-clause-replays
returns-in_err-next_entry-clause-replays g c =
    let p = err_from_is_err_and c.from_residual.result c.from_residual.ensures.1 in
    let so_far = c.loop-accepted.invariant.so_far in
    let before = g.R.Source.failures c.args.source.now in
    let after = g.R.Source.failures c.next_entry.new.source in
    let failed : c.in_err-next_entry.field-0.0 ≡ inputs.File → FailsOnce before after ⊎ (c.args.unread.now.lines + length so_far.front ≡ 2 ^ 64 - 1) = λ is.
    elim (c.in_err-next_entry.ensures.file (ap Err is)) [
      | inl source ↦ inl (subst (λ (n : ℕ). FailsOnce n after) c.loop-accepted.invariant.kept source)
      | inr full ↦ inr (sym so_far.counted ∙ full)
    ] in
    rw (p.1, p.2) (at_unread _ _ _ _ _ _ so_far before after _ (of_record (c.args.unread.now.lines + length so_far.front) before after c.args.registry.now c.loop-accepted.registry c.in_err-next_entry.field-0.0 so_far.sound failed)
    (noted_record c.args.registry.now c.loop-accepted.registry c.in_err-next_entry.field-0.0 so_far.notes))

pub returns-in_err-next_entry-clause-kept : goal.returns-in_err-next_entry-clause-kept
returns-in_err-next_entry-clause-kept g c = λ other.
    let p = err_from_is_err_and c.from_residual.result c.from_residual.ensures.1 in
    kept_unless_file c.in_err-next_entry.field-0.0 _ _ _ (λ is. other (p.1 ∙ ap Err p.2 ∙ ap (λ (f : Failure). Err (stop.Failure f)) is))
    (λ is. c.in_err-next_entry.ensures.memory (ap Err is)) c.loop-accepted.invariant.kept

pub returns-in_err-next_entry-clause-waits : goal.returns-in_err-next_entry-clause-waits
returns-in_err-next_entry-clause-waits g c = λ told.
    let p = err_from_is_err_and c.from_residual.result c.from_residual.ensures.1 in
    let so_far = c.loop-accepted.invariant.so_far in
    let is : c.in_err-next_entry.field-0.0 ≡ inputs.File = file_input c.in_err-next_entry.field-0.0 (cc (p.1, p.2, told)) in
    let rest = may_have (ahead (g.R.Source.remaining c.loop-accepted.source) c.loop-accepted.unread) in
    elim (cases_lt c.loop-accepted.unread.lines (2 ^ 64 - 1)) [
      | inl few ↦ inr (record {
        lines = so_far.front;
        each = so_far.each;
        read = read_on _ _ _ so_far.front c.next_entry.new.unread so_far.passed (c.in_err-next_entry.ensures.waits (ap Err is) few);
        replied = so_far.replied;
        poisoned = so_far.poisoned;
      })
      | inr full ↦ inl (so_far.front, rest.0, so_far.passed rest.0 rest.1, c.in_err-next_entry.ensures.lines ∙ so_far.counted, omega (arith, full, c.in_err-next_entry.ensures.lines))
    ]

pub returns-in_err-follow_line-in-Accepted-clause-waits : goal.returns-in_err-follow_line-in-Accepted-clause-waits
returns-in_err-follow_line-in-Accepted-clause-waits g c = λ told.
    let p = err_from_is_err_and c.from_residual-in_err-follow_line-in-Accepted.result c.from_residual-in_err-follow_line-in-Accepted.ensures.1 in
    let is : c.in_err-follow_line-in-Accepted.field-0.0 ≡ File = cc (p.1, p.2, told) in
    absurd (subst (IsOfActing c.loop-accepted.registry c.follow_line.new.registry) is c.in_err-follow_line-in-Accepted.ensures.failure)

pub returns-in_err-follow_line-in-Accepted-clause-replays : goal.returns-in_err-follow_line-in-Accepted-clause-replays
returns-in_err-follow_line-in-Accepted-clause-replays g c =
    let p = err_from_is_err_and c.from_residual-in_err-follow_line-in-Accepted.result c.from_residual-in_err-follow_line-in-Accepted.ensures.1 in
    let taken = rw c.in-Accepted.is at c.in_ok-next_entry.ensures.taken in
    rw (p.1, p.2) (at_fault _ _ _ _ _ _ c.loop-accepted.invariant.so_far (g.R.Source.failures c.args.source.now) (g.R.Source.failures c.next_entry.new.source)
    c.in_err-follow_line-in-Accepted.field-0.0 c.in-Accepted.accepted c.in-Accepted.digest c.follow_line.new.registry _ taken.0 c.in_err-follow_line-in-Accepted.ensures.crash c.in_err-follow_line-in-Accepted.ensures.failure
    c.in_err-follow_line-in-Accepted.ensures.when_poisoned c.in_err-follow_line-in-Accepted.ensures.endures c.in_err-follow_line-in-Accepted.ensures.notes)

pub loop-accepted-preserved-in-Blank : goal.loop-accepted-preserved-in-Blank
loop-accepted-preserved-in-Blank g c =
    let taken = rw c.in-Blank.is at c.in_ok-next_entry.ensures.taken in
    record {
      so_far = then_blank _ _ _ _ _ _ c.loop-accepted.invariant.so_far _ _ taken.0 taken.1;
      kept = c.in_ok-next_entry.ensures.kept ∙ c.loop-accepted.invariant.kept;
    }

pub loop-accepted-preserved : goal.loop-accepted-preserved
loop-accepted-preserved g c =
    let taken = rw c.in-Accepted.is at c.in_ok-next_entry.ensures.taken in
    record {
      so_far = then_request _ _ _ _ _ _ c.loop-accepted.invariant.so_far _ _ c.in-Accepted.accepted c.in-Accepted.digest c.follow_line.new.registry taken.0 taken.1
          (λ h stands clean. let did = rw c.in-Same.is at (c.in_ok-follow_line-in-Accepted.ensures.answered h stands clean) in (did.0, did.1.0, did.1.1)) c.in_ok-follow_line-in-Accepted.ensures.goes_on c.in_ok-follow_line-in-Accepted.ensures.endures c.in_ok-follow_line-in-Accepted.ensures.notes;
      kept = c.in_ok-next_entry.ensures.kept ∙ c.loop-accepted.invariant.kept;
    }
