use Rattle.std.proofs.Common.{List, [], inl, inr, subst, ap}
use Rattle.std.specs.Prelude.{Result, Err}
use Rattle.std.proofs.lemmas.Result.{IfOk-weaker}
use Rattle.usbids_text.specs.declared.fault.ReadFault.{ReadFault}
use Rattle.usbids_text.specs.Entries.{TopEntry}
use Rattle.usbids_text.specs.Reading.{ReadsAs}
use Rattle.registry_commands.specs.declared.messages.Failure.TheVariants.{File}
use Rattle.registry_commands.specs.Ends.{output_of}
use Rattle.registry_commands.specs.Failures.{IsOfInput, IsOfMemory}
use Rattle.registry_commands.proofs.FailureLemmas.{if_err, memory_of_input, tells_more}
use Rattle.shared_commands.proofs.importing.read_import.Goals as goal

pub returns-in-Ok : goal.returns-in-Ok
returns-in-Ok g c =
    let read = c.in-Ok.ensures.ok in
    let reads = c.finish.ensures.answers read.0 (read.3 tt [] c.new-reader.ensures.was_fed) in
    let before = g.R.Source.failures c.args.source.now in
    let after = g.R.Source.failures c.feed_all.new.source in
    let errors = output_of g.E.Sink c.args.errors.now c.request_in.new.errors in (
      read.0,
      read.1,
      IfOk-weaker c.request_in.result _ _ (λ request it. (it.0, read.2, subst (λ (r : Result (List TopEntry) ReadFault). ReadsAs read.0 r) it.1 reads, it.2, it.3)) c.request_in.ensures.ok,
      if_err _ _ c.request_in.result (λ status it. elim it [
        | inl failed ↦ inl (failed.0, tells_more IsOfMemory (IsOfInput before after read.0) errors (memory_of_input before after read.0 c.in-Ok.ensures.kept) failed.1)
        | inr refused ↦ inr (refused.0, read.2, subst (λ (r : Result (List TopEntry) ReadFault). ReadsAs read.0 r) refused.1 reads, refused.2)
      ]) c.request_in.ensures.err,
      inl c.in-Ok.ensures.kept,
    )

pub returns-in-Err : goal.returns-in-Err
returns-in-Err g c =
    let read = c.in-Err.ensures.err in
    (read.0, read.1, tt, inl (c.fail.ensures.status, (File, read.2, c.fail.ensures.told)), inr (ap Err c.fail.ensures.status, c.fail.ensures.told, read.2))
