use Rattle.registry_laws.specs.Records.{record_of}
use Rattle.registry_store.specs.Promise.{state_of}
use Rattle.registry_wire.specs.Record.{accepted_line}
use Rattle.shared_registry.specs.declared.cursor.AppendFault.TheVariants as faults
use Rattle.shared_registry.specs.Cursors.{accepted_as}
use Rattle.shared_registry.proofs.ActLemmas.{acted, failed_now, grown_acted, left_acted, unacted, unacted_later, whole_acted}
use Rattle.shared_registry.proofs.AppendLemmas.{no_line_grows, other_is_there}
use Rattle.shared_registry.proofs.AskLemmas.{asked_by_fault, asked_if_not, asked_if_shown}
use Rattle.shared_registry.proofs.acting.try_to_act.Goals as goal

pub returns-in-Ok-clause-ok : goal.returns-in-Ok-clause-ok
returns-in-Ok-clause-ok g c lines kept h follows clean =
    let old = c.args.registry.now in
    let cursor = c.args.cursor.now in
    let done = c.in-Ok.ensures.answered h follows.represents clean in
    let asked = c.in-Ok.ensures.asked h follows.represents clean in
    record {
      follows = acted g.L.Log lines kept old cursor c.act_before.new.self c.act_before.new.witness h c.args.request.now follows asked (λ deed is. c.in-Ok.ensures.acknowledged h deed follows.represents clean is) done.1;
      grown = grown_acted g.L.Log lines kept old cursor c.act_before.new.self c.act_before.new.witness h c.args.request.now follows asked;
      reply_is = done.0;
      whole = λ moved. whole_acted g.L.Log lines kept old cursor c.act_before.new.self c.act_before.new.witness h c.args.request.now follows asked moved;
    }

pub returns-in-Err-Fault-clause-err : goal.returns-in-Err-Fault-clause-err
returns-in-Err-Fault-clause-err g c lines kept h follows clean = (
  rw c.in-Err-Fault.field-0-is at (c.in-Err-Fault.ensures.keeps_fault follows.represents.not_poisoned),
  left_acted g.L.Log lines kept c.args.registry.now c.args.cursor.now c.act_before.new.self c.act_before.new.witness h c.args.request.now follows (state_of c.act_before.new.self)
      (rw c.in-Err-Fault.field-0-is at (c.in-Err-Fault.ensures.asked h follows.represents clean)) (c.in-Err-Fault.ensures.witnessed h follows.represents clean),
)

pub returns-in-Err-Unwitnessed-Taken-clause-ok : goal.returns-in-Err-Unwitnessed-Taken-clause-ok
returns-in-Err-Unwitnessed-Taken-clause-ok g c lines kept h follows clean =
    let old = c.args.registry.now in
    let cursor = c.args.cursor.now in
    let r = c.args.request.now in
    let missed = rw (c.in-Err-Unwitnessed-Taken.field-0-is, c.in-Err-Unwitnessed-Taken.field-0-0-is) at c.in-Err-Unwitnessed-Taken.ensures.missed in
    let left = rw c.in-Err-Unwitnessed-Taken.field-0-is at c.in-Err-Unwitnessed-Taken.ensures.untouched in
    let line = accepted_line (accepted_as r missed.0) in (
      unacted g.L.Log lines kept old cursor c.act_before.new.self c.act_before.new.witness h r follows line faults.Taken missed.1 left,
      no_line_grows g.L.Log lines kept cursor c.act_before.new.witness line faults.Taken missed.1,
      other_is_there g.L.Log lines kept cursor c.act_before.new.witness (record_of h) follows.of_machine.begins follows.next line missed.1,
    )

pub returns-in-Err-Unwitnessed-Log-clause-err : goal.returns-in-Err-Unwitnessed-Log-clause-err
returns-in-Err-Unwitnessed-Log-clause-err g c lines kept h follows clean =
    let missed = rw (c.in-Err-Unwitnessed-Log.field-0-is, c.in-Err-Unwitnessed-Log.field-0-0-is) at c.in-Err-Unwitnessed-Log.ensures.missed in
    let left = rw c.in-Err-Unwitnessed-Log.field-0-is at c.in-Err-Unwitnessed-Log.ensures.untouched in (
      unacted_later g.L.Log lines kept c.args.registry.now c.args.cursor.now c.act_before.new.self c.act_before.new.witness h c.args.request.now follows (accepted_line (accepted_as c.args.request.now missed.0)) (faults.Log c.in-Err-Unwitnessed-Log.fault) missed.1 left,
      failed_now g.L.Log lines kept c.args.registry.now c.args.cursor.now c.act_before.new.self c.act_before.new.witness h c.args.request.now follows (accepted_line (accepted_as c.args.request.now missed.0)) c.in-Err-Unwitnessed-Log.fault missed.1,
    )

pub returns-in-Ok-clause-asks : goal.returns-in-Ok-clause-asks
returns-in-Ok-clause-asks g c lines kept h follows clean =
    asked_if_shown g.L.Log lines kept c.args.cursor.now c.act_before.new.witness h c.args.request.now follows.of_machine follows.next (c.in-Ok.ensures.asked h follows.represents clean)

pub returns-in-Err-Fault-clause-asks : goal.returns-in-Err-Fault-clause-asks
returns-in-Err-Fault-clause-asks g c lines kept h follows clean =
    asked_by_fault g.L.Log lines kept c.args.cursor.now c.act_before.new.witness h c.args.request.now follows.of_machine follows.next (rw c.in-Err-Fault.field-0-is at (c.in-Err-Fault.ensures.asked h follows.represents clean))

pub returns-in-Err-Unwitnessed-Taken-clause-asks : goal.returns-in-Err-Unwitnessed-Taken-clause-asks
returns-in-Err-Unwitnessed-Taken-clause-asks g c lines kept h follows clean =
    asked_if_not g.L.Log lines kept c.args.cursor.now c.act_before.new.witness h c.args.request.now follows.of_machine follows.next faults.Taken
    (rw (c.in-Err-Unwitnessed-Taken.field-0-is, c.in-Err-Unwitnessed-Taken.field-0-0-is) at (c.in-Err-Unwitnessed-Taken.ensures.asked h follows.represents clean))

pub returns-in-Err-Unwitnessed-Behind-clause-asks : goal.returns-in-Err-Unwitnessed-Behind-clause-asks
returns-in-Err-Unwitnessed-Behind-clause-asks g c lines kept h follows clean =
    asked_if_not g.L.Log lines kept c.args.cursor.now c.act_before.new.witness h c.args.request.now follows.of_machine follows.next faults.Behind
    (rw (c.in-Err-Unwitnessed-Behind.field-0-is, c.in-Err-Unwitnessed-Behind.field-0-0-is) at (c.in-Err-Unwitnessed-Behind.ensures.asked h follows.represents clean))

pub returns-in-Err-Unwitnessed-Full-clause-asks : goal.returns-in-Err-Unwitnessed-Full-clause-asks
returns-in-Err-Unwitnessed-Full-clause-asks g c lines kept h follows clean =
    asked_if_not g.L.Log lines kept c.args.cursor.now c.act_before.new.witness h c.args.request.now follows.of_machine follows.next faults.Full
    (rw (c.in-Err-Unwitnessed-Full.field-0-is, c.in-Err-Unwitnessed-Full.field-0-0-is) at (c.in-Err-Unwitnessed-Full.ensures.asked h follows.represents clean))

pub returns-in-Err-Unwitnessed-NoMemory-clause-asks : goal.returns-in-Err-Unwitnessed-NoMemory-clause-asks
returns-in-Err-Unwitnessed-NoMemory-clause-asks g c lines kept h follows clean =
    asked_if_not g.L.Log lines kept c.args.cursor.now c.act_before.new.witness h c.args.request.now follows.of_machine follows.next faults.NoMemory
    (rw (c.in-Err-Unwitnessed-NoMemory.field-0-is, c.in-Err-Unwitnessed-NoMemory.field-0-0-is) at (c.in-Err-Unwitnessed-NoMemory.ensures.asked h follows.represents clean))

pub returns-in-Err-Unwitnessed-Log-clause-asks : goal.returns-in-Err-Unwitnessed-Log-clause-asks
returns-in-Err-Unwitnessed-Log-clause-asks g c lines kept h follows clean =
    asked_if_not g.L.Log lines kept c.args.cursor.now c.act_before.new.witness h c.args.request.now follows.of_machine follows.next (faults.Log c.in-Err-Unwitnessed-Log.fault)
    (rw (c.in-Err-Unwitnessed-Log.field-0-is, c.in-Err-Unwitnessed-Log.field-0-0-is) at (c.in-Err-Unwitnessed-Log.ensures.asked h follows.represents clean))
