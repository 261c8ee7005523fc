use Rattle.std.proofs.Common.{rules, ap, arith}
use Rattle.shared_registry.specs.Asks.{AppendsLines}
use Rattle.shared_registry.specs.declared.cursor.Cursor.{Cursor}
use Rattle.shared_registry.proofs.AppendLemmas.{line_grows}
use Rattle.shared_registry.proofs.FollowLemmas.{grows_none, grows_on}
use Rattle.shared_registry.specs.declared.cursor.AppendFault.TheVariants as faults
use Rattle.shared_registry.proofs.AskLemmas.{asked_next, asked_no_next, asked_nothing}
use Rattle.shared_registry.proofs.JoinLemmas.{line_passed, taken_apart}
use Rattle.shared_registry.proofs.joining.append_lines.Goals as goal

pub returns-in-Err-Taken-clause-err : goal.returns-in-Err-Taken-clause-err
returns-in-Err-Taken-clause-err g c log kept h rest is passed =
    let so_far = c.loop-line.invariant.passed log kept h rest is passed in
    let none = rw (c.as_bytes.ensures, c.in-Err-Taken.field-0-is) at c.in-Err-Taken.ensures.err in
    taken_apart g.L.Log log h kept c.args.cursor.now c.loop-line.cursor c.append.new.self c.args.lines.now rest c.loop-line.line-index c.line-item.result is c.loop-line.invariant.counted c.loop-line-test.true c.line-item.is so_far.0 so_far.1 none

pub loop-line-preserved : goal.loop-line-preserved
loop-line-preserved g c =
    let has = rw c.as_bytes.ensures at c.in-Ok.ensures.ok in
    record {
      passed = λ log kept h rest is passed.
          let so_far = c.loop-line.invariant.passed log kept h rest is passed in (
            line_passed g.L.Log log h kept c.args.cursor.now c.loop-line.cursor c.append.new.self c.args.lines.now rest c.loop-line.line-index c.line-item.result is c.loop-line.invariant.counted c.loop-line-test.true c.line-item.is so_far.0 has,
            grows_on (log c.args.cursor.now.log) (log c.loop-line.cursor.log) (log c.append.new.self.log) so_far.1 (line_grows g.L.Log log kept c.loop-line.cursor c.append.new.self c.line-item.result has),
          );
      asks = asked_next g.L.Log c.args.lines.now c.args.cursor.now c.loop-line.cursor c.append.new.self c.loop-line.line-index c.line-item.result c.loop-line.invariant.counted c.loop-line-test.true c.line-item.is c.loop-line.invariant.asks has;
      small = c.in-Ok.ensures.small;
      counted = (let next = ap (λ (d : Cursor g.row.L.Denot). d.next) has.passed in let counted = c.loop-line.invariant.counted in omega (arith, next, counted));
    }

pub returns-in-Err-Taken-clause-asks : goal.returns-in-Err-Taken-clause-asks
returns-in-Err-Taken-clause-asks g c =
    asked_no_next g.L.Log c.args.lines.now c.args.cursor.now c.loop-line.cursor c.append.new.self c.loop-line.line-index c.line-item.result c.loop-line.invariant.counted c.loop-line-test.true c.line-item.is c.loop-line.invariant.asks faults.Taken
    (rw (c.as_bytes.ensures, c.in-Err-Taken.field-0-is) at c.in-Err-Taken.ensures.err)

pub returns-in-Err-Behind-clause-asks : goal.returns-in-Err-Behind-clause-asks
returns-in-Err-Behind-clause-asks g c =
    asked_no_next g.L.Log c.args.lines.now c.args.cursor.now c.loop-line.cursor c.append.new.self c.loop-line.line-index c.line-item.result c.loop-line.invariant.counted c.loop-line-test.true c.line-item.is c.loop-line.invariant.asks faults.Behind
    (rw (c.as_bytes.ensures, c.in-Err-Behind.field-0-is) at c.in-Err-Behind.ensures.err)

pub returns-in-Err-Full-clause-asks : goal.returns-in-Err-Full-clause-asks
returns-in-Err-Full-clause-asks g c =
    asked_no_next g.L.Log c.args.lines.now c.args.cursor.now c.loop-line.cursor c.append.new.self c.loop-line.line-index c.line-item.result c.loop-line.invariant.counted c.loop-line-test.true c.line-item.is c.loop-line.invariant.asks faults.Full
    (rw (c.as_bytes.ensures, c.in-Err-Full.field-0-is) at c.in-Err-Full.ensures.err)

pub returns-in-Err-NoMemory-clause-asks : goal.returns-in-Err-NoMemory-clause-asks
returns-in-Err-NoMemory-clause-asks g c =
    asked_no_next g.L.Log c.args.lines.now c.args.cursor.now c.loop-line.cursor c.append.new.self c.loop-line.line-index c.line-item.result c.loop-line.invariant.counted c.loop-line-test.true c.line-item.is c.loop-line.invariant.asks faults.NoMemory
    (rw (c.as_bytes.ensures, c.in-Err-NoMemory.field-0-is) at c.in-Err-NoMemory.ensures.err)

pub returns-in-Err-Log-clause-asks : goal.returns-in-Err-Log-clause-asks
returns-in-Err-Log-clause-asks g c =
    asked_no_next g.L.Log c.args.lines.now c.args.cursor.now c.loop-line.cursor c.append.new.self c.loop-line.line-index c.line-item.result c.loop-line.invariant.counted c.loop-line-test.true c.line-item.is c.loop-line.invariant.asks (faults.Log c.in-Err-Log.fault)
    (rw (c.as_bytes.ensures, c.in-Err-Log.field-0-is) at c.in-Err-Log.ensures.err)

pub loop-line-init : goal.loop-line-init
loop-line-init g c = record {
  passed = λ log kept h rest is passed. (passed, grows_none (log c.args.cursor.now.log));
  asks = asked_nothing g.L.Log (AppendsLines c.args.lines.now c.args.cursor.now.next) c.args.cursor.now.log;
  small = search rules;
  counted = search rules;
}
