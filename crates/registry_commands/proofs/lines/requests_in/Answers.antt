use Rattle.std.proofs.Common.{◌≡◌, true, false, [], ◌∷◌, ◌++◌, Ok, Err, is_ok, length, sym, arith, rules, ◌∙◌}
use Rattle.std.proofs.lemmas.Bool.Decides.{nat_tests}
use Rattle.registry_wire.specs.Reading.{line_reading}
use Rattle.registry_commands.specs.Lines.{is_blank}
use Rattle.registry_commands.proofs.LineLemmas.{after_blank, after_good, at_bad, ended_at, empty_bytes}
use Rattle.registry_commands.proofs.lines.requests_in.Goals as goal
use Rattle.registry_commands.proofs.lines.requests_in.Goals.{then-not-is_blank+in-Ok+else-is_err, else-not-is_blank}

pub returns-in-Err-Refused : goal.returns-in-Err-Refused
returns-in-Err-Refused c =
    let line = c.first_line.result.0.now in
    let filled : is_blank line ≡ false = cc in
    let read : line_reading line ≡ Err c.in-Err-Refused.refusal = rw c.in-Err-Refused.field-0-is at c.in-Err-Refused.ensures in
    rw c.in-Err-Refused.field-0-is (at_bad _ c.loop-rest.requests.items c.loop-rest.number c.loop-rest.rest.now c.loop-rest.invariant.ahead line c.first_line.result.1.now c.first_line.ensures.lines c.in-Err-Refused.refusal filled read)

pub loop-rest-preserved : goal.loop-rest-preserved
loop-rest-preserved c =
    let line = c.first_line.result.0.now in
    let front = c.loop-rest.requests.items in
    elim c.if-not-is_blank.branch [
      | then-not-is_blank+in-Ok+else-is_err w ↦
          let filled : is_blank line ≡ false = cc in
          let read : line_reading line ≡ Ok w.in-Ok.request = w.in-Ok.ensures in
          let kept : is_ok w.push.result ≡ true = search rules in
          let longer = rw kept at w.push.ensures.items in
          let pushed : c.if-not-is_blank.requests.items ≡ front ++ w.in-Ok.request ∷ [] = rw w.requests-is longer in
          record {
            ahead = after_good _ front c.loop-rest.number c.loop-rest.rest.now c.loop-rest.invariant.ahead line c.first_line.result.1.now c.first_line.ensures.lines w.in-Ok.request _ filled read pushed;
            counted = omega arith;
          }
      | else-not-is_blank w ↦
          let blank : is_blank line ≡ true = cc in
          record {
            ahead = rw w.requests-is (after_blank _ front c.loop-rest.number c.loop-rest.rest.now c.loop-rest.invariant.ahead line c.first_line.result.1.now c.first_line.ensures.lines blank);
            counted = omega arith;
          }
    ]

pub returns : goal.returns
returns c =
    let empty : length c.loop-rest.rest.now ≡ 0 = grind (arith, nat_tests) in
    let none : c.loop-rest.rest.now ≡ [] = empty_bytes c.loop-rest.rest.now empty in
    ended_at _ c.loop-rest.requests.items c.loop-rest.number c.loop-rest.rest.now c.loop-rest.invariant.ahead none
