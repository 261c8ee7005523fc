use Rattle.std.proofs.Common.{◌≡◌, ◌∙◌, ◌++◌, ◌==◌, ◌<◌, ◌≤◌, List, ℕ, [], length, position, None, sym, ap, append-nil}
use Rattle.registry_commands.specs.RecordLines.{unread_of}
use Rattle.registry_commands.proofs.LineLemmas.{empty_bytes}
use Rattle.registry_commands.proofs.RecordLineLemmas.{filled, finds_at, finds_last, too_long_so_far}
use Rattle.registry_commands.proofs.record_lines.find_line.Goals as goal

pub returns-in-Some-clause-found : goal.returns-in-Some-clause-found
returns-in-Some-clause-found g c =
    let it = c.loop-end.unread in
    rw c.of_length.ensures (finds_at _ _ it c.loop-end.invariant.same c.in-Some.end (rw c.rest.ensures at c.in-Some.ensures))

pub returns-then-searched-gt-MOST-clause-found : goal.returns-then-searched-gt-MOST-clause-found
returns-then-searched-gt-MOST-clause-found g c =
    let it = c.loop-end.unread in
    let none : None ≡ position (λ b. b == 10) (unread_of it) = rw c.rest.ensures at c.in-None.ensures in
    let long : 4194304 < length (unread_of it) = rw (← c.rest-searched.ensures) c.if-searched-gt-MOST.true in
    too_long_so_far (unread_of it) _ _ c.loop-end.invariant.same none long

pub returns-then-branch-eq0-clause-found : goal.returns-then-branch-eq0-clause-found
returns-then-branch-eq0-clause-found g c =
    let old = c.loop-end.unread in
    let it = c.fill.new.unread in
    let ok = c.in_ok-fill.ensures.ok in
    let none : None ≡ position (λ b. b == 10) (unread_of old) = rw c.rest.ensures at c.in-None.ensures in
    let nothing : ok.0 ≡ [] = empty_bytes ok.0 (ok.2 ∙ c.if-branch-eq0.true) in
    let same : unread_of it ≡ unread_of old = ok.1 ∙ ap (λ (m : List ℕ). unread_of old ++ m) nothing ∙ append-nil (unread_of old) in
    let size : length c.rest-searched.result.now ≡ length (unread_of it) = ap length (c.rest-searched.ensures ∙ sym same) in
    let few : length c.rest-searched.result.now ≤ 4194304 = c.if-searched-gt-MOST.false in
    rw c.last_line.ensures (finds_last _ _ it (filled _ _ _ (unread_of old) (unread_of it) ok.0 c.loop-end.invariant.same ok.1 ok.3) _ (rw same none) size few (ok.4 c.if-branch-eq0.true))
