use Rattle.std.proofs.Common.{◌≡◌, ◌+◌, ◌≤◌, length}
use Rattle.registry_commands.specs.Lines.{lines_of, requests_from}
use Rattle.registry_commands.proofs.LineLemmas.{with_front}
use Rattle.registry_commands.proofs.lines.requests_in.Given as goal

abbrev pub invariant-loop-rest : goal.invariant-loop-rest
invariant-loop-rest l = record {
  ahead : with_front l.requests.items (requests_from l.number (lines_of l.rest)) ≡ requests_from 1 (lines_of l.bytes);
  counted : l.number + length l.rest ≤ length l.bytes + 1;
}

abbrev pub decreases-loop-rest : goal.decreases-loop-rest
decreases-loop-rest l = length l.rest
