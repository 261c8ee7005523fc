use Rattle.std.proofs.Common.{ℕ, inl, inr, subst}
use Rattle.std.specs.Prelude.{Result, Ok, Err, OnErr}
use Rattle.peer_streams.proofs.arriving.limited.Goals as goal

on_err : {A E : Type 0} (r : Result A E) (P : Type 0) → P → OnErr r P
on_err (Ok done) P h = tt
on_err (Err e) P h = h

pub returns-in_err-limit_writes-clause-failed : goal.returns-in_err-limit_writes-clause-failed
returns-in_err-limit_writes-clause-failed g c =
    let limited = subst (λ (time : ℕ). g.A.Arrival.limits_reads c.args.arrival c.limit_reads.new.self time) c.from_secs-time.ensures c.in_ok-limit_reads.ensures.limits in
    on_err c.from_residual-in_err-limit_writes.result _ (c.limit_writes.new.self, inl (inr (c.limit_reads.new.self, limited, c.in_err-limit_writes.ensures.failed)))
