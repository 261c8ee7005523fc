use Rattle.std.proofs.Common.{◌≡◌, ◌+◌, ◌<◌, ◌≤◌, ◌⊎◌, ℕ, true, false, length, subst, rules}
use Rattle.std.specs.Prelude.{MatchOption}
use Rattle.std.proofs.lemmas.Result.{err_from_is_err_and}
use Rattle.registry_views.specs.Records.{lines_after}
use Rattle.registry_views.proofs.RecordLemmas.{piece_read}
use Rattle.registry_views.proofs.ViewLemmas.{fails, lacks_memory, made}
use Rattle.registry_views.proofs.record.read_more.Goals as goal

pub returns-in_err-accepted : goal.returns-in_err-accepted
returns-in_err-accepted g c =
    let p = err_from_is_err_and c.from_residual.result c.from_residual.ensures.1 in
    rw (p.1, p.2) (fails c.in_err-accepted.ensures.query)

pub returns-in_err-all : goal.returns-in_err-all
returns-in_err-all g c =
    let p = err_from_is_err_and c.from_residual-in_err-all.result c.from_residual-in_err-all.ensures.1 in
    rw (p.1, p.2) (lacks_memory c.in_ok-accepted.ensures.query)

pub returns-in_err-next_place : goal.returns-in_err-next_place
returns-in_err-next_place g c =
    let p = err_from_is_err_and c.from_residual-in_err-next_place.result c.from_residual-in_err-next_place.ensures.1 in
    rw (p.1, p.2) (lacks_memory c.in_ok-accepted.ensures.query)

pub returns : goal.returns
returns g c = made c.in_ok-accepted.ensures.query (λ h stands read valid after is begun.
    let accepted = c.in_ok-accepted.accepted.items in
    let all = c.in_ok-all.all in
    let next = c.in_ok-next_place.field-0 in
    let size : c.len.result ≡ length accepted = search rules in
    let ends : MatchOption next ((all ≡ false) ⊎ (length accepted < c.args.most)) (λ n. (all ≡ true) × (c.args.most ≤ length accepted) × (n ≡ c.args.place + c.args.most)) =
    subst (λ (m : ℕ). MatchOption next ((all ≡ false) ⊎ (m < c.args.most)) (λ n. (all ≡ true) × (c.args.most ≤ m) × (n ≡ c.args.place + c.args.most))) size c.in_ok-next_place.ensures in
    piece_read c.args.most h after c.args.place c.args.page.now c.put_lines.new.page accepted all next is begun (read valid) (rw (← c.as_slice.ensures.value) (c.in_ok-all.ensures (lines_after h after) c.args.most begun)) ends)
