use Rattle.std.proofs.Common.{◌≡◌, rules, subst, inr}
use Rattle.registry_rules.specs.History.{History, with_deed}
use Rattle.registry_rules.specs.Records.{LeadsTo}
use Rattle.registry_rules.specs.Run.{Legal}
use Rattle.registry_rules.specs.Verdict.{verdict}
use Rattle.registry_rules.specs.declared.order.Request.{Request}
use Rattle.registry_rules.specs.declared.verdict.Verdict.TheVariants.{New}
use Rattle.registry_store.proofs.OpeningLemmas.{earlier}
use Rattle.registry_store.proofs.TransactionLemmas.{goes_then, wrote_both, wrote_rows}
use Rattle.registry_store.proofs.attempt.write.Goals as goal

pub returns-clause-ok : goal.returns-clause-ok
returns-clause-ok g c clean inside is_open =
    let early = earlier _ _ _ c.keep_reply.ensures.survives clean in
    let first = c.in_ok-store.ensures.goes_on early inside is_open in
    let same : c.in-Ok.changes.items ≡ c.as_slice.result.now = search rules in
    let lead : (h : History) (x : Request) → Legal h → verdict h x ≡ New c.args.deed.now → LeadsTo c.as_slice.result.now h (with_deed h c.args.deed.now) = λ h x legal is. subst (λ cs. LeadsTo cs h (with_deed h c.args.deed.now)) same (c.in-Ok.ensures h x legal is) in
    let rows = wrote_rows _ _ _ _ c.args.request.now c.args.deed.now c.as_slice.result.now _ c.requires lead first (c.in_ok-store.ensures.rows early inside is_open) (c.in_ok-head.ensures.goes_on clean first.mode) (c.in_ok-head.ensures.rows clean first.mode) in
    wrote_both _ _ _ _ c.args.request.now c.args.deed.now c.as_slice.result.now _ c.requires lead first (c.in_ok-store.ensures.rows early inside is_open) _ c.in-Ok-carry.ensures c.in_ok-head.ensures.head rows

pub returns-clause-late : goal.returns-clause-late
returns-clause-late g c clean inside is_open =
    let early = earlier _ _ _ c.keep_reply.ensures.survives clean in
    let first = c.in_ok-store.ensures.goes_on early inside is_open in
    let same : c.in-Ok.changes.items ≡ c.as_slice.result.now = search rules in
    let lead : (h : History) (x : Request) → Legal h → verdict h x ≡ New c.args.deed.now → LeadsTo c.as_slice.result.now h (with_deed h c.args.deed.now) = λ h x legal is. subst (λ cs. LeadsTo cs h (with_deed h c.args.deed.now)) same (c.in-Ok.ensures h x legal is) in
    let rows = wrote_rows _ _ _ _ c.args.request.now c.args.deed.now c.as_slice.result.now _ c.requires lead first (c.in_ok-store.ensures.rows early inside is_open) (c.in_ok-head.ensures.goes_on clean first.mode) (c.in_ok-head.ensures.rows clean first.mode) in
    inr rows

pub returns-in-Err-clause-late : goal.returns-in-Err-clause-late
returns-in-Err-clause-late g c clean inside is_open =
    let early = earlier _ _ _ c.keep_reply.ensures.survives clean in
    let first = c.in_ok-store.ensures.goes_on early inside is_open in
    let same : c.in-Ok.changes.items ≡ c.as_slice.result.now = search rules in
    let lead : (h : History) (x : Request) → Legal h → verdict h x ≡ New c.args.deed.now → LeadsTo c.as_slice.result.now h (with_deed h c.args.deed.now) = λ h x legal is. subst (λ cs. LeadsTo cs h (with_deed h c.args.deed.now)) same (c.in-Ok.ensures h x legal is) in
    let rows = wrote_rows _ _ _ _ c.args.request.now c.args.deed.now c.as_slice.result.now _ c.requires lead first (c.in_ok-store.ensures.rows early inside is_open) (c.in_ok-head.ensures.goes_on clean first.mode) (c.in_ok-head.ensures.rows clean first.mode) in
    inr rows

pub returns-in_default-carry-clause-late : goal.returns-in_default-carry-clause-late
returns-in_default-carry-clause-late g c clean inside is_open =
    let early = earlier _ _ _ c.keep_reply.ensures.survives clean in
    let first = c.in_ok-store.ensures.goes_on early inside is_open in
    let same : c.in-Ok.changes.items ≡ c.as_slice.result.now = search rules in
    let lead : (h : History) (x : Request) → Legal h → verdict h x ≡ New c.args.deed.now → LeadsTo c.as_slice.result.now h (with_deed h c.args.deed.now) = λ h x legal is. subst (λ cs. LeadsTo cs h (with_deed h c.args.deed.now)) same (c.in-Ok.ensures h x legal is) in
    let rows = wrote_rows _ _ _ _ c.args.request.now c.args.deed.now c.as_slice.result.now _ c.requires lead first (c.in_ok-store.ensures.rows early inside is_open) (c.in_ok-head.ensures.goes_on clean first.mode) (c.in_ok-head.ensures.rows clean first.mode) in
    inr rows

pub returns-clause-goes_on : goal.returns-clause-goes_on
returns-clause-goes_on g c clean inside is_open =
    let early = earlier _ _ _ c.keep_reply.ensures.survives clean in
    let first = c.in_ok-store.ensures.goes_on early inside is_open in
    goes_then _ _ _ first (c.in_ok-head.ensures.goes_on clean first.mode)
