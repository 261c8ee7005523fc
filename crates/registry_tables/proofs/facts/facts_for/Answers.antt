use Rattle.std.proofs.Common.{◌≡◌, true, option_and_then, ap, ◌∙◌, rules}
use Rattle.usbnum_core.specs.declared.number.Number.{Number}
use Rattle.registry_rules.specs.FactsOf.{concerns, org_concerned}
use Rattle.registry_rules.specs.Query.{org_of}
use Rattle.registry_rules.specs.Verdict.{least_for}
use Rattle.registry_tables.proofs.ReadLemmas.{open_then, open_fails, fails_first_open, makes_open, passes_store, open_store}
use Rattle.registry_tables.proofs.facts.facts_for.Goals as goal

pub returns-clause-reads : goal.returns-clause-reads
unfolding org_concerned
returns-clause-reads g c =
    makes_open (λ h legal it kept are.
    let named = it.0.0 in
    let vendor = c.vid_concerned-vid.ensures h (c.founding.ensures h are).vendor (c.as_ref.ensures.value ∙ named) in
    let range = c.numbers_concerned-range.ensures.all h vendor (c.as_ref-3.ensures.value ∙ named) (c.least_of-least.ensures h are ∙ ap (least_for h) (c.as_ref-2.ensures.value ∙ named)) in
    let each = λ (n : Number) (about : concerns h c.args.request.now.order n ≡ true). it.0.1 are n (range n about) in
    c.facts.ensures h are vendor kept named (it.1 ∙ ap (option_and_then (org_of h)) (c.slug_concerned-slug.ensures h vendor (c.as_ref-4.ensures.value ∙ named) each)) each)
    (open_then (open_then c.in_ok-petition.ensures.reads c.in_ok-holdings.ensures.reads) c.in_ok-org.ensures.reads)

pub returns-in_err-petition-clause-reads : goal.returns-in_err-petition-clause-reads
returns-in_err-petition-clause-reads g c = fails_first_open (search rules) c.in_err-petition.ensures.reads

pub returns-in_err-holdings-clause-reads : goal.returns-in_err-holdings-clause-reads
returns-in_err-holdings-clause-reads g c = open_fails (search rules) c.in_ok-petition.ensures.reads c.in_err-holdings.ensures.reads

pub returns-in_err-org-clause-reads : goal.returns-in_err-org-clause-reads
returns-in_err-org-clause-reads g c = open_fails (search rules) (open_then c.in_ok-petition.ensures.reads c.in_ok-holdings.ensures.reads) c.in_err-org.ensures.reads

pub returns-in_err-petition-clause-store : goal.returns-in_err-petition-clause-store
returns-in_err-petition-clause-store g c = passes_store (search rules) c.in_err-petition.ensures.store

pub returns-in_err-holdings-clause-store : goal.returns-in_err-holdings-clause-store
returns-in_err-holdings-clause-store g c = open_store (search rules) c.in_ok-petition.ensures.reads c.in_err-holdings.ensures.reads.survives c.in_err-holdings.ensures.store

pub returns-in_err-org-clause-store : goal.returns-in_err-org-clause-store
returns-in_err-org-clause-store g c = open_store (search rules) (open_then c.in_ok-petition.ensures.reads c.in_ok-holdings.ensures.reads) c.in_err-org.ensures.reads.survives c.in_err-org.ensures.store
