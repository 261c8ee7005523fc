use Rattle.std.proofs.Common.{subst, arith, List, rules}
use Rattle.std.proofs.lemmas.List.{take_all}
use Rattle.registry_rules.specs.declared.record.Vendor.{Vendor}
use Rattle.registry_views.specs.Reports.{AreReserved}
use Rattle.registry_views.proofs.ReportLemmas.{reserved_start, reserved_next}
use Rattle.registry_views.proofs.reports.reserved_of.Goals as goal

pub loop-vendor-init : goal.loop-vendor-init
loop-vendor-init g c h stands = reserved_start h c.args.vendors.now c.new-pairs.result.items c.new-pairs.ensures.items

pub loop-vendor-preserved : goal.loop-vendor-preserved
loop-vendor-preserved g c h stands =
    reserved_next h c.args.vendors.now c.loop-vendor.vendor-index c.vendor-item.result c.loop-vendor.pairs.items c.push.new.self.items c.in_ok-spans.spans
    (omega arith) c.vendor-item.is (search rules) (c.in_ok-spans.ensures.answered h stands) (c.loop-vendor.invariant h stands)

pub returns-clause-answered : goal.returns-clause-answered
returns-clause-answered g c h stands =
    subst (λ (vendors : List Vendor). AreReserved h vendors c.loop-vendor.pairs.items) (take_all c.loop-vendor.vendor-index c.args.vendors.now (omega arith)) (c.loop-vendor.invariant h stands)
