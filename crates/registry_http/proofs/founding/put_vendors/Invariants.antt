use Rattle.std.proofs.Common.{◌≡◌, take, map}
use Rattle.serde_json.specs.View.{view}
use Rattle.registry_http.specs.Foundings.{vendor_data}
use Rattle.registry_http.proofs.founding.put_vendors.Given as goal

abbrev pub invariant-loop-vendor : goal.invariant-loop-vendor
invariant-loop-vendor l = map view l.items.items ≡ map vendor_data (take l.vendor-index l.vendors)
