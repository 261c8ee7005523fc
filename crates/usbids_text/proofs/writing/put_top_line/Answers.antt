use Rattle.std.proofs.Common.{◌∙◌, sym, ap, List, ℕ, ◌++◌, ◌∷◌, []}
use Rattle.usbids_text.specs.declared.kind.Kind.{Kind}
use Rattle.usbids_text.specs.declared.kind.Depth.TheVariants.{Zero}
use Rattle.usbids_text.specs.Entries.{top_line}
use Rattle.usbids_text.specs.Writing.{front}
use Rattle.usbids_text.proofs.TextLemmas.{line_of_entry}
use Rattle.usbids_text.proofs.writing.put_top_line.Goals as goal

pub returns-in-Vendor : goal.returns-in-Vendor
returns-in-Vendor g c = line_of_entry c.put_line.result _ _ _ _ _ _ (top_line c.args.top.now) _ _ _ _ (ap (λ (k : Kind). front (Zero k)) (sym c.in-Vendor.is ∙ c.kind.ensures)) c.digits.ensures c.code.ensures c.name.ensures c.put_line.ensures

pub returns-in-Tagged : goal.returns-in-Tagged
returns-in-Tagged g c = line_of_entry c.put_line-in-Tagged.result _ _ _ _ _ _ (top_line c.args.top.now) _ _ _ _ (ap (λ (t : List ℕ). t ++ 32 ∷ []) c.as_bytes.ensures.value ∙ ap (λ (k : Kind). front (Zero k)) (sym c.in-Tagged.is ∙ c.kind.ensures)) c.digits-in-Tagged.ensures c.code-in-Tagged.ensures c.name-in-Tagged.ensures c.put_line-in-Tagged.ensures
