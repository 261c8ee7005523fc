use Rattle.std.proofs.Common.{◌≡◌, ◌+◌, ◌++◌, ◌∷◌, [], ℕ, List, sym, ap, ◌∙◌, rules}
use Rattle.std.specs.String.{string_bytes}
use Rattle.registry_reports.proofs.PageLemmas.{text_push, count_more}
use Rattle.registry_reports.proofs.page.Page.push.Goals as goal

pub returns : goal.returns
returns c = λ lines has.
    let line = c.args.line.now in
    let put : string_bytes c.push_str-2.new.self ≡ string_bytes c.args.self.now.text ++ line ++ 10 ∷ [] = search rules in
    let may = (c.takes.ensures.follows lines has).0 (search rules) in
    ((put ∙ (ap (λ (t : List ℕ). t ++ line ++ 10 ∷ []) has.0 ∙ sym (text_push lines line)), ap (λ (n : ℕ). n + 1) has.1 ∙ sym (count_more lines line)), may)
