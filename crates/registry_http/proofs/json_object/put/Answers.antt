use Rattle.std.proofs.Common.{◌≡◌, false, refl, sym, subst}
use Rattle.serde_json.specs.Data.{Members}
use Rattle.serde_json.specs.View.{view, members_view}
use Rattle.serde_json.specs.Written.{members_have_float}
use Rattle.serde_json.proofs.Views.{members_view-insert_entry}
use Rattle.registry_http.proofs.ObjectLemmas.{put_is_plain}
use Rattle.registry_http.proofs.json_object.put.Goals as goal

pub returns-clause-value : goal.returns-clause-value
returns-clause-value c = rw (c.in_ok-insert.ensures.entries, members_view-insert_entry) (rw c.in_ok-from_str.ensures.ok refl)

pub returns-clause-plain : goal.returns-clause-plain
returns-clause-plain c plain all =
    subst (λ (ms : Members). members_have_float ms ≡ false) (sym (returns-clause-value c)) (put_is_plain c.args.key.now (view c.args.value) (members_view c.args.members.now.entries) plain all)
