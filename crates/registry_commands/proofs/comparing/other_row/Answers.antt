use Rattle.std.proofs.Common.{◌≡◌, ◌∙◌, sym}
use Rattle.registry_views.proofs.OnceLemmas.{one_number_list, one_org_list, one_petition_list, one_vendor_list}
use Rattle.registry_commands.proofs.comparing.other_row.Goals as goal

-- each list is the only one of its history, so none is other
pub returns-in-Some : goal.returns-in-Some
returns-in-Some c h there here = let none = c.other_vendor.ensures (rw (c.deref.ensures.value, c.deref-2.ensures.value) (one_vendor_list h _ _ there.vendors here.vendors)) in cc (none, c.in-Some.is)

pub returns-in-Some-other_org : goal.returns-in-Some-other_org
returns-in-Some-other_org c h there here = let none = c.other_org.ensures (rw (c.deref-3.ensures.value, c.deref-4.ensures.value) (one_org_list h _ _ there.orgs here.orgs)) in cc (none, c.in-Some-other_org.is)

pub returns-in-Some-other_petition : goal.returns-in-Some-other_petition
returns-in-Some-other_petition c h there here = let none = c.other_petition.ensures (rw (c.deref-5.ensures.value, c.deref-6.ensures.value) (one_petition_list h _ _ there.petitions here.petitions)) in cc (none, c.in-Some-other_petition.is)

pub returns-in-Some-other_number : goal.returns-in-Some-other_number
returns-in-Some-other_number c h there here = let none = c.other_number.ensures (rw (c.deref-7.ensures.value, c.deref-8.ensures.value) (one_number_list h _ _ there.numbers here.numbers)) in cc (none, c.in-Some-other_number.is)
