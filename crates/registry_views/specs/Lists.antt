-- The lists of all that a registry says of now.
use Rattle.registry_rules.specs.History.{History}
use Rattle.registry_tables.specs.Lists.{IsNumberList, IsOrgList, IsPetitionList, IsVendorList}
use Rattle.registry_views.specs.declared.lists.Lists.{Lists}

-- the vendors, organisations, petitions and numbers of the history
pub record AreLists (h : History) (lists : Lists) : Type 0 where
  pub vendors : IsVendorList h lists.vendors.items
  pub orgs : IsOrgList h lists.orgs.items
  pub petitions : IsPetitionList h lists.petitions.items
  pub numbers : IsNumberList h lists.numbers.items
