use Rattle.std.proofs.Common.{refl}
use Rattle.registry_tables.proofs.StoreLemmas.{record_made}
use Rattle.registry_tables.proofs.WriteLemmas.{written}
use Rattle.registry_tables.proofs.changes.make.Goals as goal

pub returns-in-PutOrg : goal.returns-in-PutOrg
returns-in-PutOrg g c = record { writes = written (record_made _ _ c.args.change.now _ c.in-PutOrg.is (λ t. refl) (λ n b. refl)) c.put_org.ensures.writes }

pub returns-in-PutPetition : goal.returns-in-PutPetition
returns-in-PutPetition g c = record { writes = written (record_made _ _ c.args.change.now _ c.in-PutPetition.is (λ t. refl) (λ n b. refl)) c.put_petition.ensures.writes }

pub returns-in-PutEntry : goal.returns-in-PutEntry
returns-in-PutEntry g c = record { writes = written (record_made _ _ c.args.change.now _ c.in-PutEntry.is (λ t. refl) (λ n b. refl)) c.put_entry.ensures.writes }

pub returns-in-SetHeld : goal.returns-in-SetHeld
returns-in-SetHeld g c = record { writes = written (record_made _ _ c.args.change.now _ c.in-SetHeld.is (λ t. refl) (λ n b. refl)) c.set_held.ensures.writes }

pub returns-in-SetCard : goal.returns-in-SetCard
returns-in-SetCard g c = record { writes = written (record_made _ _ c.args.change.now _ c.in-SetCard.is (λ t. refl) (λ n b. refl)) c.set_card.ensures.writes }

pub returns-in-PutVendor : goal.returns-in-PutVendor
returns-in-PutVendor g c = record { writes = written (record_made _ _ c.args.change.now _ c.in-PutVendor.is (λ t. refl) (λ n b. refl)) c.put_vendor.ensures.writes }

pub returns-in-PutLicence : goal.returns-in-PutLicence
returns-in-PutLicence g c = record { writes = written (record_made _ _ c.args.change.now _ c.in-PutLicence.is (λ t. refl) (λ n b. refl)) c.put_licence.ensures.writes }

pub returns-in-PutReason : goal.returns-in-PutReason
returns-in-PutReason g c = record { writes = written (record_made _ _ c.args.change.now _ c.in-PutReason.is (λ t. refl) (λ n b. refl)) c.put_reason.ensures.writes }
