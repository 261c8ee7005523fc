-- The digest of a history is that of the lines of its record.
use Rattle.std.proofs.Common.{◌≡◌, ℕ, List, [], ◌∷◌, ◌++◌, refl, sym, ap, ◌∙◌}
use Rattle.std.specs.Prelude.{map}
use Rattle.registry_rules.specs.Accepted.{accepted_by, accepted_of}
use Rattle.registry_rules.specs.declared.accepted.Accepted.{Accepted}
use Rattle.registry_rules.specs.declared.deed.Deed.{Deed}
use Rattle.registry_rules.specs.declared.founding.Founding.{Founding}
use Rattle.registry_wire.specs.Digests.{line_digest, founding_digest, digest_after}
use Rattle.registry_wire.specs.Record.{accepted_line, founding_line}
use Rattle.registry_laws.specs.Records.{digest_of_lines, IsDigestOfRecord}

one_more : (before : List ℕ) (earlier : List Accepted) (last : Accepted) →
    digest_of_lines before (map accepted_line (earlier ++ last ∷ [])) ≡ line_digest (digest_of_lines before (map accepted_line earlier)) (accepted_line last)
one_more before [] last = refl
one_more before (first ∷ others) last = one_more (line_digest before (accepted_line first)) others last

digest_of_deeds : (founding : Founding) (deeds : List Deed) → digest_after founding deeds ≡ digest_of_lines [] (founding_line founding ∷ map accepted_line (accepted_of deeds))
digest_of_deeds founding [] = refl
digest_of_deeds founding (deed ∷ earlier) =
    ap (λ (before : List ℕ). line_digest before (accepted_line (accepted_by deed))) (digest_of_deeds founding earlier)
    ∙ sym (one_more (founding_digest founding) (accepted_of earlier) (accepted_by deed))

pub digests : IsDigestOfRecord
digests h = digest_of_deeds h.founding h.deeds
