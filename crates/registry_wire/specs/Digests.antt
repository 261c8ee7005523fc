-- The digests of a record. Each is made of the one before it and of a line, so the last one stands for the whole record.
use Rattle.std.specs.Prelude.{ℕ, List, [], ◌∷◌, ◌++◌}
use Rattle.hex.specs.Hex.{encode_lower}
use Rattle.sha2.specs.Sha256.{sha256}
use Rattle.registry_rules.specs.Accepted.{accepted_by}
use Rattle.registry_rules.specs.History.{History}
use Rattle.registry_rules.specs.declared.deed.Deed.{Deed}
use Rattle.registry_rules.specs.declared.founding.Founding.{Founding}
use Rattle.registry_wire.specs.Record.{accepted_line, founding_line}

-- the digest of a line: of the 64 digits of the digest before it, if there is one, and the line with its line feed
unfoldable pub line_digest : List ℕ → List ℕ → List ℕ
line_digest before line = encode_lower (sha256 (before ++ line ++ 10 ∷ []))

-- the founding's line is the first
abbrev pub founding_digest : Founding → List ℕ
founding_digest founding = line_digest [] (founding_line founding)

-- the digest after these deeds, each of which adds the line of its accepted request
abbrev pub digest_after : Founding → List Deed → List ℕ
digest_after founding [] = founding_digest founding
digest_after founding (deed ∷ earlier) = line_digest (digest_after founding earlier) (accepted_line (accepted_by deed))

-- the digest of the record of a history
abbrev pub digest_of : History → List ℕ
digest_of h = digest_after h.founding h.deeds
