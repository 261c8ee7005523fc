-- Where a new store is made.
use Rattle.std.specs.Prelude.{◌≡◌, ◌<◌, ⊤}
use Rattle.registry_program.specs.declared.making.Making.{Making}
use Rattle.registry_program.specs.declared.making.Making.TheVariants as making
use Rattle.registry_program.specs.declared.making.Standing.{Standing}
use Rattle.registry_program.specs.declared.making.Standing.TheVariants as standing

-- there is no file at the name, or one without bytes
abbrev pub IsBlankFile : Standing → Type 0
IsBlankFile standing.Nothing = ⊤
IsBlankFile (standing.File length) = length ≡ 0
IsBlankFile standing.Other = ⊥

-- what is at the name of a log holds no commit: the header of a log has 32 bytes, and that of a frame 24
abbrev pub HasNoCommit : Standing → Type 0
HasNoCommit standing.Nothing = ⊤
HasNoCommit (standing.File length) = length < 56
HasNoCommit standing.Other = ⊥

-- Why this is done where these are at the names of a store and of its log. A new store comes only in the place of no file or of
-- one without bytes, and only where the log holds no commit, as that would belong to a file that is gone.
abbrev pub IsReasonFor : Standing → Standing → Making → Type 0
IsReasonFor store log making.Make = IsBlankFile store × HasNoCommit log
IsReasonFor store log making.Leave = IsBlankFile store → ⊥
IsReasonFor store log making.Refuse = IsBlankFile store × (HasNoCommit log → ⊥)
