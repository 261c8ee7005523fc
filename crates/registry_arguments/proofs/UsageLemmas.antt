-- The usage error for an error of `clap`.
use Rattle.std.proofs.Common.{◌≡◌, ◌⊎◌, [], ◌∷◌, refl, inl, inr, subst, sym}
use Rattle.clap.specs.Words.{IsAmong, Kinds, kind_of}
use Rattle.clap.specs.Kinds.{or_else}
use Rattle.clap.specs.declared.error.Error.{Error}
use Rattle.clap.specs.declared.error.kind.ErrorKind.{ErrorKind}
use Rattle.clap.specs.declared.error.kind.ErrorKind.TheVariants as kind
use Rattle.registry_arguments.specs.Commands.{IsOfFaults, usage_by}
use Rattle.registry_arguments.specs.declared.command.Usage.{Usage}
use Rattle.registry_arguments.specs.declared.command.Usage.TheVariants as usage

pub refused : (k : ErrorKind) (e : Error) → (k ≡ kind.OutOfMemory → ⊥) → usage_by k e ≡ usage.Refused e
refused kind.OutOfMemory e other = absurd (other refl)
refused _ e other = refl

pub of_faults : (faults : Kinds) (k : ErrorKind) (e : Error) → kind_of e ≡ k → (k ≡ kind.OutOfMemory) ⊎ IsAmong k faults → IsOfFaults faults (usage_by k e)
of_faults faults kind.OutOfMemory e is h = tt
of_faults faults k e is (inl memory) = absurd cc
of_faults faults k e is (inr among) = subst (λ (x : ErrorKind). IsAmong x faults) (sym is) among

-- without a fault only memory fails
pub of_no_fault : (e : Usage) → IsOfFaults [] e → e ≡ usage.NoMemory
of_no_fault (usage.Refused error) h = absurd h
of_no_fault usage.NoMemory h = refl

-- where there are first faults, those are all
pub of_first : (first next : Kinds) (e : Usage) → IsOfFaults first e → IsOfFaults (or_else first next) e
of_first [] next (usage.Refused error) h = absurd h
of_first [] next usage.NoMemory h = tt
of_first (k ∷ ks) next e h = h
