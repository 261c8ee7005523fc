-- Whether tables have these names, in order.
use Rattle.std.proofs.Common.{◌≡◌, ◌&&◌, ℕ, Bool, true, false, nat_eq, List, [], ◌∷◌, map, length, refl, sym, ap, ◌∙◌, arith}
use Rattle.std.proofs.Math.Dec.{eqb-suc-zero}
use Rattle.std.specs.Str.{bytes_eq}
use Rattle.sqlite_schema.specs.declared.schema.Table.{Table}
use Rattle.registry_schema.specs.Version.{are_named}

module _ {X : Type 0} (f : X → List ℕ) where
  pub none_named : (tables : List Table) (names : List X) → length tables ≡ 0 → nat_eq (length names) 0 ≡ are_named (map f names) tables
  none_named [] [] none = refl
  none_named [] (name ∷ names) none = eqb-suc-zero (length names)
  none_named (table ∷ tables) names none = absurd (omega (arith, none))

  pub too_few : (all tables : List Table) (table : Table) (names : List X) → all ≡ table ∷ tables → length names ≡ 0 → false ≡ are_named (map f names) all
  too_few all tables table [] is none = sym (ap (are_named []) is)
  too_few all tables table (name ∷ names) is none = absurd (omega (arith, none))

  module _ (all tables : List Table) (table : Table) (given names : List X) (name : X) (is : all ≡ table ∷ tables) (given_is : given ≡ name ∷ names) where
    splits : are_named (map f given) all ≡ (bytes_eq table.name (f name) && are_named (map f names) tables)
    splits = ap (are_named (map f given)) is ∙ ap (λ l. are_named (map f l) (table ∷ tables)) given_is

    pub first_named : (same rest : Bool) → same ≡ true → same ≡ bytes_eq table.name (f name) → rest ≡ are_named (map f names) tables → rest ≡ are_named (map f given) all
    first_named same rest is_same told more = more ∙ sym (splits ∙ ap (λ b. b && are_named (map f names) tables) (sym told ∙ is_same))

    pub first_other : (same : Bool) → same ≡ false → same ≡ bytes_eq table.name (f name) → same ≡ are_named (map f given) all
    first_other same other told = other ∙ sym (splits ∙ ap (λ b. b && are_named (map f names) tables) (sym told ∙ other))
