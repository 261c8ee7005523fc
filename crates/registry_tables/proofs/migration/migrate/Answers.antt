use Rattle.std.proofs.Common.{◌≡◌, inl, inr, Some, IsTrue, refl, sym, ◌∙◌, subst, rules}
use Rattle.std.proofs.lemmas.Result.{on_ok_weaker}
use Rattle.sqlite.specs.Held.{state}
use Rattle.registry_tables.specs.Rows.{newest, Rows}
use Rattle.registry_tables.specs.Raising.{CommitsStep, CommitsTwo, EndsTwo}
use Rattle.registry_tables.proofs.MigrateLemmas.{version_among, raised_by, foreign_by, later_by, second_later, third_later, fourth_later, two_later, told_rows, option_is, option_own}
use Rattle.registry_tables.proofs.migration.migrate.Goals as goal

pub returns-then-eq-clause-raised : goal.returns-then-eq-clause-raised
returns-then-eq-clause-raised g c clean =
    let a = state g.S.Store c.args.conn.now in
    let is : c.version_of-version.result ≡ Some 1 = option_is c.version_of-version.result 1 (sym c.eq.ensures ∙ c.if-eq.true) in
    raised_by a c.version_of-version.result c.version_of-version.ensures.first c.version_of-version.ensures.second c.version_of-version.ensures.third c.version_of-version.ensures.fourth c.version_of-version.ensures.fifth 1 is (state g.S.Store c.first_to_newest.new.conn) (EndsTwo a) (λ _ step. (step.0, step.1)) c.first_to_newest.result (c.first_to_newest.ensures.made clean)

pub returns-then-eq-clause-foreign : goal.returns-then-eq-clause-foreign
returns-then-eq-clause-foreign g c clean foreign =
    let a = state g.S.Store c.args.conn.now in
    let is : c.version_of-version.result ≡ Some 1 = option_is c.version_of-version.result 1 (sym c.eq.ensures ∙ c.if-eq.true) in
    let none = c.first_to_newest.ensures.foreign clean foreign in
    (none.0, foreign_by a c.version_of-version.result c.version_of-version.ensures.first c.version_of-version.ensures.second c.version_of-version.ensures.third c.version_of-version.ensures.fourth c.version_of-version.ensures.fifth 1 is (state g.S.Store c.first_to_newest.new.conn) none)

pub returns-then-eq-clause-survives : goal.returns-then-eq-clause-survives
returns-then-eq-clause-survives g c =
    let a = state g.S.Store c.args.conn.now in
    let is : c.version_of-version.result ≡ Some 1 = option_is c.version_of-version.result 1 (sym c.eq.ensures ∙ c.if-eq.true) in
    later_by a c.version_of-version.result c.version_of-version.ensures.first c.version_of-version.ensures.second c.version_of-version.ensures.third c.version_of-version.ensures.fourth c.version_of-version.ensures.fifth 1 is (state g.S.Store c.first_to_newest.new.conn) (CommitsTwo a) (two_later a) c.first_to_newest.ensures.survives

pub returns-then-eq-2-clause-raised : goal.returns-then-eq-2-clause-raised
returns-then-eq-2-clause-raised g c clean =
    let a = state g.S.Store c.args.conn.now in
    let is : c.version_of-version.result ≡ Some 2 = option_is c.version_of-version.result 2 (sym c.eq-else-eq.ensures ∙ c.if-eq-2.true) in
    raised_by a c.version_of-version.result c.version_of-version.ensures.first c.version_of-version.ensures.second c.version_of-version.ensures.third c.version_of-version.ensures.fourth c.version_of-version.ensures.fifth 2 is (state g.S.Store c.second_to_newest.new.conn) (CommitsStep 2 a) (λ _ step. (step.0, step.1)) c.second_to_newest.result (c.second_to_newest.ensures.made clean)

pub returns-then-eq-3-clause-raised : goal.returns-then-eq-3-clause-raised
returns-then-eq-3-clause-raised g c clean =
    let a = state g.S.Store c.args.conn.now in
    let is : c.version_of-version.result ≡ Some 3 = option_is c.version_of-version.result 3 (sym c.eq-else-eq-2.ensures ∙ c.if-eq-3.true) in
    raised_by a c.version_of-version.result c.version_of-version.ensures.first c.version_of-version.ensures.second c.version_of-version.ensures.third c.version_of-version.ensures.fourth c.version_of-version.ensures.fifth 3 is (state g.S.Store c.third_to_newest.new.conn) (CommitsStep 3 a) (λ _ step. (step.0, step.1)) c.third_to_newest.result (c.third_to_newest.ensures.made clean)

pub returns-then-eq-2-clause-foreign : goal.returns-then-eq-2-clause-foreign
returns-then-eq-2-clause-foreign g c clean foreign =
    let a = state g.S.Store c.args.conn.now in
    let is : c.version_of-version.result ≡ Some 2 = option_is c.version_of-version.result 2 (sym c.eq-else-eq.ensures ∙ c.if-eq-2.true) in
    let none = c.second_to_newest.ensures.foreign clean foreign in
    (none.0, foreign_by a c.version_of-version.result c.version_of-version.ensures.first c.version_of-version.ensures.second c.version_of-version.ensures.third c.version_of-version.ensures.fourth c.version_of-version.ensures.fifth 2 is (state g.S.Store c.second_to_newest.new.conn) none)

pub returns-then-eq-3-clause-foreign : goal.returns-then-eq-3-clause-foreign
returns-then-eq-3-clause-foreign g c clean foreign =
    let a = state g.S.Store c.args.conn.now in
    let is : c.version_of-version.result ≡ Some 3 = option_is c.version_of-version.result 3 (sym c.eq-else-eq-2.ensures ∙ c.if-eq-3.true) in
    let none = c.third_to_newest.ensures.foreign clean foreign in
    (none.0, foreign_by a c.version_of-version.result c.version_of-version.ensures.first c.version_of-version.ensures.second c.version_of-version.ensures.third c.version_of-version.ensures.fourth c.version_of-version.ensures.fifth 3 is (state g.S.Store c.third_to_newest.new.conn) none)

pub returns-then-eq-2-clause-survives : goal.returns-then-eq-2-clause-survives
returns-then-eq-2-clause-survives g c =
    let a = state g.S.Store c.args.conn.now in
    let is : c.version_of-version.result ≡ Some 2 = option_is c.version_of-version.result 2 (sym c.eq-else-eq.ensures ∙ c.if-eq-2.true) in
    later_by a c.version_of-version.result c.version_of-version.ensures.first c.version_of-version.ensures.second c.version_of-version.ensures.third c.version_of-version.ensures.fourth c.version_of-version.ensures.fifth 2 is (state g.S.Store c.second_to_newest.new.conn) (CommitsStep 2 a) (second_later a) c.second_to_newest.ensures.survives

pub returns-then-eq-3-clause-survives : goal.returns-then-eq-3-clause-survives
returns-then-eq-3-clause-survives g c =
    let a = state g.S.Store c.args.conn.now in
    let is : c.version_of-version.result ≡ Some 3 = option_is c.version_of-version.result 3 (sym c.eq-else-eq-2.ensures ∙ c.if-eq-3.true) in
    later_by a c.version_of-version.result c.version_of-version.ensures.first c.version_of-version.ensures.second c.version_of-version.ensures.third c.version_of-version.ensures.fourth c.version_of-version.ensures.fifth 3 is (state g.S.Store c.third_to_newest.new.conn) (CommitsStep 3 a) (third_later a) c.third_to_newest.ensures.survives

pub returns-then-eq-4-clause-raised : goal.returns-then-eq-4-clause-raised
returns-then-eq-4-clause-raised g c clean =
    let a = state g.S.Store c.args.conn.now in
    let is : c.version_of-version.result ≡ Some 4 = option_is c.version_of-version.result 4 (sym c.eq-else-eq-3.ensures ∙ c.if-eq-4.true) in
    raised_by a c.version_of-version.result c.version_of-version.ensures.first c.version_of-version.ensures.second c.version_of-version.ensures.third c.version_of-version.ensures.fourth c.version_of-version.ensures.fifth 4 is (state g.S.Store c.fourth_to_newest.new.conn) (CommitsStep 4 a) (λ _ step. (step.0, step.1)) c.fourth_to_newest.result (c.fourth_to_newest.ensures.made clean)

pub returns-then-eq-4-clause-foreign : goal.returns-then-eq-4-clause-foreign
returns-then-eq-4-clause-foreign g c clean foreign =
    let a = state g.S.Store c.args.conn.now in
    let is : c.version_of-version.result ≡ Some 4 = option_is c.version_of-version.result 4 (sym c.eq-else-eq-3.ensures ∙ c.if-eq-4.true) in
    let none = c.fourth_to_newest.ensures.foreign clean foreign in
    (none.0, foreign_by a c.version_of-version.result c.version_of-version.ensures.first c.version_of-version.ensures.second c.version_of-version.ensures.third c.version_of-version.ensures.fourth c.version_of-version.ensures.fifth 4 is (state g.S.Store c.fourth_to_newest.new.conn) none)

pub returns-then-eq-4-clause-survives : goal.returns-then-eq-4-clause-survives
returns-then-eq-4-clause-survives g c =
    let a = state g.S.Store c.args.conn.now in
    let is : c.version_of-version.result ≡ Some 4 = option_is c.version_of-version.result 4 (sym c.eq-else-eq-3.ensures ∙ c.if-eq-4.true) in
    later_by a c.version_of-version.result c.version_of-version.ensures.first c.version_of-version.ensures.second c.version_of-version.ensures.third c.version_of-version.ensures.fourth c.version_of-version.ensures.fifth 4 is (state g.S.Store c.fourth_to_newest.new.conn) (CommitsStep 4 a) (fourth_later a) c.fourth_to_newest.ensures.survives

pub returns-then-eq-5-clause-raised : goal.returns-then-eq-5-clause-raised
returns-then-eq-5-clause-raised g c clean =
    let a = state g.S.Store c.args.conn.now in
    let is : c.version_of-version.result ≡ Some 5 = option_is c.version_of-version.result 5 (sym c.eq-else-eq-4.ensures ∙ c.if-eq-5.true) in (
      (λ is_open. is_open, λ is_open. is_open),
      λ h version at is_open.
          (let was = at is_open in
          let rows = subst (λ d. Rows version d.trees h) (sym was.0) was.1 in
          (was.0, subst (λ d. Rows newest d.trees h) was.0 (told_rows a c.version_of-version.result c.version_of-version.ensures.first c.version_of-version.ensures.second c.version_of-version.ensures.third c.version_of-version.ensures.fourth c.version_of-version.ensures.fifth 5 is a h version is_open rows).1)),
    )

pub returns-else-eq-5-clause-foreign : goal.returns-else-eq-5-clause-foreign
returns-else-eq-5-clause-foreign g c clean foreign =
    let a = state g.S.Store c.args.conn.now in
    let is_open : IsTrue a.is_open = c.unknown.ensures.open clean (search rules) in (
      is_open,
      λ h version rows.
          elim (version_among a c.version_of-version.result c.version_of-version.ensures.first c.version_of-version.ensures.second c.version_of-version.ensures.third c.version_of-version.ensures.fourth c.version_of-version.ensures.fifth h version is_open rows) [
            | inl one ↦ option_own c.version_of-version.result 1 one c.eq.result c.eq.ensures c.if-eq.false
            | inr (inl two) ↦ option_own c.version_of-version.result 2 two c.eq-else-eq.result c.eq-else-eq.ensures c.if-eq-2.false
            | inr (inr (inl three)) ↦ option_own c.version_of-version.result 3 three c.eq-else-eq-2.result c.eq-else-eq-2.ensures c.if-eq-3.false
            | inr (inr (inr (inl four))) ↦ option_own c.version_of-version.result 4 four c.eq-else-eq-3.result c.eq-else-eq-3.ensures c.if-eq-4.false
            | inr (inr (inr (inr five))) ↦ option_own c.version_of-version.result 5 five c.eq-else-eq-4.result c.eq-else-eq-4.ensures c.if-eq-5.false
          ],
    )

pub returns-then-eq-clause-untouched : goal.returns-then-eq-clause-untouched
returns-then-eq-clause-untouched g c =
    let is : c.version_of-version.result ≡ Some 1 = option_is c.version_of-version.result 1 (sym c.eq.ensures ∙ c.if-eq.true) in
    inl (inl (sym c.version_of-version.ensures.named ∙ is))

pub returns-then-eq-2-clause-untouched : goal.returns-then-eq-2-clause-untouched
returns-then-eq-2-clause-untouched g c =
    let is : c.version_of-version.result ≡ Some 2 = option_is c.version_of-version.result 2 (sym c.eq-else-eq.ensures ∙ c.if-eq-2.true) in
    inl (inr (inl (sym c.version_of-version.ensures.named ∙ is)))

pub returns-then-eq-3-clause-untouched : goal.returns-then-eq-3-clause-untouched
returns-then-eq-3-clause-untouched g c =
    let is : c.version_of-version.result ≡ Some 3 = option_is c.version_of-version.result 3 (sym c.eq-else-eq-2.ensures ∙ c.if-eq-3.true) in
    inl (inr (inr (inl (sym c.version_of-version.ensures.named ∙ is))))

pub returns-then-eq-4-clause-untouched : goal.returns-then-eq-4-clause-untouched
returns-then-eq-4-clause-untouched g c =
    let is : c.version_of-version.result ≡ Some 4 = option_is c.version_of-version.result 4 (sym c.eq-else-eq-3.ensures ∙ c.if-eq-4.true) in
    inl (inr (inr (inr (sym c.version_of-version.ensures.named ∙ is))))

pub returns-then-eq-clause-known : goal.returns-then-eq-clause-known
returns-then-eq-clause-known g c clean =
    let is : c.version_of-version.result ≡ Some 1 = option_is c.version_of-version.result 1 (sym c.eq.ensures ∙ c.if-eq.true) in
    on_ok_weaker c.first_to_newest.result (λ says. inl (inl (sym c.version_of-version.ensures.named ∙ is, says))) (c.first_to_newest.ensures.named clean)

pub returns-then-eq-2-clause-known : goal.returns-then-eq-2-clause-known
returns-then-eq-2-clause-known g c clean =
    let is : c.version_of-version.result ≡ Some 2 = option_is c.version_of-version.result 2 (sym c.eq-else-eq.ensures ∙ c.if-eq-2.true) in
    on_ok_weaker c.second_to_newest.result (λ says. inl (inr (inl (sym c.version_of-version.ensures.named ∙ is, says)))) (c.second_to_newest.ensures.named clean)

pub returns-then-eq-3-clause-known : goal.returns-then-eq-3-clause-known
returns-then-eq-3-clause-known g c clean =
    let is : c.version_of-version.result ≡ Some 3 = option_is c.version_of-version.result 3 (sym c.eq-else-eq-2.ensures ∙ c.if-eq-3.true) in
    on_ok_weaker c.third_to_newest.result (λ says. inl (inr (inr (inl (sym c.version_of-version.ensures.named ∙ is, says))))) (c.third_to_newest.ensures.named clean)

pub returns-then-eq-4-clause-known : goal.returns-then-eq-4-clause-known
returns-then-eq-4-clause-known g c clean =
    let is : c.version_of-version.result ≡ Some 4 = option_is c.version_of-version.result 4 (sym c.eq-else-eq-3.ensures ∙ c.if-eq-4.true) in
    on_ok_weaker c.fourth_to_newest.result (λ says. inl (inr (inr (inr (sym c.version_of-version.ensures.named ∙ is, says))))) (c.fourth_to_newest.ensures.named clean)

pub returns-then-eq-5-clause-known : goal.returns-then-eq-5-clause-known
returns-then-eq-5-clause-known g c clean =
    let is : c.version_of-version.result ≡ Some 5 = option_is c.version_of-version.result 5 (sym c.eq-else-eq-4.ensures ∙ c.if-eq-5.true) in
    inr (sym c.version_of-version.ensures.named ∙ is, refl)
