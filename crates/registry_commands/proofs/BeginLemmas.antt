-- The blank lines before the first line of a record that says something.
use Rattle.std.proofs.Common.{◌≡◌, ◌⊎◌, ◌∙◌, ℕ, ◌+◌, ◌-◌, ◌^◌, true, List, [], ◌∷◌, ◌++◌, length, Option, Some, None, Ok, Err, refl, arith, length-append}
use Rattle.std.specs.Prelude.{◌≢◌}
use Rattle.std.specs.Io.KnownBytes.{Consumes}
use Rattle.std.proofs.lemmas.List.Elements.{All-nil, All-push}
use Rattle.byte_streams.specs.Streams.{FailsOnce}
use Rattle.registry_rules.specs.declared.founding.Founding.{Founding}
use Rattle.registry_commands.specs.declared.entries.Entry.{Entry}
use Rattle.registry_commands.specs.declared.entries.Entry.TheVariants as says
use Rattle.registry_commands.specs.declared.entries.LineRefusal.{LineRefusal}
use Rattle.registry_commands.specs.declared.following.ReplayStop.TheVariants as stop
use Rattle.registry_commands.specs.declared.input.ReadAllFault.{ReadAllFault}
use Rattle.registry_commands.specs.declared.input.ReadAllFault.TheVariants as inputs
use Rattle.registry_commands.specs.declared.messages.Failure.TheVariants.{File}
use Rattle.registry_commands.specs.Entries.{NextSays, PassesOne, entry_in}
use Rattle.registry_commands.specs.Messages.{input_failure}
use Rattle.registry_commands.specs.RecordLines.{Passes}
use Rattle.registry_commands.specs.Replayed.{AreBlank, Begins, IsOfRecordInput, is_later}
use Rattle.registry_commands.proofs.RecordLineLemmas.{passes_none, passes_then, same_lines}

-- blank lines were passed
pub record HasPassed (to_come now : Option (List ℕ)) (before count : ℕ) : Type 0 where
  pub lines : List (List ℕ)
  pub blank : AreBlank lines
  pub passes : Passes to_come now lines
  pub counted : count ≡ before + length lines

pub nothing_passed : (o : Option (List ℕ)) (n : ℕ) → HasPassed o o n n
nothing_passed o n = record { lines = []; blank = All-nil (λ line. entry_in line ≡ says.Blank); passes = passes_none o; counted = omega arith }

module _ (to_come now : Option (List ℕ)) (before count : ℕ) (so_far : HasPassed to_come now before count) where
  pub one_passed : (next : Option (List ℕ)) (more : ℕ) → PassesOne now next says.Blank → more ≡ count + 1 → HasPassed to_come next before more
  one_passed next more one is = record {
    lines = so_far.lines ++ one.0 ∷ [];
    blank = All-push (λ line. entry_in line ≡ says.Blank) so_far.lines one.0 so_far.blank one.1;
    passes = passes_then to_come now next so_far.lines (one.0 ∷ []) so_far.passes one.2;
    counted = omega (arith, is, so_far.counted, length-append so_far.lines (one.0 ∷ []));
  }

  module _ (failures failures_new : ℕ) where
    pub begins_founding : (next : Option (List ℕ)) (more : ℕ) (founding : Founding) → PassesOne now next (says.Founding founding) → more ≡ count + 1
        → Begins to_come next before more failures failures_new (Ok (Some founding))
    begins_founding next more founding one is =
        (so_far.lines, one.0, so_far.blank, one.1, passes_then to_come now next so_far.lines (one.0 ∷ []) so_far.passes one.2, omega (arith, is, so_far.counted))

    pub begins_later : (next : Option (List ℕ)) (more : ℕ) (entry : Entry) → Consumes now next [] → NextSays now entry → is_later entry ≡ true → more ≡ count
        → Begins to_come next before more failures failures_new (Ok None)
    begins_later next more entry same first later is = (
      so_far.lines,
      so_far.blank,
      λ rest have. so_far.passes rest (same_lines now next rest same have),
      is ∙ so_far.counted,
      (entry, later, first.0, first.1, so_far.passes first.0 first.2),
    )

    pub begins_refused : (next : Option (List ℕ)) (more number : ℕ) (why : LineRefusal) → NextSays now (says.Bad why) → number ≡ count + 1
        → Begins to_come next before more failures failures_new (Err (stop.Line number why))
    begins_refused next more number why first is = (so_far.lines, so_far.blank, omega (arith, is, so_far.counted), (first.0, first.1, so_far.passes first.0 first.2))

-- the source failed, and not memory
pub file_input : (fault : ReadAllFault) → input_failure fault ≡ File → fault ≡ inputs.File
file_input inputs.File told = refl
file_input inputs.NoMemory told = absurd (cc told)

-- memory ran out, and the source did not fail
pub kept_unless_file : (fault : ReadAllFault) (old mid new : ℕ) → input_failure fault ≢ File → (fault ≡ inputs.NoMemory → new ≡ mid) → mid ≡ old → new ≡ old
kept_unless_file inputs.File old mid new other memory kept = absurd (other refl)
kept_unless_file inputs.NoMemory old mid new other memory kept = memory refl ∙ kept

-- the beginning could not be read
pub of_record_input : (lines failures failures_new : ℕ) (fault : ReadAllFault) → (fault ≡ inputs.File → FailsOnce failures failures_new ⊎ (lines ≡ 2 ^ 64 - 1)) → (fault ≡ inputs.NoMemory → failures_new ≡ failures)
    → IsOfRecordInput lines failures failures_new (input_failure fault)
of_record_input lines failures failures_new inputs.File failed kept = failed refl
of_record_input lines failures failures_new inputs.NoMemory failed kept = kept refl
