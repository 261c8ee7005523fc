-- What a line of a record says.
use Rattle.std.proofs.Common.{◌≡◌, ◌≤◌, ◌<◌, ◌+◌, ℕ, Bool, true, false, List, [], ◌∷◌, length, take, drop, Option, Result, Ok, Err, refl, arith}
use Rattle.std.specs.Prelude.{nat_le, if◌then◌else◌}
use Rattle.std.specs.Io.KnownBytes.{prepend_known}
use Rattle.std.proofs.lemmas.Bool.{leb-true, le-leb}
use Rattle.registry_commands.specs.declared.entries.Entry.{Entry}
use Rattle.registry_commands.specs.declared.entries.Entry.TheVariants.{End, Blank, Founding, Accepted as Request, Bad}
use Rattle.registry_commands.specs.declared.entries.LineRefusal.TheVariants.{TooLong}
use Rattle.registry_commands.specs.declared.record_lines.Found.TheVariants.{Line}
use Rattle.registry_commands.specs.declared.unread.Unread.{Unread}
use Rattle.registry_wire.specs.Record.{record_reading}
use Rattle.registry_wire.specs.declared.record.RecordLine.{RecordLine}
use Rattle.registry_wire.specs.declared.record.RecordLine.TheVariants as wire
use Rattle.registry_wire.specs.declared.refusal.WireRefusal.{WireRefusal}
use Rattle.registry_commands.specs.Lines.{is_blank}
use Rattle.registry_commands.specs.Entries.{FirstSays, NextSays, MayPass, PassesOne, Peeks, TakesEntry, entry_by, entry_in, is_followed, short_entry}
use Rattle.registry_commands.specs.RecordLines.{FindsLine, MayHaveLines, most_line, unread_of}
use Rattle.registry_commands.proofs.RecordLineLemmas.{may_have}

pub in_short : (line : List ℕ) → length line ≤ most_line → entry_in line ≡ short_entry line
in_short line few = rw (le-leb (length line) most_line few) refl

too_long : (line : List ℕ) → most_line < length line → entry_in line ≡ Bad TooLong
too_long line long = go (nat_le (length line) most_line) refl
  where
    go : (t : Bool) → nat_le (length line) most_line ≡ t → (if t then short_entry line else Bad TooLong) ≡ Bad TooLong
    go true e = let few = leb-true (length line) most_line e in absurd (omega (arith, few, long))
    go false e = refl

pub takes_passed : (old new : Option (List ℕ)) (n m : ℕ) (entry : Entry) → is_followed entry ≡ true → PassesOne old new entry → m ≡ n + 1 → TakesEntry old new n m entry
takes_passed old new n m Blank is one more = (one, more)
takes_passed old new n m (Request a d) is one more = (one, more)
takes_passed old new n m End is one more = absurd cc
takes_passed old new n m (Founding f) is one more = absurd cc
takes_passed old new n m (Bad r) is one more = absurd cc

pub takes_none : (old new : Option (List ℕ)) (n m : ℕ) (entry : Entry) → is_followed entry ≡ false → NextSays old entry → m ≡ n → TakesEntry old new n m entry
takes_none old new n m Blank is next same = absurd cc
takes_none old new n m (Request a d) is next same = absurd cc
takes_none old new n m End is next same = (next, same)
takes_none old new n m (Founding f) is next same = (next, same)
takes_none old new n m (Bad r) is next same = (next, same)

pub followed_may_pass : (entry : Entry) → is_followed entry ≡ true → MayPass entry
followed_may_pass Blank is = tt
followed_may_pass (Request a d) is = tt
followed_may_pass End is = absurd cc
followed_may_pass (Founding f) is = absurd cc
followed_may_pass (Bad r) is = absurd cc

-- a line says something
pub never_end : (line : List ℕ) → entry_in line ≡ End → ⊥
never_end line is = go (nat_le (length line) most_line) is
  where
    by : (r : Result RecordLine WireRefusal) → entry_by r ≡ End → ⊥
    by (Ok (wire.Founding f)) e = cc
    by (Ok (wire.Accepted a d)) e = cc
    by (Err refusal) e = cc

    short : (t : Bool) → (if t then Blank else entry_by (record_reading line)) ≡ End → ⊥
    short true e = cc
    short false e = by (record_reading line) e

    go : (t : Bool) → (if t then short_entry line else Bad TooLong) ≡ End → ⊥
    go true e = short (is_blank line) e
    go false e = cc

-- at the end there is no line
pub none_left : (to_come : Option (List ℕ)) → NextSays to_come End → MayHaveLines to_come []
none_left to_come next = go next.0 next.1 next.2
  where
    go : (lines : List (List ℕ)) → FirstSays lines End → MayHaveLines to_come lines → MayHaveLines to_come []
    go [] first have = have
    go (line ∷ later) first have = absurd (never_end line first)

module _ (old rest : Option (List ℕ)) (it : Unread) where
  -- no line is left
  pub peeks_end : MayHaveLines old [] → Peeks old rest it End 0
  peeks_end none = record { next = ([], refl, none); within = omega arith; passed = λ never. absurd never }

  -- the next line is too long
  pub peeks_long : (line : List ℕ) (lines : List (List ℕ)) → most_line < length line → MayHaveLines old (line ∷ lines) → Peeks old rest it (Bad TooLong) 0
  peeks_long line lines long have = record { next = (line ∷ lines, too_long line long, have); within = omega arith; passed = λ never. absurd never }

  -- the next line was read
  pub peeks_line : (size : ℕ) (entry : Entry) → FindsLine old rest it (Line size) → entry_in (take size (unread_of it)) ≡ entry → Peeks old rest it entry size
  peeks_line size entry found is =
      let later = may_have (prepend_known (drop (size + 1) (unread_of it)) rest) in
      record {
        next = (take size (unread_of it) ∷ later.0, is, found.2 later.0 later.1);
        within = found.0;
        passed = λ may. (take size (unread_of it), is, found.2);
      }
