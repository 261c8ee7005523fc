-- What a check says of the keys of a founding file.
use Rattle.std.proofs.Common.{◌≡◌, ◌∙◌, ◌==◌, ◌||◌, ◌++◌, ℕ, Bool, cond, true, false, not, List, [], ◌∷◌, length, codes, String, Global, refl, sym, ap, inl, inr, true≢false, arith, append_assoc, string_bytes}
use Rattle.std.specs.Prelude.{map}
use Rattle.std.proofs.lemmas.Bool.Decides.{nat_tests}
use Rattle.toml.specs.Data.{Members, no_members, member}
use Rattle.toml.specs.View.{members_view}
use Rattle.toml.specs.declared.value.Value.{Value}
use Rattle.registry_commands.specs.declared.messages.Failure.{Failure}
use Rattle.registry_commands.specs.declared.status.ExitStatus.{ExitStatus}
use Rattle.registry_commands.specs.Ends.{Output}
use Rattle.registry_commands.specs.Keys.{IsFoundingChecked, has_unknown_key, is_known_key, key_line, key_lines}
use Rattle.registry_commands.specs.Messages.{shown}
use Rattle.registry_commands.proofs.FailureLemmas.{tells_more}

-- the line of a key that no founding has, appended in three pieces
pub line_pushed : (key before told one two three : List ℕ) → is_known_key key ≡ false → told ≡ map shown key → one ≡ before ++ codes "unknown key: " → two ≡ one ++ told → three ≡ two ++ codes "\n"
    → three ≡ before ++ key_line key
line_pushed key before told one two three unknown is first second third =
    rw (third, second, first, is, unknown)
    (append_assoc (before ++ codes "unknown key: ") (map shown key) (codes "\n") ∙ append_assoc before (codes "unknown key: ") (map shown key ++ codes "\n"))

-- the line of one more entry
pub line_next : (es rest : List (String Global × Value)) (key : String Global) (value : Value) (now next left : List ℕ) → es ≡ (key, value) ∷ rest → now ++ key_lines (members_view es) ≡ left
    → next ≡ now ++ key_line (string_bytes key) → next ++ key_lines (members_view rest) ≡ left
line_next es rest key value now next left is so_far step =
    ap (λ (l : List ℕ). l ++ key_lines (members_view rest)) step
    ∙ (append_assoc now (key_line (string_bytes key)) (key_lines (members_view rest)) ∙ (ap (λ (l : List (String Global × Value)). now ++ key_lines (members_view l)) (sym is) ∙ so_far))

none_of_more : (text others : List ℕ) → (length ((codes "unknown key: " ++ text) ++ others) == 0) ≡ false
none_of_more text others = grind (arith, nat_tests)

-- there are lines if and only if some key is unknown
said : (table : Members) → (length (key_lines table) == 0) ≡ not (has_unknown_key table)
said no_members = refl
said (member key value others) = go (is_known_key key) (said others)
  where
    go : (b : Bool) → (length (key_lines others) == 0) ≡ not (has_unknown_key others)
        → (length (cond b [] (codes "unknown key: " ++ map shown key ++ codes "\n") ++ key_lines others) == 0) ≡ not (not b || has_unknown_key others)
    go true later = later
    go false later = none_of_more (map shown key ++ codes "\n") (key_lines others)

pub none_said : (table : Members) → (length (key_lines table) == 0) ≡ true → has_unknown_key table ≡ false
none_said table is = go (has_unknown_key table) (sym (said table) ∙ is)
  where
    go : (b : Bool) → not b ≡ true → b ≡ false
    go true e = absurd (true≢false (sym e))
    go false e = refl

pub some_said : (table : Members) → (length (key_lines table) == 0) ≡ false → has_unknown_key table ≡ true
some_said table is = go (has_unknown_key table) (sym (said table) ∙ is)
  where
    go : (b : Bool) → not b ≡ false → b ≡ true
    go true e = refl
    go false e = absurd (true≢false e)

-- the founding file was read from an input, which may fail too
pub checks_more : (OfMemory OfInput : Failure → Type 0) → ((failure : Failure) → OfMemory failure → OfInput failure) → (bytes : List ℕ) (errors : Output) (status : ExitStatus)
    → IsFoundingChecked OfMemory bytes errors status → IsFoundingChecked OfInput bytes errors status
checks_more OfMemory OfInput more bytes errors status is = elim is [ inl said ↦ inl said | inr failed ↦ inr (failed.0, tells_more OfMemory OfInput errors more failed.1) ]
