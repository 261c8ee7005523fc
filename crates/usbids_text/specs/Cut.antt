-- The lines of a text.
use Rattle.std.specs.Prelude.{ℕ, ◌==◌, List, [], ◌∷◌, ◌++◌, if◌then◌else◌}

-- puts p before the first line, or before the rest if there is no line
abbrev pub prefixed : List ℕ → List (List ℕ) → List ℕ → List (List ℕ) × List ℕ
prefixed p [] rest = ([], p ++ rest)
prefixed p (l ∷ ls) rest = ((p ++ l) ∷ ls, rest)

-- the complete lines without their line feeds, and the bytes after the last line feed
unfoldable pub cut : List ℕ → List (List ℕ) × List ℕ
cut [] = ([], [])
cut (b ∷ bytes) = if b == 10 then ([] ∷ (cut bytes).0, (cut bytes).1) else prefixed (b ∷ []) (cut bytes).0 (cut bytes).1

abbrev pub with_rest : List (List ℕ) → List ℕ → List (List ℕ)
with_rest ls [] = ls
with_rest ls (b ∷ bytes) = ls ++ (b ∷ bytes) ∷ []

-- the lines of a text; the bytes after the last line feed are a line too, if there are any
unfoldable pub lines : List ℕ → List (List ℕ)
lines text = with_rest (cut text).0 (cut text).1
