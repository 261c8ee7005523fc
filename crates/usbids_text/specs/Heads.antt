-- The code and the name of an entry, as they are kept.
use Rattle.std.specs.Prelude.{ℕ, List, [], Option, Some, None}
use Rattle.std.specs.declared.boxed.Box.{Box}
use Rattle.std.specs.declared.vec.Vec.{Vec}
use Rattle.usbids_text.specs.declared.name.Text.{Text}
use Rattle.usbids_text.specs.declared.name.Text.TheVariants as text
use Rattle.usbids_text.specs.declared.head.Parts.{Parts}
use Rattle.usbids_text.specs.declared.head.Parts.TheVariants as parts

-- a code, the number of its digits, and a name
pub record EntryHead : Type 0 where
  pub code : ℕ
  pub digits : ℕ
  pub name : List ℕ

-- the bytes of a name
abbrev pub text_of : Text → List ℕ
text_of (text.Here bytes) = bytes
text_of (text.There bytes) = bytes.items

-- the head that is kept in these parts
abbrev pub head_of : Parts → EntryHead
head_of (parts.Here digits code name) = record { code = code; digits = digits; name = name }
head_of (parts.There digits code name) = record { code = code; digits = digits; name = name.items }

-- the entries below one, in an allocation if there are any
abbrev pub leaves_in : {L A B : Type 0} → Option (Box (Vec L A) B) → List L
leaves_in None = []
leaves_in (Some leaves) = leaves.value.items
