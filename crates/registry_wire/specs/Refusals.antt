-- Readings that may be refused, and the results of functions that read.
use Rattle.std.specs.Prelude.{◌≡◌, ⊤, Option, Some, None, Result, Ok, Err}
use Rattle.registry_rules.specs.declared.rejection.Rejection.{Rejection}
use Rattle.registry_rules.specs.declared.rejection.Rejection.TheVariants.{Refused, NoMemory}
use Rattle.registry_wire.specs.declared.refusal.WireRefusal.{WireRefusal}

-- the value, or the refusal if there is no value
abbrev pub value_or : {A : Type 0} → WireRefusal → Option A → Result A WireRefusal
value_or refusal None = Err refusal
value_or refusal (Some x) = Ok x

-- what the result shows, by `seen`, is the expected value or refusal, unless memory runs out
abbrev pub GivesSeen : {A B R : Type 0} → (A → B) → Result A (Rejection R) → Result B R → Type 0
GivesSeen seen (Ok x) expected = expected ≡ Ok (seen x)
GivesSeen seen (Err (Refused refusal)) expected = expected ≡ Err refusal
GivesSeen seen (Err NoMemory) expected = ⊤
