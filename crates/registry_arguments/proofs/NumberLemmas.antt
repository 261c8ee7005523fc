-- When a text is a number from one bound to another.
use Rattle.std.proofs.Common.{◌≡◌, ℕ, ◌≤◌, ◌<◌, ◌^◌, Bool, true, false, List, Some, None, refl, sym}
use Rattle.std.specs.Prelude.{if◌then◌else◌}
use Rattle.std.specs.Str.Parse.{IsNumeral, digits_value, without_leading_plus}
use Rattle.clap.specs.Values.{Accepts}
use Rattle.clap.specs.ValueTests.{is_unsigned_in}
use Rattle.clap.specs.declared.builder.value_parser.ValueParser.TheVariants as parser
use Rattle.clap.proofs.ValueTestLemmas.{accepts-Accepts, Accepts-accepts}
use Rattle.registry_arguments.specs.Commands.{number_in}

module _ (low high : ℕ) (text : List ℕ) where
  found : (n : ℕ) → Accepts false (parser.Unsigned low high) text → digits_value 10 (without_leading_plus text) ≡ n → number_in low high text ≡ Some n
  unfolding number_in
  found n h e = rw (Accepts-accepts false (parser.Unsigned low high) text h, e) refl

  lost : ¬ Accepts false (parser.Unsigned low high) text → number_in low high text ≡ None
  unfolding number_in
  lost h = go (is_unsigned_in low high text) refl
    where
      go : (b : Bool) → is_unsigned_in low high text ≡ b → (if b then Some (digits_value 10 (without_leading_plus text)) else None) ≡ None
      go true e = absurd (h (accepts-Accepts false (parser.Unsigned low high) text e))
      go false e = refl

  -- the text is a 64-bit number
  abbrev IsWhole : Type 0
  IsWhole = IsNumeral 10 (without_leading_plus text) × (digits_value 10 (without_leading_plus text) < 2 ^ 64)

  -- a text that is read as a number is accepted if the number is within the bounds
  pub number_within : (n : ℕ) → IsWhole × (n ≡ digits_value 10 (without_leading_plus text)) → low ≤ n → n ≤ high → number_in low high text ≡ Some n
  number_within n h least most = found n (h.0.0, h.0.1, rw (← h.1) least, rw (← h.1) most) (sym h.1)

  pub number_outside : (n : ℕ) → IsWhole × (n ≡ digits_value 10 (without_leading_plus text)) → ¬ ((low ≤ n) × (n ≤ high)) → number_in low high text ≡ None
  number_outside n h out = lost (λ a. out (rw h.1 a.2, rw h.1 a.3))

  pub number_none : ¬ IsWhole → number_in low high text ≡ None
  number_none h = lost (λ a. h (a.0, a.1))
