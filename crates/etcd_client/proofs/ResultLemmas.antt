-- What follows from the outcome of a call.
use Rattle.std.proofs.Common.{Result, Ok, Err}
use Rattle.std.specs.Prelude.{IfOk, IfErr}

-- the same value has what follows from what it has
pub on_value : {T E : Type 0} (r : Result T E) (P Q : T → Type 0) → IfOk r P → ((x : T) → P x → Q x) → IfOk r Q
on_value (Ok x) P Q p f = f x p
on_value (Err e) P Q p f = p

-- the same of an error
pub on_error : {T E : Type 0} (r : Result T E) (P Q : E → Type 0) → IfErr r P → ((x : E) → P x → Q x) → IfErr r Q
on_error (Ok x) P Q p f = p
on_error (Err e) P Q p f = f e p
