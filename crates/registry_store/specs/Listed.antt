-- What a list does with the replies of a run.
use Rattle.std.specs.Prelude.{◌≡◌, ◌≤◌, [], ◌∷◌, ◌++◌, Vec, vec_len, vec_capacity}
use Rattle.std.specs.declared.alloc.Global.{Global}
use Rattle.usbnum_core.specs.declared.error.NoMemory.{NoMemory}
use Rattle.registry_rules.specs.declared.verdict.Reply.{Reply}

-- the reply is appended, and the capacity does not shrink
abbrev pub TakesReply : Vec Reply Global → Vec Reply Global → Reply → Type 0
TakesReply old new reply = (new.items ≡ old.items ++ reply ∷ []) × (vec_capacity old ≤ vec_capacity new)

-- the list is full and unchanged, so memory ran out
abbrev pub HasNoRoom : Vec Reply Global → Vec Reply Global → Reply → NoMemory → Type 0
HasNoRoom old new reply cut = (new.items ≡ old.items) × (vec_capacity old ≤ vec_len old)
