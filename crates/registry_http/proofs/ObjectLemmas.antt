-- An object without floats stays one without floats.
use Rattle.std.proofs.Common.{◌≡◌, ℕ, Bool, true, false, List, refl, Ordering, Less, Equal, Greater}
use Rattle.std.specs.Prelude.{◌||◌}
use Rattle.std.specs.Ordering.{match_ordering, nat_cmp}
use Rattle.std.specs.Cmp.Lexicographic.{slice_cmp}
use Rattle.serde_json.specs.Data.{Data, Members, no_members, member, put}
use Rattle.serde_json.specs.Written.{has_float, members_have_float}

or_is_false : (a b : Bool) → a ≡ false → b ≡ false → (a || b) ≡ false
or_is_false true b x y = absurd cc
or_is_false false b x y = y

both_false : (a b : Bool) → (a || b) ≡ false → (a ≡ false) × (b ≡ false)
both_false true b e = absurd cc
both_false false b e = (refl, e)

match_is_plain : (o : Ordering) (a b c : Members) → members_have_float a ≡ false → members_have_float b ≡ false → members_have_float c ≡ false → members_have_float (match_ordering o a b c) ≡ false
match_is_plain Less a b c x y z = x
match_is_plain Equal a b c x y z = y
match_is_plain Greater a b c x y z = z

pub put_is_plain : (k : List ℕ) (d : Data) (ms : Members) → has_float d ≡ false → members_have_float ms ≡ false → members_have_float (put k d ms) ≡ false
put_is_plain k d no_members plain all = or_is_false (has_float d) (members_have_float no_members) plain all
put_is_plain k d (member l e ms) plain all =
    let rest = both_false (has_float e) (members_have_float ms) all in
    match_is_plain (slice_cmp nat_cmp k l) (member k d (member l e ms)) (member l d ms) (member l e (put k d ms))
    (or_is_false (has_float d) (members_have_float (member l e ms)) plain all)
    (or_is_false (has_float d) (members_have_float ms) plain rest.1)
    (or_is_false (has_float e) (members_have_float (put k d ms)) rest.0 (put_is_plain k d ms plain rest.1))
