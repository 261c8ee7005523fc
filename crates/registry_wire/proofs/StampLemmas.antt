-- A stamp's text is read as that stamp, and no other text is.
use Rattle.std.proofs.Common.{◌≡◌, ◌≢◌, ℕ, ◌+◌, ◌-◌, ◌*◌, ◌/◌, ◌%◌, ◌<◌, ◌≤◌, Bool, true, false, cond, List, [], ◌∷◌, ◌++◌, Option, Some, None, refl, sym, ap, ◌∙◌, arith, nat_le}
use Rattle.std.specs.Prelude.{MatchOption, option_and_then, option_map, ◌&&◌, ◌==◌}
use Rattle.std.proofs.lemmas.Bool.{and_parts, eqb-true}
use Rattle.std.proofs.lemmas.Bool.Decides.{nat_tests}
use Rattle.usbids_text.specs.Moments.{Moment, is_moment}
use Rattle.usbids_text.specs.Writing.{date_text, time_text}
use Rattle.registry_wire.specs.Stamps.{moment_text, digit_of, two_of, four_of, sound, moment_at, moment_of}

-- ---- a written text is read

digit_back : (d : ℕ) → d < 10 → digit_of (48 + d) ≡ Some d
digit_back d small = grind (arith, nat_tests)

two_back : (n : ℕ) → n < 100 → two_of (48 + n / 10) (48 + n % 10) ≡ Some n
unfolding two_of
two_back n small =
    let tens : n / 10 < 10 = omega arith in
    let ones : n % 10 < 10 = omega arith in
    let whole : n / 10 * 10 + n % 10 ≡ n = omega arith in
    rw (digit_back (n / 10) tens, digit_back (n % 10) ones, whole)

four_back : (n : ℕ) → n < 10000 → four_of (48 + n / 1000) (48 + n / 100 % 10) (48 + n / 10 % 10) (48 + n % 10) ≡ Some n
unfolding four_of
four_back n small =
    let a : n / 1000 ≡ n / 100 / 10 = omega arith in
    let b : n / 10 % 10 ≡ n % 100 / 10 = omega arith in
    let c : n % 10 ≡ n % 100 % 10 = omega arith in
    let high : n / 100 < 100 = omega arith in
    let low : n % 100 < 100 = omega arith in
    let whole : n / 100 * 100 + n % 100 ≡ n = omega arith in
    let first : two_of (48 + n / 1000) (48 + n / 100 % 10) ≡ Some (n / 100) = rw a (two_back (n / 100) high) in
    let last : two_of (48 + n / 10 % 10) (48 + n % 10) ≡ Some (n % 100) = rw (b, c) (two_back (n % 100) low) in
    rw (first, last, whole)

pub moment_back : (m : Moment) → is_moment m ≡ true → moment_of (moment_text m) ≡ Some m
unfolding moment_of moment_at
moment_back m valid =
    let year : m.year < 10000 = grind (arith, nat_tests) in
    let month : m.month < 100 = grind (arith, nat_tests) in
    let day : m.day < 100 = grind (arith, nat_tests) in
    let hour : m.hour < 100 = grind (arith, nat_tests) in
    let minute : m.minute < 100 = grind (arith, nat_tests) in
    let second : m.second < 100 = grind (arith, nat_tests) in
    rw (four_back m.year year, two_back m.month month, two_back m.day day, two_back m.hour hour, two_back m.minute minute, two_back m.second second, valid)

-- ---- a text that is read is the written one

and_then_is : {A B : Type 0} (found : Option A) (next : A → Option B) (y : B) → option_and_then next found ≡ Some y → (x : A) × ((found ≡ Some x) × (next x ≡ Some y))
and_then_is None next y e = absurd cc
and_then_is (Some x) next y e = (x, (refl, e))

map_is : {A B : Type 0} (found : Option A) (f : A → B) (y : B) → option_map f found ≡ Some y → (x : A) × ((found ≡ Some x) × (f x ≡ y))
map_is None f y e = absurd cc
map_is (Some x) f y e = (x, (refl, cc))

cond_is : {A : Type 0} (test : Bool) (found : Option A) (y : A) → cond test found None ≡ Some y → (test ≡ true) × (found ≡ Some y)
cond_is true found y e = (refl, e)
cond_is false found y e = absurd cc

digit_is : (byte digit : ℕ) → digit_of byte ≡ Some digit → (byte ≡ 48 + digit) × (digit < 10)
digit_is byte digit e =
    let t = cond_is (nat_le 48 byte && nat_le byte 57) (Some (byte - 48)) digit e in
    let both = and_parts (nat_le 48 byte) (nat_le byte 57) t.0 in
    let same : byte - 48 ≡ digit = let f = t.1 in cc in
    let low : 48 ≤ byte = let l = both.0 in grind (arith, nat_tests) in
    let high : byte ≤ 57 = let h = both.1 in grind (arith, nat_tests) in
    (omega arith, omega arith)

two_is : (a b n : ℕ) → two_of a b ≡ Some n → (a ≡ 48 + n / 10) × (b ≡ 48 + n % 10) × (n < 100)
unfolding two_of
two_is a b n e =
    let o = and_then_is (digit_of a) (λ tens. option_map (λ ones. tens * 10 + ones) (digit_of b)) n e in
    let m = map_is (digit_of b) (λ ones. o.0 * 10 + ones) n o.1.1 in
    let first = digit_is a o.0 o.1.0 in
    let last = digit_is b m.0 m.1.0 in
    let tens : a ≡ 48 + o.0 = first.0 in
    let tens_small : o.0 < 10 = first.1 in
    let ones : b ≡ 48 + m.0 = last.0 in
    let ones_small : m.0 < 10 = last.1 in
    let whole : o.0 * 10 + m.0 ≡ n = m.1.1 in
    (omega arith, omega arith, omega arith)

four_is : (a b c d n : ℕ) → four_of a b c d ≡ Some n → (a ≡ 48 + n / 1000) × (b ≡ 48 + n / 100 % 10) × (c ≡ 48 + n / 10 % 10) × (d ≡ 48 + n % 10)
unfolding four_of
four_is a b c d n e =
    let o = and_then_is (two_of a b) (λ high. option_map (λ low. high * 100 + low) (two_of c d)) n e in
    let m = map_is (two_of c d) (λ low. o.0 * 100 + low) n o.1.1 in
    let first = two_is a b o.0 o.1.0 in
    let last = two_is c d m.0 m.1.0 in
    let whole : o.0 * 100 + m.0 ≡ n = m.1.1 in
    let low : m.0 < 100 = last.2 in
    let high : n / 100 ≡ o.0 = omega arith in
    let rest : n % 100 ≡ m.0 = omega arith in
    let thousands : n / 1000 ≡ o.0 / 10 = omega arith in
    let tens : n / 10 % 10 ≡ m.0 / 10 = omega arith in
    let ones : n % 10 ≡ m.0 % 10 = omega arith in
    let a_is : a ≡ 48 + o.0 / 10 = first.0 in
    let b_is : b ≡ 48 + o.0 % 10 = first.1 in
    let c_is : c ≡ 48 + m.0 / 10 = last.0 in
    let d_is : d ≡ 48 + m.0 % 10 = last.1 in
    (rw thousands a_is, rw high b_is, rw tens c_is, rw ones d_is)

sound_is : (m found : Moment) → sound m ≡ Some found → m ≡ found
sound_is m found e = let t = cond_is (is_moment m) (Some m) found e in let f = t.1 in cc

time_same : (m : Moment) (hour minute second a b colon c d other e f : ℕ) → m.hour ≡ hour → m.minute ≡ minute → m.second ≡ second
    → a ≡ 48 + hour / 10 → b ≡ 48 + hour % 10 → colon ≡ 58 → c ≡ 48 + minute / 10 → d ≡ 48 + minute % 10 → other ≡ 58 → e ≡ 48 + second / 10 → f ≡ 48 + second % 10
    → time_text m ≡ a ∷ b ∷ colon ∷ c ∷ d ∷ other ∷ e ∷ f ∷ []
time_same m hour minute second a b colon c d other e f mh mm ms pa pb pc pd pe pf pg ph = rw (mh, mm, ms, pa, pb, pc, pd, pe, pf, pg, ph)

date_same : (m : Moment) (year month day a b c d dash e f other g h space : ℕ) (time : List ℕ) → m.year ≡ year → m.month ≡ month → m.day ≡ day → time_text m ≡ time
    → a ≡ 48 + year / 1000 → b ≡ 48 + year / 100 % 10 → c ≡ 48 + year / 10 % 10 → d ≡ 48 + year % 10 → dash ≡ 45
    → e ≡ 48 + month / 10 → f ≡ 48 + month % 10 → other ≡ 45 → g ≡ 48 + day / 10 → h ≡ 48 + day % 10 → space ≡ 32
    → moment_text m ≡ a ∷ b ∷ c ∷ d ∷ dash ∷ e ∷ f ∷ other ∷ g ∷ h ∷ space ∷ time
date_same m year month day a b c d dash e f other g h space time my mm md mt pa pb pc pd pdash pe pf pother pg ph pspace =
    ap (λ (x : List ℕ). date_text 45 m ++ (32 ∷ x)) mt ∙ rw (my, mm, md, pa, pb, pc, pd, pdash, pe, pf, pother, pg, ph, pspace)

pub moment_at_is : (year month day : ℕ) (time : List ℕ) (m : Moment) → moment_at year month day time ≡ Some m → (m.year ≡ year) × (m.month ≡ month) × (m.day ≡ day) × (time_text m ≡ time)
unfolding moment_at
moment_at_is year month day (a ∷ b ∷ colon ∷ c ∷ d ∷ other ∷ e ∷ f ∷ []) m is =
    let t = cond_is (colon == 58 && other == 58) _ m is in
    let ends = and_parts (colon == 58) (other == 58) t.0 in
    let first : colon ≡ 58 = eqb-true colon 58 ends.0 in
    let last : other ≡ 58 = eqb-true other 58 ends.1 in
    let h = and_then_is (two_of a b) _ m t.1 in
    let n = and_then_is (two_of c d) _ m h.1.1 in
    let s = and_then_is (two_of e f) _ m n.1.1 in
    let made = sound_is _ m s.1.1 in
    let hour : m.hour ≡ h.0 = ap (λ (x : Moment). x.hour) (sym made) in
    let minute : m.minute ≡ n.0 = ap (λ (x : Moment). x.minute) (sym made) in
    let second : m.second ≡ s.0 = ap (λ (x : Moment). x.second) (sym made) in
    let hours = two_is a b h.0 h.1.0 in
    let minutes = two_is c d n.0 n.1.0 in
    let seconds = two_is e f s.0 s.1.0 in (
      ap (λ (x : Moment). x.year) (sym made),
      ap (λ (x : Moment). x.month) (sym made),
      ap (λ (x : Moment). x.day) (sym made),
      time_same m h.0 n.0 s.0 a b colon c d other e f hour minute second hours.0 hours.1 first minutes.0 minutes.1 last seconds.0 seconds.1,
    )
moment_at_is year month day _ m is = absurd cc

pub moment_is : (text : List ℕ) (m : Moment) → moment_of text ≡ Some m → moment_text m ≡ text
unfolding moment_of
moment_is (a ∷ b ∷ c ∷ d ∷ dash ∷ e ∷ f ∷ other ∷ g ∷ h ∷ space ∷ time) m is =
    let t = cond_is (dash == 45 && other == 45 && space == 32) _ m is in
    let outer = and_parts (dash == 45 && other == 45) (space == 32) t.0 in
    let inner = and_parts (dash == 45) (other == 45) outer.0 in
    let first : dash ≡ 45 = eqb-true dash 45 inner.0 in
    let second : other ≡ 45 = eqb-true other 45 inner.1 in
    let third : space ≡ 32 = eqb-true space 32 outer.1 in
    let y = and_then_is (four_of a b c d) _ m t.1 in
    let n = and_then_is (two_of e f) _ m y.1.1 in
    let o = and_then_is (two_of g h) _ m n.1.1 in
    let rest = moment_at_is y.0 n.0 o.0 time m o.1.1 in
    let years = four_is a b c d y.0 y.1.0 in
    let months = two_is e f n.0 n.1.0 in
    let days = two_is g h o.0 o.1.0 in
    date_same m y.0 n.0 o.0 a b c d dash e f other g h space time rest.0 rest.1 rest.2 rest.3
    years.0 years.1 years.2 years.3 first months.0 months.1 second days.0 days.1 third
moment_is _ m is = absurd cc

pub stamp_answer : (text : List ℕ) (found : Option Moment) → found ≡ moment_of text → MatchOption found ((m : Moment) → is_moment m ≡ true → moment_text m ≢ text) (λ m. moment_text m ≡ text)
stamp_answer text None is = λ m valid e. let back = moment_back m valid in let same : moment_of (moment_text m) ≡ moment_of text = ap moment_of e in absurd cc
stamp_answer text (Some m) is = moment_is text m (sym is)
