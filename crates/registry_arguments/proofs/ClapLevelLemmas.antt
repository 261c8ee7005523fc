-- About `clap` alone, and not this program: after one level of a parse without a fault, each row has a value that passed, and
-- each required argument has a row.
use Rattle.std.proofs.Common.{◌≡◌, ◌∙◌, ◌&&◌, ◌||◌, ◌⊎◌, ℕ, Bool, cond, true, false, not, zero, suc, refl, sym, ap, subst, List, [], ◌∷◌, ◌++◌, length, drop, Option, Some, None, inl, inr, is_some, true≢false, append-nil}
use Rattle.std.specs.Prelude.{⊤, IsSome, encode_utf8, option_and_then, slice_get}
use Rattle.std.specs.Option.{option_map_or}
use Rattle.std.specs.List.{find, fold, list_any}
use Rattle.std.specs.Str.{bytes_eq, chars}
use Rattle.std.proofs.lemmas.Slice.Eq.{bytes_eq-Decides}
use Rattle.clap.specs.Facts.{explicit_source, parser_of_value, unwrap_or_range}
use Rattle.clap.specs.Lexer.{long_of, short_of}
use Rattle.clap.specs.Walk.{Held, Names, Outcome, Row, Rule, Step, Text, Waiting, Walk, action_of, after_flag, after_step, arg_by_id, arg_by_index, arg_by_long, arg_by_short, at_row, attached_value, bundle_met, bundle_step, default_rows, done, finished, first_of, flag_met, has_row, idle, is_pending, long_met, long_or_other, more_values, most_values, next, nothing_held, option, option_met, option_word, plain, plain_word, positional, pushed, reacted, reading_by, refused, rows_after, settled, settled_rows, short_met, short_or_plain, subcommand, subcommand_met, subcommand_or_other, takes_several, takes_values, to_positional, trailing, used, used_as, used_by_id, value, values_or_missing, waits, walk, walk_from, walked, walked_from, with_default, with_values, without, word_met}
use Rattle.clap.specs.Simple.{Shape}
use Rattle.clap.specs.Takes.{is_given}
use Rattle.clap.specs.Kinds.{Kinds, check_kinds, or_else, range_kinds, value_kinds}
use Rattle.clap.specs.Faults.{action_fault, bundle_step_fault, flag_word_fault, flags_fault, level_fault, long_fault, option_fault, other_fault, positional_fault, react_fault, settle_fault, short_fault, step_fault, stray_fault, turn_fault, use_fault, walk_fault, word_fault}
use Rattle.clap.specs.declared.builder.action.ArgAction.{ArgAction}
use Rattle.clap.specs.declared.builder.action.ArgAction.TheVariants.{Set}
use Rattle.clap.specs.declared.error.kind.ErrorKind.TheVariants as kind
use Rattle.clap.specs.declared.parser.matches.ValueSource.TheVariants.{CommandLine}

-- ---- lists, tests and kinds

abbrev pub Every : {X : Type 0} → (X → Type 0) → List X → Type 0
Every P [] = ⊤
Every P (x ∷ xs) = P x × Every P xs

pub every_weaker : {X : Type 0} (P Q : X → Type 0) → ((x : X) → P x → Q x) → (xs : List X) → Every P xs → Every Q xs
every_weaker P Q f [] h = tt
every_weaker P Q f (x ∷ xs) h = (f x h.0, every_weaker P Q f xs h.1)

every_more : {X : Type 0} (P : X → Type 0) (xs : List X) (x : X) → Every P xs → P x → Every P (xs ++ x ∷ [])
every_more P [] x h p = (p, tt)
every_more P (y ∷ xs) x h p = (h.0, every_more P xs x h.1 p)

-- the element that a search finds
pub every_found : {X : Type 0} (P : X → Type 0) (test : X → Bool) (xs : List X) (x : X) → Every P xs → find test xs ≡ Some x → P x × (test x ≡ true)
every_found P test [] x h found = absurd cc
every_found {X} P test (y ∷ xs) x h found = go (test y) refl found (every_found P test xs x h.1)
  where
    go : (t : Bool) → test y ≡ t → cond t (Some y) (find test xs) ≡ Some x → (find test xs ≡ Some x → P x × (test x ≡ true)) → P x × (test x ≡ true)
    go true e is later = let same : y ≡ x = cc in (subst P same h.0, subst (λ (z : X). test z ≡ true) same e)
    go false e is later = later is

or_none : (a b : Bool) → (a || b) ≡ false → (a ≡ false) × (b ≡ false)
or_none true b e = absurd (true≢false e)
or_none false b e = (refl, e)

pub or_else_none : (a b : Kinds) → or_else a b ≡ [] → (a ≡ []) × (b ≡ [])
or_else_none [] b e = (refl, e)
or_else_none (k ∷ ks) b e = absurd cc

not_wanting : (a b c : Bool) → check_kinds a b c ≡ [] → c ≡ false
not_wanting true b c e = absurd cc
not_wanting false true c e = absurd cc
not_wanting false false true e = absurd cc
not_wanting false false false e = refl

not_negated : (negates b : Bool) → (not (negates && false) && b) ≡ false → b ≡ false
not_negated true b e = e
not_negated false b e = e

is_there : (needed there : Bool) → needed ≡ true → (needed && not there) ≡ false → there ≡ true
is_there needed true is e = refl
is_there true false is e = absurd (true≢false e)
is_there false false is e = absurd (true≢false (sym is))

-- ---- rows

at_absent : (id : Text) (change : Row → List Row) (missing rows : List Row) → has_row id rows ≡ false → at_row id change missing rows ≡ rows ++ missing
at_absent id change missing [] none = refl
at_absent id change missing (r ∷ rows) none =
    let parts = or_none (bytes_eq r.id id) (has_row id rows) none in
    rw parts.0 (ap (λ (rs : List Row). r ∷ rs) (at_absent id change missing rows parts.1))

no_defaults : (rows : List Row) (rules : List Rule) → Every (λ (a : Rule). a.defaults ≡ []) rules → fold with_default rows rules ≡ rows
no_defaults rows [] h = refl
no_defaults rows (a ∷ rules) h = ap (λ (rs : List Row). fold with_default rs rules) (same (has_row a.id rows)) ∙ no_defaults rows rules h.1
  where
    same : (t : Bool) → cond t rows (default_rows a.id (reading_by a) a.defaults rows) ≡ rows
    same true = refl
    same false = ap (λ (values : List Text). default_rows a.id (reading_by a) values rows) h.0

each_there : (rows : List Row) (rules : List Rule) → list_any (λ a. a.required && not (is_given a.id rows)) rules ≡ false
    → Every (λ (a : Rule). a.required ≡ true → is_given a.id rows ≡ true) rules
each_there rows [] none = tt
each_there rows (a ∷ rules) none =
    let parts = or_none (a.required && not (is_given a.id rows)) (list_any (λ a. a.required && not (is_given a.id rows)) rules) none in
    (λ needed. is_there a.required (is_given a.id rows) needed parts.0, each_there rows rules parts.1)

module _ (s : Shape) where
  -- the row is of an argument of this level, and its first value passed
  abbrev pub HasValue : Row → Type 0
  HasValue r = (a : Rule) × (v : Text) × (arg_by_id s.rules r.id ≡ Some a) × (slice_get r.values 0 ≡ Some v) × (value_kinds a.ignore_case (parser_of_value a.parser) v ≡ [])

  -- an argument with no default, which takes a value once, or is a flag that stands for one, or never passes
  abbrev pub TakesOne : Rule → Type 0
  TakesOne a = (arg_by_id s.rules a.id ≡ Some a) × (a.defaults ≡ [])
      × (((action_of a ≡ Set) × (((unwrap_or_range a.range).start_inclusive ≡ 1) ⊎ ((v : Text) × (a.missing ≡ v ∷ []))))
      ⊎ ((values : List Text) (rows : List Row) → action_fault (action_of a) s.args_override_self a values rows ≡ [] → ⊥))

  -- the properties of the rows of this level
  pub record HasValues (rows : List Row) : Type 0 where
    pub values : Every HasValue rows
    pub given : Every (λ (a : Rule). a.required ≡ true → is_given a.id rows ≡ true) s.rules

  pub first_given : (rows : List Row) (id : Text) → Every HasValue rows → is_given id rows ≡ true → IsSome (first_of id rows)
  first_given rows id every given = go (find (λ r. bytes_eq r.id id) rows) refl given
    where
      go : (o : Option Row) → find (λ r. bytes_eq r.id id) rows ≡ o → option_map_or (λ r. explicit_source r.source) o false ≡ true → IsSome (option_and_then (λ r. slice_get r.values 0) o)
      go None is e = absurd (true≢false (sym e))
      go (Some r) is e = let row = (every_found HasValue (λ r. bytes_eq r.id id) rows r every is).0 in rw row.3 refl

  pub first_passes : (rows : List Row) (id v : Text) (a : Rule) → Every HasValue rows → arg_by_id s.rules id ≡ Some a → first_of id rows ≡ Some v
      → value_kinds a.ignore_case (parser_of_value a.parser) v ≡ []
  first_passes rows id v a every by first = go (find (λ r. bytes_eq r.id id) rows) refl first
    where
      go : (o : Option Row) → find (λ r. bytes_eq r.id id) rows ≡ o → option_and_then (λ r. slice_get r.values 0) o ≡ Some v → value_kinds a.ignore_case (parser_of_value a.parser) v ≡ []
      go None is e = absurd cc
      go (Some r) is e =
          let found = every_found HasValue (λ r. bytes_eq r.id id) rows r every is in
          let row = found.0 in
          let same : r.id ≡ id = (bytes_eq-Decides r.id id).0 found.1 in
          let rule : arg_by_id s.rules id ≡ Some row.0 = subst (λ (t : Text). arg_by_id s.rules t ≡ Some row.0) same row.2 in
          let one : row.0 ≡ a = cc in
          let text : row.1 ≡ v = cc in
          subst (λ (b : Rule). value_kinds b.ignore_case (parser_of_value b.parser) v ≡ []) one
          (subst (λ (t : Text). value_kinds row.0.ignore_case (parser_of_value row.0.parser) t ≡ []) text row.4)

  module _ (once : s.args_override_self ≡ false) (all : Every TakesOne s.rules) where
    abbrev Stand : List Row → Type 0
    Stand rows = Every HasValue rows

    found_takes : (test : Rule → Bool) (a : Rule) → find test s.rules ≡ Some a → TakesOne a
    found_takes test a is = (every_found TakesOne test s.rules a all is).0

    -- ---- one use

    absent : (id : Text) (rows : List Row) → cond (has_row id rows && not s.args_override_self) (kind.ArgumentConflict ∷ []) [] ≡ [] → has_row id rows ≡ false
    absent id rows none = go (has_row id rows) (subst (λ (b : Bool). cond (has_row id rows && not b) (kind.ArgumentConflict ∷ []) [] ≡ []) once none)
      where
        go : (t : Bool) → cond (t && not false) (kind.ArgumentConflict ∷ []) [] ≡ [] → t ≡ false
        go true e = absurd cc
        go false e = refl

    value_stored : (a : Rule) (v : Text) (vs : List Text) (rows : List Row) → arg_by_id s.rules a.id ≡ Some a → action_of a ≡ Set
        → action_fault (action_of a) s.args_override_self a (v ∷ vs) rows ≡ [] → Stand rows → Stand (used_as (action_of a) a.id (reading_by a) (v ∷ vs) rows)
    value_stored a v vs rows by set acted every =
        let parts = or_else_none _ _ (subst (λ (x : ArgAction). action_fault x s.args_override_self a (v ∷ vs) rows ≡ []) set acted) in
        let passed = (or_else_none (value_kinds a.ignore_case (parser_of_value a.parser) v) _ parts.1).0 in
        let none = absent a.id rows parts.0 in
        let row : Row = record { id = a.id; values = v ∷ vs; count = None; source = Some CommandLine; reading = reading_by a } in
        let gone : without a.id rows ≡ rows = at_absent a.id (λ _. []) [] rows none ∙ append-nil rows in
        let is : used_as (action_of a) a.id (reading_by a) (v ∷ vs) rows ≡ rows ++ row ∷ [] =
        ap (λ (x : ArgAction). used_as x a.id (reading_by a) (v ∷ vs) rows) set
        ∙ ap (λ (some : List Row). with_values a.id (reading_by a) CommandLine (v ∷ vs) some) gone
        ∙ at_absent a.id (more_values CommandLine (v ∷ vs)) (row ∷ []) rows none in
        subst Stand (sym is) (every_more HasValue rows row every (a, v, by, refl, passed))

    value_set : (a : Rule) (values : List Text) (rows : List Row) → arg_by_id s.rules a.id ≡ Some a → action_of a ≡ Set
        → ((unwrap_or_range a.range).start_inclusive ≡ 1) ⊎ ((v : Text) × (a.missing ≡ v ∷ []))
        → range_kinds (unwrap_or_range a.range).start_inclusive (most_values a) (length values) ≡ []
        → action_fault (action_of a) s.args_override_self a (values_or_missing a values) rows ≡ [] → Stand rows → Stand (used a values rows)
    value_set a [] rows by set (inl start) range acted every =
        let bad : kind.InvalidValue ∷ [] ≡ [] = subst (λ (n : ℕ). range_kinds n (most_values a) 0 ≡ []) start range in absurd cc
    value_set a [] rows by set (inr missing) range acted every =
        subst (λ (values : List Text). Stand (used_as (action_of a) a.id (reading_by a) values rows)) (sym missing.1)
        (value_stored a missing.0 [] rows by set (subst (λ (values : List Text). action_fault (action_of a) s.args_override_self a values rows ≡ []) missing.1 acted) every)
    value_set a (v ∷ vs) rows by set start range acted every = value_stored a v vs rows by set acted every

    value_used : (a : Rule) (values : List Text) (rows : List Row) → TakesOne a → use_fault s.args_override_self a values rows ≡ [] → Stand rows → Stand (used a values rows)
    value_used a values rows one none every =
        let parts = or_else_none (range_kinds (unwrap_or_range a.range).start_inclusive (most_values a) (length values)) _ none in
        elim one.2 [
          | inl set ↦ value_set a values rows one.0 set.0 set.1 parts.0 parts.1 every
          | inr never ↦ absurd (never (values_or_missing a values) rows parts.1)
        ]

    value_by_id : (o : Option Rule) (values : List Text) (rows : List Row) → ((a : Rule) → o ≡ Some a → TakesOne a)
        → option_map_or (λ a. use_fault s.args_override_self a values rows) o [] ≡ [] → Stand rows → Stand (used_by_id o values rows)
    value_by_id None values rows each none every = every
    value_by_id (Some a) values rows each none every = value_used a values rows (each a refl) none every

    value_settled : (h : Held) → settle_fault s.rules s.args_override_self h ≡ [] → Stand h.rows → Stand (settled s.rules h).rows
    value_settled h none every = go h.pending none
      where
        go : (p : Option (Text × List Text)) → option_map_or (λ p. option_map_or (λ a. use_fault s.args_override_self a p.1 h.rows) (arg_by_id s.rules p.0) []) p [] ≡ []
            → Stand (settled_rows s.rules p h.rows)
        go None e = every
        go (Some p) e = value_by_id (arg_by_id s.rules p.0) p.1 h.rows (λ a is. found_takes (λ a. bytes_eq a.id p.0) a is) e every

    value_reacted : (a : Rule) (values : List Text) (h : Held) → TakesOne a → react_fault s.rules s.args_override_self a values h ≡ [] → Stand h.rows → Stand (reacted s.rules a values h).rows
    value_reacted a values h one none every =
        let parts = or_else_none (settle_fault s.rules s.args_override_self h) _ none in
        value_used a values (settled s.rules h).rows one parts.1 (value_settled h parts.0 every)

    -- ---- one word of the command line

    value_option : (a : Rule) (v : Option Text) (h : Held) → TakesOne a → option_fault s.rules s.args_override_self a v h ≡ [] → Stand h.rows → Stand (option_met s.rules a v h).0.rows
    value_option a (Some v) h one none every = value_reacted a (v ∷ []) h one none every
    value_option a None h one none every = value_settled h none every

    value_flag : (a : Rule) (v : Option Text) (h : Held) → TakesOne a → cond (is_some v) (kind.TooManyValues ∷ []) (react_fault s.rules s.args_override_self a [] h) ≡ []
        → Stand h.rows → Stand (flag_met s.rules a v h).0.rows
    value_flag a (Some v) h one none every = absurd cc
    value_flag a None h one none every = value_reacted a [] h one none every

    value_long : (o : Option Rule) (v : Option Text) (h : Held) → ((a : Rule) → o ≡ Some a → TakesOne a) → long_fault s.rules s.args_override_self o v h ≡ []
        → Stand h.rows → Stand (long_met s.rules o v h).0.rows
    value_long None v h each none every = absurd cc
    value_long (Some a) v h each none every = go (takes_values a) none
      where
        go : (t : Bool) → cond t (option_fault s.rules s.args_override_self a v h) (cond (is_some v) (kind.TooManyValues ∷ []) (react_fault s.rules s.args_override_self a [] h)) ≡ []
            → Stand (cond t (option_met s.rules a v h) (flag_met s.rules a v h)).0.rows
        go true e = value_option a v h (each a refl) e every
        go false e = value_flag a v h (each a refl) e every

    option_rows : (o : Option Rule) (id word : Text) (h : Held) → (option_word o id word h).0.rows ≡ h.rows
    option_rows None id word h = refl
    option_rows (Some a) id word h = refl

    plain_rows : (waiting : Waiting) (word : Text) (h : Held) → (plain_word s.rules waiting word h).0.rows ≡ h.rows
    plain_rows idle word h = refl
    plain_rows (option id) word h = option_rows (arg_by_id s.rules id) id word h
    plain_rows positional word h = refl

    after_rows : (waiting : Waiting) (word : Text) (h : Held) (o : Outcome) → (after_flag s.rules waiting word h o).0.rows ≡ h.rows
    after_rows waiting word h done = refl
    after_rows waiting word h (waits id) = refl
    after_rows waiting word h plain = plain_rows waiting word h
    after_rows waiting word h refused = plain_rows waiting word h

    value_short : (o : Option Rule) (rest : Text) (h : Held) (faults : Held → Kinds) (below : Held → Held × Outcome) → ((a : Rule) → o ≡ Some a → TakesOne a)
        → ((x : Held) → faults x ≡ [] → Stand x.rows → Stand (below x).0.rows)
        → short_fault s.rules s.args_override_self o rest h faults ≡ [] → Stand h.rows → Stand (short_met s.rules o rest h below).0.rows
    value_short None rest h faults below each later none every = absurd cc
    value_short (Some a) rest h faults below each later none every = go (takes_values a) none
      where
        go : (t : Bool) → cond t (option_fault s.rules s.args_override_self a (attached_value rest) h)
            (or_else (react_fault s.rules s.args_override_self a [] h) (faults (reacted s.rules a [] h))) ≡ []
            → Stand (cond t (option_met s.rules a (attached_value rest) h) (below (reacted s.rules a [] h))).0.rows
        go true e = value_option a (attached_value rest) h (each a refl) e every
        go false e =
            let parts = or_else_none (react_fault s.rules s.args_override_self a [] h) _ e in
            later (reacted s.rules a [] h) parts.1 (value_reacted a [] h (each a refl) parts.0 every)

    value_step : (k : ℕ) → ((flags : Text) (skip : ℕ) (so_far : Outcome) (h : Held) → flags_fault s.rules s.args_override_self k flags skip h ≡ [] → Stand h.rows
        → Stand (bundle_met s.rules k flags skip so_far h).0.rows)
        → (o : Option ℕ) (flags : Text) (skip : ℕ) (so_far : Outcome) (h : Held) → bundle_step_fault s.rules s.args_override_self o flags skip h (flags_fault s.rules s.args_override_self k) ≡ []
        → Stand h.rows → Stand (bundle_step s.rules o flags skip so_far h (bundle_met s.rules k)).0.rows
    value_step k later None flags skip so_far h none every = every
    value_step k later (Some x) flags zero so_far h none every =
        let rest = drop (length (encode_utf8 x)) flags in
        value_short (arg_by_short s.rules x) rest h (flags_fault s.rules s.args_override_self k rest 0) (bundle_met s.rules k rest 0 done)
        (λ a is. found_takes _ a is) (λ y e stand. later rest 0 done y e stand) none every
    value_step k later (Some x) flags (suc skip) so_far h none every = later (drop (length (encode_utf8 x)) flags) skip so_far h none every

    value_flags : (k : ℕ) (flags : Text) (skip : ℕ) (so_far : Outcome) (h : Held) → flags_fault s.rules s.args_override_self k flags skip h ≡ [] → Stand h.rows
        → Stand (bundle_met s.rules k flags skip so_far h).0.rows
    unfolding flags_fault bundle_met
    value_flags zero flags skip so_far h none every = every
    value_flags (suc k) flags skip so_far h none every = value_step k (value_flags k) (slice_get (chars flags) 0) flags skip so_far h none every

    value_flag_word : (o : Option (Text × Option Text)) (waiting : Waiting) (word : Text) (h : Held) → flag_word_fault s.rules s.args_override_self o word h ≡ []
        → Stand h.rows → Stand (long_or_other s.rules waiting word o h).0.rows
    value_flag_word (Some p) waiting word h none every =
        let met = long_met s.rules (arg_by_long s.rules p.0) p.1 h in
        subst Stand (sym (after_rows waiting word met.0 met.1)) (value_long (arg_by_long s.rules p.0) p.1 h (λ a is. found_takes _ a is) none every)
    value_flag_word None waiting word h none every = go (short_of word) none
      where
        go : (o : Option Text) → option_map_or (λ flags. flags_fault s.rules s.args_override_self (length flags) flags h.skip (record h { skip = 0 })) o [] ≡ []
            → Stand (short_or_plain s.rules waiting word o h).0.rows
        go None e = subst Stand (sym (plain_rows waiting word h)) every
        go (Some flags) e =
            let met = bundle_met s.rules (length flags) flags h.skip plain (record h { skip = 0 }) in
            subst Stand (sym (after_rows waiting word met.0 met.1)) (value_flags (length flags) flags h.skip plain (record h { skip = 0 }) e every)

    value_other : (o : Option Text) (waiting : Waiting) (position : ℕ) (word : Text) (h : Held) → other_fault s o word h ≡ []
        → Stand h.rows → Stand (subcommand_or_other s.rules o waiting position word h).0.rows
    value_other (Some name) waiting position word h none every = every
    value_other None waiting position word h none every = go (bytes_eq word (45 ∷ 45 ∷ [])) none
      where
        go : (t : Bool) → cond t [] (flag_word_fault s.rules s.args_override_self (long_of word) word h) ≡ []
            → Stand (cond t (h, trailing position) (long_or_other s.rules waiting word (long_of word) h)).0.rows
        go true e = every
        go false e = value_flag_word (long_of word) waiting word h e every

    value_word : (names : Names) (t : Bool) (waiting : Waiting) (position : ℕ) (word : Text) (h : Held) → word_fault s names t waiting word h ≡ []
        → Stand h.rows → Stand (word_met s.rules names t waiting position word h).0.rows
    value_word names true waiting position word h none every = every
    value_word names false waiting position word h none every = value_other (subcommand_met names waiting word) waiting position word h none every

    -- ---- the walk

    value_positional : (o : Option Rule) (word : Text) (w : Walk) (h : Held) → option_map_or (λ a. positional_fault s.rules s.args_override_self a h) o (stray_fault s) ≡ []
        → Stand h.rows → Stand (to_positional s.rules o word w h).held.rows
    value_positional None word w h none every = every
    value_positional (Some a) word w h none every = go (is_pending a h.pending && takes_several a) none
      where
        go : (t : Bool) → cond t [] (settle_fault s.rules s.args_override_self h) ≡ [] → Stand (pushed a.id word (cond t h (settled s.rules h))).rows
        go true e = every
        go false e = value_settled h e every

    value_after : (word : Text) (w : Walk) (h : Held) (step : Step) → step_fault s w.position h step ≡ [] → Stand h.rows → Stand (after_step s.rules word w h step).held.rows
    value_after word w h (next waiting) none every = every
    value_after word w h (trailing position) none every = every
    value_after word w h (subcommand name) none every = every
    value_after word w h value none every = value_positional (arg_by_index s.rules w.position) word w h none every

    value_turn : (names : Names) (w : Walk) (word : Text) → turn_fault s names w word ≡ [] → Stand w.held.rows → Stand (walked s.rules names w word).held.rows
    unfolding walked
    value_turn names w word none every = go w.stopped none
      where
        go : (o : Option (Text × List Text)) → cond (is_some o) [] (or_else (word_fault s names w.is_trailing w.waiting word w.held) (step_fault s w.position (word_met s.rules names w.is_trailing w.waiting w.position word w.held).0 (word_met s.rules names w.is_trailing w.waiting w.position word w.held).1)) ≡ []
            → Stand (walked_from s.rules names o w word).held.rows
        go (Some p) e = every
        go None e =
            let parts = or_else_none (word_fault s names w.is_trailing w.waiting word w.held) _ e in
            value_after word w (word_met s.rules names w.is_trailing w.waiting w.position word w.held).0 (word_met s.rules names w.is_trailing w.waiting w.position word w.held).1 parts.1 (value_word names w.is_trailing w.waiting w.position word w.held parts.0 every)

    value_walk : (names : Names) (w : Walk) (words : List Text) → walk_fault s names w words ≡ [] → Stand w.held.rows → Stand (fold (walked s.rules names) w words).held.rows
    unfolding walk_fault
    value_walk names w [] none every = every
    value_walk names w (word ∷ words) none every =
        let parts = or_else_none (turn_fault s names w word) _ none in
        value_walk names (walked s.rules names w word) words parts.1 (value_turn names w word parts.0 every)

    -- the rows at the end of a level without a subcommand
    pub level_values : (words : List Text) → level_fault s [] nothing_held words false [] ≡ [] → HasValues (rows_after s.rules [] words)
    level_values words none =
        let end = (walk s.rules [] nothing_held words).held in
        let walked_by = or_else_none _ _ none in
        let settle = or_else_none (settle_fault s.rules s.args_override_self end) _ walked_by.1 in
        let check = (or_else_none _ _ settle.1).1 in
        let rows = value_settled end settle.0 (value_walk [] (walk_from nothing_held) words walked_by.0 tt) in
        let same : finished s.rules end ≡ (settled s.rules end).rows = no_defaults (settled s.rules end).rows s.rules (every_weaker TakesOne (λ (a : Rule). a.defaults ≡ []) (λ a one. one.1) s.rules all) in
        record {
          values = subst Stand (sym same) rows;
          given = each_there (finished s.rules end) s.rules (not_negated s.subcommand_negates_reqs _ (not_wanting _ _ _ check));
        }
