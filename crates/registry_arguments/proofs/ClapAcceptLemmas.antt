-- About `clap` alone, and not this program: a command whose arguments have no default values and no rules on one another
-- accepts arguments if and only if they have no fault.
use Rattle.std.proofs.Common.{◌≡◌, ◌∙◌, ◌≤◌, ◌<◌, ◌+◌, ◌&&◌, ◌||◌, ℕ, Bool, cond, true, false, not, zero, suc, refl, sym, ap, ap₂, arith, List, [], ◌∷◌, length, drop, Option, Some, None, is_some, true≢false}
use Rattle.std.specs.Prelude.{codes, encode_utf8, min, nat_le, nat_lt, slice_get, ◌==◌}
use Rattle.std.specs.Option.{option_map_or}
use Rattle.std.specs.List.{find, list_all, list_any}
use Rattle.std.specs.Str.{bytes_eq, chars}
use Rattle.std.proofs.lemmas.Bool.{eq-eqb, eqb-true, le-leb, leb-true, lt-leb, ltb-false, ltb-true}
use Rattle.clap.specs.Facts.{explicit_source, parser_of_value, unwrap_or_range}
use Rattle.clap.specs.Lexer.{long_of, short_of}
use Rattle.clap.specs.Matches.{count_text}
use Rattle.clap.specs.ValueTests.{accepts}
use Rattle.clap.specs.Values.{is_request, refused_kind}
use Rattle.clap.specs.Walk.{Held, Names, Row, Rule, Step, Text, Waiting, Walk, action_of, answers_to, arg_by_id, arg_by_index, arg_by_long, arg_by_short, attached_value, count_of, finished, has_row, is_empty, is_pending, most_values, next, nothing_held, reacted, settled, subcommand, subcommand_met, takes_several, takes_values, trailing, value, values_or_missing, walk, walk_from, walked, with_default, word_met}
use Rattle.clap.specs.Simple.{App, Shape, entered, label_of, names_of}
use Rattle.clap.specs.Kinds.{Kinds, check_kinds, or_else, range_kinds, value_kinds, values_kinds}
use Rattle.clap.specs.Faults.{action_fault, built_fault, bundle_step_fault, check_fault, count_fault, default_fault, defaults_fault, entered_fault, flag_word_fault, flags_fault, given_default_fault, has_free_rules, level_fault, long_fault, option_fault, other_fault, positional_fault, react_fault, repeat_fault, set_fault, settle_fault, short_fault, step_fault, stray_fault, turn_fault, use_fault, walk_fault, word_fault}
use Rattle.clap.specs.Takes.{action_passes, built_takes, bundle_step_passes, count_passes, default_passes, entered_passes, flag_word_passes, flags_pass, is_given, is_valid, level_passes, long_passes, option_passes, other_passes, positional_passes, react_passes, set_passes, settle_passes, short_passes, step_passes, turn_passes, use_passes, values_pass, walk_passes, word_passes}
use Rattle.clap.specs.declared.builder.action.ArgAction.{ArgAction}
use Rattle.clap.specs.declared.builder.action.ArgAction.TheVariants as action
use Rattle.clap.specs.declared.builder.value_parser.ValueParser.{ValueParser}
use Rattle.clap.specs.declared.error.kind.ErrorKind.{ErrorKind}
use Rattle.clap.specs.declared.error.kind.ErrorKind.TheVariants as kind

-- ---- kinds and tests

abbrev pub no_kind : Kinds → Bool
no_kind [] = true
no_kind (k ∷ ks) = false

pub no_kind_nil : (kinds : Kinds) → no_kind kinds ≡ true → kinds ≡ []
no_kind_nil [] e = refl
no_kind_nil (k ∷ ks) e = absurd (true≢false (sym e))

none_or : (a b : Kinds) → no_kind (or_else a b) ≡ (no_kind a && no_kind b)
none_or [] b = refl
none_or (k ∷ ks) b = refl

-- the first faults are empty if x is true, and the second if y is true
pub both_same : (a b : Kinds) (x y : Bool) → no_kind a ≡ x → no_kind b ≡ y → no_kind (or_else a b) ≡ (x && y)
both_same a b x y e f = none_or a b ∙ ap₂ (λ (p q : Bool). p && q) e f

none_if : (t : Bool) (k : ErrorKind) → no_kind (cond t [] (k ∷ [])) ≡ t
none_if true k = refl
none_if false k = refl

none_unless : (a b : Bool) (k : ErrorKind) (ks : Kinds) → no_kind (cond (a && not b) (k ∷ ks) []) ≡ (not a || b)
none_unless true true k ks = refl
none_unless true false k ks = refl
none_unless false b k ks = refl

and_assoc : (a b c : Bool) → ((a && b) && c) ≡ (a && (b && c))
and_assoc true b c = refl
and_assoc false b c = refl

and_swap : (a b c : Bool) → (a && (b && c)) ≡ (b && (a && c))
and_swap true b c = refl
and_swap false true c = refl
and_swap false false c = refl

and_not : (a b : Bool) → a ≡ false → (a && b) ≡ false
and_not a b e = ap (λ (x : Bool). x && b) e

not_and : (a b : Bool) → b ≡ false → (a && b) ≡ false
not_and true b e = e
not_and false b e = refl

pub parts_of : (a b : Bool) → (a && b) ≡ true → (a ≡ true) × (b ≡ true)
parts_of true b e = (refl, e)
parts_of false b e = absurd (true≢false (sym e))

all_found : {X : Type 0} (p test : X → Bool) (xs : List X) (x : X) → list_all p xs ≡ true → find test xs ≡ Some x → p x ≡ true
all_found p test [] x all found = absurd cc
all_found {X} p test (y ∷ xs) x all found = go (test y) found (all_found p test xs x (parts_of (p y) _ all).1)
  where
    go : (t : Bool) → cond t (Some y) (find test xs) ≡ Some x → (find test xs ≡ Some x → p x ≡ true) → p x ≡ true
    go true is later = let same : x ≡ y = cc in ap p same ∙ (parts_of (p y) _ all).0
    go false is later = later is

-- ---- the number of values

module _ (least most n : ℕ) where
  abbrev within : Bool
  within = nat_le least n && nat_le n most

  few : n < least → within ≡ false
  few lt = and_not (nat_le least n) (nat_le n most) (lt-leb least n lt)

  many : most < n → within ≡ false
  many lt = not_and (nat_le least n) (nat_le n most) (lt-leb n most lt)

  fits : least ≤ n → n ≤ most → within ≡ true
  fits low high = ap₂ (λ (p q : Bool). p && q) (le-leb least n low) (le-leb n most high)

  exactly : (t : Bool) (k : ErrorKind) → (least == n) ≡ t → least ≡ most → no_kind (cond t [] (k ∷ [])) ≡ within
  exactly true k e same = let is : least ≡ n = eqb-true least n e in sym (fits (omega arith) (omega arith))
  exactly false k e same = go (nat_le least n) (nat_le n most) refl refl
    where
      go : (p q : Bool) → nat_le least n ≡ p → nat_le n most ≡ q → false ≡ (p && q)
      go true true x y =
          let low : least ≤ n = leb-true least n x in
          let high : n ≤ most = leb-true n most y in
          absurd (true≢false (sym (eq-eqb least n (omega arith)) ∙ e))
      go true false x y = refl
      go false q x y = refl

  between : (t : Bool) → nat_lt most n ≡ t → least ≤ n → no_kind (cond t (kind.TooManyValues ∷ []) []) ≡ within
  between true e low = sym (many (ltb-true most n e))
  between false e low = sym (fits low (ltb-false most n e))

  above : (t : Bool) → nat_lt n least ≡ t → no_kind (cond t (kind.TooFewValues ∷ []) (cond (nat_lt most n) (kind.TooManyValues ∷ []) [])) ≡ within
  above true e = sym (few (ltb-true n least e))
  above false e = between (nat_lt most n) refl (ltb-false n least e)

  abbrev wanted_kinds : Bool → Kinds
  wanted_kinds t = cond t (cond (least == n) [] (kind.WrongNumberOfValues ∷ [])) (cond (nat_lt n least) (kind.TooFewValues ∷ []) (cond (nat_lt most n) (kind.TooManyValues ∷ []) []))

  wanted : (t : Bool) → (least == most) ≡ t → no_kind (wanted_kinds t) ≡ within
  wanted true e = exactly (least == n) kind.WrongNumberOfValues refl (eqb-true least most e)
  wanted false e = above (nat_lt n least) refl

  some_wanted : (t u : Bool) → nat_lt 0 least ≡ t → (n == 0) ≡ u → no_kind (cond (t && u) (kind.InvalidValue ∷ []) (wanted_kinds (least == most))) ≡ within
  some_wanted true true e f =
      let low : 0 < least = ltb-true 0 least e in
      let none : n ≡ 0 = eqb-true n 0 f in
      sym (few (omega arith))
  some_wanted true false e f = wanted (least == most) refl
  some_wanted false u e f = wanted (least == most) refl

  range_same : no_kind (range_kinds least most n) ≡ within
  range_same = some_wanted (nat_lt 0 least) (n == 0) refl refl

-- ---- one use of an argument

values_same : (ignore_case : Bool) (parser : ValueParser) (values : List Text) → no_kind (values_kinds ignore_case parser values) ≡ list_all (accepts ignore_case parser) values
values_same ignore_case parser [] = refl
values_same ignore_case parser (v ∷ vs) =
    both_same (value_kinds ignore_case parser v) _ _ _ (none_if (accepts ignore_case parser v) (refused_kind parser)) (values_same ignore_case parser vs)

count_same : (a : Rule) (values : List Text) (rows : List Row) → no_kind (count_fault a values rows) ≡ count_passes a values rows
count_same a [] rows = none_if (accepts a.ignore_case (parser_of_value a.parser) (count_text (min (count_of a.id rows + 1) 255))) (refused_kind (parser_of_value a.parser))
count_same a (v ∷ vs) rows = values_same a.ignore_case (parser_of_value a.parser) (v ∷ vs)

set_same : (again : Bool) (a : Rule) (values : List Text) (rows : List Row) → no_kind (set_fault again a values rows) ≡ set_passes again a values rows
set_same again a values rows =
    both_same (repeat_fault again a.id rows) _ _ _ (none_unless (has_row a.id rows) again kind.ArgumentConflict []) (values_same a.ignore_case (parser_of_value a.parser) values)

action_same : (x : ArgAction) (again : Bool) (a : Rule) (values : List Text) (rows : List Row) → no_kind (action_fault x again a values rows) ≡ action_passes x again a values rows
action_same action.Set again a values rows = set_same again a values rows
action_same action.SetTrue again a values rows = set_same again a values rows
action_same action.SetFalse again a values rows = set_same again a values rows
action_same action.Append again a values rows = values_same a.ignore_case (parser_of_value a.parser) values
action_same action.Count again a values rows = count_same a values rows
action_same action.Help again a values rows = refl
action_same action.HelpShort again a values rows = refl
action_same action.HelpLong again a values rows = refl
action_same action.Version again a values rows = refl

use_same : (again : Bool) (a : Rule) (values : List Text) (rows : List Row) → no_kind (use_fault again a values rows) ≡ use_passes again a values rows
use_same again a values rows =
    both_same (range_kinds (unwrap_or_range a.range).start_inclusive (most_values a) (length values)) _ _ _
    (range_same (unwrap_or_range a.range).start_inclusive (most_values a) (length values))
    (action_same (action_of a) again a (values_or_missing a values) rows)
    ∙ and_assoc (nat_le (unwrap_or_range a.range).start_inclusive (length values)) (nat_le (length values) (most_values a)) _

-- ---- the walk

module _ (c : List Rule) (again : Bool) where
  settle_same : (h : Held) → no_kind (settle_fault c again h) ≡ settle_passes c again h
  settle_same h = go h.pending
    where
      at : (o : Option Rule) (values : List Text) → no_kind (option_map_or (λ a. use_fault again a values h.rows) o []) ≡ option_map_or (λ a. use_passes again a values h.rows) o true
      at None values = refl
      at (Some a) values = use_same again a values h.rows

      go : (p : Option (Text × List Text)) → no_kind (option_map_or (λ p. option_map_or (λ a. use_fault again a p.1 h.rows) (arg_by_id c p.0) []) p [])
          ≡ option_map_or (λ p. option_map_or (λ a. use_passes again a p.1 h.rows) (arg_by_id c p.0) true) p true
      go None = refl
      go (Some p) = at (arg_by_id c p.0) p.1

  react_same : (a : Rule) (values : List Text) (h : Held) → no_kind (react_fault c again a values h) ≡ react_passes c again a values h
  react_same a values h = both_same (settle_fault c again h) _ _ _ (settle_same h) (use_same again a values (settled c h).rows)

  option_same : (a : Rule) (v : Option Text) (h : Held) → no_kind (option_fault c again a v h) ≡ option_passes c again a v h
  option_same a (Some v) h = react_same a (v ∷ []) h
  option_same a None h = settle_same h

  flag_same : (a : Rule) (v : Option Text) (h : Held) → no_kind (cond (is_some v) (kind.TooManyValues ∷ []) (react_fault c again a [] h)) ≡ (not (is_some v) && react_passes c again a [] h)
  flag_same a (Some v) h = refl
  flag_same a None h = react_same a [] h

  long_same : (o : Option Rule) (v : Option Text) (h : Held) → no_kind (long_fault c again o v h) ≡ long_passes c again o v h
  long_same None v h = refl
  long_same (Some a) v h = go (takes_values a)
    where
      go : (t : Bool) → no_kind (cond t (option_fault c again a v h) (cond (is_some v) (kind.TooManyValues ∷ []) (react_fault c again a [] h)))
          ≡ cond t (option_passes c again a v h) (not (is_some v) && react_passes c again a [] h)
      go true = option_same a v h
      go false = flag_same a v h

  short_same : (o : Option Rule) (rest : Text) (h : Held) (faults : Held → Kinds) (passes : Held → Bool) → ((x : Held) → no_kind (faults x) ≡ passes x)
      → no_kind (short_fault c again o rest h faults) ≡ short_passes c again o rest h passes
  short_same None rest h faults passes each = refl
  short_same (Some a) rest h faults passes each = go (takes_values a)
    where
      go : (t : Bool) → no_kind (cond t (option_fault c again a (attached_value rest) h) (or_else (react_fault c again a [] h) (faults (reacted c a [] h))))
          ≡ cond t (option_passes c again a (attached_value rest) h) (react_passes c again a [] h && passes (reacted c a [] h))
      go true = option_same a (attached_value rest) h
      go false = both_same (react_fault c again a [] h) _ _ _ (react_same a [] h) (each (reacted c a [] h))

  bundle_same : (k : ℕ) → ((flags : Text) (skip : ℕ) (h : Held) → no_kind (flags_fault c again k flags skip h) ≡ flags_pass c again k flags skip h)
      → (o : Option ℕ) (flags : Text) (skip : ℕ) (h : Held) → no_kind (bundle_step_fault c again o flags skip h (flags_fault c again k)) ≡ bundle_step_passes c again o flags skip h (flags_pass c again k)
  bundle_same k later None flags skip h = refl
  bundle_same k later (Some x) flags zero h =
      let rest = drop (length (encode_utf8 x)) flags in
      short_same (arg_by_short c x) rest h (flags_fault c again k rest 0) (flags_pass c again k rest 0) (λ y. later rest 0 y)
  bundle_same k later (Some x) flags (suc skip) h = later (drop (length (encode_utf8 x)) flags) skip h

  flags_same : (k : ℕ) (flags : Text) (skip : ℕ) (h : Held) → no_kind (flags_fault c again k flags skip h) ≡ flags_pass c again k flags skip h
  unfolding flags_fault flags_pass
  flags_same zero flags skip h = refl
  flags_same (suc k) flags skip h = bundle_same k (flags_same k) (slice_get (chars flags) 0) flags skip h

  flag_word_same : (o : Option (Text × Option Text)) (word : Text) (h : Held) → no_kind (flag_word_fault c again o word h) ≡ flag_word_passes c again o word h
  flag_word_same (Some p) word h = long_same (arg_by_long c p.0) p.1 h
  flag_word_same None word h = go (short_of word)
    where
      go : (o : Option Text) → no_kind (option_map_or (λ flags. flags_fault c again (length flags) flags h.skip (record h { skip = 0 })) o [])
          ≡ option_map_or (λ flags. flags_pass c again (length flags) flags h.skip (record h { skip = 0 })) o true
      go None = refl
      go (Some flags) = flags_same (length flags) flags h.skip (record h { skip = 0 })

  positional_same : (a : Rule) (h : Held) → no_kind (positional_fault c again a h) ≡ positional_passes c again a h
  positional_same a h = go (is_pending a h.pending && takes_several a)
    where
      go : (t : Bool) → no_kind (cond t [] (settle_fault c again h)) ≡ (t || settle_passes c again h)
      go true = refl
      go false = settle_same h

module _ (s : Shape) where
  other_same : (o : Option Text) (word : Text) (h : Held) → no_kind (other_fault s o word h) ≡ other_passes s o word h
  other_same (Some name) word h = none_unless (bytes_eq name (codes "help")) s.disable_help_subcommand kind.DisplayHelp (kind.InvalidSubcommand ∷ [])
  other_same None word h = go (bytes_eq word (45 ∷ 45 ∷ []))
    where
      go : (t : Bool) → no_kind (cond t [] (flag_word_fault s.rules s.args_override_self (long_of word) word h)) ≡ (t || flag_word_passes s.rules s.args_override_self (long_of word) word h)
      go true = refl
      go false = flag_word_same s.rules s.args_override_self (long_of word) word h

  word_same : (names : Names) (t : Bool) (waiting : Waiting) (word : Text) (h : Held) → no_kind (word_fault s names t waiting word h) ≡ word_passes s names t waiting word h
  word_same names true waiting word h = refl
  word_same names false waiting word h = other_same (subcommand_met names waiting word) word h

  stray : no_kind (stray_fault s) ≡ false
  stray = go s.is_leaf
    where
      go : (t : Bool) → no_kind (cond t (kind.UnknownArgument ∷ []) (kind.UnknownArgument ∷ kind.InvalidSubcommand ∷ [])) ≡ false
      go true = refl
      go false = refl

  step_same : (position : ℕ) (h : Held) (step : Step) → no_kind (step_fault s position h step) ≡ step_passes s position h step
  step_same position h (next waiting) = refl
  step_same position h (trailing place) = refl
  step_same position h (subcommand name) = refl
  step_same position h value = go (arg_by_index s.rules position)
    where
      go : (o : Option Rule) → no_kind (option_map_or (λ a. positional_fault s.rules s.args_override_self a h) o (stray_fault s))
          ≡ option_map_or (λ a. positional_passes s.rules s.args_override_self a h) o false
      go None = stray
      go (Some a) = positional_same s.rules s.args_override_self a h

  turn_same : (names : Names) (w : Walk) (word : Text) → no_kind (turn_fault s names w word) ≡ turn_passes s names w word
  turn_same names w word = go (is_some w.stopped)
    where
      go : (t : Bool) → no_kind (cond t [] (or_else (word_fault s names w.is_trailing w.waiting word w.held)
          (step_fault s w.position (word_met s.rules names w.is_trailing w.waiting w.position word w.held).0 (word_met s.rules names w.is_trailing w.waiting w.position word w.held).1)))
          ≡ (t || (word_passes s names w.is_trailing w.waiting word w.held
          && step_passes s w.position (word_met s.rules names w.is_trailing w.waiting w.position word w.held).0 (word_met s.rules names w.is_trailing w.waiting w.position word w.held).1))
      go true = refl
      go false = both_same (word_fault s names w.is_trailing w.waiting word w.held) _ _ _ (word_same names w.is_trailing w.waiting word w.held) (step_same w.position (word_met s.rules names w.is_trailing w.waiting w.position word w.held).0 (word_met s.rules names w.is_trailing w.waiting w.position word w.held).1)

  walk_same : (names : Names) (w : Walk) (words : List Text) → no_kind (walk_fault s names w words) ≡ walk_passes s names w words
  unfolding walk_fault walk_passes
  walk_same names w [] = refl
  walk_same names w (word ∷ words) = both_same (turn_fault s names w word) _ _ _ (turn_same names w word) (walk_same names (walked s.rules names w word) words)

-- ---- after the walk

-- no argument has a default value or a rule on another
abbrev pub is_bare : Shape → Bool
is_bare s = list_all (λ a. is_empty a.defaults) s.rules && has_free_rules s

default_same : (rows : List Row) (a : Rule) → is_empty a.defaults ≡ true → no_kind (default_fault rows a) ≡ default_passes a
default_same rows a none = go (has_row a.id rows) (is_empty a.defaults) none
  where
    go : (t u : Bool) → u ≡ true → no_kind (cond (t || u) [] (given_default_fault a a.defaults)) ≡ (u || (not (is_request (action_of a)) && values_pass a a.defaults))
    go true true e = refl
    go false true e = refl
    go t false e = absurd (true≢false (sym e))

defaults_same : (rows : List Row) (rules : List Rule) → list_all (λ a. is_empty a.defaults) rules ≡ true → no_kind (defaults_fault rows rules) ≡ list_all default_passes rules
unfolding defaults_fault
defaults_same rows [] none = refl
defaults_same rows (a ∷ rules) none =
    let parts = parts_of (is_empty a.defaults) _ none in
    both_same (default_fault rows a) _ _ _ (default_same rows a parts.0) (defaults_same (with_default rows a) rules parts.1)

checks_same : (a b c : Bool) → no_kind (check_kinds a b c) ≡ (not a && (not b && not c))
checks_same true b c = refl
checks_same false true c = refl
checks_same false false true = refl
checks_same false false false = refl

missing_same : (rows : List Row) (rules : List Rule) → not (list_any (λ a. a.required && not (is_given a.id rows)) rules) ≡ list_all (λ a. not a.required || is_given a.id rows) rules
missing_same rows [] = refl
missing_same rows (a ∷ rules) = one a.required (is_given a.id rows) _ ∙ ap (λ (b : Bool). (not a.required || is_given a.id rows) && b) (missing_same rows rules)
  where
    one : (r g l : Bool) → not ((r && not g) || l) ≡ ((not r || g) && not l)
    one true true l = refl
    one true false l = refl
    one false g l = refl

module _ (s : Shape) (rows : List Row) (has : Bool) (free : has_free_rules s ≡ true) where
  abbrev used : Bool
  used = list_any (λ r. explicit_source r.source) rows

  helps : (help given h : Bool) → not (not h && (help && not given)) ≡ (not help || (h || given))
  helps true given true = refl
  helps true true false = refl
  helps true false false = refl
  helps false given true = refl
  helps false given false = refl

  wants : (wanted h : Bool) → not (not h && wanted) ≡ (not wanted || h)
  wants true true = refl
  wants true false = refl
  wants false true = refl
  wants false false = refl

  negates : (t l : Bool) → not (not t && l) ≡ (t || not l)
  negates true l = refl
  negates false l = refl

  check_same : no_kind (check_fault s rows has) ≡ is_valid s rows has
  check_same =
      let lost = list_any (λ (a : Rule). a.required && not (is_given a.id rows)) s.rules in
      let there = list_all (λ (a : Rule). not a.required || is_given a.id rows) s.rules in
      let parts : no_kind (check_fault s rows has) ≡ ((not s.arg_required_else_help || (has || used)) && ((not s.subcommand_required || has) && ((s.subcommand_negates_reqs && has) || there))) =
      checks_same _ _ _ ∙ ap₂ (λ (p q : Bool). p && q) (helps s.arg_required_else_help used has)
      (ap₂ (λ (p q : Bool). p && q) (wants s.subcommand_required has)
      (negates (s.subcommand_negates_reqs && has) lost ∙ ap (λ (b : Bool). (s.subcommand_negates_reqs && has) || b) (missing_same rows s.rules))) in
      parts ∙ ap (λ (b : Bool). (not s.arg_required_else_help || (has || used)) && ((not s.subcommand_required || has) && (b && ((s.subcommand_negates_reqs && has) || there)))) (sym free)

level_same : (s : Shape) (names : Names) (h : Held) (words : List Text) (has : Bool) (below : Kinds) → is_bare s ≡ true
    → no_kind (level_fault s names h words has below) ≡ (no_kind below && level_passes s names h words has)
level_same s names h words has below bare =
    let parts = parts_of (list_all (λ (a : Rule). is_empty a.defaults) s.rules) _ bare in
    let end = (walk s.rules names h words).held in
    both_same (walk_fault s names (walk_from h) words) _ _ _ (walk_same s names (walk_from h) words)
    (both_same below _ _ _ refl (both_same (settle_fault s.rules s.args_override_self end) _ _ _ (settle_same s.rules s.args_override_self end)
    (both_same (defaults_fault (settled s.rules end).rows s.rules) _ _ _ (defaults_same (settled s.rules end).rows s.rules parts.0)
    (check_same s (finished s.rules end) has parts.1))))
    ∙ and_swap (walk_passes s names (walk_from h) words) (no_kind below) _

entered_same : (a : App) (stop : Option (Text × List Text)) → list_all is_bare a.subs ≡ true → no_kind (entered_fault a stop) ≡ entered_passes a stop
entered_same a None bare = refl
entered_same a (Some p) bare = go (find (λ s. answers_to p.0 (label_of s)) a.subs) refl
  where
    go : (o : Option Shape) → find (λ s. answers_to p.0 (label_of s)) a.subs ≡ o
        → no_kind (option_map_or (λ s. level_fault s [] nothing_held p.1 false []) o []) ≡ option_map_or (λ s. level_passes s [] nothing_held p.1 false) o true
    go None is = refl
    go (Some s) is = level_same s [] nothing_held p.1 false [] (all_found is_bare (λ s. answers_to p.0 (label_of s)) a.subs s bare is)

pub built_same : (a : App) (h : Held) (words : List Text) → is_bare a.top ≡ true → list_all is_bare a.subs ≡ true → no_kind (built_fault a h words) ≡ built_takes a h words
built_same a h words top subs =
    let stop = (walk a.top.rules (names_of a) h words).stopped in
    level_same a.top (names_of a) h words (is_some (entered a stop)) (entered_fault a stop) top
    ∙ ap (λ (b : Bool). b && level_passes a.top (names_of a) h words (is_some (entered a stop))) (entered_same a stop subs)
