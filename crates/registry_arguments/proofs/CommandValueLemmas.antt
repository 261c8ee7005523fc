-- Arguments without a fault ask for a command: the subcommand has all of its required values.
use Rattle.std.proofs.Common.{◌≡◌, ◌||◌, ℕ, Bool, cond, true, false, refl, sym, List, [], ◌∷◌, codes, Option, Some, None, inl, inr, is_some, subst, true≢false}
use Rattle.std.specs.Prelude.{IsSome, option_map}
use Rattle.std.specs.Str.{bytes_eq}
use Rattle.std.proofs.lemmas.Slice.Eq.{bytes_eq-Decides}
use Rattle.std.specs.Str.Parse.{digits_value, without_leading_plus}
use Rattle.clap.specs.ValueTests.{is_unsigned_in}
use Rattle.clap.specs.Walk.{Row, Text, answers_to, first_of, rows_after}
use Rattle.clap.specs.Simple.{argument_words, built, built_leaf, help_shape}
use Rattle.clap.specs.Kinds.{value_kinds}
use Rattle.clap.specs.Faults.{fault_of}
use Rattle.clap.specs.declared.builder.value_parser.ValueParser.TheVariants as parser
use Rattle.clap.specs.declared.error.kind.ErrorKind.TheVariants as kind
use Rattle.registry_arguments.specs.declared.command.Command.{Command}
use Rattle.registry_arguments.specs.declared.command.Command.TheVariants as command
use Rattle.registry_arguments.specs.Commands.{apply_app, apply_in, asked_by, bare_app, check_app, check_in, chosen, command_of, export_app, export_in, faults_of, found_app, found_in, head_app, head_in, import_app, import_in, replay_in, history_in, lookup_app, lookup_in, most_connections, number_if_given, number_in, history_app, named, replay_app, replayed, report_app, report_in, serve_app, serve_in, share_app, share_in, source_faults, trial_app, usbreg_app}
use Rattle.registry_arguments.proofs.ClapLevelLemmas.{HasValues, first_given, first_passes, level_values, or_else_none}
use Rattle.registry_arguments.proofs.EnteredLemmas.{Asks, asked}

-- without a subcommand the trial is asked for
pub no_subcommand : (found : Option (Text × List Row)) → None ≡ option_map (λ (p : Text × List Row). p.1) found → Some command.Trial ≡ asked_by found
unfolding asked_by
no_subcommand None none = refl
no_subcommand (Some p) none = absurd cc

-- with a subcommand its command is asked for
pub a_subcommand : {B : Type 0} (name_of : B → Text) (rows_in : B → List Row) (found : Option B) (name : Text) (rows : List Row) (r : Option (Command Text)) → Some name ≡ option_map name_of found
    → Some rows ≡ option_map (λ (p : Text × List Row). p.1) (option_map (λ b. (name_of b, rows_in b)) found) → r ≡ named name rows → r ≡ asked_by (option_map (λ b. (name_of b, rows_in b)) found)
unfolding asked_by
a_subcommand name_of rows_in None name rows r is_named has_rows is = absurd cc
a_subcommand name_of rows_in (Some b) name rows r is_named has_rows is = cc

-- ---- values

-- the value of an option that has one
value_of : {A : Type 0} (o : Option A) → IsSome o → (x : A) × (o ≡ Some x)
value_of None some = absurd (true≢false (sym some))
value_of (Some x) some = (x, refl)

number_passes : (ignore_case : Bool) (low high : ℕ) (text : Text) → value_kinds ignore_case (parser.Unsigned low high) text ≡ [] → IsSome (number_in low high text)
unfolding number_in
number_passes ignore_case low high text none = go (is_unsigned_in low high text) none
  where
    go : (t : Bool) → cond t [] (kind.ValueValidation ∷ []) ≡ [] → is_some (cond t (Some (digits_value 10 (without_leading_plus text))) None) ≡ true
    go true e = refl
    go false e = absurd cc

number_given : (ignore_case : Bool) (low high : ℕ) (o : Option Text) → ((text : Text) → o ≡ Some text → value_kinds ignore_case (parser.Unsigned low high) text ≡ [])
    → IsSome (number_if_given low high o)
number_given ignore_case low high None each = refl
number_given ignore_case low high (Some text) each = go (number_in low high text) (number_passes ignore_case low high text (each text refl))
  where
    go : (o : Option ℕ) → IsSome o → IsSome (option_map Some o)
    go None some = some
    go (Some n) some = refl

-- the argument has a value
abbrev Has : List Row → Text → Type 0
Has rows id = IsSome (first_of id rows)

found_there : (rows : List Row) → Has rows (codes "store") → Has rows (codes "founding") → IsSome (found_in rows)
found_there rows store founding = rw ((value_of _ store).1, (value_of _ founding).1) refl

apply_there : (rows : List Row) → Has rows (codes "store") → Has rows (codes "file") → IsSome (number_if_given 0 18446744073709551615 (first_of (codes "answered") rows)) → IsSome (apply_in rows)
apply_there rows store file answered = rw ((value_of _ store).1, (value_of _ file).1, (value_of _ answered).1) refl

import_there : (rows : List Row) → Has rows (codes "store") → Has rows (codes "list") → Has rows (codes "caller") → Has rows (codes "key") → Has rows (codes "org") → IsSome (import_in rows)
import_there rows store list caller key org = rw ((value_of _ store).1, (value_of _ list).1, (value_of _ caller).1, (value_of _ key).1, (value_of _ org).1) refl

-- with one source there is a command
replayed_there : (store : Text) (record_path log : Option Text) → source_faults record_path log ≡ [] → IsSome (replayed store record_path log)
replayed_there store None None once = absurd cc
replayed_there store None (Some log) once = refl
replayed_there store (Some record_path) None once = refl
replayed_there store (Some record_path) (Some log) once = absurd cc

replay_there : (rows : List Row) → Has rows (codes "store") → source_faults (first_of (codes "record") rows) (first_of (codes "log") rows) ≡ [] → IsSome (replay_in rows)
replay_there rows store once = rw ((value_of _ store).1) (replayed_there (value_of _ store).0 (first_of (codes "record") rows) (first_of (codes "log") rows) once)

serve_there : (rows : List Row) → Has rows (codes "store") → (port : (text : Text) × (first_of (codes "port") rows ≡ Some text)) → IsSome (number_in 1 65535 port.0)
    → IsSome (number_if_given 0 most_connections (first_of (codes "count") rows)) → IsSome (serve_in rows)
serve_there rows store port number count = rw ((value_of _ store).1, port.1, (value_of _ number).1, (value_of _ count).1) refl

share_there : (rows : List Row) → Has rows (codes "store") → Has rows (codes "log") → IsSome (share_in rows)
share_there rows store log = rw ((value_of _ store).1, (value_of _ log).1) refl

export_there : (rows : List Row) → Has rows (codes "store") → IsSome (export_in rows)
export_there rows store = rw ((value_of _ store).1) refl

report_there : (rows : List Row) → Has rows (codes "store") → Has rows (codes "name") → IsSome (report_in rows)
report_there rows store name = rw ((value_of _ store).1, (value_of _ name).1) refl

history_there : (rows : List Row) → Has rows (codes "store") → IsSome (number_if_given 0 4294967295 (first_of (codes "after") rows)) → IsSome (history_in rows)
history_there rows store after = rw ((value_of _ store).1, (value_of _ after).1) refl

head_there : (rows : List Row) → Has rows (codes "store") → IsSome (head_in rows)
head_there rows store = rw ((value_of _ store).1) refl

check_there : (rows : List Row) → Has rows (codes "store") → IsSome (check_in rows)
check_there rows store = rw ((value_of _ store).1) refl

lookup_there : (rows : List Row) → Has rows (codes "list") → Has rows (codes "vid") → Has rows (codes "pid") → IsSome (lookup_in rows)
lookup_there rows list vid pid = rw ((value_of _ list).1, (value_of _ vid).1, (value_of _ pid).1) refl

-- ---- the subcommands, each from its rules

trial_asks : Asks (built_leaf trial_app.top)
unfolding trial_app
trial_asks name words met free none once = refl

found_asks : Asks (built_leaf found_app.top)
unfolding found_app
found_asks name words met free none once =
    let s = built_leaf found_app.top in
    let rows = rows_after s.rules [] words in
    let has : HasValues s rows = level_values s refl ((refl, refl, inl (refl, inl refl)), ((refl, refl, inl (refl, inl refl)), ((refl, refl, inl (refl, inr (codes "true", refl))), ((refl, refl, inl (refl, inr (codes "true", refl))), ((refl, refl, inr (λ values rows e. absurd cc)), tt))))) words none in
    let given = λ (id : Text). first_given s rows id has.values in
    found_there rows (given (codes "store") (has.given.0 refl)) (given (codes "founding") (has.given.1.0 refl))

apply_asks : Asks (built_leaf apply_app.top)
unfolding apply_app
apply_asks name words met free none once =
    let s = built_leaf apply_app.top in
    let rows = rows_after s.rules [] words in
    let has : HasValues s rows = level_values s refl ((refl, refl, inl (refl, inl refl)), ((refl, refl, inl (refl, inl refl)), ((refl, refl, inl (refl, inl refl)), ((refl, refl, inl (refl, inl refl)), ((refl, refl, inl (refl, inr (codes "true", refl))), ((refl, refl, inr (λ values rows e. absurd cc)), tt)))))) words none in
    let given = λ (id : Text). first_given s rows id has.values in
    apply_there rows (given (codes "store") (has.given.0 refl)) (given (codes "file") (has.given.1.0 refl)) (number_given false 0 18446744073709551615 (first_of (codes "answered") rows)
    (λ text is. first_passes s rows (codes "answered") text _ has.values refl is))

import_asks : Asks (built_leaf import_app.top)
unfolding import_app
import_asks name words met free none once =
    let s = built_leaf import_app.top in
    let rows = rows_after s.rules [] words in
    let has : HasValues s rows = level_values s refl ((refl, refl, inl (refl, inl refl)), ((refl, refl, inl (refl, inl refl)), ((refl, refl, inl (refl, inl refl)), ((refl, refl, inl (refl, inl refl)), ((refl, refl, inl (refl, inl refl)), ((refl, refl, inl (refl, inl refl)), ((refl, refl, inl (refl, inr (codes "true", refl))), ((refl, refl, inl (refl, inl refl)), ((refl, refl, inl (refl, inr (codes "true", refl))), ((refl, refl, inr (λ values rows e. absurd cc)), tt)))))))))) words none in
    let given = λ (id : Text). first_given s rows id has.values in
    import_there rows (given (codes "store") (has.given.0 refl)) (given (codes "list") (has.given.1.0 refl)) (given (codes "caller") (has.given.1.1.0 refl)) (given (codes "key") (has.given.1.1.1.0 refl)) (given (codes "org") (has.given.1.1.1.1.0 refl))

replay_asks : Asks (built_leaf replay_app.top)
unfolding replay_app
replay_asks name words met free none once =
    let s = built_leaf replay_app.top in
    let rows = rows_after s.rules [] words in
    let has : HasValues s rows = level_values s refl ((refl, refl, inl (refl, inl refl)), ((refl, refl, inl (refl, inl refl)), ((refl, refl, inl (refl, inl refl)), ((refl, refl, inl (refl, inr (codes "true", refl))), ((refl, refl, inr (λ values rows e. absurd cc)), tt))))) words none in
    replay_there rows (first_given s rows (codes "store") has.values (has.given.0 refl)) once

share_asks : Asks (built_leaf share_app.top)
unfolding share_app
share_asks name words met free none once =
    let s = built_leaf share_app.top in
    let rows = rows_after s.rules [] words in
    let has : HasValues s rows = level_values s refl ((refl, refl, inl (refl, inl refl)), ((refl, refl, inl (refl, inl refl)), ((refl, refl, inl (refl, inr (codes "true", refl))), ((refl, refl, inr (λ values rows e. absurd cc)), tt)))) words none in
    let given = λ (id : Text). first_given s rows id has.values in
    share_there rows (given (codes "store") (has.given.0 refl)) (given (codes "log") (has.given.1.0 refl))

serve_asks : Asks (built_leaf serve_app.top)
unfolding serve_app
serve_asks name words met free none once =
    let s = built_leaf serve_app.top in
    let rows = rows_after s.rules [] words in
    let has : HasValues s rows = level_values s refl ((refl, refl, inl (refl, inl refl)), ((refl, refl, inl (refl, inl refl)), ((refl, refl, inl (refl, inl refl)), ((refl, refl, inl (refl, inl refl)), ((refl, refl, inl (refl, inr (codes "true", refl))), ((refl, refl, inr (λ values rows e. absurd cc)), tt)))))) words none in
    let given = λ (id : Text). first_given s rows id has.values in
    let port = value_of (first_of (codes "port") rows) (given (codes "port") (has.given.1.0 refl)) in
    let number = number_passes false 1 65535 port.0 (first_passes s rows (codes "port") port.0 _ has.values refl port.1) in
    serve_there rows (given (codes "store") (has.given.0 refl)) port number (number_given false 0 most_connections (first_of (codes "count") rows)
    (λ text is. first_passes s rows (codes "count") text _ has.values refl is))

export_asks : Asks (built_leaf export_app.top)
unfolding export_app
export_asks name words met free none once =
    let s = built_leaf export_app.top in
    let rows = rows_after s.rules [] words in
    let has : HasValues s rows = level_values s refl ((refl, refl, inl (refl, inl refl)), ((refl, refl, inl (refl, inl refl)), ((refl, refl, inl (refl, inr (codes "true", refl))), ((refl, refl, inr (λ values rows e. absurd cc)), tt)))) words none in
    let given = λ (id : Text). first_given s rows id has.values in
    export_there rows (given (codes "store") (has.given.0 refl))

report_asks : Asks (built_leaf report_app.top)
unfolding report_app
report_asks name words met free none once =
    let s = built_leaf report_app.top in
    let rows = rows_after s.rules [] words in
    let has : HasValues s rows = level_values s refl ((refl, refl, inl (refl, inl refl)), ((refl, refl, inl (refl, inl refl)), ((refl, refl, inl (refl, inr (codes "true", refl))), ((refl, refl, inr (λ values rows e. absurd cc)), tt)))) words none in
    let given = λ (id : Text). first_given s rows id has.values in
    report_there rows (given (codes "store") (has.given.0 refl)) (given (codes "name") (has.given.1.0 refl))

history_asks : Asks (built_leaf history_app.top)
unfolding history_app
history_asks name words met free none once =
    let s = built_leaf history_app.top in
    let rows = rows_after s.rules [] words in
    let has : HasValues s rows = level_values s refl ((refl, refl, inl (refl, inl refl)), ((refl, refl, inl (refl, inl refl)), ((refl, refl, inl (refl, inr (codes "true", refl))), ((refl, refl, inr (λ values rows e. absurd cc)), tt)))) words none in
    let given = λ (id : Text). first_given s rows id has.values in
    history_there rows (given (codes "store") (has.given.0 refl)) (number_given false 0 4294967295 (first_of (codes "after") rows)
    (λ text is. first_passes s rows (codes "after") text _ has.values refl is))

head_asks : Asks (built_leaf head_app.top)
unfolding head_app
head_asks name words met free none once =
    let s = built_leaf head_app.top in
    let rows = rows_after s.rules [] words in
    let has : HasValues s rows = level_values s refl ((refl, refl, inl (refl, inl refl)), ((refl, refl, inl (refl, inr (codes "true", refl))), ((refl, refl, inr (λ values rows e. absurd cc)), tt))) words none in
    let given = λ (id : Text). first_given s rows id has.values in
    head_there rows (given (codes "store") (has.given.0 refl))

check_asks : Asks (built_leaf check_app.top)
unfolding check_app
check_asks name words met free none once =
    let s = built_leaf check_app.top in
    let rows = rows_after s.rules [] words in
    let has : HasValues s rows = level_values s refl ((refl, refl, inl (refl, inl refl)), ((refl, refl, inl (refl, inr (codes "true", refl))), ((refl, refl, inr (λ values rows e. absurd cc)), tt))) words none in
    let given = λ (id : Text). first_given s rows id has.values in
    check_there rows (given (codes "store") (has.given.0 refl))

lookup_asks : Asks (built_leaf lookup_app.top)
unfolding lookup_app
lookup_asks name words met free none once =
    let s = built_leaf lookup_app.top in
    let rows = rows_after s.rules [] words in
    let has : HasValues s rows = level_values s refl ((refl, refl, inl (refl, inl refl)), ((refl, refl, inl (refl, inl refl)), ((refl, refl, inl (refl, inl refl)), ((refl, refl, inl (refl, inr (codes "true", refl))), ((refl, refl, inr (λ values rows e. absurd cc)), tt))))) words none in
    let given = λ (id : Text). first_given s rows id has.values in
    lookup_there rows (given (codes "list") (has.given.0 refl)) (given (codes "vid") (has.given.1.0 refl)) (given (codes "pid") (has.given.1.1.0 refl))

-- no name is `help` and not `help`
not_help : (name : Text) → answers_to name (codes "help", []) ≡ true → bytes_eq name (codes "help") ≡ false → ⊥
not_help name met free = go (bytes_eq (codes "help") name) refl met
  where
    go : (t : Bool) → bytes_eq (codes "help") name ≡ t → (t || false) ≡ true → ⊥
    go true is e = true≢false (subst (λ (word : Text). bytes_eq word (codes "help") ≡ false) (sym ((bytes_eq-Decides (codes "help") name).0 is)) free)
    go false is e = true≢false (sym e)

help_asks : Asks (built_leaf help_shape)
help_asks name words met free none once = absurd (not_help name met free)

-- arguments without a fault ask for a command
pub asks_for_a_command : (words : List Text) → faults_of words ≡ [] → IsSome (command_of words)
unfolding faults_of chosen bare_app trial_app found_app apply_app import_app replay_app share_app serve_app export_app report_app history_app head_app check_app lookup_app
asks_for_a_command words none =
    let parts = or_else_none (fault_of usbreg_app words) _ none in
    asked (built usbreg_app) refl
    (trial_asks, (found_asks, (apply_asks, (import_asks, (replay_asks, (share_asks, (serve_asks, (export_asks, (report_asks, (history_asks, (head_asks, (check_asks, (lookup_asks, (help_asks, tt))))))))))))))
    (argument_words usbreg_app words) parts.0 parts.1
