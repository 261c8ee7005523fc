-- A subcommand that is entered without a fault is not `help`.
use Rattle.std.proofs.Common.{◌≡◌, ◌&&◌, ℕ, Bool, cond, true, false, not, refl, sym, subst, List, [], ◌∷◌, codes, Option, Some, None, is_some}
use Rattle.std.specs.Prelude.{⊤, IsSome, option_map}
use Rattle.std.specs.Option.{option_map_or}
use Rattle.std.specs.List.{find, fold}
use Rattle.std.specs.Str.{bytes_eq}
use Rattle.clap.specs.Lexer.{long_of, short_of}
use Rattle.clap.specs.Walk.{Held, Names, Outcome, Rule, Step, Text, Waiting, Walk, after_flag, after_step, answers_to, arg_by_index, done, idle, long_or_other, next, nothing_held, option, plain, plain_word, positional, refused, rows_after, short_or_plain, stop_after, subcommand, subcommand_met, subcommand_or_other, to_positional, trailing, value, waits, walk, walk_from, walked, walked_from, word_met}
use Rattle.clap.specs.Simple.{App, Shape, entered, label_of, names_of, rows_at}
use Rattle.clap.specs.Kinds.{or_else}
use Rattle.clap.specs.Faults.{built_fault, entered_fault, level_fault, other_fault, step_fault, turn_fault, walk_fault, word_fault}
use Rattle.clap.specs.declared.error.kind.ErrorKind.TheVariants as kind
use Rattle.registry_arguments.specs.Commands.{asked_by, named, replay_faults}
use Rattle.registry_arguments.proofs.ClapLevelLemmas.{Every, every_found, or_else_none}

-- ---- a walk without a fault does not stop at `help`

abbrev IsNoHelp : Option (Text × List Text) → Type 0
IsNoHelp None = ⊤
IsNoHelp (Some p) = bytes_eq p.0 (codes "help") ≡ false

abbrev NamesNoHelp : Step → Type 0
NamesNoHelp (subcommand name) = bytes_eq name (codes "help") ≡ false
NamesNoHelp _ = ⊤

plain_step : (c : List Rule) (waiting : Waiting) (word : Text) (h : Held) → NamesNoHelp (plain_word c waiting word h).1
plain_step c idle word h = tt
plain_step c (option id) word h = tt
plain_step c positional word h = tt

flag_step : (c : List Rule) (waiting : Waiting) (word : Text) (h : Held) (o : Outcome) → NamesNoHelp (after_flag c waiting word h o).1
flag_step c waiting word h done = tt
flag_step c waiting word h (waits id) = tt
flag_step c waiting word h plain = plain_step c waiting word h
flag_step c waiting word h refused = plain_step c waiting word h

long_step : (c : List Rule) (waiting : Waiting) (word : Text) (o : Option (Text × Option Text)) (h : Held) → NamesNoHelp (long_or_other c waiting word o h).1
long_step c waiting word (Some p) h = flag_step c waiting word _ _
long_step c waiting word None h = go (short_of word)
  where
    go : (o : Option Text) → NamesNoHelp (short_or_plain c waiting word o h).1
    go (Some flags) = flag_step c waiting word _ _
    go None = plain_step c waiting word h

module _ (s : Shape) (enabled : s.disable_help_subcommand ≡ false) where
  other_step : (o : Option Text) (waiting : Waiting) (position : ℕ) (word : Text) (h : Held) → other_fault s o word h ≡ [] → NamesNoHelp (subcommand_or_other s.rules o waiting position word h).1
  other_step (Some name) waiting position word h none =
      go (bytes_eq name (codes "help")) (subst (λ (b : Bool). cond (bytes_eq name (codes "help") && not b) (kind.DisplayHelp ∷ kind.InvalidSubcommand ∷ []) [] ≡ []) enabled none)
    where
      go : (t : Bool) → cond (t && not false) (kind.DisplayHelp ∷ kind.InvalidSubcommand ∷ []) [] ≡ [] → t ≡ false
      go true e = absurd cc
      go false e = refl
  other_step None waiting position word h none = go (bytes_eq word (45 ∷ 45 ∷ []))
    where
      go : (t : Bool) → NamesNoHelp (cond t (h, trailing position) (long_or_other s.rules waiting word (long_of word) h)).1
      go true = tt
      go false = long_step s.rules waiting word (long_of word) h

  word_step : (names : Names) (t : Bool) (waiting : Waiting) (position : ℕ) (word : Text) (h : Held) → word_fault s names t waiting word h ≡ []
      → NamesNoHelp (word_met s.rules names t waiting position word h).1
  word_step names true waiting position word h none = tt
  word_step names false waiting position word h none = other_step (subcommand_met names waiting word) waiting position word h none

  after_stop : (word : Text) (w : Walk) (h : Held) (step : Step) → w.stopped ≡ None → NamesNoHelp step → IsNoHelp (after_step s.rules word w h step).stopped
  after_stop word w h (next waiting) is free = subst IsNoHelp (sym is) tt
  after_stop word w h (trailing position) is free = subst IsNoHelp (sym is) tt
  after_stop word w h (subcommand name) is free = free
  after_stop word w h value is free = go (arg_by_index s.rules w.position)
    where
      go : (o : Option Rule) → IsNoHelp (to_positional s.rules o word w h).stopped
      go None = subst IsNoHelp (sym is) tt
      go (Some a) = tt

  turn_stop : (names : Names) (w : Walk) (word : Text) → turn_fault s names w word ≡ [] → IsNoHelp w.stopped → IsNoHelp (walked s.rules names w word).stopped
  unfolding walked
  turn_stop names w word none so_far = go w.stopped refl none so_far
    where
      go : (o : Option (Text × List Text)) → w.stopped ≡ o → cond (is_some o) [] (or_else (word_fault s names w.is_trailing w.waiting word w.held) (step_fault s w.position (word_met s.rules names w.is_trailing w.waiting w.position word w.held).0 (word_met s.rules names w.is_trailing w.waiting w.position word w.held).1)) ≡ []
          → IsNoHelp o → IsNoHelp (walked_from s.rules names o w word).stopped
      go (Some p) is e free = free
      go None is e free =
          let parts = or_else_none (word_fault s names w.is_trailing w.waiting word w.held) _ e in
          after_stop word w (word_met s.rules names w.is_trailing w.waiting w.position word w.held).0 (word_met s.rules names w.is_trailing w.waiting w.position word w.held).1 is (word_step names w.is_trailing w.waiting w.position word w.held parts.0)

  walk_stop : (names : Names) (w : Walk) (words : List Text) → walk_fault s names w words ≡ [] → IsNoHelp w.stopped → IsNoHelp (fold (walked s.rules names) w words).stopped
  unfolding walk_fault
  walk_stop names w [] none free = free
  walk_stop names w (word ∷ words) none free =
      let parts = or_else_none (turn_fault s names w word) _ none in
      walk_stop names (walked s.rules names w word) words parts.1 (turn_stop names w word parts.0 free)

-- ---- the subcommand that is entered

-- the arguments of this subcommand ask for a command, unless it is `help`, or a replay without a source or with two
abbrev pub Asks : Shape → Type 0
Asks s = (name : Text) (words : List Text) → answers_to name (label_of s) ≡ true → bytes_eq name (codes "help") ≡ false → level_fault s [] nothing_held words false [] ≡ []
    → replay_faults (Some (rows_at s words)) ≡ [] → IsSome (named s.name (rows_after s.rules [] words))

pub asked : (a : App) → a.top.disable_help_subcommand ≡ false → Every Asks a.subs → (words : List Text) → built_fault a nothing_held words ≡ []
    → replay_faults (entered a (stop_after a.top.rules (names_of a) words)) ≡ [] → IsSome (asked_by (entered a (stop_after a.top.rules (names_of a) words)))
unfolding asked_by
asked a enabled each words none once =
    let stop = (walk a.top.rules (names_of a) nothing_held words).stopped in
    let top = or_else_none (walk_fault a.top (names_of a) (walk_from nothing_held) words) _ none in
    let below = (or_else_none (entered_fault a stop) _ top.1).0 in
    go stop below (walk_stop a.top enabled (names_of a) (walk_from nothing_held) words top.0 tt) once
  where
    go : (o : Option (Text × List Text)) → entered_fault a o ≡ [] → IsNoHelp o → replay_faults (entered a o) ≡ [] → IsSome (asked_by (entered a o))
    go None e free single = refl
    go (Some p) e free single = at (find (λ s. answers_to p.0 (label_of s)) a.subs) refl e single
      where
        at : (o : Option Shape) → find (λ s. answers_to p.0 (label_of s)) a.subs ≡ o → option_map_or (λ s. level_fault s [] nothing_held p.1 false []) o [] ≡ []
            → replay_faults (option_map (λ s. rows_at s p.1) o) ≡ [] → IsSome (asked_by (option_map (λ s. rows_at s p.1) o))
        at None is e2 single2 = refl
        at (Some s) is e2 single2 =
            let found = every_found Asks (λ s. answers_to p.0 (label_of s)) a.subs s each is in
            found.0 p.0 p.1 found.1 free e2 single2
