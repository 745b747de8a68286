-- The commands by their names, and what their words ask for.
use Rattle.std.proofs.Common.{◌≡◌, ◌∙◌, ℕ, suc, Bool, true, false, refl, sym, ap, ap₂, subst, List, [], ◌∷◌, ◌++◌, map, fold, Option, Some, None, is_some, codes, arith, true≢false}
use Rattle.std.specs.Prelude.{find, slice_get}
use Rattle.std.specs.Str.{IsUtf8, bytes_eq, chars}
use Rattle.std.specs.List.{All}
use Rattle.std.proofs.lemmas.List.{append_assoc, append-nil}
use Rattle.std.proofs.lemmas.Str.{IsUtf8-drop, IsCharBoundary-after_ascii}
use Rattle.std.proofs.lemmas.Slice.Eq.{bytes_eq-Decides}
use Rattle.clap.specs.Kinds.{Kinds, or_else}
use Rattle.clap.specs.Walk.{Held, Names, Row, Rule, Walk, answers_to, stop_after, arg_by_id, arg_by_long, has_row, idle, nothing_held, rows_after, subcommand_met, walk, walk_from, walked, with_default}
use Rattle.clap.specs.Simple.{App, Shape, built, built_leaf, entered, inherited, label_of, marked_built, subcommand_of, with_leaf_noted}
use Rattle.clap.specs.Faults.{built_fault, default_fault, defaults_fault, entered_fault, settle_fault, fault_of, flags_fault, level_fault, turn_fault, walk_fault}
use Rattle.clap.specs.declared.error.kind.ErrorKind.TheVariants.{UnknownArgument, InvalidSubcommand, MissingSubcommand}
use Rattle.clap.proofs.FaultLemmas.{stopped_fault}
use Rattle.command_line.specs.Command.{Text, Options, Given, Kind, operand, end_of_options, long, short, kind_of, takes_value, given_by, cached_options, command_in, info_with, named, render_options, render_with, replay_with, self_test_with, session_with}
use Rattle.command_line.specs.Parser.{cached_app, command_of_rows, operand_app, parser_app, render_app, values_in}
use Rattle.command_line.specs.declared.command.Command.{Command}
use Rattle.command_line.proofs.LookLemmas.{Looks, looks, first_char}
use Rattle.command_line.proofs.RowLemmas.{values_are}
use Rattle.command_line.proofs.WalkLemmas.{Fits, Outcome, Level, option_built}
use Rattle.command_line.proofs.GivenLemmas.{reads}

-- ---- the commands, as building fills them in

abbrev top_noted : Shape
top_noted = with_leaf_noted (marked_built parser_app.top)

abbrev leaf : Shape → Shape
leaf s = built_leaf (inherited top_noted s)

abbrev render_leaf : Shape
render_leaf = leaf render_app.top

abbrev info_leaf : Shape
info_leaf = leaf (operand_app (codes "info")).top

abbrev test_leaf : Shape
test_leaf = leaf (operand_app (codes "selftest")).top

abbrev cached_leaf : Text → Shape
cached_leaf name = leaf (cached_app name).top

abbrev session_leaf : Shape
session_leaf = cached_leaf (codes "session")

abbrev replay_leaf : Shape
replay_leaf = cached_leaf (codes "replay")

subs_are : (built parser_app).subs ≡ render_leaf ∷ info_leaf ∷ test_leaf ∷ session_leaf ∷ replay_leaf ∷ []
subs_are = refl

-- ---- arguments without default values

abbrev NoDefaults : List Rule → Type 0
NoDefaults [] = Unit {0}
NoDefaults (a ∷ rules) = (a.defaults ≡ []) × NoDefaults rules

no_default : (rows : List Row) (a : Rule) → a.defaults ≡ [] → (default_fault rows a ≡ []) × (with_default rows a ≡ rows)
no_default rows a none = go (has_row a.id rows) refl
  where
    go : (b : Bool) → has_row a.id rows ≡ b → (default_fault rows a ≡ []) × (with_default rows a ≡ rows)
    go true has = (rw has refl, rw has refl)
    go false has = (rw (has, none) refl, rw (has, none) refl)

no_defaults : (rows : List Row) (rules : List Rule) → NoDefaults rules → (defaults_fault rows rules ≡ []) × (fold with_default rows rules ≡ rows)
unfolding defaults_fault
no_defaults rows [] none = (refl, refl)
no_defaults rows (a ∷ rules) none =
    let here = no_default rows a none.0 in
    let later = no_defaults rows rules none.1 in
    (rw (here.0, here.1) later.0, rw here.1 later.1)

-- ---- the options of each command

plain_fits : (name : Text) → Fits (leaf (operand_app name).top) []
plain_fits name = record {
  positional_is = refl;
  operand_is = refl;
  known = λ n takes is. absurd (cc);
  unknown = λ n is. refl;
  by_id = λ n is. absurd (cc);
  no_short = λ c. refl;
  defaults = λ rows. (no_defaults rows (leaf (operand_app name).top).rules (refl, tt)).0;
  same = λ rows. (no_defaults rows (leaf (operand_app name).top).rules (refl, tt)).1;
  checked = λ rows. refl;
}

-- the rule of an option is found by the name of the option alone
record At (rules : List Rule) (o : Options) (name : Text) : Type 0 where
  known : (takes : Bool) → takes_value o name ≡ Some takes → arg_by_long rules name ≡ Some (option_built name takes)
  by_id : takes_value o name ≡ Some true → arg_by_id rules name ≡ Some (option_built name true)
  unknown : takes_value o name ≡ None → arg_by_long rules name ≡ None

is_literal : (literal name : Text) → bytes_eq literal name ≡ true → literal ≡ name
is_literal literal name same = (bytes_eq-Decides literal name).0 same

abbrev rules : List Rule
rules = render_leaf.rules

abbrev RenderAt : Text → Type 0
RenderAt = At rules render_options

render_at : (name : Text) → RenderAt name
render_at name = go (bytes_eq (codes "cache") name) refl (bytes_eq (codes "threads") name) refl (bytes_eq (codes "plain") name) refl (bytes_eq (codes "report") name) refl (bytes_eq (codes "journal") name) refl
  where
    go : (a : Bool) → bytes_eq (codes "cache") name ≡ a → (b : Bool) → bytes_eq (codes "threads") name ≡ b → (d : Bool) → bytes_eq (codes "plain") name ≡ d
        → (e : Bool) → bytes_eq (codes "report") name ≡ e → (f : Bool) → bytes_eq (codes "journal") name ≡ f → RenderAt name
    go true is b n d m e k f l = subst RenderAt (is_literal (codes "cache") name is) record {
      known = λ takes given. ap (λ t. Some (option_built (codes "cache") t)) (let same : true ≡ takes = cc in same);
      by_id = λ given. refl;
      unknown = λ none. absurd (cc);
    }
    go false n true is d m e k f l = subst RenderAt (is_literal (codes "threads") name is) record {
      known = λ takes given. ap (λ t. Some (option_built (codes "threads") t)) (let same : true ≡ takes = cc in same);
      by_id = λ given. refl;
      unknown = λ none. absurd (cc);
    }
    go false n false m true is e k f l = subst RenderAt (is_literal (codes "plain") name is) record {
      known = λ takes given. ap (λ t. Some (option_built (codes "plain") t)) (let same : false ≡ takes = cc in same);
      by_id = λ given. absurd (cc);
      unknown = λ none. absurd (cc);
    }
    go false n false m false k true is f l = subst RenderAt (is_literal (codes "report") name is) record {
      known = λ takes given. ap (λ t. Some (option_built (codes "report") t)) (let same : false ≡ takes = cc in same);
      by_id = λ given. absurd (cc);
      unknown = λ none. absurd (cc);
    }
    go false n false m false k false l true is = subst RenderAt (is_literal (codes "journal") name is) record {
      known = λ takes given. ap (λ t. Some (option_built (codes "journal") t)) (let same : false ≡ takes = cc in same);
      by_id = λ given. absurd (cc);
      unknown = λ none. absurd (cc);
    }
    go false n false m false k false l false o = record {
      known = λ takes given. let bad : None ≡ Some takes = rw (n, m, k, l, o) at given in absurd (cc);
      by_id = λ given. let bad : None ≡ Some true = rw (n, m, k, l, o) at given in absurd (cc);
      unknown = λ none. rw (n, m, k, l, o) refl;
    }

render_fits : Fits render_leaf render_options
render_fits = record {
  positional_is = refl;
  operand_is = refl;
  known = λ name. (render_at name).known;
  unknown = λ name. (render_at name).unknown;
  by_id = λ name. (render_at name).by_id;
  no_short = λ c. refl;
  defaults = λ rows. (no_defaults rows rules (refl, (refl, (refl, (refl, (refl, (refl, tt))))))).0;
  same = λ rows. (no_defaults rows rules (refl, (refl, (refl, (refl, (refl, (refl, tt))))))).1;
  checked = λ rows. refl;
}

-- of a command whose only option is a cache
module _ (command : Text) where
  abbrev CachedAt : Text → Type 0
  CachedAt = At (cached_leaf command).rules cached_options

  cached_at : (name : Text) → CachedAt name
  cached_at name = go (bytes_eq (codes "cache") name) refl
    where
      go : (a : Bool) → bytes_eq (codes "cache") name ≡ a → CachedAt name
      go true is = subst CachedAt (is_literal (codes "cache") name is) record {
        known = λ takes given. ap (λ t. Some (option_built (codes "cache") t)) (let same : true ≡ takes = cc in same);
        by_id = λ given. refl;
        unknown = λ none. absurd (cc);
      }
      go false n = record {
        known = λ takes given. let bad : None ≡ Some takes = rw n at given in absurd (cc);
        by_id = λ given. let bad : None ≡ Some true = rw n at given in absurd (cc);
        unknown = λ none. rw n refl;
      }

  cached_fits : Fits (cached_leaf command) cached_options
  cached_fits = record {
    positional_is = refl;
    operand_is = refl;
    known = λ name. (cached_at name).known;
    unknown = λ name. (cached_at name).unknown;
    by_id = λ name. (cached_at name).by_id;
    no_short = λ c. refl;
    defaults = λ rows. (no_defaults rows (cached_leaf command).rules (refl, (refl, tt))).0;
    same = λ rows. (no_defaults rows (cached_leaf command).rules (refl, (refl, tt))).1;
    checked = λ rows. refl;
  }

-- ---- the first word

-- a command without arguments of its own, whose first word is a subcommand
abbrev bare : Shape → Shape
bare t = record t {
  rules = [];
  is_leaf = false;
  disable_help_subcommand = true;
  arg_required_else_help = false;
  subcommand_required = true;
  subcommand_negates_reqs = false;
}

or_nothing : (kinds : Kinds) → or_else kinds [] ≡ kinds
or_nothing [] = refl
or_nothing (k ∷ ks) = refl

first_empty : (a b : Kinds) → or_else a b ≡ [] → a ≡ []
first_empty [] b none = refl
first_empty (k ∷ ks) b none = none

second_empty : (a b : Kinds) → or_else a b ≡ [] → b ≡ []
second_empty [] b none = none
second_empty (k ∷ ks) b none = absurd (cc)

nothing_settles : (again : Bool) (h : Held) → settle_fault [] again h ≡ []
nothing_settles again h = go h.pending refl
  where
    go : (p : Option (Text × List Text)) → h.pending ≡ p → settle_fault [] again h ≡ []
    go None is = rw is refl
    go (Some p) is = rw is refl

module _ (t : Shape) (subs : List Shape) where
  abbrev app : App
  app = record { top = bare t; subs = subs }

  abbrev names : Names
  names = map label_of subs

  -- past a subcommand the words are collected
  collected : (w : Walk) (name : Text) (words more : List Text) → (fold (walked [] names) (record w { stopped = Some (name, words) }) more).stopped ≡ Some (name, words ++ more)
  unfolding walked
  collected w name words [] = ap (λ ws. Some (name, ws)) (sym (append-nil words))
  collected w name words (word ∷ more) = collected w name (words ++ word ∷ []) more ∙ ap (λ ws. Some (name, ws)) (append_assoc words (word ∷ []) more)

  -- the first word names a subcommand, whose words the others are
  module _ (name : Text) (s : Shape) (met : subcommand_met names idle name ≡ Some name) (found : find (λ one. answers_to name (label_of one)) subs ≡ Some s)
      (no_help : bytes_eq name (codes "help") ≡ false) (words : List Text) where
    first : walked [] names (walk_from nothing_held) name ≡ record (walk_from nothing_held) { stopped = Some (name, []) }
    unfolding walked
    first = rw met refl

    stops : (walk [] names nothing_held (name ∷ words)).stopped ≡ Some (name, words)
    stops = ap (λ w. (fold (walked [] names) w words).stopped) first ∙ collected (walk_from nothing_held) name [] words

    turn : turn_fault (bare t) names (walk_from nothing_held) name ≡ []
    turn = rw (met, no_help) refl

    walk_none : walk_fault (bare t) names (walk_from nothing_held) (name ∷ words) ≡ []
    unfolding walk_fault
    walk_none = rw (turn, first) (stopped_fault (bare t) names (walk_from nothing_held) (name, []) words)

    entered_is : entered_fault app (Some (name, words)) ≡ level_fault s [] nothing_held words false []
    entered_is = rw found refl

    has : is_some (entered app (Some (name, words))) ≡ true
    has = rw found refl

    below : level_fault (bare t) names nothing_held (name ∷ words) true (level_fault s [] nothing_held words false []) ≡ level_fault s [] nothing_held words false []
    unfolding defaults_fault
    below = rw (walk_none, nothing_settles t.args_override_self (walk [] names nothing_held (name ∷ words)).held) (or_nothing (level_fault s [] nothing_held words false []))

    pub fault_is : built_fault app nothing_held (name ∷ words) ≡ level_fault s [] nothing_held words false []
    fault_is =
        ap (λ stop. level_fault (bare t) names nothing_held (name ∷ words) (is_some (entered app stop)) (entered_fault app stop)) stops
        ∙ ap₂ (λ b kinds. level_fault (bare t) names nothing_held (name ∷ words) b kinds) has entered_is ∙ below

    pub rows_are : entered app (stop_after [] names (name ∷ words)) ≡ Some (s.name, rows_after s.rules [] words)
    rows_are = let into : entered app (Some (name, words)) ≡ Some (s.name, rows_after s.rules [] words) = rw found refl in ap (entered app) stops ∙ into

  -- the first word names none
  module _ (name : Text) (utf8 : IsUtf8 name) (none : subcommand_met names idle name ≡ None) where
    operand_fails : Looks name operand → turn_fault (bare t) names (walk_from nothing_held) name ≡ [] → ⊥
    operand_fails (dashes, no_long, no_short) passed =
        let bad : UnknownArgument ∷ InvalidSubcommand ∷ [] ≡ [] = rw (none, dashes, no_long, no_short) at passed in absurd (cc)

    long_fails : (other : Text) (value : Option Text) → Looks name (long other value) → turn_fault (bare t) names (walk_from nothing_held) name ≡ [] → ⊥
    long_fails other value (dashes, is_long) passed = let bad : UnknownArgument ∷ [] ≡ [] = rw (none, dashes, is_long) at passed in absurd (cc)

    short_fails : Looks name short → turn_fault (bare t) names (walk_from nothing_held) name ≡ [] → ⊥
    unfolding flags_fault
    short_fails (dashes, no_long, (c, rest, is_short, is_word)) passed =
        let whole : IsUtf8 (45 ∷ c ∷ rest) = subst IsUtf8 is_word utf8 in
        let text : IsUtf8 (c ∷ rest) = IsUtf8-drop (45 ∷ c ∷ rest) 1 whole (IsCharBoundary-after_ascii (45 ∷ c ∷ rest) 0 whole (omega arith) (omega arith)) in
        let some : (x : ℕ) × (slice_get (chars (c ∷ rest)) 0 ≡ Some x) = first_char c rest text in
        let bad : UnknownArgument ∷ [] ≡ [] = rw (none, dashes, no_long, is_short, some.1) at passed in
        absurd (cc)

    end_first : Looks name end_of_options → walked [] names (walk_from nothing_held) name ≡ record (walk_from nothing_held) { is_trailing = true }
    unfolding walked
    end_first dashes = rw (none, dashes) refl

    end_fails : Looks name end_of_options → (words : List Text) → built_fault app nothing_held (name ∷ words) ≡ [] → ⊥
    unfolding walk_fault defaults_fault
    end_fails dashes [] empty =
        let at_end : built_fault app nothing_held (name ∷ []) ≡ or_else (or_else (turn_fault (bare t) names (walk_from nothing_held) name) []) (MissingSubcommand ∷ []) = rw (end_first dashes) refl in
        let bad : MissingSubcommand ∷ [] ≡ [] = second_empty (or_else (turn_fault (bare t) names (walk_from nothing_held) name) []) (MissingSubcommand ∷ []) (sym at_end ∙ empty) in
        absurd (cc)
    end_fails dashes (word ∷ words) empty =
        let trailing = record (walk_from nothing_held) { is_trailing = true } in
        let after : walk_fault (bare t) names (walked [] names (walk_from nothing_held) name) (word ∷ words) ≡ [] = second_empty (turn_fault (bare t) names (walk_from nothing_held) name) _ (first_empty _ _ empty) in
        let moved : walk_fault (bare t) names trailing (word ∷ words) ≡ [] = subst (λ w. walk_fault (bare t) names w (word ∷ words) ≡ []) (end_first dashes) after in
        let next : turn_fault (bare t) names trailing word ≡ [] = first_empty (turn_fault (bare t) names trailing word) (walk_fault (bare t) names (walked [] names trailing word) words) moved in
        let bad : UnknownArgument ∷ InvalidSubcommand ∷ [] ≡ [] = next in
        absurd (cc)

    turn_fails : (words : List Text) → (turn_fault (bare t) names (walk_from nothing_held) name ≡ [] → ⊥) → built_fault app nothing_held (name ∷ words) ≡ [] → ⊥
    unfolding walk_fault
    turn_fails words refused empty = refused (first_empty _ _ (first_empty _ _ empty))

    pub name_fails : (words : List Text) → built_fault app nothing_held (name ∷ words) ≡ [] → ⊥
    name_fails words = go (kind_of name) (looks name)
      where
        go : (kind : Kind) → Looks name kind → built_fault app nothing_held (name ∷ words) ≡ [] → ⊥
        go operand look = turn_fails words (operand_fails look)
        go end_of_options look = end_fails look words
        go (long other value) look = turn_fails words (long_fails other value look)
        go short look = turn_fails words (short_fails look)

-- ---- all the words

abbrev leaves : List Shape
leaves = render_leaf ∷ info_leaf ∷ test_leaf ∷ session_leaf ∷ replay_leaf ∷ []

abbrev built_top : Shape
built_top = (built parser_app).top

-- `clap` takes the words exactly where they break no rule, and then its matches ask for what the words do
pub record Agrees (words : List Text) : Type 0 where
  pub accepted : fault_of parser_app words ≡ [] → command_of_rows (subcommand_of parser_app words) ≡ command_in words
  pub refused : (fault_of parser_app words ≡ [] → ⊥) → command_in words ≡ None

module _ (name : Text) (s : Shape) (o : Options) (meant : (Text → List Text) → Option Command) (fits : Fits s o) (words : List Text) (utf8 : All IsUtf8 words)
    (named_is : named name ≡ Some (o, meant))
    (fault : fault_of parser_app (name ∷ words) ≡ level_fault s [] nothing_held words false [])
    (rows : subcommand_of parser_app (name ∷ words) ≡ Some (name, rows_after s.rules [] words)) where
  abbrev level : Level
  level = record { kinds = level_fault s [] nothing_held words false []; rows = rows_after s.rules [] words }

  outcome : Outcome (given_by o words) [] level
  outcome = (reads s o fits words utf8).free [] None idle [] tt (record { rows_are = refl; whole = refl })

  agrees_by : (given : Option Given) → given_by o words ≡ given → Outcome given [] level → Agrees (name ∷ words)
  agrees_by None is none = record {
    accepted = λ empty. absurd (none (sym fault ∙ empty));
    refused = λ no. rw (named_is, is) refl;
  }
  agrees_by (Some given) is some = record {
    accepted = λ empty. rw (rows, named_is, is) (ap (λ r. meant (values_in r)) some.1 ∙ ap meant (λ i id. values_are given id i));
    refused = λ no. absurd (no (fault ∙ some.0));
  }

  agrees_named : Agrees (name ∷ words)
  agrees_named = agrees_by (given_by o words) refl outcome

render_agrees : (words : List Text) → All IsUtf8 words → Agrees (codes "render" ∷ words)
render_agrees words utf8 = agrees_named (codes "render") render_leaf render_options render_with render_fits words utf8 refl
    (fault_is built_top leaves (codes "render") render_leaf refl refl refl words) (rows_are built_top leaves (codes "render") render_leaf refl refl refl words)

info_agrees : (words : List Text) → All IsUtf8 words → Agrees (codes "info" ∷ words)
info_agrees words utf8 = agrees_named (codes "info") info_leaf [] info_with (plain_fits (codes "info")) words utf8 refl
    (fault_is built_top leaves (codes "info") info_leaf refl refl refl words) (rows_are built_top leaves (codes "info") info_leaf refl refl refl words)

test_agrees : (words : List Text) → All IsUtf8 words → Agrees (codes "selftest" ∷ words)
test_agrees words utf8 = agrees_named (codes "selftest") test_leaf [] self_test_with (plain_fits (codes "selftest")) words utf8 refl
    (fault_is built_top leaves (codes "selftest") test_leaf refl refl refl words) (rows_are built_top leaves (codes "selftest") test_leaf refl refl refl words)

session_agrees : (words : List Text) → All IsUtf8 words → Agrees (codes "session" ∷ words)
session_agrees words utf8 = agrees_named (codes "session") session_leaf cached_options session_with (cached_fits (codes "session")) words utf8 refl
    (fault_is built_top leaves (codes "session") session_leaf refl refl refl words) (rows_are built_top leaves (codes "session") session_leaf refl refl refl words)

replay_agrees : (words : List Text) → All IsUtf8 words → Agrees (codes "replay" ∷ words)
replay_agrees words utf8 = agrees_named (codes "replay") replay_leaf cached_options replay_with (cached_fits (codes "replay")) words utf8 refl
    (fault_is built_top leaves (codes "replay") replay_leaf refl refl refl words) (rows_are built_top leaves (codes "replay") replay_leaf refl refl refl words)

-- a word that is no literal is none the other way round either
other_word : (word literal : Text) → bytes_eq word literal ≡ false → bytes_eq literal word ≡ false
other_word word literal other = go (bytes_eq literal word) refl
  where
    go : (b : Bool) → bytes_eq literal word ≡ b → bytes_eq literal word ≡ false
    go true same = absurd (true≢false (sym ((bytes_eq-Decides word literal).1 (sym (is_literal literal word same))) ∙ other))
    go false is = is

no_words_fail : fault_of parser_app [] ≡ [] → ⊥
unfolding walk_fault defaults_fault
no_words_fail empty = let bad : MissingSubcommand ∷ [] ≡ [] = empty in absurd (cc)

pub agrees : (words : List Text) → All IsUtf8 words → Agrees words
agrees [] utf8 = record {
  accepted = λ empty. absurd (no_words_fail empty);
  refused = λ no. refl;
}
agrees (name ∷ words) utf8 =
    go (bytes_eq name (codes "render")) refl (bytes_eq name (codes "info")) refl (bytes_eq name (codes "selftest")) refl (bytes_eq name (codes "session")) refl
    (bytes_eq name (codes "replay")) refl
  where
    rest : All IsUtf8 words
    rest k d lt = utf8 (suc k) d (omega arith)

    go : (a : Bool) → bytes_eq name (codes "render") ≡ a → (b : Bool) → bytes_eq name (codes "info") ≡ b → (d : Bool) → bytes_eq name (codes "selftest") ≡ d
        → (e : Bool) → bytes_eq name (codes "session") ≡ e → (f : Bool) → bytes_eq name (codes "replay") ≡ f → Agrees (name ∷ words)
    go true is b n d m e k f l = subst (λ t. Agrees (t ∷ words)) (sym (is_literal name (codes "render") is)) (render_agrees words rest)
    go false n true is d m e k f l = subst (λ t. Agrees (t ∷ words)) (sym (is_literal name (codes "info") is)) (info_agrees words rest)
    go false n false m true is e k f l = subst (λ t. Agrees (t ∷ words)) (sym (is_literal name (codes "selftest") is)) (test_agrees words rest)
    go false n false m false k true is f l = subst (λ t. Agrees (t ∷ words)) (sym (is_literal name (codes "session") is)) (session_agrees words rest)
    go false n false m false k false l true is = subst (λ t. Agrees (t ∷ words)) (sym (is_literal name (codes "replay") is)) (replay_agrees words rest)
    go false n false m false k false l false o =
        let none : subcommand_met (map label_of leaves) idle name ≡ None =
        rw (other_word name (codes "render") n, other_word name (codes "info") m, other_word name (codes "selftest") k, other_word name (codes "session") l, other_word name (codes "replay") o) refl in
        record {
          accepted = λ empty. absurd (name_fails built_top leaves name (utf8 0 name (omega arith)) none words empty);
          refused = λ no. rw (n, m, k, l, o) refl;
        }
