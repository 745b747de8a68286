-- The walk of `clap` over the words of one command: what it refuses, and the matches that it gives.
use Rattle.std.proofs.Common.{◌≡◌, ◌∙◌, ℕ, ◌&&◌, Bool, true, false, refl, sym, ap, subst, List, [], ◌∷◌, ◌++◌, map, fold, Option, Some, None, if◌then◌else◌, codes, arith}
use Rattle.std.specs.Prelude.{slice_get}
use Rattle.std.specs.Str.{IsUtf8, bytes_eq, chars}
use Rattle.std.proofs.lemmas.List.{append_assoc, append-nil}
use Rattle.std.proofs.lemmas.Str.{IsUtf8-drop, IsCharBoundary-after_ascii}
use Rattle.std.proofs.lemmas.Slice.Eq.{bytes_eq-Decides}
use Rattle.clap.specs.Lexer.{long_of}
use Rattle.clap.specs.Kinds.{Kinds, or_else}
use Rattle.clap.specs.Walk.{Held, Row, Rule, Waiting, idle, option, positional, Walk, value as operand_step, is_pending, plain_word, positional_held, pushed, subcommand_met, arg_by_id, arg_by_index, arg_by_long, arg_by_short, finished, settled, settled_rows, walked, with_default}
use Rattle.clap.specs.Simple.{Shape, filled, with_index}
use Rattle.clap.specs.Faults.{check_fault, defaults_fault, flags_fault, settle_fault, turn_fault, walk_fault}
use Rattle.clap.specs.declared.error.kind.ErrorKind.TheVariants.{UnknownArgument, TooManyValues, InvalidValue}
use Rattle.command_line.specs.Command.{Text, Options, Given, operand, end_of_options, long, short, takes_value, an_operand, and_then}
use Rattle.command_line.specs.Parser.{operand_rule, valued_rule, flag_rule, rows_by, with_one}
use Rattle.command_line.proofs.LookLemmas.{Looks, first_char}
use Rattle.command_line.proofs.RowLemmas.{rows_snoc}

-- ---- the arguments, as building fills them in

abbrev pub operand_built : Rule
operand_built = with_index 1 (filled operand_rule)

abbrev pub option_built : Text → Bool → Rule
option_built name true = filled (valued_rule name)
option_built name false = filled (flag_rule name)

-- the command has the options, and operands
pub record Fits (s : Shape) (o : Options) : Type 0 where
  pub positional_is : arg_by_index s.rules 1 ≡ Some operand_built
  pub operand_is : arg_by_id s.rules (codes "operand") ≡ Some operand_built
  pub known : (name : Text) (takes : Bool) → takes_value o name ≡ Some takes → arg_by_long s.rules name ≡ Some (option_built name takes)
  pub unknown : (name : Text) → takes_value o name ≡ None → arg_by_long s.rules name ≡ None
  pub by_id : (name : Text) → takes_value o name ≡ Some true → arg_by_id s.rules name ≡ Some (option_built name true)
  pub no_short : (c : ℕ) → arg_by_short s.rules c ≡ None
  pub defaults : (rows : List Row) → defaults_fault rows s.rules ≡ []
  pub same : (rows : List Row) → fold with_default rows s.rules ≡ rows
  pub checked : (rows : List Row) → check_fault s rows false ≡ []

-- ---- what a walk comes to

pub record Level : Type 0 where
  pub kinds : Kinds
  pub rows : List Row

abbrev pub Outcome : Option Given → Given → Level → Type 0
Outcome None given level = level.kinds ≡ [] → ⊥
Outcome (Some more) given level = (level.kinds ≡ []) × (level.rows ≡ rows_by (given ++ more))

both_empty : (a b : Kinds) → or_else a b ≡ [] → a ≡ []
both_empty [] b none = refl
both_empty (k ∷ ks) b none = none

and_false : (b : Bool) → (b && false) ≡ false
and_false true = refl
and_false false = refl

pub one_more : (given : Given) (one : Text × Text) (more : Option Given) (level : Level) → Outcome more (given ++ one ∷ []) level → Outcome (and_then one more) given level
one_more given one None level is = is
one_more given one (Some rest) level is = (is.0, is.1 ∙ ap rows_by (append_assoc given (one ∷ []) rest))

-- ---- states of the walk

abbrev pub held_at : List Row → Option (Text × List Text) → Held
held_at rows pending = record { rows = rows; pending = pending; skip = 0 }

abbrev pub state : List Row → Option (Text × List Text) → Waiting → Bool → Walk
state rows pending waiting trailing = record {
  held = held_at rows pending;
  waiting = waiting;
  position = 1;
  is_trailing = trailing;
  stopped = None;
}

-- nothing waits for a value
abbrev pub IsFree : Waiting → Type 0
IsFree idle = Unit {0}
IsFree (option name) = ⊥
IsFree positional = Unit {0}

module _ (s : Shape) (o : Options) (fits : Fits s o) where
  abbrev pub level_from : Walk → List Text → Level
  level_from w words =
      let end = (fold (walked s.rules []) w words).held in
      record {
        kinds = or_else (walk_fault s [] w words) (or_else [] (or_else (settle_fault s.rules s.args_override_self end)
            (or_else (defaults_fault (settled s.rules end).rows s.rules) (check_fault s (finished s.rules end) false))));
        rows = finished s.rules end;
      }

  -- the word passes, and the words after it come to this
  pub passes : (more : Option Given) (given : Given) (w : Walk) (word : Text) (words : List Text) (next : Walk) → turn_fault s [] w word ≡ [] → walked s.rules [] w word ≡ next
      → Outcome more given (level_from next words) → Outcome more given (level_from w (word ∷ words))
  unfolding walk_fault
  passes more given w word words next passed is after =
      let rest : Outcome more given (level_from (walked s.rules [] w word) words) = subst (λ v. Outcome more given (level_from v words)) (sym is) after in
      rw passed rest

  -- the word is refused
  pub fails : (w : Walk) (word : Text) (words : List Text) → (turn_fault s [] w word ≡ [] → ⊥) → (level_from w (word ∷ words)).kinds ≡ [] → ⊥
  unfolding walk_fault
  fails w word words refused none = refused (both_empty _ _ (both_empty _ _ none))

  -- ---- what is held

  -- the values so far are those that were given, and what is pending is complete
  pub record Holds (rows : List Row) (pending : Option (Text × List Text)) (given : Given) : Type 0 where
    pub rows_are : settled_rows s.rules pending rows ≡ rows_by given
    pub whole : settle_fault s.rules s.args_override_self (held_at rows pending) ≡ []

  -- ---- one word

  -- an operand is pending
  pub operand_held : (rows : List Row) (given : Given) (word : Text) → rows ≡ rows_by given → Holds rows (Some (codes "operand", word ∷ [])) (given ++ an_operand word ∷ [])
  operand_held rows given word are = record {
    rows_are = rw fits.operand_is (ap (λ r. with_one r (an_operand word)) are ∙ sym (rows_snoc given (an_operand word)));
    whole = rw fits.operand_is refl;
  }

  -- an option has its value pending
  pub value_held : (rows : List Row) (given : Given) (name value : Text) → takes_value o name ≡ Some true → rows ≡ rows_by given
      → Holds rows (Some (name, value ∷ [])) (given ++ (name, value) ∷ [])
  value_held rows given name value takes are = record {
    rows_are = rw (fits.by_id name takes) (ap (λ r. with_one r (name, value)) are ∙ sym (rows_snoc given (name, value)));
    whole = rw (fits.by_id name takes) refl;
  }

  -- nothing is pending
  pub used_held : (rows : List Row) (given : Given) (one : Text × Text) → rows ≡ rows_by given → Holds (with_one rows one) None (given ++ one ∷ [])
  used_held rows given one are = record {
    rows_are = ap (λ r. with_one r one) are ∙ sym (rows_snoc given one);
    whole = refl;
  }

  -- ---- turns

  met_none : (waiting : Waiting) (word : Text) → subcommand_met [] waiting word ≡ None
  met_none idle word = refl
  met_none (option name) word = refl
  met_none positional word = refl

  plain_free : (waiting : Waiting) (word : Text) (held : Held) → IsFree waiting → plain_word s.rules waiting word held ≡ (held, operand_step)
  plain_free idle word held free = refl
  plain_free (option name) word held free = absurd free
  plain_free positional word held free = refl

  if_empty : (b : Bool) (kinds : Kinds) → kinds ≡ [] → (if b then [] else kinds) ≡ []
  if_empty true kinds none = refl
  if_empty false kinds none = none

  operand_after : (rows : List Row) (pending : Option (Text × List Text)) (word : Text)
      → positional_held s.rules operand_built word (held_at rows pending) ≡ held_at (settled_rows s.rules pending rows) (Some (codes "operand", word ∷ []))
  operand_after rows pending word =
      ap (λ b. pushed (codes "operand") word (if b then held_at rows pending else settled s.rules (held_at rows pending))) (and_false (is_pending operand_built pending))

  module _ (rows : List Row) (pending : Option (Text × List Text)) (waiting : Waiting) (given : Given) (holds : Holds rows pending given) where
    trailing_passes : (word : Text) → turn_fault s [] (state rows pending waiting true) word ≡ []
    trailing_passes word = rw fits.positional_is (if_empty _ _ holds.whole)

    trailing_walked : (word : Text) → walked s.rules [] (state rows pending waiting true) word
        ≡ state (settled_rows s.rules pending rows) (Some (codes "operand", word ∷ [])) positional true
    unfolding walked
    trailing_walked word = rw fits.positional_is (ap (λ h. record (state rows pending positional true) { held = h }) (operand_after rows pending word))

    module _ (free : IsFree waiting) (word : Text) where
      pub operand_passes : Looks word operand → turn_fault s [] (state rows pending waiting false) word ≡ []
      operand_passes (dashes, no_long, no_short) =
          rw (met_none waiting word, dashes, no_long, no_short, plain_free waiting word (held_at rows pending) free, fits.positional_is) (if_empty _ _ holds.whole)

      pub operand_walked : Looks word operand → walked s.rules [] (state rows pending waiting false) word
          ≡ state (settled_rows s.rules pending rows) (Some (codes "operand", word ∷ [])) positional false
      unfolding walked
      operand_walked (dashes, no_long, no_short) =
          rw (met_none waiting word, dashes, no_long, no_short, plain_free waiting word (held_at rows pending) free, fits.positional_is)
          (ap (λ h. record (state rows pending positional false) { held = h }) (operand_after rows pending word))

      pub end_passes : Looks word end_of_options → turn_fault s [] (state rows pending waiting false) word ≡ []
      end_passes dashes = rw (met_none waiting word, dashes) refl

      pub end_walked : Looks word end_of_options → walked s.rules [] (state rows pending waiting false) word ≡ state rows pending waiting true
      unfolding walked
      end_walked dashes = rw (met_none waiting word, dashes) refl

      pub short_fails : Looks word short → IsUtf8 word → turn_fault s [] (state rows pending waiting false) word ≡ [] → ⊥
      unfolding flags_fault
      short_fails (dashes, no_long, (c, rest, is_short, is_word)) utf8 passed =
          let whole : IsUtf8 (45 ∷ c ∷ rest) = subst IsUtf8 is_word utf8 in
          let text : IsUtf8 (c ∷ rest) = IsUtf8-drop (45 ∷ c ∷ rest) 1 whole (IsCharBoundary-after_ascii (45 ∷ c ∷ rest) 0 whole (omega arith) (omega arith)) in
          let first : (x : ℕ) × (slice_get (chars (c ∷ rest)) 0 ≡ Some x) = first_char c rest text in
          let bad : UnknownArgument ∷ [] ≡ [] = rw (met_none waiting word, dashes, no_long, is_short, first.1, fits.no_short first.0) at passed in
          absurd (cc)

      module _ (name : Text) where
        pub unknown_fails : (value : Option Text) → Looks word (long name value) → takes_value o name ≡ None → turn_fault s [] (state rows pending waiting false) word ≡ [] → ⊥
        unknown_fails value (dashes, is_long) none passed =
            let bad : UnknownArgument ∷ [] ≡ [] = rw (met_none waiting word, dashes, is_long, fits.unknown name none) at passed in
            absurd (cc)

        pub flag_value_fails : (value : Text) → Looks word (long name (Some value)) → takes_value o name ≡ Some false → turn_fault s [] (state rows pending waiting false) word ≡ [] → ⊥
        flag_value_fails value (dashes, is_long) takes passed =
            let bad : TooManyValues ∷ [] ≡ [] = rw (met_none waiting word, dashes, is_long, fits.known name false takes) at passed in
            absurd (cc)

        pub flag_passes : Looks word (long name None) → takes_value o name ≡ Some false → turn_fault s [] (state rows pending waiting false) word ≡ []
        flag_passes (dashes, is_long) takes = rw (met_none waiting word, dashes, is_long, fits.known name false takes, holds.whole) refl

        pub flag_walked : Looks word (long name None) → takes_value o name ≡ Some false
            → walked s.rules [] (state rows pending waiting false) word ≡ state (with_one (settled_rows s.rules pending rows) (name, codes "true")) None idle false
        unfolding walked
        flag_walked (dashes, is_long) takes = rw (met_none waiting word, dashes, is_long, fits.known name false takes) refl

        pub attached_passes : (value : Text) → Looks word (long name (Some value)) → takes_value o name ≡ Some true → turn_fault s [] (state rows pending waiting false) word ≡ []
        attached_passes value (dashes, is_long) takes = rw (met_none waiting word, dashes, is_long, fits.known name true takes, holds.whole) refl

        pub attached_walked : (value : Text) → Looks word (long name (Some value)) → takes_value o name ≡ Some true
            → walked s.rules [] (state rows pending waiting false) word ≡ state (with_one (settled_rows s.rules pending rows) (name, value)) None idle false
        unfolding walked
        attached_walked value (dashes, is_long) takes = rw (met_none waiting word, dashes, is_long, fits.known name true takes) refl

        pub option_passes : Looks word (long name None) → takes_value o name ≡ Some true → turn_fault s [] (state rows pending waiting false) word ≡ []
        option_passes (dashes, is_long) takes = rw (met_none waiting word, dashes, is_long, fits.known name true takes, holds.whole) refl

        pub option_walked : Looks word (long name None) → takes_value o name ≡ Some true
            → walked s.rules [] (state rows pending waiting false) word ≡ state (settled_rows s.rules pending rows) (Some (name, [])) (option name) false
        unfolding walked
        option_walked (dashes, is_long) takes = rw (met_none waiting word, dashes, is_long, fits.known name true takes) refl

  -- an option waits for its value
  module _ (rows : List Row) (name : Text) (given : Given) (takes : takes_value o name ≡ Some true) where
    names_itself : bytes_eq name name ≡ true
    names_itself = (bytes_eq-Decides name name).1 refl

    nothing_yet : settle_fault s.rules s.args_override_self (held_at rows (Some (name, []))) ≡ InvalidValue ∷ []
    nothing_yet = rw (fits.by_id name takes) refl

    module _ (word : Text) where
      pub value_passes : Looks word operand → turn_fault s [] (state rows (Some (name, [])) (option name) false) word ≡ []
      value_passes (dashes, no_long, no_short) = rw (dashes, no_long, no_short) refl

      pub value_walked : Looks word operand → walked s.rules [] (state rows (Some (name, [])) (option name) false) word ≡ state rows (Some (name, word ∷ [])) idle false
      unfolding walked
      value_walked (dashes, no_long, no_short) = rw (dashes, no_long, no_short, fits.by_id name takes, names_itself) refl

      pub waiting_end : Looks word end_of_options → turn_fault s [] (state rows (Some (name, [])) (option name) false) word ≡ []
      waiting_end dashes = rw dashes refl

      pub waiting_end_walked : Looks word end_of_options → walked s.rules [] (state rows (Some (name, [])) (option name) false) word ≡ state rows (Some (name, [])) (option name) true
      unfolding walked
      waiting_end_walked dashes = rw dashes refl

      pub waiting_short : Looks word short → IsUtf8 word → turn_fault s [] (state rows (Some (name, [])) (option name) false) word ≡ [] → ⊥
      unfolding flags_fault
      waiting_short (dashes, no_long, (c, rest, is_short, is_word)) utf8 passed =
          let whole : IsUtf8 (45 ∷ c ∷ rest) = subst IsUtf8 is_word utf8 in
          let text : IsUtf8 (c ∷ rest) = IsUtf8-drop (45 ∷ c ∷ rest) 1 whole (IsCharBoundary-after_ascii (45 ∷ c ∷ rest) 0 whole (omega arith) (omega arith)) in
          let first : (x : ℕ) × (slice_get (chars (c ∷ rest)) 0 ≡ Some x) = first_char c rest text in
          let bad : UnknownArgument ∷ [] ≡ [] = rw (dashes, no_long, is_short, first.1, fits.no_short first.0) at passed in
          absurd (cc)

      pub waiting_long : (other : Text) (value : Option Text) → Looks word (long other value) → turn_fault s [] (state rows (Some (name, [])) (option name) false) word ≡ [] → ⊥
      waiting_long other value (dashes, is_long) passed = go (takes_value o other) refl value is_long
        where
          go : (t : Option Bool) → takes_value o other ≡ t → (v : Option Text) → long_of word ≡ Some (other, v) → ⊥
          go None is v at = let bad : UnknownArgument ∷ [] ≡ [] = rw (dashes, at, fits.unknown other is) at passed in absurd (cc)
          go (Some false) is None at = let bad : InvalidValue ∷ [] ≡ [] = rw (dashes, at, fits.known other false is, fits.by_id name takes) at passed in absurd (cc)
          go (Some false) is (Some v) at = let bad : TooManyValues ∷ [] ≡ [] = rw (dashes, at, fits.known other false is) at passed in absurd (cc)
          go (Some true) is None at = let bad : InvalidValue ∷ [] ≡ [] = rw (dashes, at, fits.known other true is, fits.by_id name takes) at passed in absurd (cc)
          go (Some true) is (Some v) at = let bad : InvalidValue ∷ [] ≡ [] = rw (dashes, at, fits.known other true is, fits.by_id name takes) at passed in absurd (cc)

      -- after `--` the value is still missing
      missing_fails : turn_fault s [] (state rows (Some (name, [])) (option name) true) word ≡ [] → ⊥
      missing_fails passed = go (is_pending operand_built (Some (name, []))) refl
        where
          go : (b : Bool) → is_pending operand_built (Some (name, [])) ≡ b → ⊥
          go true is = let bad : InvalidValue ∷ [] ≡ [] = rw (fits.positional_is, is, fits.by_id name takes) at passed in absurd (cc)
          go false is = let bad : InvalidValue ∷ [] ≡ [] = rw (fits.positional_is, is, fits.by_id name takes) at passed in absurd (cc)

    pub ends_missing : (trailing : Bool) → (level_from (state rows (Some (name, [])) (option name) trailing) []).kinds ≡ [] → ⊥
    unfolding walk_fault
    ends_missing trailing none = let bad : InvalidValue ∷ [] ≡ [] = rw nothing_yet at none in absurd (cc)

    pub trailing_missing : (words : List Text) → (level_from (state rows (Some (name, [])) (option name) true) words).kinds ≡ [] → ⊥
    trailing_missing [] none = ends_missing true none
    trailing_missing (word ∷ words) none = fails (state rows (Some (name, [])) (option name) true) word words (missing_fails word) none

  -- ---- the words

  pub ends : (rows : List Row) (pending : Option (Text × List Text)) (waiting : Waiting) (trailing : Bool) (given : Given) → Holds rows pending given
      → Outcome (Some []) given (level_from (state rows pending waiting trailing) [])
  unfolding walk_fault
  ends rows pending waiting trailing given holds = (
    rw (holds.whole, fits.defaults (settled_rows s.rules pending rows)) (fits.checked (fold with_default (settled_rows s.rules pending rows) s.rules)),
    fits.same (settled_rows s.rules pending rows) ∙ holds.rows_are ∙ ap rows_by (sym (append-nil given)),
  )

  pub trailing_words : (words : List Text) (rows : List Row) (pending : Option (Text × List Text)) (waiting : Waiting) (given : Given) → Holds rows pending given
      → Outcome (Some (map an_operand words)) given (level_from (state rows pending waiting true) words)
  trailing_words [] rows pending waiting given holds = ends rows pending waiting true given holds
  trailing_words (word ∷ words) rows pending waiting given holds =
      let next = settled_rows s.rules pending rows in
      passes (Some (map an_operand (word ∷ words))) given (state rows pending waiting true) word words (state next (Some (codes "operand", word ∷ [])) positional true)
      (trailing_passes rows pending waiting given holds word) (trailing_walked rows pending waiting given holds word)
      (one_more given (an_operand word) (Some (map an_operand words)) _
      (trailing_words words next (Some (codes "operand", word ∷ [])) positional (given ++ an_operand word ∷ []) (operand_held next given word holds.rows_are)))
