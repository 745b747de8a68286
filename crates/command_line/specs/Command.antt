-- The command line: its words, and what they ask for.
use Rattle.std.specs.Char.{is_ascii_digit}
use Rattle.std.specs.List.{list_any, before_first, after_first, find, list_all}
use Rattle.std.specs.Prelude.{ℕ, ◌==◌, Bool, true, false, List, [], ◌∷◌, map, filter, Option, Some, None, option_map, if◌then◌else◌, codes, ◌&&◌, length, option_and_then, nat_le, nat_lt}
use Rattle.std.specs.Str.{bytes_eq}
use Rattle.std.specs.Str.Parse.{digits_value}
use Rattle.command_line.specs.declared.command.Command.{Command}
use Rattle.command_line.specs.declared.command.Command.TheVariants.{Render, Info, SelfTest, Session, Replay}
use Rattle.command_line.specs.declared.command.RenderOptions.{RenderOptions}
use Rattle.command_line.specs.declared.command.Tells.{Tells}
use Rattle.command_line.specs.declared.command.Tells.TheVariants.{Nothing, Report, Journal}

-- ==== Words of a command line, by the conventions of POSIX and GNU: options begin with `--`, may have a value after `=` or in
-- the next word, and end at a word `--`. What is no option is an operand.

abbrev pub Text : Type 0
Text = List ℕ

-- what a word is, before a word `--`
pub data Kind : Type 0 where
  -- an operand: a word that does not begin with `-`, or `-` alone
  operand : Kind
  -- the word `--`: each later word is an operand
  end_of_options : Kind
  -- `--NAME` or `--NAME=VALUE`
  long : Text → Option Text → Kind
  -- any other word that begins with `-`
  short : Kind

-- what stands after the first `=` (61)
abbrev pub value_in : Text → Option Text
value_in text = if list_any (λ c. c == 61) text then Some (after_first (λ c. c == 61) text) else None

-- by what follows `--`
abbrev pub kind_after_dashes : Text → Kind
kind_after_dashes [] = end_of_options
kind_after_dashes (c ∷ rest) = long (before_first (λ c. c == 61) (c ∷ rest)) (value_in (c ∷ rest))

-- by what follows `-` (45)
abbrev pub kind_after_dash : Text → Kind
kind_after_dash [] = operand
kind_after_dash (c ∷ rest) = if c == 45 then kind_after_dashes rest else short

abbrev pub kind_of : Text → Kind
kind_of [] = operand
kind_of (c ∷ rest) = if c == 45 then kind_after_dash rest else operand

-- the options of a command: their names, and whether each takes a value
abbrev pub Options : Type 0
Options = List (Text × Bool)

-- whether an option of this name takes a value, where there is one
abbrev pub takes_value : Options → Text → Option Bool
takes_value options name = option_map (λ option. option.1) (find (λ option. bytes_eq option.0 name) options)

-- what the words give: names with values, in order. An operand has the name `operand`, and a flag the value `true`
abbrev pub Given : Type 0
Given = List (Text × Text)

abbrev pub an_operand : Text → Text × Text
an_operand word = (codes "operand", word)

-- one more in front
abbrev pub and_then : Text × Text → Option Given → Option Given
and_then one more = option_map (λ given. one ∷ given) more

-- an option, by whether it takes a value, and by the value that is attached to it. `next` is for a value in the next word
abbrev pub option_given : Text → Option Bool → Option Text → Option Given → Option Given → Option Given
option_given name None value more next = None
option_given name (Some false) None more next = and_then (name, codes "true") more
option_given name (Some false) (Some value) more next = None
option_given name (Some true) None more next = next
option_given name (Some true) (Some value) more next = and_then (name, value) more

abbrev pub word_given : Options → Kind → Text → List Text → Option Given → (Text → Option Given) → Option Given
word_given options operand word words more next = and_then (an_operand word) more
word_given options end_of_options word words more next = Some (map an_operand words)
word_given options (long name value) word words more next =
    option_given name (takes_value options name) value more (next name)
word_given options short word words more next = None

-- the value of an option, in a word of its own: it is no option
abbrev pub value_given : Text → Kind → Text → Option Given → Option Given
value_given name operand word more = and_then (name, word) more
value_given name _ word more = None

-- what the words give after an option that waits for its value, or None where they break the rules
unfoldable pub given_after : Options → Option Text → List Text → Option Given
given_after options None [] = Some []
given_after options (Some name) [] = None
given_after options None (word ∷ words) =
    word_given options (kind_of word) word words (given_after options None words) (λ name. given_after options (Some name) words)
given_after options (Some name) (word ∷ words) = value_given name (kind_of word) word (given_after options None words)

-- what the words give, or None where they break the rules
abbrev pub given_by : Options → List Text → Option Given
given_by options words = given_after options None words

-- the values that were given for a name, in order
abbrev pub values_of : Given → Text → List Text
values_of given name = map (λ one. one.1) (filter (λ one. bytes_eq one.0 name) given)

-- ==== What the words of the command line ask for.

-- ---- values

-- 1 to 10 decimal digits
abbrev pub is_number : Text → Bool
is_number word = nat_lt 0 (length word) && nat_le (length word) 10 && list_all is_ascii_digit word

abbrev pub in_range : ℕ → ℕ → ℕ → Option ℕ
in_range least most number = if nat_le least number && nat_le number most then Some number else None

-- the number that a word says, where it is from `least` to `most`
abbrev pub number_in : ℕ → ℕ → Text → Option ℕ
number_in least most word = if is_number word then in_range least most (digits_value 10 word) else None

-- exactly one
abbrev pub only : List Text → Option Text
only (word ∷ []) = Some word
only _ = None

-- exactly two
abbrev pub both : List Text → Option (Text × Text)
both (first ∷ second ∷ []) = Some (first, second)
both _ = None

-- no value, or one that is a number
abbrev pub number_among : ℕ → ℕ → List Text → Option (Option ℕ)
number_among least most [] = Some None
number_among least most (word ∷ []) = option_map (λ number. Some number) (number_in least most word)
number_among least most _ = None

-- a flag is given at most once
abbrev pub flag_among : List Text → Option Bool
flag_among [] = Some false
flag_among (word ∷ []) = Some true
flag_among _ = None

-- what is told, by the flags for a report and for a journal, which exclude each other
abbrev pub tells_by : Bool → Bool → Option Tells
tells_by false false = Some Nothing
tells_by true false = Some Report
tells_by false true = Some Journal
tells_by true true = None

-- ---- commands, by the values of each name

abbrev pub options_with : (Text → List Text) → Option RenderOptions
options_with values = option_and_then (λ cache.
    option_and_then (λ threads.
    option_and_then (λ plain.
    option_and_then (λ report.
    option_and_then (λ journal.
    option_map (λ tells. record { cache = cache; threads = threads; plain = plain; tells = tells })
    (tells_by report journal))
    (flag_among (values (codes "journal"))))
    (flag_among (values (codes "report"))))
    (flag_among (values (codes "plain"))))
    (number_among 1 16 (values (codes "threads"))))
    (number_among 1 256 (values (codes "cache")))

abbrev pub render_with : (Text → List Text) → Option Command
render_with values = option_and_then (λ script. option_map (Render script) (options_with values))
    (only (values (codes "operand")))

abbrev pub info_with : (Text → List Text) → Option Command
info_with values = option_map Info (only (values (codes "operand")))

abbrev pub self_test_with : (Text → List Text) → Option Command
self_test_with values =
    option_map SelfTest (option_and_then (number_in 0 4294967295) (only (values (codes "operand"))))

-- two names, and a cache
abbrev pub cached_with : (Text → List Text) → Option (Text × Text × Option ℕ)
cached_with values = option_and_then (λ names. option_map (λ cache. (names.0, names.1, cache))
    (number_among 1 256 (values (codes "cache"))))
    (both (values (codes "operand")))

abbrev pub session_with : (Text → List Text) → Option Command
session_with values = option_map (λ given. Session given.0 given.1 given.2) (cached_with values)

abbrev pub replay_with : (Text → List Text) → Option Command
replay_with values = option_map (λ given. Replay given.0 given.1 given.2) (cached_with values)

abbrev pub render_options : Options
render_options = (codes "cache", true) ∷ (codes "threads", true) ∷ (codes "plain", false) ∷ (codes "report", false)
    ∷ (codes "journal", false) ∷ []

abbrev pub cached_options : Options
cached_options = (codes "cache", true) ∷ []

-- the options of the command of this name, and what the values of each name ask for
abbrev pub named : Text → Option (Options × ((Text → List Text) → Option Command))
named name = if bytes_eq name (codes "render") then Some (render_options, render_with)
    else if bytes_eq name (codes "info") then Some ([], info_with)
    else if bytes_eq name (codes "selftest") then Some ([], self_test_with)
    else if bytes_eq name (codes "session") then Some (cached_options, session_with)
    else if bytes_eq name (codes "replay") then Some (cached_options, replay_with)
    else None

-- ---- the words

abbrev pub command_by : Option (Options × ((Text → List Text) → Option Command)) → List Text → Option Command
command_by None words = None
command_by (Some command) words = option_and_then (λ given. command.1 (values_of given)) (given_by command.0 words)

-- what the words after the program's name ask for, or None where they break the rules
abbrev pub command_in : List Text → Option Command
command_in [] = None
command_in (name ∷ words) = command_by (named name) words
