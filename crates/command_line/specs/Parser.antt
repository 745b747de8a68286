-- The command line as `clap` sees it, and what its matches ask for.
use Rattle.std.specs.Prelude.{true, List, [], ◌∷◌, fold, map, Option, Some, option_map, option_and_then, unwrap_or, codes}
use Rattle.std.specs.Borrow.{Bor}
use Rattle.clap.specs.Walk.{Row, Rule, all_of, with_values}
use Rattle.clap.specs.Simple.{App, Shape, new_app, new_rule, on_top, with_rule, with_subcommand}
use Rattle.clap.specs.declared.builder.action.ArgAction.TheVariants.{Append}
use Rattle.clap.specs.declared.builder.value_parser.Reading.TheVariants as reading
use Rattle.clap.specs.declared.parser.matches.ValueSource.TheVariants.{CommandLine}
use Rattle.command_line.specs.declared.command.Command.{Command}
use Rattle.command_line.specs.Command.{Text, Given, named}

-- ---- the declaration

abbrev pub operand_rule : Rule
operand_rule = record (new_rule (codes "operand")) { action = Some Append }

abbrev pub valued_rule : Text → Rule
valued_rule name = record (new_rule name) { long = Some name; action = Some Append }

abbrev pub flag_rule : Text → Rule
flag_rule name = record (new_rule name) {
  long = Some name;
  action = Some Append;
  range = Some (record { start_inclusive = 0; end_inclusive = 0 });
  missing = codes "true" ∷ [];
}

abbrev pub render_app : App
render_app = with_rule (with_rule (with_rule (with_rule (with_rule (with_rule (new_app (codes "render")) operand_rule)
    (valued_rule (codes "cache"))) (valued_rule (codes "threads"))) (flag_rule (codes "plain")))
    (flag_rule (codes "report"))) (flag_rule (codes "journal"))

abbrev pub operand_app : Text → App
operand_app name = with_rule (new_app name) operand_rule

abbrev pub cached_app : Text → App
cached_app name = with_rule (operand_app name) (valued_rule (codes "cache"))

abbrev pub with_settings : Shape → Shape
with_settings s = record s {
  no_binary_name = true;
  disable_help_flag = true;
  disable_help_subcommand = true;
  disable_version_flag = true;
  subcommand_required = true;
}

abbrev pub settings_app : App
settings_app = on_top with_settings (new_app (codes "avsserve"))

abbrev pub parser_app : App
parser_app = with_subcommand (with_subcommand (with_subcommand (with_subcommand (with_subcommand settings_app
    render_app.top) (operand_app (codes "info")).top) (operand_app (codes "selftest")).top)
    (cached_app (codes "session")).top) (cached_app (codes "replay")).top

-- ---- the matches

-- the texts of values, where there are some
abbrev pub texts_of : Option (Bor (List (Bor Text))) → List Text
texts_of values = unwrap_or (option_map (λ s. map (λ value. value.now) s.now) values) []

-- the values of a name, in order
abbrev pub values_in : List Row → Text → List Text
values_in rows name = unwrap_or (all_of name rows) []

-- what the name of a subcommand and its matches ask for
abbrev pub command_of_rows : Option (Text × List Row) → Option Command
command_of_rows met = option_and_then (λ one. option_and_then (λ command. command.1 (values_in one.1)) (named one.0)) met

-- one more name with a value
abbrev pub with_one : List Row → Text × Text → List Row
with_one rows one = with_values one.0 reading.AsWritten CommandLine (one.1 ∷ []) rows

-- the matches of what was given
abbrev pub rows_by : Given → List Row
rows_by given = fold with_one [] given
