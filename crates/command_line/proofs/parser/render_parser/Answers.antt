-- Each argument adds its rule, and none is global.
use Rattle.std.proofs.Common.{◌≡◌, ◌∙◌, ◌||◌, ap₂, false, codes, IfOk}
use Rattle.std.proofs.lemmas.Result.{IfOk-weaker}
use Rattle.clap.specs.Built.{AddsArg}
use Rattle.clap.specs.Simple.{App, app_of, new_app, with_rule}
use Rattle.clap.specs.Walk.{Rule, rule_of}
use Rattle.clap.specs.declared.builder.arg.Arg.{Arg}
use Rattle.clap.specs.declared.builder.command.Command.{Command}
use Rattle.clap.specs.declared.builder.command.Command.TheViews.{out-Command as fields_of}
use Rattle.command_line.specs.Parser.{operand_rule, valued_rule, flag_rule, render_app}
use Rattle.command_line.proofs.parser.render_parser.Goals as goal

-- `clap` is told this of the command, and none of its arguments is global
record Has (app : App) (parser : Command) : Type 0 where
  told : app_of parser ≡ app
  own : (fields_of parser).has_globals ≡ false

one_more : (old : Command) (a : Arg) (new : Command) (app : App) (rule : Rule) → Has app old → rule_of a ≡ rule → a.global ≡ false → AddsArg old a new → Has (with_rule app rule) new
one_more old a new app rule has is own adds = record {
  told = adds.shape own ∙ ap₂ with_rule has.told is;
  own = adds.globals ∙ ap₂ (λ b c. b || c) has.own own;
}

has_all : (c : goal.After-arg-6) → IfOk c.arg-6.result (Has render_app)
has_all c =
    let none : Has (new_app (codes "render")) c.new.result = record { told = c.new.ensures.app; own = c.new.ensures.local } in
    let one = one_more c.new.result c.operand.result c.in_ok-arg.field-0 _ operand_rule none c.operand.ensures.rule c.operand.ensures.own c.in_ok-arg.ensures in
    let two = one_more c.in_ok-arg.field-0 c.valued.result c.in_ok-arg-2.field-0 _ (valued_rule (codes "cache")) one c.valued.ensures.rule c.valued.ensures.own c.in_ok-arg-2.ensures in
    let three = one_more c.in_ok-arg-2.field-0 c.valued-2.result c.in_ok-arg-3.field-0 _ (valued_rule (codes "threads")) two c.valued-2.ensures.rule c.valued-2.ensures.own c.in_ok-arg-3.ensures in
    let four = one_more c.in_ok-arg-3.field-0 c.flag.result c.in_ok-arg-4.field-0 _ (flag_rule (codes "plain")) three c.flag.ensures.rule c.flag.ensures.own c.in_ok-arg-4.ensures in
    let five = one_more c.in_ok-arg-4.field-0 c.flag-2.result c.in_ok-arg-5.field-0 _ (flag_rule (codes "report")) four c.flag-2.ensures.rule c.flag-2.ensures.own c.in_ok-arg-5.ensures in
    IfOk-weaker c.arg-6.result _ (Has render_app)
    (λ parser adds. one_more c.in_ok-arg-5.field-0 c.flag-3.result parser _ (flag_rule (codes "journal")) five c.flag-3.ensures.rule c.flag-3.ensures.own adds) c.arg-6.ensures

pub returns-clause-app : goal.returns-clause-app
returns-clause-app c = IfOk-weaker c.arg-6.result _ _ (λ parser has. has.told) (has_all c)

pub returns-clause-own : goal.returns-clause-own
returns-clause-own c = IfOk-weaker c.arg-6.result _ _ (λ parser has. has.own) (has_all c)
