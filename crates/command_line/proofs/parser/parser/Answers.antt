-- Each subcommand adds its shape.
use Rattle.std.proofs.Common.{◌≡◌, ◌∙◌, ap, ap₂, false, codes}
use Rattle.std.proofs.lemmas.Result.{IfOk-weaker}
use Rattle.clap.specs.Built.{AddsSubcommand}
use Rattle.clap.specs.Simple.{App, app_of, with_subcommand}
use Rattle.clap.specs.declared.builder.command.Command.{Command}
use Rattle.clap.specs.declared.builder.command.Command.TheViews.{out-Command as fields_of}
use Rattle.command_line.specs.Parser.{cached_app, operand_app, render_app}
use Rattle.command_line.proofs.parser.parser.Goals as goal

one_more : (old sub new : Command) (app below : App) → app_of old ≡ app → app_of sub ≡ below → (fields_of sub).has_globals ≡ false → AddsSubcommand old sub new → app_of new ≡ with_subcommand app below.top
one_more old sub new app below is told own adds = adds.shape own ∙ ap₂ with_subcommand is (ap (λ (a : App). a.top) told)

pub returns : goal.returns
returns c =
    let render = one_more c.plain_parser.result c.in_ok-render_parser.field-0 c.in_ok-subcommand.field-0 _ render_app c.plain_parser.ensures c.in_ok-render_parser.ensures.app c.in_ok-render_parser.ensures.own c.in_ok-subcommand.ensures in
    let info = one_more c.in_ok-subcommand.field-0 c.in_ok-operand_parser.field-0 c.in_ok-subcommand-2.field-0 _ (operand_app (codes "info")) render c.in_ok-operand_parser.ensures.app c.in_ok-operand_parser.ensures.own c.in_ok-subcommand-2.ensures in
    let test = one_more c.in_ok-subcommand-2.field-0 c.in_ok-operand_parser-2.field-0 c.in_ok-subcommand-3.field-0 _ (operand_app (codes "selftest")) info c.in_ok-operand_parser-2.ensures.app c.in_ok-operand_parser-2.ensures.own c.in_ok-subcommand-3.ensures in
    let session = one_more c.in_ok-subcommand-3.field-0 c.in_ok-cached_parser.field-0 c.in_ok-subcommand-4.field-0 _ (cached_app (codes "session")) test c.in_ok-cached_parser.ensures.app c.in_ok-cached_parser.ensures.own c.in_ok-subcommand-4.ensures in
    IfOk-weaker c.subcommand-5.result _ _
    (λ parser adds. one_more c.in_ok-subcommand-4.field-0 c.in_ok-cached_parser-2.field-0 parser _ (cached_app (codes "replay")) session c.in_ok-cached_parser-2.ensures.app c.in_ok-cached_parser-2.ensures.own adds) c.subcommand-5.ensures
