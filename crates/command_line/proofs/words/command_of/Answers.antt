-- What `clap` makes of the words is what they ask for.
use Rattle.std.proofs.Common.{◌≡◌, ◌∙◌, [], inl, inr, ap, ap₂, sym, subst, map}
use Rattle.std.proofs.lemmas.Result.{IfOk-weaker}
use Rattle.clap.specs.Kinds.{HasKind}
use Rattle.clap.specs.Values.{kind_of}
use Rattle.clap.specs.declared.error.kind.ErrorKind.TheVariants.{OutOfMemory}
use Rattle.clap.specs.Faults.{fault_of, is_simple_and_free}
use Rattle.clap.specs.Simple.{app_of, is_simple, subcommand_of, subcommand_rows_of}
use Rattle.command_line.specs.Parser.{command_of_rows, parser_app}
use Rattle.command_line.proofs.CommandLemmas.{agrees}
use Rattle.command_line.proofs.words.command_of.Goals as goal

pub returns-in-Ok : goal.returns-in-Ok
returns-in-Ok c =
    let words = c.args.words.now in
    let app_is : app_of c.in_ok-parser.field-0 ≡ parser_app = c.in_ok-parser.ensures in
    let words_are : map (λ text. text.now) c.as_slice.result.now ≡ words = ap (map (λ text. text.now)) c.as_slice.ensures.value ∙ c.in_ok-texts.ensures.texts in
    let fault : fault_of parser_app words ≡ [] = ap₂ fault_of (sym app_is) (sym words_are) ∙ c.in-Ok.ensures.kinds (ap is_simple_and_free app_is) in
    let rows : subcommand_rows_of c.in-Ok.matches ≡ subcommand_of parser_app words = (c.in-Ok.ensures.matches (ap is_simple app_is)).1 ∙ ap₂ subcommand_of app_is words_are in
    IfOk-weaker c.command_from.result _ _ (λ command is. is ∙ ap command_of_rows rows ∙ (agrees words c.in_ok-texts.ensures.utf8).accepted fault) c.command_from.ensures

pub returns : goal.returns
returns c =
    let words = c.args.words.now in
    let app_is : app_of c.in_ok-parser.field-0 ≡ parser_app = c.in_ok-parser.ensures in
    let words_are : map (λ text. text.now) c.as_slice.result.now ≡ words = ap (map (λ text. text.now)) c.as_slice.ensures.value ∙ c.in_ok-texts.ensures.texts in
    let kinds : HasKind (fault_of parser_app words) c.in-Err.error = subst (λ k. HasKind k c.in-Err.error) (ap₂ fault_of app_is words_are) (c.in-Err.ensures.kinds (ap is_simple_and_free app_is)) in
    let other : kind_of c.in-Err.error ≡ OutOfMemory → ⊥ = λ is. c.in_default.not-OutOfMemory (c.kind.ensures ∙ is) in
    sym ((agrees words c.in_ok-texts.ensures.utf8).refused (λ empty. elim (subst (λ k. HasKind k c.in-Err.error) empty kinds) [ inl memory ↦ other memory | inr among ↦ among ]))
