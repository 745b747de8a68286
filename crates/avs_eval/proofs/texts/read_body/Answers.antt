-- The functions and the statements of the text are short.
use Rattle.std.proofs.Common.{rules, length, ◌≤◌}
use Rattle.avs_tree.specs.View.{script_view}
use Rattle.avs_values.specs.Values.{text_limit}
use Rattle.avs_eval.proofs.BodyLemmas.{pays_each}
use Rattle.avs_eval.proofs.texts.read_body.Goals as goal

pub define_all-requires : goal.define_all-requires
define_all-requires c =
    let few : length c.as_str.result.now ≤ text_limit = search rules in
    record { short = (pays_each c.as_str.result.now (script_view c.in-Ok.field-0.script) few c.in-Ok.ensures.short).0 }

pub returns-in_ok-define_all-in-Ok-clause-short : goal.returns-in_ok-define_all-in-Ok-clause-short
returns-in_ok-define_all-in-Ok-clause-short c =
    let few : length c.as_str.result.now ≤ text_limit = search rules in
    (pays_each c.as_str.result.now (script_view c.in-Ok.field-0.script) few c.in-Ok.ensures.short).1
