-- The verdict is right.
use Rattle.std.proofs.Common.{sym}
use Rattle.avs_tree.specs.Lexeme.{lexemes}
use Rattle.avs_tree.specs.View.{script_view}
use Rattle.avs_tree.specs.Place.{StopsAt, DeepAt}
use Rattle.avs_parse.proofs.PlaceLemmas.{tree_of, deep_of, list_stop, stop_some, deep_some, stop_within, deep_within, numbered, no_tree_stop, no_tree_deep}
use Rattle.avs_parse.proofs.script.told.Goals as goal

pub place-token-requires-clause-some : goal.place-token-requires-clause-some
place-token-requires-clause-some c =
    let ts = lexemes c.args.text.now c.args.tokens.now in
    let is = sym (rw c.in-Stops.is at c.requires.verdict) in
    (stop_some ts c.in-Stops.left (list_stop c.args.text.now c.args.tokens.now c.in-Stops.left c.requires.list is)).0

pub place-token-requires-clause-within : goal.place-token-requires-clause-within
place-token-requires-clause-within c =
    let is = sym (rw c.in-Stops.is at c.requires.verdict) in
    stop_within c.args.text.now c.args.tokens.now c.in-Stops.left (list_stop c.args.text.now c.args.tokens.now c.in-Stops.left c.requires.list is)

pub place-token-requires-in-TooDeep-clause-some : goal.place-token-requires-in-TooDeep-clause-some
place-token-requires-in-TooDeep-clause-some c =
    let ts = lexemes c.args.text.now c.args.tokens.now in
    let is = sym (rw c.in-TooDeep.is at c.requires.verdict) in
    (deep_some ts c.in-TooDeep.left (deep_of ts c.in-TooDeep.left is)).0

pub place-token-requires-in-TooDeep-clause-within : goal.place-token-requires-in-TooDeep-clause-within
place-token-requires-in-TooDeep-clause-within c =
    let ts = lexemes c.args.text.now c.args.tokens.now in
    let is = sym (rw c.in-TooDeep.is at c.requires.verdict) in
    deep_within c.args.text.now c.args.tokens.now c.in-TooDeep.left (deep_of ts c.in-TooDeep.left is)

pub returns-in-Accepts-clause-tree : goal.returns-in-Accepts-clause-tree
returns-in-Accepts-clause-tree c =
    let is = sym (rw c.in-Accepts.is at c.requires.verdict) in
    tree_of (lexemes c.args.text.now c.args.tokens.now) (script_view c.in-Accepts.script) is

pub returns-in-Stops-clause-place : goal.returns-in-Stops-clause-place
returns-in-Stops-clause-place c =
    let is = sym (rw c.in-Stops.is at c.requires.verdict) in
    let stop = list_stop c.args.text.now c.args.tokens.now c.in-Stops.left c.requires.list is in
    numbered c.args.text.now c.args.tokens.now StopsAt c.in-Stops.left c.place-token.result.0 (stop_within c.args.text.now c.args.tokens.now c.in-Stops.left stop) c.place-token.ensures.token stop

pub returns-in-Stops-clause-fault : goal.returns-in-Stops-clause-fault
returns-in-Stops-clause-fault c =
    let is = sym (rw c.in-Stops.is at c.requires.verdict) in
    no_tree_stop (lexemes c.args.text.now c.args.tokens.now) c.in-Stops.left (list_stop c.args.text.now c.args.tokens.now c.in-Stops.left c.requires.list is)

pub returns-in-TooDeep-clause-place : goal.returns-in-TooDeep-clause-place
returns-in-TooDeep-clause-place c =
    let is = sym (rw c.in-TooDeep.is at c.requires.verdict) in
    let deep = deep_of (lexemes c.args.text.now c.args.tokens.now) c.in-TooDeep.left is in
    numbered c.args.text.now c.args.tokens.now DeepAt c.in-TooDeep.left c.place-token-in-TooDeep.result.0 (deep_within c.args.text.now c.args.tokens.now c.in-TooDeep.left deep) c.place-token-in-TooDeep.ensures.token deep

pub returns-in-TooDeep-clause-fault : goal.returns-in-TooDeep-clause-fault
returns-in-TooDeep-clause-fault c =
    let is = sym (rw c.in-TooDeep.is at c.requires.verdict) in
    no_tree_deep (lexemes c.args.text.now c.args.tokens.now) c.in-TooDeep.left (deep_of (lexemes c.args.text.now c.args.tokens.now) c.in-TooDeep.left is)
