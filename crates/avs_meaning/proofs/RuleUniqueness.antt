-- The rules allow no other outcome than that of the definitions.
use Rattle.std.proofs.Common.{◌≡◌, ◌∙◌, ℕ, zero, suc, ℤ, length, List, Bool, Option, refl}
use Rattle.avs_tree.specs.Tree.{Expr, Args, MethodCalls, Steps, Kind, Arms, Else, Block}
use Rattle.avs_tree.specs.declared.tree.Operator.{Operator}
use Rattle.avs_values.specs.Binding.{Bound}
use Rattle.avs_values.specs.Values.{Text}
use Rattle.avs_values.specs.declared.binding.Given.{Given}
use Rattle.avs_values.specs.declared.value.Value.{Value}
use Rattle.avs_meaning.proofs.LoopLemmas.{turn_of}
use Rattle.avs_meaning.proofs.RuleSteps.{again_of, branched, chosen_block, for_ended, for_unrolled, call_of, paid_effect, choice_of, load_of, while_unrolled, user_called, eval_called, import_called, import_failed, called_too_deep, both_operands_joined, no_truth_joined, truth_grouped}
use Rattle.avs_meaning.proofs.DirectCalls.{apply_direct}
use Rattle.avs_meaning.proofs.TextArguments.{HasForm, has_form}
use Rattle.avs_meaning.specs.Expressions.{Callee, applied, apply, value_of, givens_of, calls_from, steps_from, joined}
use Rattle.avs_meaning.specs.Statements.{Flow, counts, condition, other_of, bounds, effect_of, block_of, body_of}
use Rattle.avs_meaning.specs.Meaning.{context_of}
use Rattle.avs_meaning.specs.State.{Outside, State, Outcome}
use Rattle.avs_meaning.specs.Rules as r

module _ (outside : Outside) where
  mutual
    pub only_gives : {n : ℕ} {here : Text} {s : State} {e : Expr} {out : Outcome Value}
        → r.Gives outside n here s e out → value_of (context_of outside n) here e s ≡ out
    only_gives r.gives_number = refl
    only_gives r.gives_truth = refl
    only_gives r.gives_text = refl
    only_gives (r.gives_variable is) = rw is
    only_gives (r.gives_named_call is call) = rw is (only_calls call)
    only_gives (r.gives_call call) = only_calls call
    only_gives (r.gives_method_calls first rest) = rw (only_gives first) (only_methods rest)
    only_gives (r.receiver_fails first) = rw (only_gives first)
    only_gives (r.gives_negative e) = rw (only_gives e)
    only_gives (r.gives_opposite e) = rw (only_gives e)
    only_gives (r.gives_chain first rest) = rw (only_gives first) (only_chains rest)
    only_gives (r.first_operand_fails first) = rw (only_gives first)
    only_gives (r.gives_comparison left right) = rw (only_gives left, only_gives right)
    only_gives (r.left_operand_fails left) = rw (only_gives left)
    only_gives {n = n} {here = here} {s = s} (r.gives_first_branch {line = line} {c = c} {l = l} {r = r'} test branch) =
        branched outside n here c l r' line s ∙ rw (only_tests test) (only_gives branch)
    only_gives {n = n} {here = here} {s = s} (r.gives_second_branch {line = line} {c = c} {l = l} {r = r'} test branch) =
        branched outside n here c l r' line s ∙ rw (only_tests test) (only_gives branch)
    only_gives {n = n} {here = here} {s = s} (r.condition_fails {line = line} {c = c} {l = l} {r = r'} test) = branched outside n here c l r' line s ∙ rw (only_tests test)
    only_gives (r.gives_group e) = only_gives e

    only_tests : {n line : ℕ} {here : Text} {s : State} {c : Expr} {out : Outcome Bool}
        → r.Tests outside n here s c line out → condition (context_of outside n) here c line s ≡ out
    only_tests (r.condition_tested e) = rw (only_gives e)

    only_chains : {n : ℕ} {here : Text} {s : State} {rest : Steps} {x : Value} {out : Outcome Value}
        → r.Chains outside n here s rest x out → steps_from (context_of outside n) here rest x s ≡ out
    only_chains r.chain_ends = refl
    only_chains (r.chain_goes_on first rest) = rw (only_joins first) (only_chains rest)
    only_chains (r.chain_fails first) = rw (only_joins first)

    only_joins : {n line : ℕ} {here : Text} {s : State} {o : Operator} {x : Value} {e : Expr} {out : Outcome Value}
        → r.Joins outside n here s o x e line out → joined here o line (value_of (context_of outside n) here e) x s ≡ out
    only_joins {n = n} {line = line} {here = here} {s = s} {o = o} {x = x} {e = e} (r.both_operands is right) = both_operands_joined here o line (value_of (context_of outside n) here e) x s is ∙ rw (only_gives right)
    only_joins r.or_holds = refl
    only_joins {n = n} {line = line} {here = here} {s = s} {e = e} (r.or_goes_on test) = truth_grouped here line (value_of (context_of outside n) here e) s ∙ rw (only_tests test)
    only_joins {n = n} {line = line} {here = here} {s = s} {e = e} (r.and_goes_on test) = truth_grouped here line (value_of (context_of outside n) here e) s ∙ rw (only_tests test)
    only_joins r.and_ends = refl
    only_joins {n = n} {line = line} {here = here} {s = s} {o = o} {x = x} {e = e} (r.left_is_no_truth {fault = fault} is wrong) = no_truth_joined here o line (value_of (context_of outside n) here e) x s fault is wrong

    only_methods : {n : ℕ} {here : Text} {s : State} {rest : MethodCalls} {x : Value} {out : Outcome Value}
        → r.CallsMethods outside n here s rest x out → calls_from (context_of outside n) here rest x s ≡ out
    only_methods r.methods_end = refl
    only_methods (r.methods_go_on first rest) = rw (only_calls first) (only_methods rest)
    only_methods (r.method_fails first) = rw (only_calls first)
    only_methods (r.without_arguments rest) = only_methods rest

    only_calls : {n line : ℕ} {here word : Text} {s : State} {before : Option Value} {args : Args} {out : Outcome Value}
        → r.Calls outside n here s before word args line out → call_of outside n here before word args line s ≡ out
    only_calls (r.name_known is list app) = rw (is, only_lists list) (only_applies app)
    only_calls (r.name_unknown is) = rw is
    only_calls (r.arguments_fail is list) = rw (is, only_lists list)

    only_lists : {n : ℕ} {here : Text} {s : State} {args : Args} {before : List Given} {out : Outcome (List Given)}
        → r.Lists outside n here s args before out → givens_of (context_of outside n) here args before s ≡ out
    only_lists r.list_ends = refl
    only_lists (r.list_goes_on first rest) = rw (only_gives first) (only_lists rest)
    only_lists (r.list_fails first) = rw (only_gives first)

    only_applies : {n line : ℕ} {here : Text} {s : State} {c : Callee} {given : List Given} {last : Option Value} {out : Outcome Value}
        → r.Applies outside n here s c given last line out → apply (context_of outside n) c given last here line s ≡ out
    only_applies {n = n} {line = line} {here = here} {s = s} {c = c} {given = given} {last = last} (r.fits {sig = sig} {args = bound} is does) =
        apply_direct (context_of outside n) c given last here line s ∙ rw is (only_performs does (length given) (has_form c given last sig bound is))
    only_applies (r.fits_not is) = rw is

    only_performs : {n line sig : ℕ} {here : Text} {s : State} {c : Callee} {bound : Bound} {out : Outcome Value}
        → r.Performs outside n here s c sig bound line out → (count : ℕ) → HasForm c count bound → applied (context_of outside n) (again_of outside n) c sig bound here line s ≡ out
    only_performs r.performs_plain count form = refl
    only_performs r.performs_clip count form = refl
    only_performs r.performs_filter count form = refl
    only_performs r.performs_set_mode count form = refl
    only_performs r.performs_prefetch count form = refl
    only_performs (r.performs_range is fits known app) count form = rw (is, fits, known) (rw (only_applies app))
    only_performs (r.range_unknown is fits unknown) count form = rw (is, fits, unknown)
    only_performs (r.range_refused is unfit) count form = rw (is, unfit)
    only_performs {line = line} {sig = sig} {here = here} {s = s} {bound = bound} (r.performs_user {n = n} {d = d} body) count form = user_called outside n sig (again_of outside (suc n)) d bound here line s ∙ rw (only_executes body)
    only_performs {line = line} {here = here} {s = s} (r.performs_eval {n = n} {text = text} is load) count form = rw is (eval_called outside n text here line s ∙ only_loads load)
    only_performs {line = line} {here = here} {s = s} (r.performs_import {n = n} {file = file} {text = text} is found load) count form = rw is (import_called outside n file text here line s found ∙ only_loads load)
    only_performs {line = line} {here = here} {s = s} (r.import_fails {n = n} {file = file} {kind = kind} is wrong) count form = rw is (import_failed outside n file kind here line s wrong)
    only_performs {line = line} {sig = sig} {here = here} {s = s} {c = c} {bound = bound} (r.too_deep is) count form = called_too_deep outside (again_of outside zero) c count sig bound here line s is form

    only_loads : {n line : ℕ} {here from text : Text} {s : State} {out : Outcome Value}
        → r.Loads outside n here s from text line out → load_of outside n here from text line s ≡ out
    only_loads (r.load_ends is body) = rw is (only_executes body)
    only_loads (r.load_fails is) = rw is

    pub only_executes : {n : ℕ} {here : Text} {s : State} {body : Block} {x : Value} {out : Outcome Value}
        → r.Executes outside n here s body x out → body_of (context_of outside n) here body x s ≡ out
    only_executes r.body_ends = refl
    only_executes (r.body_goes_on first rest) = rw (only_pays first) (only_executes rest)
    only_executes (r.body_returns first) = rw (only_pays first)
    only_executes (r.body_fails first) = rw (only_pays first)

    only_does_all : {n : ℕ} {here : Text} {s : State} {block : Block} {out : Outcome Flow}
        → r.DoesAll outside n here s block out → block_of (context_of outside n) here block s ≡ out
    only_does_all r.block_ends = refl
    only_does_all (r.block_goes_on first rest) = rw (only_pays first) (only_does_all rest)
    only_does_all (r.block_returns first) = rw (only_pays first)
    only_does_all (r.block_fails first) = rw (only_pays first)

    only_pays : {n line : ℕ} {here : Text} {s : State} {kind : Kind} {out : Outcome Flow}
        → r.Pays outside n here s kind line out → paid_effect outside n here kind line s ≡ out
    only_pays (r.paid is does) = rw is (only_does does)
    only_pays (r.unpaid is) = rw is

    only_does : {n line : ℕ} {here : Text} {s : State} {kind : Kind} {out : Outcome Flow}
        → r.Does outside n here s kind line out → effect_of (context_of outside n) here kind line s ≡ out
    only_does (r.sets_global e) = rw (only_gives e)
    only_does (r.sets_variable e) = rw (only_gives e)
    only_does (r.returns e) = rw (only_gives e)
    only_does (r.evaluates e) = rw (only_gives e)
    only_does (r.branches choice) = only_chooses choice
    only_does {n = n} {line = line} {here = here} {s = s} (r.while_ends {c = c} {body = body} test) = while_unrolled outside n here c body line s ∙ rw (only_tests test)
    only_does {n = n} {line = line} {here = here} {s = s} (r.while_goes_on {c = c} {body = body} test turn rest) = while_unrolled outside n here c body line s ∙ rw (only_tests test, only_turns turn) (only_does rest)
    only_does {n = n} {line = line} {here = here} {s = s} (r.while_returns {c = c} {body = body} test turn) = while_unrolled outside n here c body line s ∙ rw (only_tests test, only_turns turn)
    only_does {n = n} {line = line} {here = here} {s = s} (r.while_turn_fails {c = c} {body = body} test turn) = while_unrolled outside n here c body line s ∙ rw (only_tests test, only_turns turn)
    only_does {n = n} {line = line} {here = here} {s = s} (r.while_test_fails {c = c} {body = body} test) = while_unrolled outside n here c body line s ∙ rw (only_tests test)
    only_does (r.for_starts taken rest) = rw (only_takes taken) (only_counts rest)
    only_does (r.for_numbers_fail taken) = rw (only_takes taken)

    only_chooses : {n line : ℕ} {here : Text} {s : State} {arms : Arms} {other : Else} {out : Outcome Flow}
        → r.Chooses outside n here s arms other line out → choice_of outside n here arms other line s ≡ out
    only_chooses {n = n} {here = here} (r.arm_taken {after = after} {body = body} {other = other} test block) =
        rw (only_tests test) (chosen_block (block_of (context_of outside n) here body after) (other_of (context_of outside n) here other) ∙ only_does_all block)
    only_chooses (r.arm_passed_over test rest) = rw (only_tests test) (only_chooses rest)
    only_chooses (r.arm_test_fails test) = rw (only_tests test)
    only_chooses (r.else_taken block) = only_does_all block
    only_chooses r.nothing_taken = refl

    only_turns : {n line : ℕ} {here : Text} {s : State} {body : Block} {out : Outcome Flow}
        → r.Turns outside n here s body line out → turn_of here line (block_of (context_of outside n) here body) s ≡ out
    only_turns (r.turn_paid is block) = rw is (only_does_all block)
    only_turns (r.turn_unpaid is) = rw is

    only_takes : {n line : ℕ} {here : Text} {s : State} {a z : Expr} {by : Option Expr} {out : Outcome (ℤ × ℤ × ℤ)}
        → r.TakesNumbers outside n here s a z by line out → bounds (context_of outside n) here a z by line s ≡ out
    only_takes (r.step_is_one taken) = only_takes taken
    only_takes (r.takes_numbers first last by) = rw (only_gives first, only_gives last, only_gives by)
    only_takes (r.first_number_fails first) = rw (only_gives first)
    only_takes (r.last_number_fails first last) = rw (only_gives first, only_gives last)

    only_counts : {n line : ℕ} {here word : Text} {s : State} {i last by : ℤ} {body : Block} {out : Outcome Flow}
        → r.Counts outside n here s word i last by body line out
        → counts here s.units word i last by line (block_of (context_of outside n) here body) s ≡ out
    only_counts {n = n} {line = line} {here = here} {word = word} {s = s} {i = i} {last = last} {by = by} {body = body} (r.for_ends is) = for_ended outside n here word last by line body i s is
    only_counts {n = n} {line = line} {here = here} {word = word} {s = s} {i = i} {last = last} {by = by} {body = body} (r.for_goes_on is turn next rest) = for_unrolled outside n here word last by line body i s is ∙ rw (only_turns turn, next) (only_counts rest)
    only_counts {n = n} {line = line} {here = here} {word = word} {s = s} {i = i} {last = last} {by = by} {body = body} (r.for_leaves_range is turn next) = for_unrolled outside n here word last by line body i s is ∙ rw (only_turns turn, next)
    only_counts {n = n} {line = line} {here = here} {word = word} {s = s} {i = i} {last = last} {by = by} {body = body} (r.for_returns is turn) = for_unrolled outside n here word last by line body i s is ∙ rw (only_turns turn)
    only_counts {n = n} {line = line} {here = here} {word = word} {s = s} {i = i} {last = last} {by = by} {body = body} (r.for_turn_fails is turn) = for_unrolled outside n here word last by line body i s is ∙ rw (only_turns turn)
    only_counts {n = n} {line = line} {here = here} {word = word} {s = s} {i = i} {last = last} {by = by} {body = body} (r.for_advance_fails is turn next) = for_unrolled outside n here word last by line body i s is ∙ rw (only_turns turn, next)
