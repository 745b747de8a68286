-- The verdict on tokens is right.
use Rattle.std.proofs.Common.{◌≡◌, refl, sym, ap, subst, ◌∙◌, ℕ, zero, suc, inl, inr, [], ◌∷◌, ◌++◌, length, ◌<◌, ◌≤◌, arith, Some, true, false, nat_le, append_assoc}
use Rattle.std.proofs.lemmas.Bool.Decides.{nat_tests}
use Rattle.avs_tree.specs.Lexeme.{Lexeme, Lexemes, is_punctuation}
use Rattle.avs_tree.specs.Tree.{Script}
use Rattle.avs_tree.specs.Grammar.{IsScript, statements_of, script_nesting, nesting_limit}
use Rattle.avs_tree.specs.Machine.{operand, statement_next, in_expression, parenthesis_next, braces_next, after_arm, after_else, after_global, after_global_name, after_for, for_opened, after_for_name, after_function, after_function_name, head_opened, after_type, after_parameter, parameter_next, function_braces_next, State, at, at_head, start, Step, stuck, goes, whole, advance, level_of}
use Rattle.avs_tree.specs.Place.{Verdict, accepts, stops, too_deep, alone, go_on, run, verdict, BeginsWithin, IsWord, IsWithin, Answers}
use Rattle.avs_tree.proofs.Tokens.{in_if}
use Rattle.avs_tree.proofs.Forward.{if_true, some_token}
use Rattle.avs_tree.proofs.ForwardScript.{FormedState, on_advance, used_past}
use Rattle.avs_tree.proofs.BackwardScript.{back_advance}
use Rattle.avs_tree.proofs.FormedScript.{FormedStep, formed_advance}
use Rattle.avs_tree.proofs.Completions.{some_completion}
use Rattle.avs_tree.proofs.OneToken.{same_advance}
use Rattle.avs_tree.proofs.Deep.{completion_deep}
use Rattle.avs_tree.proofs.FitsScript.{FitsState, FitsStep, fits_advance}
use Rattle.avs_tree.proofs.Shallow.{Within, MayOpen, some_shallow}
use Rattle.avs_tree.proofs.LowWords.{LowStep, Few, low_word}
use Rattle.avs_tree.proofs.WordSteps.{NeedsParenthesis, WordStep, word_before, word_advance}
use Rattle.avs_tree.proofs.ScriptMeaning.{all_items, Completion, AfterStep, Used}

some_levels : 0 < nesting_limit
some_levels = omega arith

abbrev InLimit : Type 0
InLimit = Within nesting_limit some_levels

-- What was read from a state on is within the limit.
data WithinFrom (state : State) : Lexemes → Type 0 where
  begins_at_once : {seen : Lexemes} (w : InLimit) (more : Lexemes) → Completion w.0 state (seen ++ more) → WithinFrom state seen
  begins_before_word : {seen : Lexemes} (before : Lexemes) (t : Lexeme) (w : InLimit) (more : Lexemes) → seen ≡ before ++ t ∷ [] → IsWord (Some t.0) → Completion w.0 state (before ++ more) → WithinFrom state seen
  nothing_but : {seen : Lexemes} → seen ≡ [] → NeedsParenthesis state → WithinFrom state seen

-- The same of what may come in a state as `StopsAt` says of tokens.
record Stops (state : State) (ts : Lexemes) (left : ℕ) : Type 0 where
  seen : Lexemes
  token : Lexeme
  rest : Lexemes
  cut : ts ≡ seen ++ token ∷ rest
  place : left ≡ suc (length rest)
  tree : Script
  more : Lexemes
  begins : Completion tree state (seen ++ more)
  stays_within : WithinFrom state seen
  ends : (more : Lexemes) (tree : Script) → Completion tree state (seen ++ token ∷ more) → ⊥

-- The same as `DeepAt` says of tokens.
record Deep (state : State) (ts : Lexemes) (left : ℕ) : Type 0 where
  seen : Lexemes
  token : Lexeme
  rest : Lexemes
  cut : ts ≡ seen ++ token ∷ rest
  place : left ≡ suc (length rest)
  tree : Script
  more : Lexemes
  begins : Completion tree state (seen ++ token ∷ more)
  stays_within : WithinFrom state seen
  opens : IsWord (Some token.0) → ⊥
  deep : (more : Lexemes) (tree : Script) → Completion tree state (seen ++ token ∷ more) → nesting_limit < script_nesting tree

abbrev Right : State → Lexemes → Verdict → Type 0
Right state ts (accepts tree) = Completion tree state ts × (script_nesting tree ≤ nesting_limit)
Right state ts (stops zero) = (tree : Script) × (more : Lexemes) × Completion tree state (ts ++ more)
Right state ts (stops (suc n)) = Stops state ts (suc n)
Right state ts (too_deep n) = Deep state ts n

within : (a b : ℕ) → nat_le a b ≡ false → b < a
within a b h = grind (arith, nat_tests)

below : (a b : ℕ) → nat_le a b ≡ true → a ≤ b
below a b h = grind (arith, nat_tests)

inside : (a b : ℕ) → a ≤ b → nat_le a b ≡ true
inside a b h = grind (arith, nat_tests)

abbrev FitsIn : State → Type 0
FitsIn state = FitsState nesting_limit some_levels state

start_with : (state : State) → FitsIn state → MayOpen nesting_limit some_levels state → WithinFrom state []
start_with state fits may = let one = some_shallow nesting_limit some_levels state may fits in begins_at_once one.0 one.1 one.2

-- nothing was read
nothing_read : (state : State) → FitsIn state → WithinFrom state []
nothing_read (at statement_next line ss ls) fits = start_with (at statement_next line ss ls) fits tt
nothing_read (at (in_expression use_ now fs) line ss ls) fits = start_with (at (in_expression use_ now fs) line ss ls) fits tt
nothing_read (at (parenthesis_next u) line ss ls) fits = nothing_but refl tt
nothing_read (at (braces_next o) line ss ls) fits = start_with (at (braces_next o) line ss ls) fits tt
nothing_read (at (after_arm arms) line ss ls) fits = start_with (at (after_arm arms) line ss ls) fits tt
nothing_read (at (after_else arms) line ss ls) fits = start_with (at (after_else arms) line ss ls) fits tt
nothing_read (at after_global line ss ls) fits = start_with (at after_global line ss ls) fits tt
nothing_read (at (after_global_name y) line ss ls) fits = start_with (at (after_global_name y) line ss ls) fits tt
nothing_read (at after_for line ss ls) fits = nothing_but refl tt
nothing_read (at for_opened line ss ls) fits = start_with (at for_opened line ss ls) fits tt
nothing_read (at (after_for_name y) line ss ls) fits = start_with (at (after_for_name y) line ss ls) fits tt
nothing_read (at_head here line ss gs) fits = start_with (at_head here line ss gs) fits tt

few : (state : State) → FitsIn state → Few nesting_limit state
few (at here line ss ls) (f, b, h) = omega (arith, b)
few (at_head here line ss gs) h = tt

module _ (state : State) (formed : FormedState state) (fits : FitsIn state) (t : Lexeme) (ts : Lexemes) where
  abbrev Word : Step → Type 0
  Word step = WordStep (MayOpen nesting_limit some_levels state) (Some t.0) step

  -- what the token does, before any other tokens
  forth : (tree : Script) (x : Step) (us : Lexemes) → advance state (t ∷ ts) ≡ x → Completion tree state (t ∷ us) → AfterStep tree x (t ∷ us)
  forth tree x us is h = subst (λ z. AfterStep tree z (t ∷ us)) (same_advance t us ts state ∙ is) (on_advance tree state (t ∷ us) formed h)

  back : (tree : Script) (x : Step) (us : Lexemes) → advance state (t ∷ ts) ≡ x → AfterStep tree x (t ∷ us) → Completion tree state (t ∷ us)
  back tree x us is h = back_advance tree state (t ∷ us) (subst (λ z. AfterStep tree z (t ∷ us)) (sym (same_advance t us ts state ∙ is)) h)

  one_back : (next : State) (seen : Lexemes) → advance state (t ∷ ts) ≡ goes next → Word (goes next) → WithinFrom next seen → WithinFrom state (t ∷ seen)
  one_back next seen is word (begins_at_once w more h) = begins_at_once w more (back w.0 (goes next) (seen ++ more) is h)
  one_back next seen is word (begins_before_word before t' w more same is' h) = begins_before_word (t ∷ before) t' w more (ap (λ z. t ∷ z) same) is' (back w.0 (goes next) (before ++ more) is h)
  one_back next seen is word (nothing_but none needs) =
      let both = word_before (MayOpen nesting_limit some_levels state) (Some t.0) next needs word in
      let one = some_shallow nesting_limit some_levels state both.1 fits in
      begins_before_word [] t one.0 one.1 (ap (λ z. t ∷ z) none) both.0 one.2

  one_more : (next : State) (v : Verdict) → advance state (t ∷ ts) ≡ goes next → Word (goes next) → Right next ts v → Right state (t ∷ ts) v
  one_more next (accepts tree) is word (h, low) = (back tree (goes next) ts is h, low)
  one_more next (stops zero) is word (tree, more, h) = (tree, more, back tree (goes next) (ts ++ more) is h)
  one_more next (stops (suc n)) is word h = record {
    seen = t ∷ h.seen;
    token = h.token;
    rest = h.rest;
    cut = ap (λ z. t ∷ z) h.cut;
    place = h.place;
    tree = h.tree;
    more = h.more;
    begins = back h.tree (goes next) (h.seen ++ h.more) is h.begins;
    stays_within = one_back next h.seen is word h.stays_within;
    ends = λ more tree c. h.ends more tree (forth tree (goes next) (h.seen ++ h.token ∷ more) is c);
  }
  one_more next (too_deep n) is word h = record {
    seen = t ∷ h.seen;
    token = h.token;
    rest = h.rest;
    cut = ap (λ z. t ∷ z) h.cut;
    place = h.place;
    tree = h.tree;
    more = h.more;
    begins = back h.tree (goes next) (h.seen ++ h.token ∷ h.more) is h.begins;
    stays_within = one_back next h.seen is word h.stays_within;
    opens = h.opens;
    deep = λ more tree c. h.deep more tree (forth tree (goes next) (h.seen ++ h.token ∷ more) is c);
  }

  deep_here : (next : State) → advance state (t ∷ ts) ≡ goes next → nesting_limit < level_of next → Right state (t ∷ ts) (too_deep (suc (length ts)))
  deep_here next is far = let some = some_completion next in record {
    seen = [];
    token = t;
    rest = ts;
    cut = refl;
    place = refl;
    tree = some.0;
    more = some.1;
    begins = back some.0 (goes next) some.1 is some.2;
    stays_within = nothing_read state fits;
    opens = λ word. let low : LowStep nesting_limit (goes next) = subst (LowStep nesting_limit) is (low_word nesting_limit t ts state (few state fits) word) in omega arith;
    deep = λ more tree c. let low = completion_deep tree next more (forth tree (goes next) more is c) in omega arith;
  }

  refused_here : advance state (t ∷ ts) ≡ stuck → Right state (t ∷ ts) (stops (suc (length ts)))
  refused_here is = let some = some_completion state in record {
    seen = [];
    token = t;
    rest = ts;
    cut = refl;
    place = refl;
    tree = some.0;
    more = some.1;
    begins = some.2;
    stays_within = nothing_read state fits;
    ends = λ more tree c. forth tree stuck more is c;
  }

  ended : (b : Script) (us : Lexemes) → script_nesting b ≤ nesting_limit → ts ≡ us → advance state (t ∷ ts) ≡ whole b → Right state (t ∷ us) (alone b us)
  ended b [] low same is = (back b (whole b) [] is (refl, refl), low)
  ended b (u ∷ us) low same is = record {
    seen = t ∷ [];
    token = u;
    rest = us;
    cut = refl;
    place = refl;
    tree = b;
    more = [];
    begins = back b (whole b) [] is (refl, refl);
    stays_within = begins_at_once (b, low) [] (back b (whole b) [] is (refl, refl));
    ends = λ more tree c. let last = forth tree (whole b) (u ∷ more) is c in absurd (cc (last.0));
  }

  right_by : (x : Step) → advance state (t ∷ ts) ≡ x → FormedStep x → FitsStep nesting_limit some_levels x → Word x → ((next : State) → FormedState next → FitsIn next → Right next ts (run next ts))
      → Right state (t ∷ ts) (go_on x ts (λ next. run next ts))
  right_by stuck is f g word go = refused_here is
  right_by (goes next) is f g word go =
      in_if (Right state (t ∷ ts)) (nat_le (level_of next) nesting_limit) (run next ts) (too_deep (suc (length ts)))
      (λ low. one_more next (run next ts) is word (go next f (g (below (level_of next) nesting_limit low)))) (λ far. deep_here next is (within (level_of next) nesting_limit far))
  right_by (whole b) is f g word go = ended b ts g refl is

right : (ts : Lexemes) (state : State) → FormedState state → FitsIn state → Right state ts (run state ts)
right [] state formed fits = let some = some_completion state in (some.0, some.1, some.2)
right (t ∷ ts) state formed fits =
    right_by state formed fits t ts (advance state (t ∷ ts)) refl (formed_advance state (t ∷ ts) formed) (fits_advance nesting_limit some_levels state (t ∷ ts) fits) (word_advance some_levels state (t ∷ ts)) (right ts)

-- ---- scripts

pub comes : (ts : Lexemes) (tree : Script) → IsScript ts tree → Completion tree start ts
comes ts tree h =
    let same : all_items [] [] h.items ≡ tree = ap (λ z. record { functions = z; statements = statements_of h.items }) h.functions ∙ ap (λ z. record { functions = tree.functions; statements = z }) h.statements in
    (h.start, h.blank, (h.items, h.end, h.derived, h.ended, same))

is_script : (ts : Lexemes) (tree : Script) → Completion tree start ts → IsScript ts tree
is_script ts tree (start_, nls, (items, end, derived, last, same)) =
    record { items = items; functions = ap (λ z. z.functions) same; statements = ap (λ z. z.statements) same; start = start_; end = end; blank = nls; derived = derived; ended = last }

begins_within : (seen more : Lexemes) (w : InLimit) → Completion w.0 start (seen ++ more) → BeginsWithin seen
begins_within seen more w h = record { more = more; tree = w.0; script = is_script (seen ++ more) w.0 h; shallow = w.1 }

is_within : (seen : Lexemes) → WithinFrom start seen → IsWithin seen
is_within seen (begins_at_once w more h) = inl (begins_within seen more w h)
is_within seen (begins_before_word before t w more same is h) = inr (before, t, same, is, begins_within before more w h)
is_within seen (nothing_but none needs) = absurd needs

answers_by : (ts : Lexemes) (v : Verdict) → Right start ts v → Answers ts v
answers_by ts (accepts tree) (h, low) = (is_script ts tree h, low)
answers_by ts (stops zero) (tree, more, h) = record { more = more; tree = tree; script = is_script (ts ++ more) tree h }
answers_by ts (stops (suc n)) h = record {
  seen = h.seen;
  token = h.token;
  rest = h.rest;
  cut = h.cut;
  place = h.place;
  begins = record { more = h.more; tree = h.tree; script = is_script (h.seen ++ h.more) h.tree h.begins };
  within = is_within h.seen h.stays_within;
  ends = λ more tree c. h.ends more tree (comes (h.seen ++ h.token ∷ more) tree c);
}
answers_by ts (too_deep n) h = record {
  seen = h.seen;
  token = h.token;
  rest = h.rest;
  cut = h.cut;
  place = h.place;
  begins = record { more = h.more; tree = h.tree; script = is_script ((h.seen ++ h.token ∷ []) ++ h.more) h.tree (subst (λ z. Completion h.tree start z) (sym (append_assoc h.seen (h.token ∷ []) h.more)) h.begins) };
  within = is_within h.seen h.stays_within;
  opens = h.opens;
  deep = λ more tree c. h.deep more tree (comes (h.seen ++ h.token ∷ more) tree c);
}

pub exact : (ts : Lexemes) → Answers ts (verdict ts)
unfolding verdict
exact ts = answers_by ts (run start ts) (right ts start tt (tt, omega arith, omega arith))

-- ---- what is a script is accepted

pub nothing : (state : State) (tree : Script) → FormedState state → Completion tree state [] → ⊥
unfolding operand is_punctuation
nothing (at statement_next line ss ls) tree formed h = on_advance tree (at statement_next line ss ls) [] formed h
nothing (at (in_expression use_ now fs) line ss ls) tree formed h = some_token (Used tree ls ss line use_) (used_past tree ls ss line use_) now fs formed h
nothing (at (parenthesis_next use_) line ss ls) tree formed h = on_advance tree (at (parenthesis_next use_) line ss ls) [] formed h
nothing (at (braces_next o) line ss ls) tree formed h = on_advance tree (at (braces_next o) line ss ls) [] formed h
nothing (at (after_arm arms) line ss ls) tree formed h = on_advance tree (at (after_arm arms) line ss ls) [] formed h
nothing (at (after_else arms) line ss ls) tree formed h = on_advance tree (at (after_else arms) line ss ls) [] formed h
nothing (at after_global line ss ls) tree formed h = on_advance tree (at after_global line ss ls) [] formed h
nothing (at (after_global_name y) line ss ls) tree formed h = on_advance tree (at (after_global_name y) line ss ls) [] formed h
nothing (at after_for line ss ls) tree formed h = on_advance tree (at after_for line ss ls) [] formed h
nothing (at for_opened line ss ls) tree formed h = on_advance tree (at for_opened line ss ls) [] formed h
nothing (at (after_for_name y) line ss ls) tree formed h = on_advance tree (at (after_for_name y) line ss ls) [] formed h
nothing (at_head after_function line ss gs) tree formed h = on_advance tree (at_head after_function line ss gs) [] formed h
nothing (at_head (after_function_name y) line ss gs) tree formed h = on_advance tree (at_head (after_function_name y) line ss gs) [] formed h
nothing (at_head (head_opened y) line ss gs) tree formed h = on_advance tree (at_head (head_opened y) line ss gs) [] formed h
nothing (at_head (after_type y ps must word) line ss gs) tree formed h = on_advance tree (at_head (after_type y ps must word) line ss gs) [] formed h
nothing (at_head (after_parameter y ps must) line ss gs) tree formed h = on_advance tree (at_head (after_parameter y ps must) line ss gs) [] formed h
nothing (at_head (parameter_next y ps must) line ss gs) tree formed h = on_advance tree (at_head (parameter_next y ps must) line ss gs) [] formed h
nothing (at_head (function_braces_next y ps) line ss gs) tree formed h = on_advance tree (at_head (function_braces_next y ps) line ss gs) [] formed h

last_token : (tree b : Script) (ts : Lexemes) → ts ≡ [] → b ≡ tree → alone b ts ≡ accepts tree
last_token tree b ts none same = subst (λ z. alone b z ≡ accepts tree) (sym none) (ap accepts same)

accepted_by : (tree : Script) (x : Step) (t : Lexeme) (ts : Lexemes) → script_nesting tree ≤ nesting_limit → FormedStep x → AfterStep tree x (t ∷ ts) → ((next : State) → FormedState next → Completion tree next ts → run next ts ≡ accepts tree)
    → go_on x ts (λ next. run next ts) ≡ accepts tree
accepted_by tree stuck t ts low f h go = absurd h
accepted_by tree (goes next) t ts low f h go =
    let deep = completion_deep tree next ts h in
    if_true (λ z. z ≡ accepts tree) (nat_le (level_of next) nesting_limit) (run next ts) (too_deep (suc (length ts))) (inside (level_of next) nesting_limit (omega arith)) (go next f h)
accepted_by tree (whole b) t ts low f (none, same) go = last_token tree b ts none same

accepted_from : (ts : Lexemes) (tree : Script) → script_nesting tree ≤ nesting_limit → (state : State) → FormedState state → Completion tree state ts → run state ts ≡ accepts tree
accepted_from [] tree low state formed h = absurd (nothing state tree formed h)
accepted_from (t ∷ ts) tree low state formed h = accepted_by tree (advance state (t ∷ ts)) t ts low (formed_advance state (t ∷ ts) formed) (on_advance tree state (t ∷ ts) formed h) (accepted_from ts tree low)

pub accepted : (ts : Lexemes) (tree : Script) → IsScript ts tree → script_nesting tree ≤ nesting_limit → verdict ts ≡ accepts tree
unfolding verdict
accepted ts tree h low = accepted_from ts tree low start tt (comes ts tree h)
