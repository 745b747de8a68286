-- Each source of a plan that a run makes is a file that is a clip.
use Rattle.std.proofs.Common.{◌≡◌, refl, ℕ, zero, suc, ℤ, List, [], ◌∷◌, ◌++◌, Bool, true, false, ◌&&◌, Option, Some, None, Result, Ok, Err, if◌then◌else◌, nat_le, nat_lt, length, slice_get, ◌+ℤ◌, map, nat_eq}
use Rattle.fv_plane.specs.declared.format.Info.{Info}
use Rattle.fv_plane.specs.Refusals.{first_fault}
use Rattle.avs_tree.specs.Tree.{Loaded, NoTree, Function, Expr, int, bool, str, name, call, method_calls, minus, not_, chain, compare, conditional, group, Args, no_args, arg, MethodCalls, no_method_calls, method, method_call, Steps, no_steps, step, Kind, global, assign, return, if_, while, for, value, Arms, no_arms, arm, Else, no_else, else_, Block, no_more, then_}
use Rattle.avs_tree.specs.declared.tree.Operator.{Operator}
use Rattle.avs_tree.specs.declared.tree.Operator.TheVariants as op
use Rattle.avs_values.specs.Binding.{Bound}
use Rattle.avs_values.specs.Values.{text_limit, Text}
use Rattle.avs_values.specs.Operators.{binary}
use Rattle.avs_values.specs.declared.value.Value.{Value}
use Rattle.avs_values.specs.declared.value.Value.TheVariants as v
use Rattle.clip_term.specs.Blank.{BlankArgs, blank_refusals, blank_info, colour_of, colour_given}
use Rattle.clip_term.specs.Terms.{Act, source, plain, time, space, soft, fields, choice, check}
use Rattle.clip_term.specs.Terms as act
use Rattle.clip_term.specs.Refusals.{nat_of}
use Rattle.clip_term.specs.declared.fault.FilterFault.{FilterFault}
use Rattle.clip_term.specs.declared.filter.Filter.{Filter}
use Rattle.clip_term.specs.declared.filter.Filter.TheVariants as f
use Rattle.clip_term.specs.declared.op.TimeOp.TheVariants as t
use Rattle.clip_graph.specs.declared.graph.TheConstants.Graph.{MAX_NODES, MAX_DEPTH}
use Rattle.clip_graph.specs.Plan.{Application, infos_among, sources_in}
use Rattle.mt_modes.specs.Modes.{is_mode, mode_in, with_setting}
use Rattle.avs_meaning.specs.Arguments as arguments
use Rattle.avs_meaning.specs.Arguments.{Reading}
use Rattle.avs_meaning.specs.Expressions.{told, Caller, ranged_by, call_within, script_by, known, called, may_nest, execute, eval_name, eval, import_, inside, applied, apply_by, apply, apply_last, named, value_of, givens_of, calls_from, steps_from, binary_of, placed, truth, truth_of, combined, joined, loaded_by, load, load_short, Callee, user, builtin, callee, takes, Fit, fit_or_last, unnamed, last_name}
use Rattle.avs_meaning.specs.State.{Context, Numbers, Outside, State, Defined, Outcome, Run, and_then, fails, lifted, pay, spend, find, define_by, define, define_all, Env, variable, lookup}
use Rattle.avs_meaning.specs.Faults.{Fault}
use Rattle.avs_meaning.specs.Filters as filters
use Rattle.avs_meaning.specs.Filters.{info_of, filtered, is_forced, crew_of, set_mode, with_crew, prefetch}
use Rattle.avs_meaning.specs.Meaning.{run, call_limit, below, start, clip_or_not, to_clip, executed, Meaning, clip, wrong, meaning_by, script_meaning, meaning}
use Rattle.avs_meaning.specs.declared.builtin.ClipFn.{ClipFn}
use Rattle.avs_meaning.specs.declared.fault.InputFault.{InputFault}
use Rattle.avs_meaning.specs.declared.fault.ScriptKind.TheVariants as k
use Rattle.avs_values.specs.declared.binding.Given.{Given}
use Rattle.avs_meaning.specs.Statements.{Flow, on, back, go_on, turns, Turn, goes_to, stops, continues, advanced, advance, read_number, number_by, next_number, turned, turn, counts, is_past, condition, step_of, bounds, sets_last, settled, chosen, ends_with, effect_of, arms_of, other_of, block_of, body_of}
use Rattle.avs_meaning.specs.declared.builtin.Builtin.TheVariants as b
use Rattle.avs_meaning.specs.declared.fault.FileKind.{FileKind}

-- what the outside tells
module _ (outside : Outside) where
  -- what a source reads is a clip
  abbrev pub IsFile : Act → Type 0
  IsFile (source file number info) = outside.clips file ≡ Ok info
  IsFile _ = Unit {0}

  abbrev pub AreFiles : List Application → Type 0
  AreFiles [] = Unit {0}
  AreFiles (application ∷ rest) = IsFile application.act × AreFiles rest

  more_files : (plan : List Application) (next : Application) → AreFiles plan → IsFile next.act → AreFiles (plan ++ next ∷ [])
  more_files [] next are is = (is, tt)
  more_files (application ∷ rest) next are is = (are.0, more_files rest next are.1 is)

  -- The sources of the next state's plan are files.
  abbrev pub Has : {X : Type 0} → Outcome X → Type 0
  Has (Ok ended) = AreFiles ended.1.plan
  Has (Err fault) = Unit {0}

  abbrev pub Keeps : {X : Type 0} → Run X → Type 0
  Keeps run = (s : State) → AreFiles s.plan → Has (run s)

  then_keeps : {X Y : Type 0} (o : Outcome X) (next : X → Run Y) → Has o
      → ((x : X) (s : State) → AreFiles s.plan → Has (next x s)) → Has (and_then o next)
  then_keeps (Ok ended) next are later = later ended.0 ended.1 are
  then_keeps (Err fault) next are later = tt

  lifted_keeps : {X : Type 0} (r : Result X Fault) (s : State) → AreFiles s.plan → Has (lifted r s)
  lifted_keeps (Ok x) s are = are
  lifted_keeps (Err fault) s are = tt

  if_keeps : {X : Type 0} (holds : Bool) (x y : Outcome X) → Has x → Has y → Has (if holds then x else y)
  if_keeps true x y first second = first
  if_keeps false x y first second = second

  if_runs : {X : Type 0} (holds : Bool) (x y : Run X) (s : State) → Has (x s) → Has (y s) → Has ((if holds then x else y) s)
  if_runs true x y s first second = first
  if_runs false x y s first second = second

  pay_keeps : (here : Text) (line units : ℕ) (s : State) → AreFiles s.plan → Has (pay units here line s)
  pay_keeps here line zero s are = tt
  pay_keeps here line (suc m) s are = are

  spend_keeps : (here : Text) (line : ℕ) (s : State) → AreFiles s.plan → Has (spend here line s)
  spend_keeps here line s are = pay_keeps here line s.units s are

  -- ---- texts

  define_by_keeps : (o : Option Defined) (function : Function) (here : Text) (s : State) → AreFiles s.plan → Has (define_by o function here s)
  define_by_keeps (Some d) function here s are = tt
  define_by_keeps None function here s are = are

  define_all_keeps : (functions : List Function) (here : Text) (s : State) → AreFiles s.plan → Has (define_all functions here s)
  define_all_keeps [] here s are = are
  define_all_keeps (function ∷ rest) here s are =
      then_keeps (define function here s) _ (define_by_keeps (find function.name s.functions) function here s are) (λ _ t kept. define_all_keeps rest here t kept)

  loaded_keeps : (r : Result Loaded NoTree) (here : Text) (s : State) → AreFiles s.plan → Has (loaded_by r here s)
  loaded_keeps (Err why) here s are = tt
  loaded_keeps (Ok loaded) here s are =
      then_keeps (define_all loaded.tree.functions here s) _ (define_all_keeps loaded.tree.functions here s are) (λ _ t kept. kept)

  load_short_keeps : (from text here : Text) (line : ℕ) (s : State) → AreFiles s.plan → Has (load_short outside from text here line s)
  load_short_keeps from text here line s are = if_runs (nat_le (length text) text_limit) (load outside from text) (fails k.TextLimit here line) s (loaded_keeps (outside.trees text) from s are) tt

  -- ---- filters

  info_by_keeps : (here : Text) (o : Option Application) (line : ℕ) (s : State) → AreFiles s.plan → Has (filters.info_by here o line s)
  info_by_keeps here (Some application) line s are = are
  info_by_keeps here None line s are = tt

  info_of_keeps : (here : Text) (i line : ℕ) (s : State) → AreFiles s.plan → Has (info_of here i line s)
  info_of_keeps here i line s are = info_by_keeps here _ line s are

  add_keeps : (here : Text) (act : Act) (inputs : List ℕ) (info : Info) (mode line : ℕ) (s : State) → IsFile act → AreFiles s.plan → Has (filters.add here act inputs info mode line s)
  add_keeps here act inputs info mode line s is are =
      let next = filters.next_application act inputs info mode s.plan in
      let more : Outcome Value = Ok (v.Clip (length s.plan), record s { plan = s.plan ++ next ∷ [] }) in
      let deep : Outcome Value = fails k.DepthLimit here line s in
      if_keeps (nat_le MAX_NODES (length s.plan)) (fails k.NodeLimit here line s) (if nat_lt MAX_DEPTH next.depth then deep else more) tt (if_keeps (nat_lt MAX_DEPTH next.depth) deep more tt (more_files s.plan next are is))

  add_by_keeps : (here : Text) (r : Result Info FilterFault) (act : Act) (inputs : List ℕ) (mode line : ℕ) (s : State) → IsFile act → AreFiles s.plan → Has (filters.add_by here r act inputs mode line s)
  add_by_keeps here (Ok info) act inputs mode line s is are = add_keeps here act inputs info mode line s is are
  add_by_keeps here (Err fault) act inputs mode line s is are = tt

  made_keeps : (here : Text) (filter : Filter) (act : Act) (inputs : List ℕ) (line : ℕ) (s : State) → IsFile act → AreFiles s.plan → Has (filters.made here filter act inputs line s)
  made_keeps here filter act inputs line s is are =
      if_keeps (filters.are_places inputs s.plan) (filters.add_by here (check act (infos_among s.plan inputs)) act inputs (mode_in s.modes filter) line s) (fails k.TypeFault here line s) (add_by_keeps here (check act (infos_among s.plan inputs)) act inputs _ line s is are) tt

  open_by_keeps : (here : Text) (r : Result Info InputFault) (file : Text) (line : ℕ) (s : State) → outside.clips file ≡ r → AreFiles s.plan → Has (filters.open_by here r file line s)
  open_by_keeps here (Err fault) file line s is are = tt
  open_by_keeps here (Ok info) file line s is are = made_keeps here f.Y4MSource (source file (sources_in s.plan) info) [] line (record s { opened = s.opened ++ record { name = file; info = info } ∷ [] }) is are

  open_source_keeps : (here : Text) (values : List Value) (line : ℕ) (s : State) → AreFiles s.plan → Has (filters.open_source here outside values line s)
  open_source_keeps here (v.Text word ∷ []) line s are = open_by_keeps here (outside.clips word) word line s refl are
  open_source_keeps here _ line s are = tt

  blank_by_keeps : (here : Text) (o : Option FilterFault) (info : Info) (args : BlankArgs) (line : ℕ) (s : State) → AreFiles s.plan → Has (filters.blank_by here o info args line s)
  blank_by_keeps here (Some fault) info args line s are = tt
  blank_by_keeps here None info args line s are = made_keeps here f.BlankClip (plain (blank_info info args) (colour_of (colour_given args))) [] line s tt are

  blank_like_keeps : (here : Text) (info : Info) (args : BlankArgs) (line : ℕ) (s : State) → AreFiles s.plan → Has (filters.blank_like here info args line s)
  blank_like_keeps here info args line s are = blank_by_keeps here (first_fault (blank_refusals info args)) info args line s are

  blank_of_keeps : (here : Text) (clip : Option Value) (args : BlankArgs) (line : ℕ) (s : State) → AreFiles s.plan → Has (filters.blank_of here clip args line s)
  blank_of_keeps here (Some (v.Clip i)) args line s are =
      then_keeps (info_of here i line s) _ (info_of_keeps here i line s are) (λ info t kept. blank_like_keeps here info args line t kept)
  blank_of_keeps here _ args line s are = blank_like_keeps here _ args line s are

  blank_keeps : (here : Text) (sig : ℕ) (values : List Value) (line : ℕ) (s : State) → AreFiles s.plan → Has (filters.blank here sig values line s)
  blank_keeps here zero values line s are = blank_of_keeps here (slice_get values 7) _ line s are
  blank_keeps here (suc sig) values line s are = blank_of_keeps here (slice_get values 0) _ line s are

  applied_by_keeps : (here : Text) (reading : Reading) (filter : Filter) (inputs : List ℕ) (line : ℕ) (s : State) → AreFiles s.plan → Has (filters.applied_by here reading filter inputs line s)
  applied_by_keeps here (Ok (source file number info)) filter inputs line s are = tt
  applied_by_keeps here (Ok (plain info colour)) filter inputs line s are = tt
  applied_by_keeps here (Ok (time o)) filter inputs line s are =
      if_runs (arguments.takes (time o) (length inputs)) (filters.made here filter (time o) inputs line) (fails k.NoMatch here line) s (made_keeps here filter (time o) inputs line s tt are) tt
  applied_by_keeps here (Ok (space o)) filter inputs line s are =
      if_runs (arguments.takes (space o) (length inputs)) (filters.made here filter (space o) inputs line) (fails k.NoMatch here line) s (made_keeps here filter (space o) inputs line s tt are) tt
  applied_by_keeps here (Ok (act.joined o)) filter inputs line s are =
      if_runs (arguments.takes (act.joined o) (length inputs)) (filters.made here filter (act.joined o) inputs line) (fails k.NoMatch here line) s (made_keeps here filter (act.joined o) inputs line s tt are) tt
  applied_by_keeps here (Ok (soft o)) filter inputs line s are =
      if_runs (arguments.takes (soft o) (length inputs)) (filters.made here filter (soft o) inputs line) (fails k.NoMatch here line) s (made_keeps here filter (soft o) inputs line s tt are) tt
  applied_by_keeps here (Ok (fields o)) filter inputs line s are =
      if_runs (arguments.takes (fields o) (length inputs)) (filters.made here filter (fields o) inputs line) (fails k.NoMatch here line) s (made_keeps here filter (fields o) inputs line s tt are) tt
  applied_by_keeps here (Ok (choice o)) filter inputs line s are =
      if_runs (arguments.takes (choice o) (length inputs)) (filters.made here filter (choice o) inputs line) (fails k.NoMatch here line) s (made_keeps here filter (choice o) inputs line s tt are) tt
  applied_by_keeps here (Err kind) filter inputs line s are = tt

  filter_applied_keeps : (here : Text) (trees : Text → Result Loaded NoTree) (filter : Filter) (bound : Bound) (inputs : List ℕ) (line : ℕ) (s : State) → AreFiles s.plan → Has (filters.applied here trees filter bound inputs line s)
  filter_applied_keeps here trees filter bound [] line s are = tt
  filter_applied_keeps here trees filter bound (i ∷ rest) line s are =
      then_keeps (info_of here i line s) _ (info_of_keeps here i line s are) (λ info t kept. applied_by_keeps here _ filter (i ∷ rest) line t kept)

  filtered_keeps : (here : Text) (filter : Filter) (sig : ℕ) (bound : Bound) (line : ℕ) (s : State) → AreFiles s.plan → Has (filtered here outside filter sig bound line s)
  filtered_keeps here f.Y4MSource sig bound line s are = open_source_keeps here bound.values line s are
  filtered_keeps here f.BlankClip sig bound line s are =
      if_runs (arguments.all_fit_filters bound.values) (filters.blank here sig bound.values line) (fails arguments.out_of_range here line) s (blank_keeps here sig bound.values line s are) tt
  filtered_keeps here filter sig bound line s are = filter_applied_keeps here outside.trees filter bound _ line s are

  told_keeps : (here : Text) (function : ClipFn) (values : List Value) (line : ℕ) (s : State) → AreFiles s.plan → Has (told here function values line s)
  told_keeps here function (v.Clip i ∷ []) line s are =
      then_keeps (info_of here i line s) _ (info_of_keeps here i line s are) (λ info t kept. lifted_keeps _ t kept)
  told_keeps here function _ line s are = tt

  -- ---- operators

  combined_keeps : (here : Text) (o : Operator) (line : ℕ) (x y : Value) (s : State) → AreFiles s.plan → Has (combined here o line x y s)
  combined_keeps here op.Plus line (v.Clip i) (v.Clip j) s are = made_keeps here f.UnalignedSplice (time t.UnalignedSplice) (i ∷ j ∷ []) line s tt are
  combined_keeps here op.PlusPlus line (v.Clip i) (v.Clip j) s are = made_keeps here f.AlignedSplice (time t.AlignedSplice) (i ∷ j ∷ []) line s tt are
  combined_keeps here op.PlusPlus line x y s are = tt
  combined_keeps here o line x y s are = lifted_keeps (placed here line (binary (binary_of o) x y)) s are

  truth_of_keeps : (here : Text) (line : ℕ) (operand : Run Value) → Keeps operand → (s : State) → AreFiles s.plan → Has (truth_of here line operand s)
  truth_of_keeps here line operand kept s are =
      then_keeps (operand s) _ (kept s are) (λ y t still. then_keeps (lifted (truth here line y) t) _ (lifted_keeps _ t still) (λ _ w yet. yet))

  joined_keeps : (here : Text) (o : Operator) (line : ℕ) (operand : Run Value) (x : Value) → Keeps operand → (s : State) → AreFiles s.plan → Has (joined here o line operand x s)
  joined_keeps here op.Or line operand x kept s are =
      then_keeps (lifted (truth here line x) s) _ (lifted_keeps _ s are) (λ holds t still. if_runs holds _ _ t still (truth_of_keeps here line operand kept t still))
  joined_keeps here op.And line operand x kept s are =
      then_keeps (lifted (truth here line x) s) _ (lifted_keeps _ s are) (λ holds t still. if_runs holds _ _ t (truth_of_keeps here line operand kept t still) still)
  joined_keeps here o line operand x kept s are = then_keeps (operand s) _ (kept s are) (λ y t still. combined_keeps here o line x y t still)

  -- ---- settings

  set_mode_keeps : (here : Text) (values : List Value) (line : ℕ) (s : State) → AreFiles s.plan → Has (set_mode here values line s)
  set_mode_keeps here (v.Text word ∷ v.Int mode ∷ force ∷ []) line s are =
      if_keeps (is_mode mode) (Ok (v.Undefined, record s { modes = with_setting s.modes (record { name = word; mode = nat_of mode; force = is_forced force }) })) (fails k.ModeRefused here line s) are tt
  set_mode_keeps here _ line s are = tt

  with_crew_keeps : (here : Text) (o : Option Numbers) (i line : ℕ) (s : State) → AreFiles s.plan → Has (with_crew here o i line s)
  with_crew_keeps here (Some crew) i line s are = are
  with_crew_keeps here None i line s are = tt

  prefetch_keeps : (here : Text) (values : List Value) (line : ℕ) (s : State) → AreFiles s.plan → Has (prefetch here values line s)
  prefetch_keeps here (v.Clip i ∷ v.Int threads ∷ frames ∷ []) line s are = with_crew_keeps here (crew_of threads frames) i line s are
  prefetch_keeps here _ line s are = tt

  ranged_keeps : (here : Text) (i : ℕ) (first last : ℤ) (line : ℕ) (x : Value) (s : State) → AreFiles s.plan → Has (filters.ranged here i first last line x s)
  ranged_keeps here i first last line (v.Clip j) s are = made_keeps here f.ApplyRange (time (t.ApplyRange first last)) (i ∷ j ∷ []) line s tt are
  ranged_keeps here i first last line _ s are = tt

  known_keeps : (here : Text) (o : Option Callee) (line : ℕ) (s : State) → AreFiles s.plan → Has (known here o line s)
  known_keeps here (Some c) line s are = are
  known_keeps here None line s are = tt

  called_keeps : (here word : Text) (line : ℕ) (s : State) → AreFiles s.plan → Has (called here word line s)
  called_keeps here word line s are = known_keeps here (callee word s.functions) line s are

  script_keeps : (here : Text) (r : Result Text FileKind) (line : ℕ) (s : State) → AreFiles s.plan → Has (script_by here r line s)
  script_keeps here (Ok text) line s are = are
  script_keeps here (Err kind) line s are = tt

  -- what ApplyRange calls keeps them
  abbrev Calls : Caller → Type 0
  Calls again = (c : Callee) (args : List Given) (here : Text) (line : ℕ) → Keeps (again c args here line)

  ranged_by_keeps : (again : Caller) → Calls again → (values rest : List Value) (here : Text) (line : ℕ) (s : State) → AreFiles s.plan → Has (ranged_by again values rest here line s)
  ranged_by_keeps again kept (v.Clip i ∷ v.Int first ∷ v.Int last ∷ v.Text word ∷ []) rest here line s are =
      if_runs (arguments.is_filter_number first && arguments.is_filter_number last) _ _ s
      (then_keeps (and_then (called here word line s) (λ c. again c (map unnamed (v.Clip i ∷ rest)) here line)) _
      (then_keeps (called here word line s) _ (called_keeps here word line s are) (λ c t still. kept c (map unnamed (v.Clip i ∷ rest)) here line t still))
      (λ x t still. ranged_keeps here i first last line x t still)) tt
  ranged_by_keeps again kept _ rest here line s are = tt

  -- ---- loops, of which the body keeps them

  go_on_keeps : (next : Run Flow) (flow : Flow) → Keeps next → (s : State) → AreFiles s.plan → Has (go_on next flow s)
  go_on_keeps next (on x) kept s are = kept s are
  go_on_keeps next (back x) kept s are = are

  turn_keeps : (here : Text) (line : ℕ) (body : Run Flow) → Keeps body → (s : State) → AreFiles s.plan → Has (and_then (spend here line s) (λ _. body))
  turn_keeps here line body kept s are = then_keeps (spend here line s) _ (spend_keeps here line s are) (λ _ t still. kept t still)

  turns_keep : (here : Text) (k : ℕ) (condition : Run Bool) (line : ℕ) (body : Run Flow) → Keeps condition → Keeps body
      → (s : State) → AreFiles s.plan → Has (turns here k condition line body s)
  turns_keep here zero condition line body tests kept s are =
      then_keeps (condition s) _ (tests s are) (λ holds t still. if_runs holds _ _ t tt still)
  turns_keep here (suc k) condition line body tests kept s are =
      then_keeps (condition s) _ (tests s are) (λ holds t still. if_runs holds _ _ t
      (then_keeps (and_then (spend here line t) (λ _. body)) _ (turn_keeps here line body kept t still)
      (λ flow w yet. go_on_keeps (turns here k condition line body) flow (λ s are. turns_keep here k condition line body tests kept s are) w yet))
      still)

  advanced_keeps : (word : Text) (o : Option ℤ) (s : State) → AreFiles s.plan → Has (advanced word o s)
  advanced_keeps word None s are = are
  advanced_keeps word (Some i) s are = are

  advance_keeps : (here word : Text) (by : ℤ) (line : ℕ) (s : State) → AreFiles s.plan → Has (advance here word by line s)
  advance_keeps here word by line s are =
      then_keeps (read_number here word line s) _ (lifted_keeps (number_by here (variable word s) line) s are) (λ i t kept. advanced_keeps word (next_number (i +ℤ by)) t kept)

  turned_keeps : (here word : Text) (by : ℤ) (line : ℕ) (flow : Flow) (s : State) → AreFiles s.plan → Has (turned here word by line flow s)
  turned_keeps here word by line (on x) s are = then_keeps (advance here word by line s) _ (advance_keeps here word by line s are) (λ _ t kept. kept)
  turned_keeps here word by line (back x) s are = are

  for_turn_keeps : (here word : Text) (i last by : ℤ) (line : ℕ) (body : Run Flow) → Keeps body → (s : State) → AreFiles s.plan → Has (turn here word i last by line body s)
  unfolding turn
  for_turn_keeps here word i last by line body kept s are = if_runs (is_past last by i) _ _ s are
      (then_keeps (and_then (spend here line s) (λ _. body)) _ (turn_keeps here line body kept s are) (λ flow t still. turned_keeps here word by line flow t still))

  continues_keeps : (rest : ℤ → Run Flow) (t : Turn) → ((i : ℤ) → Keeps (rest i)) → (s : State) → AreFiles s.plan → Has (continues rest t s)
  continues_keeps rest (goes_to i) kept s are = kept i s are
  continues_keeps rest (stops flow) kept s are = are

  counts_keep : (here : Text) (k : ℕ) (word : Text) (i last by : ℤ) (line : ℕ) (body : Run Flow) → Keeps body
      → (s : State) → AreFiles s.plan → Has (counts here k word i last by line body s)
  counts_keep here zero word i last by line body kept s are = if_runs (is_past last by i) _ _ s are tt
  counts_keep here (suc k) word i last by line body kept s are =
      then_keeps (turn here word i last by line body s) _ (for_turn_keeps here word i last by line body kept s are)
      (λ t w still. continues_keeps (λ next. counts here k word next last by line body) t (λ next s are. counts_keep here k word next last by line body kept s are) w still)

  -- ---- statements without trees

  sets_last_keeps : (x : Value) (s : State) → AreFiles s.plan → Has (sets_last x s)
  sets_last_keeps (v.Clip i) s are = are
  sets_last_keeps _ s are = are

  settled_keeps : (x : Value) (s : State) → AreFiles s.plan → Has (settled x s)
  settled_keeps v.Undefined s are = are
  settled_keeps _ s are = are

  chosen_keeps : (other : Run Flow) (o : Option Flow) → Keeps other → (s : State) → AreFiles s.plan → Has (chosen other o s)
  chosen_keeps other (Some flow) kept s are = are
  chosen_keeps other None kept s are = kept s are

  ends_with_keeps : (next : Value → Run Value) (flow : Flow) → ((x : Value) → Keeps (next x)) → (s : State) → AreFiles s.plan → Has (ends_with next flow s)
  ends_with_keeps next (on x) kept s are = kept x s are
  ends_with_keeps next (back x) kept s are = are

  -- ---- trees, where what is executed one call deeper keeps them

  module _ (depth : ℕ) (deeper : Text → Block → Run Value) (kept_below : (here : Text) (body : Block) → Keeps (deeper here body)) where
    abbrev context : Context
    context = record { outside = outside; depth = depth; deeper = deeper }

    may_nest_keeps : (here : Text) (line : ℕ) (s : State) → AreFiles s.plan → Has (may_nest context here line s)
    may_nest_keeps here line s are = if_runs (nat_eq depth 0) _ _ s tt are

    execute_keeps : (from text here : Text) (line : ℕ) (s : State) → AreFiles s.plan → Has (execute context from text here line s)
    execute_keeps from text here line s are =
        then_keeps (load_short outside from text here line s) _ (load_short_keeps from text here line s are) (λ loaded t kept. kept_below from loaded.tree.statements t kept)

    eval_keeps : (here : Text) (values : List Value) (line : ℕ) (s : State) → AreFiles s.plan → Has (eval context here values line s)
    eval_keeps here (v.Text text ∷ []) line s are =
        then_keeps (may_nest context here line s) _ (may_nest_keeps here line s are) (λ _ t kept. execute_keeps eval_name text here line t kept)
    eval_keeps here _ line s are = tt

    import_keeps : (here : Text) (values : List Value) (line : ℕ) (s : State) → AreFiles s.plan → Has (import_ context here values line s)
    import_keeps here (v.Text file ∷ []) line s are =
        then_keeps (and_then (may_nest context here line s) (λ _. script_by here (outside.scripts file) line)) _
        (then_keeps (may_nest context here line s) _ (may_nest_keeps here line s are) (λ _ t kept. script_keeps here (outside.scripts file) line t kept))
        (λ text t kept. execute_keeps file text here line t kept)
    import_keeps here _ line s are = tt

    inside_keeps : (d : Defined) (env : Env) (s : State) → AreFiles s.plan → Has (inside context d env s)
    inside_keeps d env s are =
        then_keeps (deeper d.text d.function.body (record s { env = env })) _ (kept_below d.text d.function.body (record s { env = env }) are) (λ x t kept. kept)

    applied_keeps : (again : Caller) → Calls again → (c : Callee) (sig : ℕ) (bound : Bound) (here : Text) (line : ℕ) (s : State) → AreFiles s.plan → Has (applied context again c sig bound here line s)
    applied_keeps again kept (user d) sig bound here line s are =
        then_keeps (may_nest context here line s) _ (may_nest_keeps here line s are) (λ _ t kept. inside_keeps d _ t kept)
    applied_keeps again kept (builtin b.Eval) sig bound here line s are = eval_keeps here bound.values line s are
    applied_keeps again kept (builtin b.Import) sig bound here line s are = import_keeps here bound.values line s are
    applied_keeps again kept (builtin b.SetFilterMTMode) sig bound here line s are = set_mode_keeps here bound.values line s are
    applied_keeps again kept (builtin b.Prefetch) sig bound here line s are = prefetch_keeps here bound.values line s are
    applied_keeps again kept (builtin b.ApplyRange) sig bound here line s are = ranged_by_keeps again kept bound.values bound.rest here line s are
    applied_keeps again kept (builtin (b.Plain function)) sig bound here line s are = lifted_keeps _ s are
    applied_keeps again kept (builtin (b.Clip function)) sig bound here line s are = told_keeps here function bound.values line s are
    applied_keeps again kept (builtin (b.Filter filter)) sig bound here line s are = filtered_keeps here filter sig bound line s are

    apply_by_keeps : (again : Caller) → Calls again → (o : Fit) (c : Callee) (here : Text) (line : ℕ) (s : State) → AreFiles s.plan → Has (apply_by context again o c here line s)
    apply_by_keeps again kept (Some found) c here line s are = applied_keeps again kept c found.0 found.1 here line s are
    apply_by_keeps again kept None c here line s are = tt

    within_keeps : (k : ℕ) → Calls (call_within context k)
    unfolding call_within
    within_keeps zero = λ c args here line s are. tt
    within_keeps (suc k) = λ c args here line s are. apply_by_keeps (call_within context k) (within_keeps k) (fit_or_last (takes c) args None) c here line s are

    apply_keeps : (c : Callee) (args : List Given) (last : Option Value) (here : Text) (line : ℕ) (s : State) → AreFiles s.plan → Has (apply context c args last here line s)
    apply_keeps c args last here line s are = apply_by_keeps (call_within context (length args)) (within_keeps (length args)) (fit_or_last (takes c) args last) c here line s are

    module _ (here : Text) where
      apply_last_keeps : (c : Callee) (args : List Given) (line : ℕ) (s : State) → AreFiles s.plan → Has (apply_last context here c args line s)
      apply_last_keeps c args line s are = apply_keeps c args (lookup last_name s.env) here line s are

      named_keeps : (o : Option Value) (word : Text) (line : ℕ) (s : State) → AreFiles s.plan → Has (named context here o word line s)
      named_keeps (Some x) word line s are = are
      named_keeps None word line s are =
          then_keeps (called here word line s) _ (called_keeps here word line s are) (λ c t kept. apply_last_keeps c [] line t kept)

      mutual
        value_keeps : (e : Expr) (s : State) → AreFiles s.plan → Has (value_of context here e s)
        value_keeps (int i) s are = are
        value_keeps (bool holds) s are = are
        value_keeps (str x) s are = are
        value_keeps (name word line) s are = named_keeps (variable word s) word line s are
        value_keeps (call word args line) s are =
            then_keeps (called here word line s) _ (called_keeps here word line s are) (λ c t kept.
            then_keeps (givens_of context here args [] t) _ (givens_keep args [] t kept) (λ given w still. apply_last_keeps c given line w still))
        value_keeps (method_calls e calls) s are =
            then_keeps (value_of context here e s) _ (value_keeps e s are) (λ x t kept. calls_keep calls x t kept)
        value_keeps (minus e line) s are =
            then_keeps (value_of context here e s) _ (value_keeps e s are) (λ x t kept. lifted_keeps _ t kept)
        value_keeps (not_ e line) s are =
            then_keeps (value_of context here e s) _ (value_keeps e s are) (λ x t kept. lifted_keeps _ t kept)
        value_keeps (chain e rest) s are =
            then_keeps (value_of context here e s) _ (value_keeps e s are) (λ x t kept. steps_keep rest x t kept)
        value_keeps (compare o l r line) s are =
            then_keeps (value_of context here l s) _ (value_keeps l s are) (λ x t kept.
            then_keeps (value_of context here r t) _ (value_keeps r t kept) (λ y w still. lifted_keeps _ w still))
        value_keeps (conditional c l r line) s are =
            then_keeps (value_of context here c s) _ (value_keeps c s are) (λ x t kept.
            then_keeps (lifted (truth here line x) t) _ (lifted_keeps (truth here line x) t kept) (λ holds w still.
            if_runs holds (value_of context here l) (value_of context here r) w (value_keeps l w still) (value_keeps r w still)))
        value_keeps (group e) s are = value_keeps e s are

        givens_keep : (args : Args) (before : List Given) (s : State) → AreFiles s.plan → Has (givens_of context here args before s)
        givens_keep no_args before s are = are
        givens_keep (arg word e rest) before s are =
            then_keeps (value_of context here e s) _ (value_keeps e s are) (λ x t kept. givens_keep rest (before ++ record { name = word; value = x } ∷ []) t kept)

        calls_keep : (calls : MethodCalls) (x : Value) (s : State) → AreFiles s.plan → Has (calls_from context here calls x s)
        calls_keep no_method_calls x s are = are
        calls_keep (method word line rest) x s are =
            then_keeps (and_then (called here word line s) (λ c. apply context c (unnamed x ∷ []) None here line)) _
            (then_keeps (called here word line s) _ (called_keeps here word line s are) (λ c t kept. apply_keeps c (unnamed x ∷ []) None here line t kept))
            (λ y w still. calls_keep rest y w still)
        calls_keep (method_call word args line rest) x s are =
            then_keeps (and_then (called here word line s) (λ c t. and_then (givens_of context here args (unnamed x ∷ []) t) (λ given. apply context c given None here line))) _
            (then_keeps (called here word line s) _ (called_keeps here word line s are) (λ c t kept.
            then_keeps (givens_of context here args (unnamed x ∷ []) t) _ (givens_keep args (unnamed x ∷ []) t kept) (λ given w still. apply_keeps c given None here line w still)))
            (λ y w still. calls_keep rest y w still)

        steps_keep : (steps : Steps) (x : Value) (s : State) → AreFiles s.plan → Has (steps_from context here steps x s)
        steps_keep no_steps x s are = are
        steps_keep (step o e line rest) x s are =
            then_keeps (joined here o line (value_of context here e) x s) _ (joined_keeps here o line (value_of context here e) x (value_keeps e) s are) (λ y t kept. steps_keep rest y t kept)

      condition_keeps : (c : Expr) (line : ℕ) (s : State) → AreFiles s.plan → Has (condition context here c line s)
      condition_keeps c line s are = then_keeps (value_of context here c s) _ (value_keeps c s are) (λ x t kept. lifted_keeps _ t kept)

      step_keeps : (o : Option Expr) (s : State) → AreFiles s.plan → Has (step_of context here o s)
      step_keeps None s are = are
      step_keeps (Some e) s are = value_keeps e s are

      bounds_keep : (a z : Expr) (by : Option Expr) (line : ℕ) (s : State) → AreFiles s.plan → Has (bounds context here a z by line s)
      bounds_keep a z by line s are =
          then_keeps (value_of context here a s) _ (value_keeps a s are) (λ x t kept.
          then_keeps (value_of context here z t) _ (value_keeps z t kept) (λ y w still.
          then_keeps (step_of context here by w) _ (step_keeps by w still) (λ p q yet. lifted_keeps _ q yet)))

      mutual
        effect_keeps : (kind : Kind) (line : ℕ) (s : State) → AreFiles s.plan → Has (effect_of context here kind line s)
        effect_keeps (global word e) line s are =
            then_keeps (value_of context here e s) _ (value_keeps e s are) (λ x t kept. kept)
        effect_keeps (assign word e) line s are =
            then_keeps (value_of context here e s) _ (value_keeps e s are) (λ x t kept. kept)
        effect_keeps (return e) line s are =
            then_keeps (value_of context here e s) _ (value_keeps e s are) (λ x t kept. kept)
        effect_keeps (if_ arms other) line s are =
            then_keeps (arms_of context here arms line s) _ (arms_keep arms line s are) (λ o t kept. chosen_keeps (other_of context here other) o (other_keeps other) t kept)
        effect_keeps (while c body) line s are =
            turns_keep here s.units (condition context here c line) line (block_of context here body) (condition_keeps c line) (block_keeps body) s are
        effect_keeps (for word a z by body) line s are =
            then_keeps (bounds context here a z by line s) _ (bounds_keep a z by line s are) (λ i t kept.
            counts_keep here t.units word i.0 i.1 i.2 line (block_of context here body) (block_keeps body) _ kept)
        effect_keeps (value e) line s are =
            then_keeps (value_of context here e s) _ (value_keeps e s are) (λ x t kept. sets_last_keeps x t kept)

        arms_keep : (arms : Arms) (line : ℕ) (s : State) → AreFiles s.plan → Has (arms_of context here arms line s)
        arms_keep no_arms line s are = are
        arms_keep (arm c body rest) line s are =
            then_keeps (condition context here c line s) _ (condition_keeps c line s are) (λ holds t kept. if_runs holds _ _ t
            (then_keeps (block_of context here body t) _ (block_keeps body t kept) (λ flow w still. still))
            (arms_keep rest line t kept))

        other_keeps : (other : Else) (s : State) → AreFiles s.plan → Has (other_of context here other s)
        other_keeps no_else s are = are
        other_keeps (else_ body) s are = block_keeps body s are

        block_keeps : (block : Block) (s : State) → AreFiles s.plan → Has (block_of context here block s)
        block_keeps no_more s are = are
        block_keeps (then_ kind line rest) s are =
            then_keeps (and_then (spend here line s) (λ _. effect_of context here kind line)) _
            (then_keeps (spend here line s) _ (spend_keeps here line s are) (λ _ t kept. effect_keeps kind line t kept))
            (λ flow w still. go_on_keeps (block_of context here rest) flow (block_keeps rest) w still)

      body_keeps : (body : Block) (x : Value) (s : State) → AreFiles s.plan → Has (body_of context here body x s)
      body_keeps no_more x s are = settled_keeps x s are
      body_keeps (then_ kind line rest) x s are =
          then_keeps (and_then (spend here line s) (λ _. effect_of context here kind line)) _
          (then_keeps (spend here line s) _ (spend_keeps here line s are) (λ _ t kept. effect_keeps kind line t kept))
          (λ flow w still. ends_with_keeps (body_of context here rest) flow (λ y s are. body_keeps rest y s are) w still)

  -- however deep calls nest
  below_keeps : (depth : ℕ) (here : Text) (body : Block) (s : State) → AreFiles s.plan → Has (below outside depth here body s)
  unfolding below
  below_keeps zero here body s are = tt
  below_keeps (suc depth) here body s are = body_keeps depth (below outside depth) (below_keeps depth) here body v.Undefined s are

  -- ---- a whole script

  clip_keeps : (here : Text) (line : ℕ) (x : Value) (s : State) → AreFiles s.plan → Has (clip_or_not here line x s)
  clip_keeps here line (v.Clip i) s are = then_keeps (info_of here i line s) _ (info_of_keeps here i line s are) (λ info t kept. kept)
  clip_keeps here line _ s are = tt

  to_clip_keeps : (here : Text) (body : Block) (line : ℕ) (s : State) → AreFiles s.plan → Has (to_clip outside here body line s)
  unfolding to_clip
  to_clip_keeps here body line s are =
      then_keeps (run outside call_limit here body s) _ (body_keeps call_limit (below outside call_limit) (below_keeps call_limit) here body v.Undefined s are)
      (λ x t kept. clip_keeps here line x t kept)

  executed_keeps : (here text : Text) → Has (executed outside here text start)
  executed_keeps here text =
      then_keeps (load outside here text start) _ (loaded_keeps (outside.trees text) here start tt)
      (λ loaded t kept. to_clip_keeps here loaded.tree.statements loaded.last_line t kept)

  -- The sources of the plan are files.
  abbrev pub HasFiles : Meaning → Type 0
  HasFiles (clip plan root crew) = AreFiles plan
  HasFiles (wrong fault) = Unit {0}

  meant : (o : Outcome ℕ) → Has o → HasFiles (meaning_by o)
  meant (Ok ended) has = has
  meant (Err fault) has = tt

  read : (r : Result Text FileKind) (here : Text) → HasFiles (script_meaning r outside here)
  read (Ok text) here = meant (executed outside here text start) (executed_keeps here text)
  read (Err kind) here = tt

  -- of a script
  pub has_files : (name : Text) → HasFiles (meaning outside name)
  has_files word = read (outside.scripts word) word
