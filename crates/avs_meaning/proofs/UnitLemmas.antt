-- Units are only spent: none comes back, whatever is executed.
use Rattle.std.proofs.Common.{ℕ, zero, suc, ◌≤◌, ℤ, List, [], ◌∷◌, ◌++◌, Bool, true, false, Option, Some, None, Result, Ok, Err, if◌then◌else◌, nat_le, nat_lt, length, slice_get, arith}
use Rattle.fv_plane.specs.declared.format.Info.{Info}
use Rattle.fv_plane.specs.Refusals.{first_fault}
use Rattle.avs_tree.specs.Tree.{Loaded, NoTree, Function}
use Rattle.avs_tree.specs.declared.tree.Operator.{Operator}
use Rattle.avs_tree.specs.declared.tree.Operator.TheVariants as op
use Rattle.avs_values.specs.Binding.{Bound}
use Rattle.avs_values.specs.Values.{text_limit, Text}
use Rattle.avs_values.specs.Operators.{binary}
use Rattle.avs_values.specs.declared.value.Value.{Value}
use Rattle.avs_values.specs.declared.value.Value.TheVariants as v
use Rattle.clip_term.specs.Blank.{BlankArgs, blank_refusals, blank_info, colour_of, colour_given}
use Rattle.clip_term.specs.Terms.{Act, source, plain, time, check}
use Rattle.clip_term.specs.Refusals.{nat_of}
use Rattle.clip_term.specs.declared.fault.FilterFault.{FilterFault}
use Rattle.clip_term.specs.declared.filter.Filter.{Filter}
use Rattle.clip_term.specs.declared.filter.Filter.TheVariants as f
use Rattle.clip_term.specs.declared.op.TimeOp.TheVariants as t
use Rattle.clip_graph.specs.declared.graph.TheConstants.Graph.{MAX_NODES, MAX_DEPTH}
use Rattle.clip_graph.specs.Plan.{Application, infos_among, sources_in}
use Rattle.mt_modes.specs.Modes.{is_mode, mode_in, with_setting}
use Rattle.avs_meaning.specs.Arguments.{Reading, takes, all_fit_filters, out_of_range}
use Rattle.avs_meaning.specs.Expressions.{told, binary_of, placed, truth, truth_of, combined, joined, loaded_by, load, load_short}
use Rattle.avs_meaning.specs.State.{Numbers, Outside, State, Defined, Outcome, Run, and_then, fails, lifted, pay, spend, find, define_by, define, define_all}
use Rattle.avs_meaning.specs.Faults.{Fault}
use Rattle.avs_meaning.specs.Filters as filters
use Rattle.avs_meaning.specs.Filters.{info_of, filtered, is_forced, crew_of, set_mode, with_crew, prefetch}
use Rattle.avs_meaning.specs.Meaning.{run}
use Rattle.avs_meaning.specs.declared.builtin.ClipFn.{ClipFn}
use Rattle.avs_meaning.specs.declared.fault.InputFault.{InputFault}
use Rattle.avs_meaning.specs.declared.fault.ScriptKind.TheVariants as k

-- At most so many units are left.
abbrev pub Leaves : {X : Type 0} → ℕ → Outcome X → Type 0
Leaves n (Ok ended) = ended.1.units ≤ n
Leaves n (Err fault) = Unit {0}

abbrev pub Spends : {X : Type 0} → Run X → Type 0
Spends run = (n : ℕ) (s : State) → s.units ≤ n → Leaves n (run s)

pub then_leaves : {X Y : Type 0} (n : ℕ) (o : Outcome X) (next : X → Run Y) → Leaves n o
    → ((x : X) (s : State) → s.units ≤ n → Leaves n (next x s)) → Leaves n (and_then o next)
then_leaves n (Ok ended) next few later = later ended.0 ended.1 few
then_leaves n (Err fault) next few later = tt

pub lifted_leaves : {X : Type 0} (n : ℕ) (r : Result X Fault) (s : State) → s.units ≤ n → Leaves n (lifted r s)
lifted_leaves n (Ok x) s few = few
lifted_leaves n (Err fault) s few = tt

pub if_leaves : {X : Type 0} (n : ℕ) (holds : Bool) (x y : Outcome X) → Leaves n x → Leaves n y → Leaves n (if holds then x else y)
if_leaves n true x y first second = first
if_leaves n false x y first second = second

pub if_runs : {X : Type 0} (n : ℕ) (holds : Bool) (x y : Run X) (s : State) → Leaves n (x s) → Leaves n (y s) → Leaves n ((if holds then x else y) s)
if_runs n true x y s first second = first
if_runs n false x y s first second = second

pay_leaves : (here : Text) (line n units : ℕ) (s : State) → units ≤ n → Leaves n (pay units here line s)
pay_leaves here line n zero s few = tt
pay_leaves here line n (suc m) s few = omega arith

pub spend_leaves : (here : Text) (line n : ℕ) (s : State) → s.units ≤ n → Leaves n (spend here line s)
spend_leaves here line n s few = pay_leaves here line n s.units s few

-- ---- texts

define_by_leaves : (o : Option Defined) (function : Function) (here : Text) (n : ℕ) (s : State) → s.units ≤ n → Leaves n (define_by o function here s)
define_by_leaves (Some d) function here n s few = tt
define_by_leaves None function here n s few = few

define_all_leaves : (functions : List Function) (here : Text) (n : ℕ) (s : State) → s.units ≤ n → Leaves n (define_all functions here s)
define_all_leaves [] here n s few = few
define_all_leaves (function ∷ rest) here n s few =
    then_leaves n (define function here s) _ (define_by_leaves (find function.name s.functions) function here n s few) (λ _ t less. define_all_leaves rest here n t less)

loaded_leaves : (r : Result Loaded NoTree) (here : Text) (n : ℕ) (s : State) → s.units ≤ n → Leaves n (loaded_by r here s)
loaded_leaves (Err why) here n s few = tt
loaded_leaves (Ok loaded) here n s few =
    then_leaves n (define_all loaded.tree.functions here s) _ (define_all_leaves loaded.tree.functions here n s few) (λ _ t less. less)

pub load_short_leaves : (outside : Outside) (from text here : Text) (line n : ℕ) (s : State) → s.units ≤ n → Leaves n (load_short outside from text here line s)
load_short_leaves outside from text here line n s few = if_runs n (nat_le (length text) text_limit) (load outside from text) (fails k.TextLimit here line) s (loaded_leaves (outside.trees text) from n s few) tt

-- ---- filters

info_by_leaves : (here : Text) (o : Option Application) (line n : ℕ) (s : State) → s.units ≤ n → Leaves n (filters.info_by here o line s)
info_by_leaves here (Some application) line n s few = few
info_by_leaves here None line n s few = tt

pub info_of_leaves : (here : Text) (i line n : ℕ) (s : State) → s.units ≤ n → Leaves n (info_of here i line s)
info_of_leaves here i line n s few = info_by_leaves here _ line n s few

add_leaves : (here : Text) (act : Act) (inputs : List ℕ) (info : Info) (mode line n : ℕ) (s : State) → s.units ≤ n → Leaves n (filters.add here act inputs info mode line s)
add_leaves here act inputs info mode line n s few =
    let next = filters.next_application act inputs info mode s.plan in
    let more : Outcome Value = Ok (v.Clip (length s.plan), record s { plan = s.plan ++ next ∷ [] }) in
    let deep : Outcome Value = fails k.DepthLimit here line s in
    if_leaves n (nat_le MAX_NODES (length s.plan)) (fails k.NodeLimit here line s) (if nat_lt MAX_DEPTH next.depth then deep else more) tt (if_leaves n (nat_lt MAX_DEPTH next.depth) deep more tt few)

add_by_leaves : (here : Text) (r : Result Info FilterFault) (act : Act) (inputs : List ℕ) (mode line n : ℕ) (s : State) → s.units ≤ n → Leaves n (filters.add_by here r act inputs mode line s)
add_by_leaves here (Ok info) act inputs mode line n s few = add_leaves here act inputs info mode line n s few
add_by_leaves here (Err fault) act inputs mode line n s few = tt

pub made_leaves : (here : Text) (filter : Filter) (act : Act) (inputs : List ℕ) (line n : ℕ) (s : State) → s.units ≤ n → Leaves n (filters.made here filter act inputs line s)
made_leaves here filter act inputs line n s few =
    if_leaves n (filters.are_places inputs s.plan) (filters.add_by here (check act (infos_among s.plan inputs)) act inputs (mode_in s.modes filter) line s) (fails k.TypeFault here line s) (add_by_leaves here (check act (infos_among s.plan inputs)) act inputs _ line n s few) tt

open_by_leaves : (here : Text) (r : Result Info InputFault) (name : Text) (line n : ℕ) (s : State) → s.units ≤ n → Leaves n (filters.open_by here r name line s)
open_by_leaves here (Err fault) name line n s few = tt
open_by_leaves here (Ok info) name line n s few = made_leaves here f.Y4MSource (source name (sources_in s.plan) info) [] line n (record s { opened = s.opened ++ record { name = name; info = info } ∷ [] }) few

open_source_leaves : (here : Text) (outside : Outside) (values : List Value) (line n : ℕ) (s : State) → s.units ≤ n → Leaves n (filters.open_source here outside values line s)
open_source_leaves here outside (v.Text name ∷ []) line n s few = open_by_leaves here (outside.clips name) name line n s few
open_source_leaves here outside _ line n s few = tt

blank_by_leaves : (here : Text) (o : Option FilterFault) (info : Info) (args : BlankArgs) (line n : ℕ) (s : State) → s.units ≤ n → Leaves n (filters.blank_by here o info args line s)
blank_by_leaves here (Some fault) info args line n s few = tt
blank_by_leaves here None info args line n s few = made_leaves here f.BlankClip (plain (blank_info info args) (colour_of (colour_given args))) [] line n s few

blank_like_leaves : (here : Text) (info : Info) (args : BlankArgs) (line n : ℕ) (s : State) → s.units ≤ n → Leaves n (filters.blank_like here info args line s)
blank_like_leaves here info args line n s few = blank_by_leaves here (first_fault (blank_refusals info args)) info args line n s few

blank_of_leaves : (here : Text) (clip : Option Value) (args : BlankArgs) (line n : ℕ) (s : State) → s.units ≤ n → Leaves n (filters.blank_of here clip args line s)
blank_of_leaves here (Some (v.Clip i)) args line n s few =
    then_leaves n (info_of here i line s) _ (info_of_leaves here i line n s few) (λ info t less. blank_like_leaves here info args line n t less)
blank_of_leaves here _ args line n s few = blank_like_leaves here _ args line n s few

blank_leaves : (here : Text) (sig : ℕ) (values : List Value) (line n : ℕ) (s : State) → s.units ≤ n → Leaves n (filters.blank here sig values line s)
blank_leaves here zero values line n s few = blank_of_leaves here (slice_get values 7) _ line n s few
blank_leaves here (suc sig) values line n s few = blank_of_leaves here (slice_get values 0) _ line n s few

applied_by_leaves : (here : Text) (reading : Reading) (filter : Filter) (inputs : List ℕ) (line n : ℕ) (s : State) → s.units ≤ n → Leaves n (filters.applied_by here reading filter inputs line s)
applied_by_leaves here (Ok act) filter inputs line n s few =
    if_runs n (takes act (length inputs)) (filters.made here filter act inputs line) (fails k.NoMatch here line) s (made_leaves here filter act inputs line n s few) tt
applied_by_leaves here (Err kind) filter inputs line n s few = tt

filter_applied_leaves : (here : Text) (trees : Text → Result Loaded NoTree) (filter : Filter) (bound : Bound) (inputs : List ℕ) (line n : ℕ) (s : State) → s.units ≤ n → Leaves n (filters.applied here trees filter bound inputs line s)
filter_applied_leaves here trees filter bound [] line n s few = tt
filter_applied_leaves here trees filter bound (i ∷ rest) line n s few =
    then_leaves n (info_of here i line s) _ (info_of_leaves here i line n s few) (λ info t less. applied_by_leaves here _ filter (i ∷ rest) line n t less)

pub filtered_leaves : (here : Text) (outside : Outside) (filter : Filter) (sig : ℕ) (bound : Bound) (line n : ℕ) (s : State) → s.units ≤ n → Leaves n (filtered here outside filter sig bound line s)
filtered_leaves here outside f.Y4MSource sig bound line n s few = open_source_leaves here outside bound.values line n s few
filtered_leaves here outside f.BlankClip sig bound line n s few =
    if_runs n (all_fit_filters bound.values) (filters.blank here sig bound.values line) (fails out_of_range here line) s (blank_leaves here sig bound.values line n s few) tt
filtered_leaves here outside filter sig bound line n s few = filter_applied_leaves here outside.trees filter bound _ line n s few

pub told_leaves : (here : Text) (function : ClipFn) (values : List Value) (line n : ℕ) (s : State) → s.units ≤ n → Leaves n (told here function values line s)
told_leaves here function (v.Clip i ∷ []) line n s few =
    then_leaves n (info_of here i line s) _ (info_of_leaves here i line n s few) (λ info t less. lifted_leaves n _ t less)
told_leaves here function _ line n s few = tt

-- ---- operators

pub combined_leaves : (here : Text) (o : Operator) (line : ℕ) (x y : Value) (n : ℕ) (s : State) → s.units ≤ n → Leaves n (combined here o line x y s)
combined_leaves here op.Plus line (v.Clip i) (v.Clip j) n s few = made_leaves here f.UnalignedSplice (time t.UnalignedSplice) (i ∷ j ∷ []) line n s few
combined_leaves here op.PlusPlus line (v.Clip i) (v.Clip j) n s few = made_leaves here f.AlignedSplice (time t.AlignedSplice) (i ∷ j ∷ []) line n s few
combined_leaves here op.PlusPlus line x y n s few = tt
combined_leaves here o line x y n s few = lifted_leaves n (placed here line (binary (binary_of o) x y)) s few

truth_of_leaves : (here : Text) (line : ℕ) (operand : Run Value) → Spends operand → (n : ℕ) (s : State) → s.units ≤ n → Leaves n (truth_of here line operand s)
truth_of_leaves here line operand less n s few =
    then_leaves n (operand s) _ (less n s few) (λ y t fewer. then_leaves n (lifted (truth here line y) t) _ (lifted_leaves n _ t fewer) (λ _ w fewest. fewest))

pub joined_leaves : (here : Text) (o : Operator) (line : ℕ) (operand : Run Value) (x : Value) → Spends operand → (n : ℕ) (s : State) → s.units ≤ n → Leaves n (joined here o line operand x s)
joined_leaves here op.Or line operand x less n s few =
    then_leaves n (lifted (truth here line x) s) _ (lifted_leaves n _ s few) (λ holds t fewer. if_runs n holds _ _ t fewer (truth_of_leaves here line operand less n t fewer))
joined_leaves here op.And line operand x less n s few =
    then_leaves n (lifted (truth here line x) s) _ (lifted_leaves n _ s few) (λ holds t fewer. if_runs n holds _ _ t (truth_of_leaves here line operand less n t fewer) fewer)
joined_leaves here o line operand x less n s few = then_leaves n (operand s) _ (less n s few) (λ y t fewer. combined_leaves here o line x y n t fewer)

-- ---- settings

pub set_mode_leaves : (here : Text) (values : List Value) (line n : ℕ) (s : State) → s.units ≤ n → Leaves n (set_mode here values line s)
set_mode_leaves here (v.Text name ∷ v.Int mode ∷ force ∷ []) line n s few =
    if_leaves n (is_mode mode) (Ok (v.Undefined, record s { modes = with_setting s.modes (record { name = name; mode = nat_of mode; force = is_forced force }) })) (fails k.ModeRefused here line s) few tt
set_mode_leaves here _ line n s few = tt

with_crew_leaves : (here : Text) (o : Option Numbers) (i line n : ℕ) (s : State) → s.units ≤ n → Leaves n (with_crew here o i line s)
with_crew_leaves here (Some crew) i line n s few = few
with_crew_leaves here None i line n s few = tt

pub prefetch_leaves : (here : Text) (values : List Value) (line n : ℕ) (s : State) → s.units ≤ n → Leaves n (prefetch here values line s)
prefetch_leaves here (v.Clip i ∷ v.Int threads ∷ frames ∷ []) line n s few = with_crew_leaves here (crew_of threads frames) i line n s few
prefetch_leaves here _ line n s few = tt

pub ranged_leaves : (here : Text) (i : ℕ) (first last : ℤ) (line : ℕ) (x : Value) (n : ℕ) (s : State) → s.units ≤ n → Leaves n (filters.ranged here i first last line x s)
ranged_leaves here i first last line (v.Clip j) n s few = made_leaves here f.ApplyRange (time (t.ApplyRange first last)) (i ∷ j ∷ []) line n s few
ranged_leaves here i first last line _ n s few = tt
