-- The options of a render are in their ranges: the cache holds a frame, and there are 1 to 16 threads.
use Rattle.std.proofs.Common.{◌≡◌, ℕ, ◌<◌, ◌≤◌, nat_le, Bool, true, false, ◌&&◌, if◌then◌else◌, List, [], ◌∷◌, Option, Some, None, refl, subst, arith, codes}
use Rattle.std.specs.Prelude.{option_map, option_and_then}
use Rattle.std.proofs.lemmas.Bool.{leb-true}
use Rattle.std.specs.Str.Parse.{digits_value}
use Rattle.std.specs.Str.{bytes_eq}
use Rattle.command_line.specs.Command.{Text, values_of, given_by, is_number, in_range, number_in, only, number_among, flag_among, options_with, render_with, info_with, self_test_with, cached_with, session_with, replay_with, both, tells_by, render_options, cached_options, command_by, command_in}
use Rattle.command_line.specs.declared.command.Command.{Command}
use Rattle.command_line.specs.declared.command.Command.TheVariants as c
use Rattle.command_line.specs.declared.command.RenderOptions.{RenderOptions}
use Rattle.command_line.specs.declared.command.Tells.{Tells}
use Rattle.prefetch.specs.Windows.{AreThreads}
use Rattle.serve_app.specs.Journals.{cache_of}
use Rattle.serve_app.specs.Run.{AreFit, IsFit}

of_and_then : {X Y : Type 0} (f : X → Option Y) (o : Option X) (y : Y) → option_and_then f o ≡ Some y → (x : X) × ((o ≡ Some x) × (f x ≡ Some y))
of_and_then f None y is = absurd (cc)
of_and_then f (Some x) y is = (x, (refl, is))

of_map : {X Y : Type 0} (f : X → Y) (o : Option X) (y : Y) → option_map f o ≡ Some y → (x : X) × ((o ≡ Some x) × (f x ≡ y))
of_map f None y is = absurd (cc)
of_map f (Some x) y is = (x, (refl, cc))

of_if : {Y : Type 0} (b : Bool) (o : Option Y) (y : Y) → (if b then o else None) ≡ Some y → o ≡ Some y
of_if true o y is = is
of_if false o y is = absurd (cc)

in_both : (least most number n : ℕ) (b d : Bool) → nat_le least number ≡ b → nat_le number most ≡ d → (if b && d then Some number else None) ≡ Some n → (least ≤ n) × (n ≤ most)
in_both least most number n true true low high is =
    let same : number ≡ n = cc in
    (rw same at (leb-true least number low), rw same at (leb-true number most high))
in_both least most number n true false low high is = absurd (cc)
in_both least most number n false d low high is = absurd (cc)

-- a number that was given is in its range
ranged : (least most number n : ℕ) → in_range least most number ≡ Some n → (least ≤ n) × (n ≤ most)
ranged least most number n is = in_both least most number n (nat_le least number) (nat_le number most) refl refl is

abbrev AreAmong : ℕ → ℕ → Option ℕ → Type 0
AreAmong least most None = Unit {0}
AreAmong least most (Some n) = (least ≤ n) × (n ≤ most)

among : (least most : ℕ) (words : List Text) (given : Option ℕ) → number_among least most words ≡ Some given → AreAmong least most given
among least most [] given is = let none : None ≡ given = cc in subst (AreAmong least most) none tt
among least most (word ∷ []) given is =
    let number = of_map (λ n. Some n) (number_in least most word) given is in
    let fits = ranged least most (digits_value 10 word) number.0 (of_if (is_number word) (in_range least most (digits_value 10 word)) number.0 number.1.0) in
    subst (AreAmong least most) number.1.1 fits
among least most (word ∷ other ∷ rest) given is = absurd (cc)

holds_one : (cache : Option ℕ) → AreAmong 1 256 cache → 0 < cache_of cache
holds_one None fits = omega arith
holds_one (Some n) fits = let least : 1 ≤ n = fits.0 in omega (arith, least)

are_threads : (threads : Option ℕ) → AreAmong 1 16 threads → AreThreads threads
are_threads None fits = tt
are_threads (Some n) fits = fits

fit_by : (options : RenderOptions) (cache threads : Option ℕ) (plain : Bool) (tells : Tells) → record { cache = cache; threads = threads; plain = plain; tells = tells } ≡ options → 0 < cache_of cache → AreThreads threads → AreFit options
fit_by options cache threads plain tells is held few = subst AreFit is (held, few)

module _ (values : Text → List Text) where
  -- the options that are left, once the ones before them are known
  abbrev after_journal : Option ℕ → Option ℕ → Bool → Bool → Bool → Option RenderOptions
  after_journal cache threads plain report journal = option_map (λ tells. record { cache = cache; threads = threads; plain = plain; tells = tells }) (tells_by report journal)

  abbrev after_report : Option ℕ → Option ℕ → Bool → Bool → Option RenderOptions
  after_report cache threads plain report = option_and_then (after_journal cache threads plain report) (flag_among (values (codes "journal")))

  abbrev after_plain : Option ℕ → Option ℕ → Bool → Option RenderOptions
  after_plain cache threads plain = option_and_then (after_report cache threads plain) (flag_among (values (codes "report")))

  abbrev after_threads : Option ℕ → Option ℕ → Option RenderOptions
  after_threads cache threads = option_and_then (after_plain cache threads) (flag_among (values (codes "plain")))

  abbrev after_cache : Option ℕ → Option RenderOptions
  after_cache cache = option_and_then (after_threads cache) (number_among 1 16 (values (codes "threads")))

  by_options : (options : RenderOptions) → options_with values ≡ Some options → AreFit options
  by_options options is =
      let cache = of_and_then after_cache (number_among 1 256 (values (codes "cache"))) options is in
      let threads = of_and_then (after_threads cache.0) (number_among 1 16 (values (codes "threads"))) options cache.1.1 in
      let plain = of_and_then (after_plain cache.0 threads.0) (flag_among (values (codes "plain"))) options threads.1.1 in
      let report = of_and_then (after_report cache.0 threads.0 plain.0) (flag_among (values (codes "report"))) options plain.1.1 in
      let journal = of_and_then (after_journal cache.0 threads.0 plain.0 report.0) (flag_among (values (codes "journal"))) options report.1.1 in
      let tells = of_map (λ tells. record { cache = cache.0; threads = threads.0; plain = plain.0; tells = tells }) (tells_by report.0 journal.0) options journal.1.1 in
      let held : 0 < cache_of cache.0 = holds_one cache.0 (among 1 256 (values (codes "cache")) cache.0 cache.1.0) in
      let few : AreThreads threads.0 = are_threads threads.0 (among 1 16 (values (codes "threads")) threads.0 threads.1.0) in
      fit_by options cache.0 threads.0 plain.0 tells.0 tells.1.1 held few

by_render : (values : Text → List Text) (command : Command) → render_with values ≡ Some command → IsFit command
by_render values command is =
    let script = of_and_then (λ script. option_map (c.Render script) (options_with values)) (only (values (codes "operand"))) command is in
    let options = of_map (c.Render script.0) (options_with values) command script.1.1 in
    subst IsFit options.1.1 (by_options values options.0 options.1.0)

by_info : (values : Text → List Text) (command : Command) → info_with values ≡ Some command → IsFit command
by_info values command is =
    let script = of_map c.Info (only (values (codes "operand"))) command is in
    subst IsFit script.1.1 tt

by_self_test : (values : Text → List Text) (command : Command) → self_test_with values ≡ Some command → IsFit command
by_self_test values command is =
    let number = of_map c.SelfTest (option_and_then (number_in 0 4294967295) (only (values (codes "operand")))) command is in
    subst IsFit number.1.1 tt

-- a cache that was given beside two names holds a frame
cached_held : (values : Text → List Text) (given : Text × Text × Option ℕ) → cached_with values ≡ Some given → 0 < cache_of given.2
cached_held values given is =
    let names = of_and_then (λ names. option_map (λ cache. (names.0, names.1, cache)) (number_among 1 256 (values (codes "cache")))) (both (values (codes "operand"))) given is in
    let cache = of_map (λ cache. ((names.0).0, (names.0).1, cache)) (number_among 1 256 (values (codes "cache"))) given names.1.1 in
    subst (λ (g : Text × Text × Option ℕ). 0 < cache_of g.2) cache.1.1 (holds_one cache.0 (among 1 256 (values (codes "cache")) cache.0 cache.1.0))

by_session : (values : Text → List Text) (command : Command) → session_with values ≡ Some command → IsFit command
by_session values command is =
    let given = of_map (λ (g : Text × Text × Option ℕ). c.Session g.0 g.1 g.2) (cached_with values) command is in
    subst IsFit given.1.1 (cached_held values given.0 given.1.0)

by_replay : (values : Text → List Text) (command : Command) → replay_with values ≡ Some command → IsFit command
by_replay values command is =
    let given = of_map (λ (g : Text × Text × Option ℕ). c.Replay g.0 g.1 g.2) (cached_with values) command is in
    subst IsFit given.1.1 (cached_held values given.0 given.1.0)

by_name : (first second third fourth fifth : Bool) (words : List Text) (command : Command)
    → command_by (if first then Some (render_options, render_with) else if second then Some ([], info_with) else if third then Some ([], self_test_with) else if fourth then Some (cached_options, session_with) else if fifth then Some (cached_options, replay_with) else None) words ≡ Some command → IsFit command
by_name true second third fourth fifth words command is =
    let given = of_and_then (λ given. render_with (values_of given)) (given_by render_options words) command is in
    by_render (values_of given.0) command given.1.1
by_name false true third fourth fifth words command is =
    let given = of_and_then (λ given. info_with (values_of given)) (given_by [] words) command is in
    by_info (values_of given.0) command given.1.1
by_name false false true fourth fifth words command is =
    let given = of_and_then (λ given. self_test_with (values_of given)) (given_by [] words) command is in
    by_self_test (values_of given.0) command given.1.1
by_name false false false true fifth words command is =
    let given = of_and_then (λ given. session_with (values_of given)) (given_by cached_options words) command is in
    by_session (values_of given.0) command given.1.1
by_name false false false false true words command is =
    let given = of_and_then (λ given. replay_with (values_of given)) (given_by cached_options words) command is in
    by_replay (values_of given.0) command given.1.1
by_name false false false false false words command is = absurd (cc)

pub is_fit : (words : List Text) (command : Command) → command_in words ≡ Some command → IsFit command
is_fit [] command is = absurd (cc)
is_fit (name ∷ words) command is =
    by_name (bytes_eq name (codes "render")) (bytes_eq name (codes "info")) (bytes_eq name (codes "selftest")) (bytes_eq name (codes "session")) (bytes_eq name (codes "replay")) words command is
