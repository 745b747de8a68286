-- The text of a render's journal is a journal of the script's plan.
use Rattle.std.proofs.Common.{◌≡◌, ℕ, List, Option, sym, subst}
use Rattle.std.specs.List.{AllByRecursion}
use Rattle.fv_io.specs.World.{World}
use Rattle.serve_machine.specs.Events.{WindowEvents, windows_of}
use Rattle.serve_machine.specs.declared.windows.Record.{Record}
use Rattle.prefetch.specs.declared.pool_size.PoolSize.{PoolSize}
use Rattle.run_text.specs.Lines.{LineFits, journal_lines, journal_text}
use Rattle.run_text.specs.Journal.{IsJournal}
use Rattle.run_agree.proofs.CrewLemmas.{crews_are_lawful}
use Rattle.prefetch.specs.Windows.{frames_at, pool}
use Rattle.serve_app.specs.Journals.{IsScriptRendered, workers_of}

module _ (told : Option World) (script : List ℕ) (capacity : ℕ) (pool_size : PoolSize) (journal : Option Record) (run : IsScriptRendered told script capacity pool_size journal) where
  abbrev count : ℕ
  count = workers_of told script capacity pool_size run

  abbrev windows_there : List WindowEvents
  windows_there = windows_of (let rendered = run.rendered in rendered.log)

  lawful : AllByRecursion LineFits (journal_lines count windows_there) → IsJournal run.plan run.root capacity (journal_text count windows_there)
  lawful fits =
      let are = run.is_pool in
      let of = run.is_plan in
      let rendered = run.rendered in
      let whole = rendered.whole in
      let crew = whole.crew are.some in
      let first = crew.1 in
      crews_are_lawful run.plan run.root capacity count (pool pool_size of.crew).window (frames_at run.plan run.root) crew.0 windows_there first.left
      (record { plan_is = of.is_plan; root_in = of.inside; some = are.some_outputs; few = are.few_outputs }) are.some are.few fits first.whole

  pub lawful_by : (workers : ℕ) (windows : List WindowEvents) → count ≡ workers → windows ≡ windows_there → AllByRecursion LineFits (journal_lines workers windows)
      → IsJournal run.plan run.root capacity (journal_text workers windows)
  lawful_by workers windows many same fits =
      subst (λ (w : ℕ). IsJournal run.plan run.root capacity (journal_text w windows)) many
      (subst (λ (l : List WindowEvents). IsJournal run.plan run.root capacity (journal_text count l)) (sym same)
      (lawful (subst (λ (l : List WindowEvents). AllByRecursion LineFits (journal_lines count l)) same
      (subst (λ (w : ℕ). AllByRecursion LineFits (journal_lines w windows)) (sym many) fits))))
