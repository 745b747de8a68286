-- Each ending has its cause.
use Rattle.std.proofs.Common.{◌∙◌, refl, sym}
use Rattle.serve_app.proofs.OptionLemmas.{is_fit}
use Rattle.serve_app.specs.Run.{size_by}
use Rattle.serve_app.proofs.EndLemmas.{unfailed_by, told_well, ends_of, ends_of_memory, has_log}
use Rattle.serve_app.proofs.RunLemmas.{said_later}
use Rattle.serve_app.proofs.entry.run.Goals as goal

pub run_command_together-done-requires-clause-fits : goal.run_command_together-done-requires-clause-fits
run_command_together-done-requires-clause-fits g c = λ lifetimes longer. is_fit c.args.words.now c.in-Ok-Some.command (sym c.in-Ok-Some.ensures ∙ c.in-Ok-Some.field-0-is)

pub finish-status-requires : goal.finish-status-requires
finish-status-requires g c =
    has_log g.F.Files g.K.Sink c.args.files.now c.run_command_together-done.new.files c.args.out.now c.run_command_together-done.new.out c.run_command_together-done.new.journal size_by c.in-Ok-Some.command c.run_command_together-done.result
    c.run_command_together-done.ensures.does

pub returns-in-Ok-Some : goal.returns-in-Ok-Some
returns-in-Ok-Some g c =
    let both = ends_of g.F.Files g.K.Sink g.E.Sink c.args.files.now c.run_command_together-done.new.files c.args.out.now c.run_command_together-done.new.out c.args.err.now c.finish-status.new.err size_by c.args.words.now
    c.run_command_together-done.new.journal c.in-Ok-Some.command c.run_command_together-done.result c.finish-status.result (sym c.in-Ok-Some.ensures ∙ c.in-Ok-Some.field-0-is) c.run_command_together-done.ensures.does c.run_command_together-done.ensures.leaves c.run_command_together-done.ensures.before c.finish-status.ensures (
      c.run_command_together-done.ensures.keeps,
      c.run_command_together-done.ensures.later,
      said_later g.E.Sink c.args.err.now c.finish-status.new.err c.run_command_together-done.result c.run_command_together-done.new.journal c.finish-status.result c.finish-status.ensures,
      unfailed_by g.E.Sink c.args.err.now c.finish-status.new.err c.run_command_together-done.result c.run_command_together-done.new.journal c.finish-status.result _ _ c.finish-status.ensures c.run_command_together-done.ensures.unfailed,
      told_well g.E.Sink c.args.err.now c.finish-status.new.err c.run_command_together-done.result c.run_command_together-done.new.journal c.finish-status.result c.finish-status.ensures,
    ) in
    record { ends = both.0; journal = both.1 }

pub returns-in-Err : goal.returns-in-Err
returns-in-Err g c =
    let both = ends_of_memory g.F.Files g.K.Sink g.E.Sink c.args.files.now c.args.out.now c.args.err.now c.finish-status-in-Err.new.err size_by c.args.words.now _ refl c.finish-status-in-Err.result
    c.finish-status-in-Err.ensures in
    record { ends = both.0; journal = both.1 }
