-- A text has one line, and the line of its verdict is that one.
use Rattle.std.proofs.Common.{◌≡◌, ◌∙◌, ℕ, List, ap, sym, subst}
use Rattle.fv_io.specs.declared.sink.Sink.{Ghosts}
use Rattle.fv_io.specs.Sink.{Puts, PutsPrefix}
use Rattle.run_text.specs.declared.verdict.Verdict.{Verdict}
use Rattle.run_text.specs.Journal.{Judges}
use Rattle.run_text.proofs.JudgeLemmas.{judged_once}
use Rattle.clip_graph.specs.Plan.{Application}
use Rattle.serve_replay.specs.Verdicts.{said, IsSaidOf, SaidOnce, PutsDue}

pub said_once : SaidOnce
said_once plan root capacity text one other a b =
    a.line_is ∙ ap (said text) (judged_once plan root capacity text a.verdict b.verdict a.judged b.judged) ∙ sym b.line_is

module _ (plan : List Application) (root capacity : ℕ) (text : List ℕ) (verdict : Verdict) (judged : Judges plan root capacity text verdict) where
  pub is_said : (line : List ℕ) → line ≡ said text verdict → IsSaidOf plan root capacity text line
  is_said line is = record { verdict = verdict; judged = judged; line_is = is }

  module _ {K : Type 0} (sink : Ghosts K) (old new : K) (piece : List ℕ) (is : piece ≡ said text verdict) where
    -- the line was put
    pub puts_due : Puts sink old new piece → PutsDue sink old new (IsSaidOf plan root capacity text)
    puts_due put = record { line = piece; due = is_said piece is; put = put }

    -- each line that is due was cut short, since there is one
    pub cuts_due : PutsPrefix sink old new piece → (line : List ℕ) → IsSaidOf plan root capacity text line → PutsPrefix sink old new line
    cuts_due cut line due = subst (PutsPrefix sink old new) (said_once plan root capacity text piece line (is_said piece is) due) cut
