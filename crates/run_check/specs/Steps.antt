-- What is known after a line.
use Rattle.std.specs.Prelude.{◌≡◌, ℕ, ◌<◌, ◌≤◌, List, [], ◌∷◌, ◌++◌, length, drop, Option, Some, None}
use Rattle.clip_graph.specs.Plan.{Application}
use Rattle.run_text.specs.declared.line.Line.{Line}
use Rattle.run_text.specs.Lines.{line_text, LineFits}
use Rattle.run_text.specs.Journal.{first_line}
use Rattle.run_text.specs.Progress.{Progress, next}

module _ (plan : List Application) (root capacity : ℕ) where
  -- no line that is spelled so may come next
  abbrev pub Ends : Progress → List ℕ → Type 0
  Ends p text = (line : Line) → LineFits line → text ≡ line_text line ++ 10 ∷ [] → next plan root capacity p line ≡ None

  module _ (Stands : Progress → Type 0) (p : Progress) (rest : List ℕ) where
    -- the first line of so many bytes came
    pub record Reads (count : ℕ) : Type 0 where
      pub line : Line
      pub after : Progress
      pub text_is : rest ≡ line_text line ++ 10 ∷ drop count rest
      pub fits : LineFits line
      pub goes : next plan root capacity p line ≡ Some after
      pub stands : Stands after
      pub some : 0 < count
      pub inside : count ≤ length rest

    abbrev pub StepsTo : Option ℕ → Type 0
    StepsTo (Some count) = Reads count
    StepsTo None = Ends p (first_line rest)
