-- The journal of Trim(2, 0) of a source, by one worker.
use Rattle.std.specs.Prelude.{◌++◌, List, ℕ, codes}
use Rattle.serve_machine.specs.SerialExamples.{trimmed}
use Rattle.run_text.specs.declared.verdict.Verdict.TheVariants.{Yes, No}
use Rattle.run_text.specs.Journal.{Judges}

abbrev pub front : List ℕ
front = codes "workers 1\nwindow 0 1\ntake 0 0\nclaim 0 1 0\nclaim 0 0 2\n"

abbrev pub back : List ℕ
back = codes "leave 0 0 0\npublish 0 0 2\npublish 0 1 0\ndeliver 0 0\n"

abbrev pub whole : List ℕ
whole = front ++ (codes "enter 0 0 0\n" ++ back)

-- in a cache of 64 frames it is a journal
abbrev pub FirstRow : Type 0
FirstRow = Judges trimmed 1 64 whole Yes

-- without its sixth line it stops being one there
abbrev pub SecondRow : Type 0
SecondRow = Judges trimmed 1 64 (front ++ back) (No 6)

-- in a cache of one frame, at the second publication
abbrev pub ThirdRow : Type 0
ThirdRow = Judges trimmed 1 1 whole (No 9)
