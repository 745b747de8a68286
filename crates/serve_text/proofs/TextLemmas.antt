-- Texts that are made line by line.
use Rattle.std.proofs.Common.{◌≡◌, ◌∙◌, ℕ, ◌+◌, ◌<◌, ◌≤◌, refl, sym, ap, List, ◌++◌, length, take, drop, get_or, add-one}
use Rattle.std.proofs.Math.Seq.{drop-cons}
use Rattle.std.specs.List.{flat_map}
use Rattle.std.proofs.lemmas.List.{append-nil, drop_all, flat_map_more, take_more}
use Rattle.clip_graph.specs.Plan.{Application, application_at, no_application}
use Rattle.serve_text.specs.InfoText.{node_line, node_lines}

-- one more piece
pub one_more : {X : Type 0} (text : X → List ℕ) (before : List ℕ) (xs : List X) (i : ℕ) (d : X) → i < length xs
    → (before ++ flat_map text (take i xs)) ++ text (get_or xs i d) ≡ before ++ flat_map text (take (i + 1) xs)
one_more text before xs i d lt = flat_map_more text before (take i xs) (get_or xs i d) ∙ ap (λ ys. before ++ flat_map text ys) (sym (take_more xs i d lt))

-- the lines from a node on
pub next_line : (plan : List Application) (i : ℕ) → i < length plan
    → node_lines i (drop i plan) ≡ node_line i (application_at plan i) ++ node_lines (i + 1) (drop (i + 1) plan)
unfolding node_lines
next_line plan i lt = rw (add-one, drop-cons plan i no_application) refl

-- past the last node no line is left
pub lines_end : (plan : List Application) (i : ℕ) (text : List ℕ) → length plan ≤ i → text ++ node_lines i (drop i plan) ≡ text
unfolding node_lines
lines_end plan i text past = rw (drop_all i plan past) (append-nil text)
