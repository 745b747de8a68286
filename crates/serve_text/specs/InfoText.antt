-- What is known of the clip of a script, as lines of text.
use Rattle.std.specs.Prelude.{ℕ, suc, List, [], ◌∷◌, ◌++◌, flat_map, codes}
use Rattle.std.specs.Fmt.{decimal}
use Rattle.fv_plane.specs.declared.format.Info.{Info}
use Rattle.clip_term.specs.Filters.{name_of}
use Rattle.clip_graph.specs.Plan.{Application, application_at}
use Rattle.fv_plane.specs.Format.{format_name}
use Rattle.clip_term.specs.Terms.{filter_of}

-- the size and the format of a clip, its rate and its length
abbrev pub clip_line : Info → List ℕ
clip_line info = codes "clip " ++ (decimal info.shape.width ++ (codes "x" ++ (decimal info.shape.height
    ++ (codes " " ++ (format_name info.shape ++ (codes " " ++ (decimal info.num ++ (codes ":" ++ (decimal info.den
    ++ (codes " frames " ++ (decimal info.frames ++ codes "\n")))))))))))

-- the numbers of the inputs, each after a space
abbrev pub inputs_text : List ℕ → List ℕ
inputs_text inputs = flat_map (λ i. codes " " ++ decimal i) inputs

-- the number of a node, its filter, its mode and its inputs
abbrev pub node_line : ℕ → Application → List ℕ
node_line i node = decimal i ++ (codes " " ++ (name_of (filter_of node.act) ++ (codes " " ++ (decimal node.mode
    ++ (inputs_text node.inputs ++ codes "\n")))))

-- a line for each node, the first with this number
unfoldable pub node_lines : ℕ → List Application → List ℕ
node_lines i [] = []
node_lines i (node ∷ nodes) = node_line i node ++ node_lines (suc i) nodes

-- the root, and the workers and the window that the script asks for
abbrev pub last_lines : ℕ → ℕ → ℕ → List ℕ
last_lines root workers window = codes "root " ++ (decimal root ++ (codes "\nprefetch " ++ (decimal workers
    ++ (codes " " ++ (decimal window ++ codes "\n")))))

abbrev pub info_text : List Application → ℕ → ℕ → ℕ → List ℕ
info_text plan root workers window =
    clip_line (application_at plan root).info ++ (node_lines 0 plan ++ last_lines root workers window)
