-- The head as it is written, from its front, and how long it is.
use Rattle.std.proofs.Common.{◌≡◌, ℕ, ◌<◌, ◌≤◌, List, [], ◌++◌, length, sym, ◌∙◌, ap, arith, codes}
use Rattle.std.proofs.lemmas.List.{append_assoc, append-nil, length-append}
use Rattle.std.proofs.lemmas.Fmt.{length-decimal-le}
use Rattle.std.specs.Fmt.{decimal}
use Rattle.fv_plane.specs.declared.format.Field.{Field}
use Rattle.fv_plane.specs.declared.format.Field.TheVariants.{Progressive, Top, Bottom, Unknown}
use Rattle.fv_plane.specs.declared.format.Info.{Info}
use Rattle.fv_plane.specs.Info.{IsLawful}
use Rattle.fv_plane.specs.Format.{format_of}
use Rattle.y4m_stream.specs.Head.{colourspace_name, field_name, head_line}
use Rattle.y4m_stream.proofs.ColourLemmas.{short_colour}

-- the head without its newline, and then a rest
unfoldable pub words_then : Info → List ℕ → List ℕ
words_then info rest =
    codes "YUV4MPEG2 W" ++ (decimal info.shape.width ++ (codes " H" ++ (decimal info.shape.height ++ (codes " F" ++ (decimal info.num ++ (codes ":" ++ (decimal info.den
    ++ (codes " I" ++ (field_name info.field ++ (codes " A" ++ (decimal info.par.num ++ (codes ":" ++ (decimal info.par.den ++ (codes " C" ++ (colourspace_name (format_of info.shape) info.tag ++ rest)))))))))))))))

-- words joined at spaces, from their front
module _ (width height num den field par_num par_den colour rest : List ℕ) where
  abbrev from_colour : List ℕ
  from_colour = codes " C" ++ colour

  abbrev from_par : List ℕ
  from_par = codes " A" ++ ((par_num ++ (codes ":" ++ par_den)) ++ from_colour)

  abbrev from_field : List ℕ
  from_field = codes " I" ++ (field ++ from_par)

  abbrev from_rate : List ℕ
  from_rate = codes " F" ++ ((num ++ (codes ":" ++ den)) ++ from_field)

  abbrev from_height : List ℕ
  from_height = codes " H" ++ (height ++ from_rate)

  par_then : from_par ++ rest ≡ codes " A" ++ (par_num ++ (codes ":" ++ (par_den ++ (from_colour ++ rest))))
  par_then = ap (λ (l : List ℕ). codes " A" ++ l) (append_assoc (par_num ++ (codes ":" ++ par_den)) from_colour rest ∙ append_assoc par_num (codes ":" ++ par_den) (from_colour ++ rest))

  field_then : from_field ++ rest ≡ codes " I" ++ (field ++ (codes " A" ++ (par_num ++ (codes ":" ++ (par_den ++ (from_colour ++ rest))))))
  field_then = ap (λ (l : List ℕ). codes " I" ++ l) (append_assoc field from_par rest ∙ ap (λ (l : List ℕ). field ++ l) par_then)

  rate_then : from_rate ++ rest ≡ codes " F" ++ (num ++ (codes ":" ++ (den ++ (codes " I" ++ (field ++ (codes " A" ++ (par_num ++ (codes ":" ++ (par_den ++ (from_colour ++ rest))))))))))
  rate_then =
      ap (λ (l : List ℕ). codes " F" ++ l)
      (append_assoc (num ++ (codes ":" ++ den)) from_field rest ∙ append_assoc num (codes ":" ++ den) (from_field ++ rest) ∙ ap (λ (l : List ℕ). num ++ (codes ":" ++ (den ++ l))) field_then)

  words_joined : codes "YUV4MPEG2 W" ++ ((width ++ from_height) ++ rest)
      ≡ codes "YUV4MPEG2 W" ++ (width ++ (codes " H" ++ (height ++ (codes " F" ++ (num ++ (codes ":" ++ (den ++ (codes " I" ++ (field ++ (codes " A" ++ (par_num ++ (codes ":" ++ (par_den ++ (from_colour ++ rest))))))))))))))
  words_joined =
      ap (λ (l : List ℕ). codes "YUV4MPEG2 W" ++ l)
      (append_assoc width from_height rest ∙ ap (λ (l : List ℕ). width ++ (codes " H" ++ l)) (append_assoc height from_rate rest ∙ ap (λ (l : List ℕ). height ++ l) rate_then))

-- a line that begins with the written words, from its front
pub words_then_is : (info : Info) (rest : List ℕ) → head_line info ++ rest ≡ words_then info rest
unfolding words_then head_line
words_then_is info rest = words_joined (decimal info.shape.width) (decimal info.shape.height) (decimal info.num) (decimal info.den) (field_name info.field) (decimal info.par.num) (decimal info.par.den) (colourspace_name (format_of info.shape) info.tag) rest

-- how long the name of a field is
short_field : (field : Field) → length (field_name field) ≤ 1
short_field Progressive = omega arith
short_field Top = omega arith
short_field Bottom = omega arith
short_field Unknown = omega arith

-- a head that is written is short enough
pub short_line : (info : Info) → IsLawful info → length (head_line info) < 4096
unfolding words_then
short_line info lawful =
    let whole : length (head_line info) ≡ length (words_then info []) = ap length (sym (append-nil (head_line info)) ∙ words_then_is info []) in
    let colour = short_colour (format_of info.shape) info.tag lawful.shape.depth in
    let width = length-decimal-le 10 info.shape.width (omega arith) (omega (arith, lawful.shape.most_width)) (omega (arith, lawful.shape.most_width)) in
    let height = length-decimal-le 10 info.shape.height (omega arith) (omega (arith, lawful.shape.most_height)) (omega (arith, lawful.shape.most_height)) in
    let num = length-decimal-le 10 info.num (omega arith) (omega (arith, lawful.rate.most_num)) (omega (arith, lawful.rate.most_num)) in
    let den = length-decimal-le 10 info.den (omega arith) (omega (arith, lawful.rate.most_den)) (omega (arith, lawful.rate.most_den)) in
    let par_num = length-decimal-le 10 info.par.num (omega arith) (omega (arith, lawful.par.num)) (omega (arith, lawful.par.num)) in
    let par_den = length-decimal-le 10 info.par.den (omega arith) (omega (arith, lawful.par.den)) (omega (arith, lawful.par.den)) in
    let field = short_field info.field in
    rw whole (simp length-append (omega arith))
