-- Rows inside borders.
use Rattle.std.proofs.Common.{◌≡◌, ℕ, ◌+◌, ◌-◌, ◌/◌, ◌<◌, ◌≤◌, List, length, get_or, take, drop, Bool, true, false, None, refl, ap, ◌∙◌, arith, replicate}
use Rattle.std.specs.Prelude.{ℤ, ◌==◌, ◌&&◌, if◌then◌else◌, nat_lt, nat_le}
use Rattle.std.proofs.lemmas.List.{get_or-replicate, length-replicate, length-take-le, length-drop, get_or-take, get_or-drop}
use Rattle.std.proofs.lemmas.Grind.{common_steps}
use Rattle.fv_plane.specs.declared.format.PixelType.{PixelType}
use Rattle.fv_plane.specs.declared.format.Shape.{Shape}
use Rattle.fv_plane.specs.Format.{sub_w, plane_width, plane_height}
use Rattle.fv_plane.specs.Picture.{across, down, look_in, row_from, Picture, row_of}
use Rattle.fv_plane.proofs.FillLemmas.{row_listed}
use Rattle.fv_plane.specs.Refusals.{first_fault}
use Rattle.clip_term.specs.declared.op.SpaceOp.TheVariants.{AddBorders, LetterBox}
use Rattle.clip_term.specs.Refusals.{sized, nat_of, paint}
use Rattle.clip_term.specs.Space.{is_within, space_at, space_refusals}
use Rattle.clip_term.proofs.PassedLemmas.{if_same}
use Rattle.flt_space.specs.Rows.{padded}

-- a row whose first and last samples are of one value
abbrev pub covered : ℕ → ℕ → ℕ → List ℕ → List ℕ
covered left right value row = padded left value (take (length row - right - left) (drop left row)) (length row)

between_by : (luma : Bool) (kind : PixelType) (w l r : ℕ)
    → (if luma then l else l / sub_w kind) + (if luma then w else w / sub_w kind) ≤ (if luma then w + l + r else (w + l + r) / sub_w kind)
between_by luma kind w l r = grind (arith, common_steps)

-- borders leave room for the row
pub fits_between : (shape : Shape) (p l r h : ℕ) → across shape p l + plane_width shape p ≤ plane_width (sized shape (shape.width + l + r) h) p
fits_between shape p l r h = between_by (p == 0) shape.kind shape.width l r

across_by : (luma : Bool) (kind : PixelType) (w l r : ℕ) → l + r ≤ w
    → (if luma then l else l / sub_w kind) + (if luma then r else r / sub_w kind) ≤ (if luma then w else w / sub_w kind)
across_by luma kind w l r h = grind (arith, common_steps)

pad_by : (from within : Bool) (row : List ℕ) (before value width x : ℕ) → nat_le before x ≡ from → nat_lt x (before + length row) ≡ within → before + length row ≤ width → x < width
    → get_or (padded before value row width) x 0 ≡ (if from && within then get_or row (x - before) 0 else value)
pad_by from within row before value width x e f room inside = grind (arith, common_steps)

-- the row stands between the borders
pub padded_at : (row : List ℕ) (before value width x : ℕ) → before + length row ≤ width → x < width
    → get_or (padded before value row width) x 0 ≡ (if is_within before (before + length row) x then get_or row (x - before) 0 else value)
padded_at row before value width x room inside = pad_by (nat_le before x) (nat_lt x (before + length row)) row before value width x refl refl room inside

pub length-padded : (row : List ℕ) (before value width : ℕ) → before + length row ≤ width → length (padded before value row width) ≡ width
length-padded row before value width room = grind (arith, common_steps)

-- in a row between the borders above and below, a column decides
in_row : (column row : Bool) (a b : ℕ) → row ≡ true → (if column then a else b) ≡ (if column && row then a else b)
in_row column row a b e = grind (arith, common_steps)

-- another row has the colour
out_of_row : (column row : Bool) (a b : ℕ) → row ≡ false → b ≡ (if column && row then a else b)
out_of_row column row a b e = grind (arith, common_steps)

-- what a test of a place between others says
pub inside_of : (start end at : ℕ) → is_within start end at ≡ true → (start ≤ at) × (at < end)
inside_of start end at e = grind (arith, common_steps)

-- and where it stands below the start
pub below_start : (start high h at : ℕ) → high ≡ h → is_within start (start + high) at ≡ true → at - start < h
below_start start high h at same e = grind (arith, common_steps)

-- a letter box covers no more columns than there are
pub fits_across : (shape : Shape) (p l r : ℕ) → l + r ≤ shape.width → across shape p l + across shape p r ≤ plane_width shape p
fits_across shape p l r h = across_by (p == 0) shape.kind shape.width l r h

-- what a letter box that is accepted covers
pub covers_less : (shape : Shape) (top bottom x1 x2 color : ℤ) → first_fault (space_refusals (LetterBox top bottom x1 x2 color) shape) ≡ None → nat_of x1 + nat_of x2 ≤ shape.width
covers_less shape top bottom x1 x2 color told = grind (arith, common_steps)

-- a row of a picture with borders
pub bordered_row : (input : Picture) (left top right bottom color : ℤ) (p y width : ℕ) → length (row_of input.planes p (y - down input.shape p (nat_of top))) ≡ plane_width input.shape p
    → across input.shape p (nat_of left) + plane_width input.shape p ≤ width
    → is_within (down input.shape p (nat_of top)) (down input.shape p (nat_of top) + plane_height input.shape p) y ≡ true
    → padded (across input.shape p (nat_of left)) (paint color input.shape p) (row_of input.planes p (y - down input.shape p (nat_of top))) width
    ≡ row_from (space_at (AddBorders left top right bottom color) input.shape (look_in input)) p width y
bordered_row input left top right bottom color p y width long room told =
    let before = across input.shape p (nat_of left) in
    let dy = down input.shape p (nat_of top) in
    let value = paint color input.shape p in
    let row = row_of input.planes p (y - dy) in
    let fits : before + length row ≤ width = omega (arith, long, room) in
    row_listed (padded before value row width) (space_at (AddBorders left top right bottom color) input.shape (look_in input)) p width y (length-padded row before value width fits)
    (λ x inside. padded_at row before value width x fits inside
    ∙ ap (λ (n : ℕ). if is_within before (before + n) x then get_or row (x - before) 0 else value) long
    ∙ in_row (is_within before (before + plane_width input.shape p) x) (is_within dy (dy + plane_height input.shape p) y) (get_or row (x - before) 0) value told)

-- a row of its borders
pub border_row : (input : Picture) (left top right bottom color : ℤ) (p y width : ℕ) → is_within (down input.shape p (nat_of top)) (down input.shape p (nat_of top) + plane_height input.shape p) y ≡ false
    → replicate width (paint color input.shape p) ≡ row_from (space_at (AddBorders left top right bottom color) input.shape (look_in input)) p width y
border_row input left top right bottom color p y width told = search (arith, row_listed, length-replicate, get_or-replicate, out_of_row)

-- a row of a picture in a letter box
pub boxed_row : (input : Picture) (top bottom x1 x2 color : ℤ) (p y : ℕ) → length (row_of input.planes p y) ≡ plane_width input.shape p
    → across input.shape p (nat_of x1) + across input.shape p (nat_of x2) ≤ plane_width input.shape p
    → is_within (down input.shape p (nat_of top)) (plane_height input.shape p - down input.shape p (nat_of bottom)) y ≡ true
    → covered (across input.shape p (nat_of x1)) (across input.shape p (nat_of x2)) (paint color input.shape p) (row_of input.planes p y)
    ≡ row_from (space_at (LetterBox top bottom x1 x2 color) input.shape (look_in input)) p (plane_width input.shape p) y
boxed_row input top bottom x1 x2 color p y long room told =
    let left = across input.shape p (nat_of x1) in
    let right = across input.shape p (nat_of x2) in
    let value = paint color input.shape p in
    let row = row_of input.planes p y in
    let width = plane_width input.shape p in
    let part = take (length row - right - left) (drop left row) in
    let size : length part ≡ length row - right - left = length-take-le (length row - right - left) (drop left row) (omega (arith, length-drop left row)) in
    let end : left + length part ≡ width - right = omega (arith, size, long, room) in
    let fits : left + length part ≤ length row = omega (arith, size, long, room) in
    row_listed (padded left value part (length row)) (space_at (LetterBox top bottom x1 x2 color) input.shape (look_in input)) p width y (length-padded part left value (length row) fits ∙ long)
    (λ x inside. padded_at part left value (length row) x fits (omega (arith, inside, long))
    ∙ if_same (is_within left (left + length part) x) (get_or part (x - left) 0) (get_or row x 0) value value (λ within.
    let places = inside_of left (left + length part) x within in
    get_or-take (length row - right - left) (drop left row) (x - left) 0 (omega (arith, places.0, places.1, size)) ∙ get_or-drop left row (x - left) 0 ∙ ap (λ (k : ℕ). get_or row k 0) (omega (arith, places.0))) refl
    ∙ ap (λ (n : ℕ). if is_within left n x then get_or row x 0 else value) end
    ∙ in_row (is_within left (width - right) x) (is_within (down input.shape p (nat_of top)) (plane_height input.shape p - down input.shape p (nat_of bottom)) y) (get_or row x 0) value told)

-- a row that a letter box covers
pub box_row : (input : Picture) (top bottom x1 x2 color : ℤ) (p y width : ℕ) → is_within (down input.shape p (nat_of top)) (plane_height input.shape p - down input.shape p (nat_of bottom)) y ≡ false
    → replicate width (paint color input.shape p) ≡ row_from (space_at (LetterBox top bottom x1 x2 color) input.shape (look_in input)) p width y
box_row input top bottom x1 x2 color p y width told = search (arith, row_listed, length-replicate, get_or-replicate, out_of_row)
