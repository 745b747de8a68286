use Rattle.std.proofs.Common.{◌≡◌, ◌∙◌, ◌+◌, ◌-◌, ◌*◌, ℕ, List, length, take, drop, ap, sym, arith}
use Rattle.fv_plane.specs.Picture.{wide_bytes, wide_samples, row_of}
use Rattle.fv_plane.specs.Format.{plane_width, row_bytes}
use Rattle.fv_plane.proofs.CallerLemmas.{bytes_of_wide, is_wide}
use Rattle.fv_plane.proofs.WideLemmas.{length-wide_bytes, samples-bytes}
use Rattle.flt_space.specs.Rows.{padded}
use Rattle.flt_space.proofs.MoveLemmas.{length_part, part_bytes}
use Rattle.flt_space.proofs.borders.fill_wide.Goals as goal

pub pad_bytes-requires-clause-whole : goal.pad_bytes-requires-clause-whole
pad_bytes-requires-clause-whole c =
    let shape = c.args.input.now.shape in
    let plan = c.args.plan in
    let p = c.args.plane in
    let samples : List ℕ = row_of c.args.input.now.planes p plan.row in
    let n : ℕ = 2 * plan.from + 2 * plan.count - 2 * plan.from in
    let stored : c.row-row.result.now ≡ wide_bytes samples = c.row-row.ensures.row ∙ bytes_of_wide shape samples (is_wide shape c.requires.wide) in
    let part : take n (drop (2 * plan.from) c.row-row.result.now) ≡ wide_bytes (take plan.count (drop plan.from samples))
    = ap (λ l. take n (drop (2 * plan.from) l)) stored ∙ part_bytes samples plan.from plan.count (2 * plan.from) n (omega arith) (omega arith) in
    ap (λ l. wide_bytes (wide_samples l)) part ∙ ap wide_bytes (samples-bytes (take plan.count (drop plan.from samples))) ∙ sym part

pub pad_bytes-requires-clause-even : goal.pad_bytes-requires-clause-even
pad_bytes-requires-clause-even c =
    let shape = c.args.input.now.shape in
    let plan = c.args.plan in
    let p = c.args.plane in
    let samples : List ℕ = row_of c.args.input.now.planes p plan.row in
    let n : ℕ = 2 * plan.from + 2 * plan.count - 2 * plan.from in
    let stored : c.row-row.result.now ≡ wide_bytes samples = c.row-row.ensures.row ∙ bytes_of_wide shape samples (is_wide shape c.requires.wide) in
    let part : take n (drop (2 * plan.from) c.row-row.result.now) ≡ wide_bytes (take plan.count (drop plan.from samples))
    = ap (λ l. take n (drop (2 * plan.from) l)) stored ∙ part_bytes samples plan.from plan.count (2 * plan.from) n (omega arith) (omega arith) in
    ap length part ∙ length-wide_bytes (take plan.count (drop plan.from samples))
    ∙ ap (λ l. length l * 2) (sym (ap wide_samples part ∙ samples-bytes (take plan.count (drop plan.from samples))))

pub pad_bytes-requires-clause-inside : goal.pad_bytes-requires-clause-inside
pad_bytes-requires-clause-inside c =
    let shape = c.args.input.now.shape in
    let plan = c.args.plan in
    let p = c.args.plane in
    let samples : List ℕ = row_of c.args.input.now.planes p plan.row in
    let n : ℕ = 2 * plan.from + 2 * plan.count - 2 * plan.from in
    let stored : c.row-row.result.now ≡ wide_bytes samples = c.row-row.ensures.row ∙ bytes_of_wide shape samples (is_wide shape c.requires.wide) in
    let part : take n (drop (2 * plan.from) c.row-row.result.now) ≡ wide_bytes (take plan.count (drop plan.from samples))
    = ap (λ l. take n (drop (2 * plan.from) l)) stored ∙ part_bytes samples plan.from plan.count (2 * plan.from) n (omega arith) (omega arith) in
    let two : row_bytes shape p ≡ plane_width shape p * 2 = ap (λ m. plane_width shape p * m) c.requires.wide in
    let long : length samples ≡ plane_width shape p = omega (arith, ap length stored, length-wide_bytes samples, c.row-row.ensures.whole, two) in
    omega (arith, ap length (ap wide_samples part ∙ samples-bytes (take plan.count (drop plan.from samples))), length_part samples plan.from plan.count (plane_width shape p) long c.requires.fits.part, c.requires.fits.room)

pub returns : goal.returns
returns c =
    let shape = c.args.input.now.shape in
    let plan = c.args.plan in
    let p = c.args.plane in
    let samples : List ℕ = row_of c.args.input.now.planes p plan.row in
    let n : ℕ = 2 * plan.from + 2 * plan.count - 2 * plan.from in
    let stored : c.row-row.result.now ≡ wide_bytes samples = c.row-row.ensures.row ∙ bytes_of_wide shape samples (is_wide shape c.requires.wide) in
    let part : take n (drop (2 * plan.from) c.row-row.result.now) ≡ wide_bytes (take plan.count (drop plan.from samples))
    = ap (λ l. take n (drop (2 * plan.from) l)) stored ∙ part_bytes samples plan.from plan.count (2 * plan.from) n (omega arith) (omega arith) in
    c.pad_bytes.ensures ∙ ap (λ l. wide_bytes (padded plan.before c.args.colour l (length c.args.samples.now))) (ap wide_samples part ∙ samples-bytes (take plan.count (drop plan.from samples)))
