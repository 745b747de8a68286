use Rattle.std.proofs.Common.{◌≡◌, ◌∙◌, ◌/◌, ◌==◌, ap, sym, false, length, map, arith, inl, inr, ne_eqb}
use Rattle.std.specs.Prelude.{min}
use Rattle.fv_plane.specs.Picture.{wide_bytes, wide_samples}
use Rattle.fv_plane.specs.Format.{sample_bytes}
use Rattle.fv_plane.proofs.BytesLemmas.{in_range-sixteen, in_range-wide, whole_samples}
use Rattle.fv_plane.proofs.CallerLemmas.{in_range-narrow}
use Rattle.fv_plane.proofs.wide.bring_in_range.Goals as goal

pub returns-then-shape-eq8 : goal.returns-then-shape-eq8
returns-then-shape-eq8 c =
    let shape = c.args.shape in
    let bytes = c.args.bytes.now in
    elim c.then-shape-eq8.either [
      | inl eight ↦ sym (in_range-narrow shape bytes eight)
      | inr both ↦ sym (in_range-sixteen shape (length bytes / sample_bytes shape) bytes both.1 (whole_samples shape bytes c.requires.whole) (λ k. (let byte = c.type_inv.bytes k in omega (arith, byte))))
    ]

pub returns : goal.returns
returns c =
    let shape = c.args.shape in
    let wide : (shape.bits == 8) ≡ false = ne_eqb shape.bits 8 c.if-shape-eq8.false in
    c.limit_samples.ensures ∙ ap (λ n. wide_bytes (map (λ s. min s n) (wide_samples c.args.bytes.now))) c.largest_sample.ensures ∙ sym (in_range-wide shape c.args.bytes.now wide)
