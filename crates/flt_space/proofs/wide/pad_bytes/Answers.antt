use Rattle.std.proofs.Common.{rules, ◌≡◌, ◌∙◌, ◌-◌, ◌/◌, ◌++◌, ℕ, List, length, take, replicate, ap, arith}
use Rattle.std.specs.Prelude.{max}
use Rattle.fv_plane.specs.Picture.{wide_bytes, wide_samples}
use Rattle.flt_space.proofs.MoveLemmas.{padded_bytes, part_replicate}
use Rattle.flt_space.proofs.wide.pad_bytes.Goals as goal

pub returns : goal.returns
returns c =
    let width : ℕ = length c.args.samples.now in
    let part : List ℕ = wide_samples c.args.row.now in
    let before : ℕ = c.args.before in
    let after : ℕ = width - before - length c.args.row.now / 2 in
    let edge : c.fill.new.self ≡ replicate (length c.split_at_mut-edge.result.0.now) c.args.value = search rules in
    let long : length c.split_at_mut-edge.result.0.now ≡ c.max.result = search rules in
    let most : c.max.result ≡ max before after = search rules in
    let first : take before c.fill.new.self ≡ replicate before c.args.value = ap (take before) edge ∙ part_replicate before (length c.split_at_mut-edge.result.0.now) c.args.value (omega (arith, long, most)) in
    let last : take after c.fill.new.self ≡ replicate after c.args.value = ap (take after) edge ∙ part_replicate after (length c.split_at_mut-edge.result.0.now) c.args.value (omega (arith, long, most)) in
    let start : c.write_samples.new.bytes ≡ wide_bytes (replicate before c.args.value) = c.write_samples.ensures ∙ ap wide_bytes first in
    let end : c.write_samples-2.new.bytes ≡ wide_bytes (replicate after c.args.value) = c.write_samples-2.ensures ∙ ap wide_bytes last in
    let middle : c.copy_from_slice.new.self ≡ c.args.row.now = search rules in
    ap (λ l. l ++ (c.copy_from_slice.new.self ++ c.write_samples-2.new.bytes)) start
    ∙ ap (λ l. wide_bytes (replicate before c.args.value) ++ (l ++ c.write_samples-2.new.bytes)) middle
    ∙ ap (λ l. wide_bytes (replicate before c.args.value) ++ (c.args.row.now ++ l)) end
    ∙ padded_bytes before c.args.value width after part c.args.row.now c.requires.whole (omega (arith, c.requires.even))
