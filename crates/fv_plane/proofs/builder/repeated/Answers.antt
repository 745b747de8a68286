use Rattle.std.proofs.Common.{◌≡◌, ◌∙◌, ℕ, [], length, set, replicate, arith, sym, subst, inl, inr}
use Rattle.std.proofs.lemmas.List.{ext_get_or, length-replicate, get_or-replicate, get_or-set_same, get_or-set_other}
use Rattle.std.proofs.lemmas.Bool.{cases_eq}
use Rattle.fv_rows.specs.Rows.{IsPlane}
use Rattle.fv_rows.proofs.RowLemmas.{one_put, IsPlane-set, IsPlane-replicate}
use Rattle.fv_plane.proofs.builder.repeated.Goals as goal

pub loop-y-init : goal.loop-y-init
loop-y-init c = record {
  sizes = subst (λ rows. IsPlane (length c.args.row.now) c.args.height rows) (sym c.in_ok-made.ensures)
      (IsPlane-replicate (length c.args.row.now) c.args.height (replicate (length c.args.row.now) 0) (length-replicate (length c.args.row.now) 0));
  above = λ z within. absurd (omega arith);
}

pub put_rows-requires-clause-inside : goal.put_rows-requires-clause-inside
put_rows-requires-clause-inside c = omega (arith, c.loop-y.invariant.sizes.count)

pub put_rows-requires-clause-whole : goal.put_rows-requires-clause-whole
put_rows-requires-clause-whole c = omega (arith, c.loop-y.invariant.sizes.widths 0 (omega arith))

pub loop-y-preserved : goal.loop-y-preserved
loop-y-preserved c =
    let row = c.args.row.now in
    let y : ℕ = c.loop-y.y in
    let is = c.loop-y.invariant.sizes in
    let put : c.put_rows.new.self ≡ set c.loop-y.made y row
    = c.put_rows.ensures ∙ one_put c.loop-y.made y row (omega (arith, is.count)) (sym (is.widths 0 (omega arith))) in
    record {
      sizes = subst (λ rows. IsPlane (length row) c.args.height rows) (sym put) (IsPlane-set (length row) c.args.height y c.loop-y.made row is (let same : length row ≡ length row = omega arith in same));
      above = λ z within. rw put (elim (cases_eq z y) [
        | inl same ↦ rw same (get_or-set_same c.loop-y.made y row [] (omega (arith, is.count)))
        | inr other ↦ get_or-set_other c.loop-y.made y z row [] other ∙ c.loop-y.invariant.above z (omega (arith, other))
      ]);
    }

pub returns : goal.returns
returns c =
    let h : ℕ = c.args.height in
    let row = c.args.row.now in
    let is = c.loop-y.invariant.sizes in
    ext_get_or [] c.loop-y.made (replicate h row) (is.count ∙ sym (length-replicate h row))
    (λ z within. c.loop-y.invariant.above z (omega (arith, is.count)) ∙ sym (get_or-replicate h z row [] (omega (arith, is.count))))
