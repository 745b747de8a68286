use Rattle.flt_field.specs.Made.{shape_of}
use Rattle.flt_field.proofs.RowLemmas.{first_legal, first_shape, kept_shape}
use Rattle.flt_field.proofs.rows.shape_made.Goals as goal

pub returns-in_default : goal.returns-in_default
returns-in_default c =
    let o = c.args.op in
    let inputs = c.args.inputs.now in
    record {
      made = kept_shape o c.shape-shape.result (shape_of inputs) c.requires.written c.in_default.not-Weave
          (first_shape o inputs c.index-inputs-0.result c.shape-shape.result c.requires.can c.index-inputs-0.is c.shape-shape.ensures.shape);
      legal = first_legal o inputs c.index-inputs-0.result c.requires.can c.index-inputs-0.is c.shape-shape.ensures.sizes;
    }
