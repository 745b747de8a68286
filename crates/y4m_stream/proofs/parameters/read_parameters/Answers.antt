-- Each fault is the first, and what is answered is what the parameters say.
use Rattle.std.proofs.Common.{sym, ◌∙◌, ap, rules}
use Rattle.std.proofs.lemmas.Bool.{both_ways}
use Rattle.fv_plane.specs.declared.format.Field.{Field}
use Rattle.y4m_stream.specs.Head.{rate_of, par_of, colour_of, field_of}
use Rattle.y4m_stream.proofs.SaysLemmas.{no_width, no_height, bad_width, bad_height, bad_rate, bad_par, bad_colour, info_is, bad_sides, too_large, no_fault, large_by}
use Rattle.y4m_stream.proofs.parameters.read_parameters.Goals as goal

pub returns-in_default-clause-fault : goal.returns-in_default-clause-fault
returns-in_default-clause-fault c = no_height _ c.in_default.field-0-0.now (sym c.in_default.ensures) (sym c.in_default.ensures')

pub returns-in_default-2-clause-fault : goal.returns-in_default-2-clause-fault
returns-in_default-2-clause-fault c = no_width _ (sym c.in_default.ensures)

pub returns-in_default-number-clause-fault : goal.returns-in_default-number-clause-fault
returns-in_default-number-clause-fault c = bad_width _ _ _ (sym c.in-Some-Some.ensures) (sym c.in-Some-Some.ensures') (sym c.in_default-number.ensures.number)

pub returns-in_default-number-2-clause-fault : goal.returns-in_default-number-2-clause-fault
returns-in_default-number-2-clause-fault c = bad_height _ _ _ (sym c.in-Some-Some.ensures) (sym c.in-Some-Some.ensures') c.in-Some.width (sym c.in-Some.ensures.number) (sym c.in_default-number-2.ensures.number)

pub returns-in_default-rate-clause-fault : goal.returns-in_default-rate-clause-fault
returns-in_default-rate-clause-fault c =
    bad_rate _ _ _ (sym c.in-Some-Some.ensures) (sym c.in-Some-Some.ensures') c.in-Some.width (sym c.in-Some.ensures.number) c.in-Some-number.height (sym c.in-Some-number.ensures.number) (ap rate_of (sym c.value-3.ensures) ∙ sym c.in_default-rate.ensures.rate)

pub returns-in_default-par-clause-fault : goal.returns-in_default-par-clause-fault
returns-in_default-par-clause-fault c =
    bad_par _ _ _ (sym c.in-Some-Some.ensures) (sym c.in-Some-Some.ensures') c.in-Some.width (sym c.in-Some.ensures.number) c.in-Some-number.height (sym c.in-Some-number.ensures.number)
    (c.in-Some-rate.num, c.in-Some-rate.den) (ap rate_of (sym c.value-3.ensures) ∙ sym c.in-Some-rate.ensures.rate) (ap par_of (sym c.value-4.ensures) ∙ sym c.in_default-par.ensures.par)

pub returns-in_default-colour-clause-fault : goal.returns-in_default-colour-clause-fault
returns-in_default-colour-clause-fault c =
    bad_colour _ _ _ (sym c.in-Some-Some.ensures) (sym c.in-Some-Some.ensures') c.in-Some.width (sym c.in-Some.ensures.number) c.in-Some-number.height (sym c.in-Some-number.ensures.number)
    (c.in-Some-rate.num, c.in-Some-rate.den) (ap rate_of (sym c.value-3.ensures) ∙ sym c.in-Some-rate.ensures.rate)
    (c.in-Some-par.par_num, c.in-Some-par.par_den) (ap par_of (sym c.value-4.ensures) ∙ sym c.in-Some-par.ensures.par) (ap colour_of (sym c.value-5.ensures) ∙ sym c.in_default-colour.ensures.colour)

pub returns-then-not-has_whole_sides-clause-fault : goal.returns-then-not-has_whole_sides-clause-fault
returns-then-not-has_whole_sides-clause-fault c =
    bad_sides _ _ _ (sym c.in-Some-Some.ensures) (sym c.in-Some-Some.ensures') c.in-Some.width (sym c.in-Some.ensures.number) c.in-Some-number.height (sym c.in-Some-number.ensures.number)
    (c.in-Some-rate.num, c.in-Some-rate.den) (ap rate_of (sym c.value-3.ensures) ∙ sym c.in-Some-rate.ensures.rate)
    (c.in-Some-par.par_num, c.in-Some-par.par_den) (ap par_of (sym c.value-4.ensures) ∙ sym c.in-Some-par.ensures.par)
    (c.in-Some-colour.format, c.in-Some-colour.tag) (ap colour_of (sym c.value-5.ensures) ∙ sym c.in-Some-colour.ensures.colour) (sym c.has_whole_sides.ensures ∙ c.if-not-has_whole_sides.true)

pub returns-then-not-is_legal-clause-fault : goal.returns-then-not-is_legal-clause-fault
returns-then-not-is_legal-clause-fault c =
    let good = sym c.has_whole_sides.ensures ∙ c.if-not-has_whole_sides.false in
    too_large _ _ _ (sym c.in-Some-Some.ensures) (sym c.in-Some-Some.ensures') c.in-Some.width (sym c.in-Some.ensures.number) c.in-Some-number.height (sym c.in-Some-number.ensures.number)
    (c.in-Some-rate.num, c.in-Some-rate.den) (ap rate_of (sym c.value-3.ensures) ∙ sym c.in-Some-rate.ensures.rate)
    (c.in-Some-par.par_num, c.in-Some-par.par_den) (ap par_of (sym c.value-4.ensures) ∙ sym c.in-Some-par.ensures.par)
    (c.in-Some-colour.format, c.in-Some-colour.tag) (ap colour_of (sym c.value-5.ensures) ∙ sym c.in-Some-colour.ensures.colour) good
    (large_by _ c.in-Some-colour.ensures.legal good (λ legal. both_ways c.is_legal.result c.if-not-is_legal.true (c.is_legal.ensures.1 legal)))

pub returns-clause-sound : goal.returns-clause-sound
returns-clause-sound c =
    let good = sym c.has_whole_sides.ensures ∙ c.if-not-has_whole_sides.false in
    no_fault _ _ _ (sym c.in-Some-Some.ensures) (sym c.in-Some-Some.ensures') c.in-Some.width (sym c.in-Some.ensures.number) c.in-Some-number.height (sym c.in-Some-number.ensures.number)
    (c.in-Some-rate.num, c.in-Some-rate.den) (ap rate_of (sym c.value-3.ensures) ∙ sym c.in-Some-rate.ensures.rate)
    (c.in-Some-par.par_num, c.in-Some-par.par_den) (ap par_of (sym c.value-4.ensures) ∙ sym c.in-Some-par.ensures.par)
    (c.in-Some-colour.format, c.in-Some-colour.tag) (ap colour_of (sym c.value-5.ensures) ∙ sym c.in-Some-colour.ensures.colour) good (let legal = c.is_legal.ensures.0 (search rules) in legal.most_bytes)

pub returns-clause-info : goal.returns-clause-info
returns-clause-info c =
    ap (λ (f : Field). record {
      shape = record { kind = c.in-Some-colour.format.kind; bits = c.in-Some-colour.format.bits; width = c.in-Some.width; height = c.in-Some-number.height };
      frames = 0;
      num = c.in-Some-rate.num;
      den = c.in-Some-rate.den;
      field = f;
      par = record { num = c.in-Some-par.par_num; den = c.in-Some-par.par_den };
      tag = c.in-Some-colour.tag;
    }) (c.field.ensures ∙ ap field_of c.value-6.ensures)
    ∙ sym (info_is _ _ _ (sym c.in-Some-Some.ensures) (sym c.in-Some-Some.ensures') c.in-Some.width (sym c.in-Some.ensures.number) c.in-Some-number.height (sym c.in-Some-number.ensures.number)
    (c.in-Some-rate.num, c.in-Some-rate.den) (ap rate_of (sym c.value-3.ensures) ∙ sym c.in-Some-rate.ensures.rate)
    (c.in-Some-par.par_num, c.in-Some-par.par_den) (ap par_of (sym c.value-4.ensures) ∙ sym c.in-Some-par.ensures.par)
    (c.in-Some-colour.format, c.in-Some-colour.tag) (ap colour_of (sym c.value-5.ensures) ∙ sym c.in-Some-colour.ensures.colour))
