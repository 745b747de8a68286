use Rattle.std.proofs.Common.{take, ap, ◌∙◌}
use Rattle.std.specs.List.{list_all}
use Rattle.std.specs.Char.{is_ascii_digit}
use Rattle.run_text.proofs.ReadLemmas.{front_passes}
use Rattle.run_text.proofs.numbers.number_at.Goals as goal

pub number_in-requires : goal.number_in-requires
number_in-requires c =
    ap (list_all is_ascii_digit) (c.split_at.ensures.front ∙ ap (λ n. take n c.args.text.now) c.digits_end.ensures.end) ∙ front_passes is_ascii_digit c.args.text.now
