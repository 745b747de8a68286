-- The digits of the lower half come after those of the upper half.
use Rattle.std.proofs.Common.{rules, ◌≡◌, ◌++◌, ◌∙◌, ap, List, ℕ, ◌/◌, ◌%◌, append_assoc, Result, Ok, Err, OnOk}
use Rattle.avs_print.specs.Printed.{half, hexadecimal}
use Rattle.avs_print.proofs.printer.Printer.hexadecimal.Goals as goal

both : {X E : Type 0} (result : Result X E) (old before new upper lower : List ℕ) → before ≡ old ++ upper → OnOk result (new ≡ before ++ lower) → OnOk result (new ≡ old ++ (upper ++ lower))
both (Ok x) old before new upper lower first second = second ∙ ap (λ t. t ++ lower) first ∙ append_assoc old upper lower
both (Err e) old before new upper lower first second = tt

pub returns : goal.returns
unfolding hexadecimal
returns c =
    let first : c.half.new.self ≡ c.args.self.now ++ half (c.args.bits / 4294967296) = search rules in
    both c.half-2.result c.args.self.now c.half.new.self c.half-2.new.self (half (c.args.bits / 4294967296)) (half (c.args.bits % 4294967296)) first c.half-2.ensures
