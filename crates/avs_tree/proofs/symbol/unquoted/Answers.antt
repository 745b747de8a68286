-- A text may be cut after its quotes and before them.
use Rattle.std.proofs.Common.{◌≡◌, ◌∙◌, ◌<◌, ◌≤◌, ◌-◌, ◌+◌, ℕ, List, sym, ap, subst, arith, length, take, get_or, replicate}
use Rattle.std.specs.Prelude.{IsCharBoundary, IsUtf8}
use Rattle.std.proofs.lemmas.List.{get_or-take, get_or-replicate}
use Rattle.std.proofs.lemmas.Str.{IsCharBoundary-after_ascii}
use Rattle.avs_tree.proofs.symbol.unquoted.Goals as goal

after_quotes : (bytes : List ℕ) (width : ℕ) → 0 < width → width ≤ length bytes → take width bytes ≡ replicate width 34 → IsUtf8 bytes → IsCharBoundary bytes width
after_quotes bytes width some long opens utf8 =
    let last : get_or bytes (width - 1) 0 ≡ 34 = sym (get_or-take width bytes (width - 1) 0 (omega arith)) ∙ ap (λ z. get_or z (width - 1) 0) opens ∙ get_or-replicate width (width - 1) 34 0 (omega arith) in
    let here : width - 1 + 1 ≡ width = omega arith in
    subst (IsCharBoundary bytes) here (IsCharBoundary-after_ascii bytes (width - 1) utf8 (omega arith) (omega (arith, last)))

pub range-requires-clause-start_boundary : goal.range-requires-clause-start_boundary
range-requires-clause-start_boundary c = λ some.
    let opens = rw (sym c.quotes-width.ensures) at c.requires.opens in
    let long = rw (sym c.quotes-width.ensures) at c.requires.long in
    after_quotes c.args.bytes.now c.quotes-width.result some (omega (arith, long)) opens c.utf8.bytes
