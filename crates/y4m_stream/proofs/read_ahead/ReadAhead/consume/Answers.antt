use Rattle.std.proofs.Common.{ap, ◌∙◌, drop, length, arith, ◌-◌, ◌≡◌, List, ℕ, sym}
use Rattle.std.proofs.lemmas.List.{length-take-le, length-drop}
use Rattle.y4m_stream.proofs.ReadAheadLemmas.{consumed}
use Rattle.y4m_stream.proofs.read_ahead.ReadAhead.consume.Goals as goal

pub returns : goal.returns
returns c =
    let a = c.self.inside in
    let size : length c.args.self.now ≡ a.end - a.start = ap length (sym c.self.view_is) ∙ length-take-le (a.end - a.start) (drop a.start a.buf.items) (omega (arith, length-drop a.start a.buf.items)) in
    consumed a.buf.items a.start a.end c.args.count (omega arith) ∙ ap (λ (l : List ℕ). drop c.args.count l) c.self.view_is
