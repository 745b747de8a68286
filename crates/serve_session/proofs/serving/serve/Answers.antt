-- The requests before, and one more or none.
use Rattle.std.proofs.Common.{◌∙◌, sym, refl, arith}
use Rattle.serve_session.proofs.ServeLemmas.{counts_on, nothing_yet, part_refused, part_unanswered, all_answered, more_answered}
use Rattle.serve_session.proofs.serving.serve.Goals as goal

pub requests-init : goal.requests-init
requests-init g c = record {
  unfailed = c.requires;
  so_far = nothing_yet g.P.Player g.K.Sink g.S.Source c.args.reader.now c.args.player.now c.args.source.now c.args.out.now;
  keeps = record { told = refl; rewinds = refl; later = omega arith };
  steady = refl;
  unwritten = refl;
  later = omega arith;
}

pub requests-preserved : goal.requests-preserved
requests-preserved g c =
    let i = c.requests.invariant in
    let next = c.in-Ok.ensures in
    let one = c.in-Ok-answer.ensures in
    record {
      unfailed = next.failed;
      so_far = more_answered g.P.Player g.K.Sink g.S.Source c.args.reader.now c.requests.reader c.args.player.now c.requests.player c.args.source.now c.requests.source c.next.new.source c.args.out.now c.requests.out i.so_far i.keeps.told i.steady i.unwritten
          c.answer.new.player c.answer.new.out c.in-Ok.request (next.told (λ e. (let no : ⊥ = cc e in no))) c.next.new.self one.ok (sym c.ends.ensures ∙ c.if-ends.false) next.counted next.rest;
      keeps = record { told = next.keeps.told ∙ i.keeps.told; rewinds = next.keeps.rewinds ∙ i.keeps.rewinds; later = omega (arith, next.keeps.later, i.keeps.later) };
      steady = next.steady (λ e. (let no : ⊥ = cc e in no)) ∙ i.steady;
      unwritten = one.steady (λ e. (let no : ⊥ = cc e in no)) ∙ i.unwritten;
      later = omega (arith, i.later, one.later);
    }

pub returns-in-Err-clause-stop : goal.returns-in-Err-clause-stop
returns-in-Err-clause-stop g c =
    let i = c.requests.invariant in
    let next = c.in-Err.ensures in
    part_refused g.P.Player g.K.Sink g.S.Source c.args.reader.now c.requests.reader c.args.player.now c.requests.player c.args.source.now c.requests.source c.next.new.source c.args.out.now c.requests.out i.so_far i.keeps.told i.steady i.unwritten
    c.in-Err.fault next.cause next.told

pub returns-in-Err-answer-clause-stop : goal.returns-in-Err-answer-clause-stop
returns-in-Err-answer-clause-stop g c =
    let i = c.requests.invariant in
    let next = c.in-Ok.ensures in
    part_unanswered g.P.Player g.K.Sink g.S.Source c.args.reader.now c.requests.reader c.args.player.now c.requests.player c.args.source.now c.requests.source c.next.new.source c.args.out.now c.requests.out i.so_far i.keeps.told i.steady i.unwritten
    c.answer.new.player c.answer.new.out c.in-Ok.request (next.told (λ e. (let no : ⊥ = cc e in no))) c.in-Err-answer.stop c.in-Err-answer.ensures.err

pub returns-then-ends-clause-ok : goal.returns-then-ends-clause-ok
returns-then-ends-clause-ok g c =
    let i = c.requests.invariant in
    let next = c.in-Ok.ensures in
    all_answered g.P.Player g.K.Sink g.S.Source c.args.reader.now c.requests.reader c.args.player.now c.requests.player c.args.source.now c.requests.source c.next.new.source c.args.out.now c.requests.out i.so_far i.keeps.told i.steady i.unwritten
    c.answer.new.player c.answer.new.out c.in-Ok.request (next.told (λ e. (let no : ⊥ = cc e in no))) c.in-Ok-answer.ensures.ok (sym c.ends.ensures ∙ c.if-ends.true) (next.steady (λ e. (let no : ⊥ = cc e in no)))

pub requests-smaller : goal.requests-smaller
requests-smaller g c =
    let next = c.in-Ok.ensures in
    let more = next.counted ∙ counts_on c.requests.reader.count c.in-Ok.request (sym c.ends.ensures ∙ c.if-ends.false) in
    omega (arith, more, next.few)

pub returns-in-Err-clause-steady : goal.returns-in-Err-clause-steady
returns-in-Err-clause-steady g c = λ other. c.requests.invariant.unwritten

pub returns-in-Err-answer-clause-steady : goal.returns-in-Err-answer-clause-steady
returns-in-Err-answer-clause-steady g c = λ other. c.in-Err-answer.ensures.steady (λ is. other (let same = is in cc)) ∙ c.requests.invariant.unwritten

pub returns-then-ends-clause-steady : goal.returns-then-ends-clause-steady
returns-then-ends-clause-steady g c = λ other. c.in-Ok-answer.ensures.steady (λ e. (let no : ⊥ = cc e in no)) ∙ c.requests.invariant.unwritten
