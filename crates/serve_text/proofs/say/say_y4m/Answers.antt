-- The line is that of the kind.
use Rattle.std.proofs.lemmas.List.{append-nil}
use Rattle.y4m_stream.specs.Stream.{fault_name}
use Rattle.serve_text.proofs.SayLemmas.{no_detail, of_frame}
use Rattle.serve_text.proofs.say.say_y4m.Goals as goal

pub returns-in-BadNumber : goal.returns-in-BadNumber
returns-in-BadNumber g c = rw c.in-BadNumber.is (rw (c.name-kind.ensures, c.in-BadNumber.is, c.encode_utf8.ensures.value) at c.say_input_detail.ensures)

pub returns-in_default : goal.returns-in_default
returns-in_default g c =
    let none = no_detail c.args.fault c.in_default.not-BadNumber c.in_default.not-BadFrame c.in_default.not-Truncated in
    rw (none, append-nil (fault_name c.args.fault)) (rw c.name-kind.ensures at c.say_input_kind.ensures)

pub returns-in-BadFrame : goal.returns-in-BadFrame
returns-in-BadFrame g c = rw (of_frame c.args.fault c.in-BadFrame.frame c.in-BadFrame.is) (rw (c.name-kind.ensures, c.format.ensures.text) at c.say_input_detail-in-BadFrame.ensures)
