use Rattle.std.proofs.Common.{◌≡◌, [], ◌∷◌, rules, string_bytes}
use Rattle.std.proofs.lemmas.List.{append_assoc}
use Rattle.y4m_stream.proofs.PrintLemmas.{words_then, words_then_is}
use Rattle.y4m_stream.proofs.head_writing.print_head.Goals as goal

pub returns : goal.returns
unfolding words_then
returns c =
    let bytes : c.into_bytes.result.items ≡ string_bytes c.in_ok-text.text = search rules in
    rw (bytes, words_then_is c.args.info.now (10 ∷ [])) (simp (append_assoc, c.in_ok-text.ensures.ok, c.field_name-field.ensures, c.colourspace_name-colour.ensures, c.format.ensures))
