-- What the proofs of other crates cite of the lemmas on tokens.
pub use Rattle.avs_lex.proofs.TestLemmas.{by_test, either}
pub use Rattle.avs_lex.proofs.NumberLemmas.{hexdigit_value, sixteen_times, sixteen_digits}
pub use Rattle.avs_lex.proofs.SpellingLemmas.{is_punctuation}
pub use Rattle.avs_lex.proofs.ReadingLemmas.{one_reading}
pub use Rattle.avs_lex.proofs.ReadBackLemmas.{written_is_read}
