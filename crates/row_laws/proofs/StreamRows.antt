-- Each is computed, over the list of the files.
use Rattle.std.proofs.Common.{refl, subst}
use lib.Utf8.{encode}
use Rattle.std.specs.Fmt.{digits}
use Rattle.std.specs.Str.{is_utf8, chars}
use Rattle.fv_plane.specs.Picture.{wide_bytes, wide_samples, bytes_of_row, row_of_bytes, in_range, picture_from}
use Rattle.fv_plane.specs.Info.{gcd}
use Rattle.y4m_stream.specs.Head.{head_line, parameter_fault, info_of as head_info}
use Rattle.avs_lex.specs.Piece.{front}
use Rattle.avs_tree.specs.Lexeme.{unquoted, lexeme_of, spells_name, is_name, keyword_of, type_word_of, is_punctuation, operator_at}
use Rattle.avs_tree.specs.Machine.{operand, continues, grow, reach, closing_argument}
use Rattle.avs_tree.specs.Place.{verdict}
use Rattle.avs_parse.specs.Load.{tokens_of, script_of}
use Rattle.avs_values.specs.Binding.{bind}
use Rattle.clip_term.specs.Terms.{info_of, infos_of, term_sample, term_samples}
use Rattle.clip_graph.specs.Plan.{term_within}
use Rattle.avs_meaning.specs.Arguments.{named, expression_in}
use Rattle.avs_meaning.specs.Expressions.{call_within}
use Rattle.avs_meaning.specs.Statements.{is_past, turn}
use Rattle.avs_meaning.specs.Meaning.{to_clip, below}
use Rattle.avs_meaning.specs.State.{frames_from}
use Rattle.avs_meaning.specs.Table.{builtins, builtin_of}
use Rattle.row_laws.specs.StreamRows.{TextsBy, FaultsBy, StreamTexts, ScriptFaults}
use Rattle.row_laws.proofs.WorldLemmas.{listed, listed_tells}

texts_listed : TextsBy listed
unfolding is_utf8 chars encode script_of tokens_of front lexeme_of unquoted spells_name is_name keyword_of type_word_of
    is_punctuation operator_at operand continues grow reach closing_argument verdict
    bind gcd to_clip below is_past turn named expression_in call_within builtins builtin_of frames_from parameter_fault head_info head_line
    digits term_within term_sample term_samples infos_of info_of picture_from wide_bytes wide_samples bytes_of_row row_of_bytes in_range
texts_listed = record {
  source = refl;
  trim_of_all = refl;
  trim_of_one = refl;
  trim_of_two = refl;
  reverse = refl;
  select = refl;
  interleave = refl;
  two_sources = refl;
  two_files = refl;
  merge = refl;
  function = refl;
  function_by_dot = refl;
  function_of_a_clip = refl;
  soften = refl;
  by_the_frame = refl;
  by_the_sample = refl;
  loop = refl;
  string = refl;
  comments = refl;
  picture = refl;
  head = refl;
  upside_down = refl;
  planes_exchanged = refl;
  ten_bits = refl;
}

pub stream_texts : StreamTexts
stream_texts = subst TextsBy listed_tells texts_listed

faults_listed : FaultsBy listed
unfolding is_utf8 chars encode script_of tokens_of front lexeme_of unquoted spells_name is_name keyword_of type_word_of
    is_punctuation operator_at operand continues grow reach closing_argument verdict
    bind gcd to_clip below call_within builtins builtin_of frames_from parameter_fault head_info
faults_listed = record {
  trim = refl;
  float = refl;
  empty = refl;
  no_clip = refl;
  no_function = refl;
  two_functions = refl;
  not_closed = refl;
  assertion = refl;
  chroma = refl;
  overflow = refl;
  no_file = refl;
  no_frames = refl;
  cut = refl;
}

pub script_faults : ScriptFaults
script_faults = subst FaultsBy listed_tells faults_listed
