-- What `clap` makes of the words of one command is what they give.
use Rattle.std.proofs.Common.{◌≡◌, suc, Bool, true, false, refl, List, [], ◌∷◌, ◌++◌, map, Option, Some, None, codes, arith}
use Rattle.std.specs.Str.{IsUtf8}
use Rattle.std.specs.List.{All}
use Rattle.clap.specs.Walk.{Row, Waiting, idle, option, positional, settled_rows}
use Rattle.clap.specs.Simple.{Shape}
use Rattle.command_line.specs.Command.{Text, Options, Given, Kind, operand, end_of_options, long, short, kind_of, takes_value, an_operand, given_after, option_given, word_given, value_given}
use Rattle.command_line.specs.Parser.{rows_by, with_one}
use Rattle.command_line.proofs.LookLemmas.{Looks, looks}
use Rattle.command_line.proofs.WalkLemmas as w
use Rattle.command_line.proofs.WalkLemmas.{Fits, Outcome, Level, IsFree, one_more, state, level_from, Holds}

module _ (s : Shape) (o : Options) (fits : Fits s o) where
  -- what the words come to, where nothing waits and where an option waits for its value
  pub record Reads (words : List Text) : Type 0 where
    pub free : (rows : List Row) (pending : Option (Text × List Text)) (waiting : Waiting) (given : Given) → IsFree waiting → Holds s o fits rows pending given
        → Outcome (given_after o None words) given (level_from s o fits (state rows pending waiting false) words)
    pub waits : (rows : List Row) (name : Text) (given : Given) → takes_value o name ≡ Some true → rows ≡ rows_by given
        → Outcome (given_after o (Some name) words) given (level_from s o fits (state rows (Some (name, [])) (option name) false) words)

  module _ (word : Text) (words : List Text) (utf8 : IsUtf8 word) (later : Reads words) where
    module _ (rows : List Row) (pending : Option (Text × List Text)) (waiting : Waiting) (given : Given) (is_free : IsFree waiting) (holds : Holds s o fits rows pending given) where
      abbrev from : List Row
      from = settled_rows s.rules pending rows

      abbrev at : Level
      at = level_from s o fits (state rows pending waiting false) (word ∷ words)

      long_word : (name : Text) (value : Option Text) → Looks word (long name value) → (t : Option Bool) → takes_value o name ≡ t
          → Outcome (option_given name t value (given_after o None words) (given_after o (Some name) words)) given at
      long_word name value look None is = w.fails s o fits _ word words (w.unknown_fails s o fits rows pending waiting given holds is_free word name value look is)
      long_word name None look (Some false) is =
          w.passes s o fits _ given _ word words (state (with_one from (name, codes "true")) None idle false)
          (w.flag_passes s o fits rows pending waiting given holds is_free word name look is) (w.flag_walked s o fits rows pending waiting given holds is_free word name look is)
          (one_more given (name, codes "true") _ _ (later.free (with_one from (name, codes "true")) None idle (given ++ (name, codes "true") ∷ []) tt
          (w.used_held s o fits from given (name, codes "true") holds.rows_are)))
      long_word name (Some value) look (Some false) is =
          w.fails s o fits _ word words (w.flag_value_fails s o fits rows pending waiting given holds is_free word name value look is)
      long_word name None look (Some true) is =
          w.passes s o fits _ given _ word words (state from (Some (name, [])) (option name) false)
          (w.option_passes s o fits rows pending waiting given holds is_free word name look is) (w.option_walked s o fits rows pending waiting given holds is_free word name look is)
          (later.waits from name given is holds.rows_are)
      long_word name (Some value) look (Some true) is =
          w.passes s o fits _ given _ word words (state (with_one from (name, value)) None idle false)
          (w.attached_passes s o fits rows pending waiting given holds is_free word name value look is) (w.attached_walked s o fits rows pending waiting given holds is_free word name value look is)
          (one_more given (name, value) _ _ (later.free (with_one from (name, value)) None idle (given ++ (name, value) ∷ []) tt
          (w.used_held s o fits from given (name, value) holds.rows_are)))

      by_kind : (kind : Kind) → Looks word kind → Outcome (word_given o kind word words (given_after o None words) (λ name. given_after o (Some name) words)) given at
      by_kind operand look =
          w.passes s o fits _ given _ word words (state from (Some (codes "operand", word ∷ [])) positional false)
          (w.operand_passes s o fits rows pending waiting given holds is_free word look) (w.operand_walked s o fits rows pending waiting given holds is_free word look)
          (one_more given (an_operand word) _ _ (later.free from (Some (codes "operand", word ∷ [])) positional (given ++ an_operand word ∷ []) tt
          (w.operand_held s o fits from given word holds.rows_are)))
      by_kind end_of_options look =
          w.passes s o fits (Some (map an_operand words)) given _ word words (state rows pending waiting true)
          (w.end_passes s o fits rows pending waiting given holds is_free word look) (w.end_walked s o fits rows pending waiting given holds is_free word look)
          (w.trailing_words s o fits words rows pending waiting given holds)
      by_kind (long name value) look = long_word name value look (takes_value o name) refl
      by_kind short look = w.fails s o fits _ word words (w.short_fails s o fits rows pending waiting given holds is_free word look utf8)

    module _ (rows : List Row) (name : Text) (given : Given) (takes : takes_value o name ≡ Some true) (are : rows ≡ rows_by given) where
      by_waiting : (kind : Kind) → Looks word kind
          → Outcome (value_given name kind word (given_after o None words)) given (level_from s o fits (state rows (Some (name, [])) (option name) false) (word ∷ words))
      by_waiting operand look =
          w.passes s o fits _ given _ word words (state rows (Some (name, word ∷ [])) idle false)
          (w.value_passes s o fits rows name given takes word look) (w.value_walked s o fits rows name given takes word look)
          (one_more given (name, word) _ _ (later.free rows (Some (name, word ∷ [])) idle (given ++ (name, word) ∷ []) tt (w.value_held s o fits rows given name word takes are)))
      by_waiting end_of_options look =
          w.passes s o fits None given _ word words (state rows (Some (name, [])) (option name) true)
          (w.waiting_end s o fits rows name given takes word look) (w.waiting_end_walked s o fits rows name given takes word look)
          (w.trailing_missing s o fits rows name given takes words)
      by_waiting (long other value) look = w.fails s o fits _ word words (w.waiting_long s o fits rows name given takes word other value look)
      by_waiting short look = w.fails s o fits _ word words (w.waiting_short s o fits rows name given takes word look utf8)

  pub reads : (words : List Text) → All IsUtf8 words → Reads words
  unfolding given_after
  reads [] utf8 = record {
    free = λ rows pending waiting given is_free holds. w.ends s o fits rows pending waiting false given holds;
    waits = λ rows name given takes are. w.ends_missing s o fits rows name given takes false;
  }
  reads (word ∷ words) utf8 =
      let here : IsUtf8 word = utf8 0 word (omega arith) in
      let later = reads words (λ k d lt. utf8 (suc k) d (omega arith)) in
      record {
        free = λ rows pending waiting given is_free holds. by_kind word words here later rows pending waiting given is_free holds (kind_of word) (looks word);
        waits = λ rows name given takes are. by_waiting word words here later rows name given takes are (kind_of word) (looks word);
      }
