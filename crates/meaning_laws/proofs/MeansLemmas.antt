-- What a script means is what its file, its tree and the rules say.
use Rattle.std.proofs.Common.{◌≡◌, ◌∙◌, ◌↔◌, Result, Ok, Err, refl, sym, ap, subst}
use Rattle.std.specs.FinMap.{get}
use Rattle.fv_io.specs.World.{World}
use Rattle.avs_tree.specs.Tree.{Loaded, NoTree}
use Rattle.avs_parse.specs.Load.{script_of}
use Rattle.avs_parse.proofs.LoadLemmas.{script_found}
use Rattle.avs_values.specs.Values.{Text}
use Rattle.avs_meaning.specs.Meaning.{Meaning, wrong, meaning, meaning_by, script_meaning, clip_or_not, call_limit, start, run, to_clip}
use Rattle.avs_meaning.specs.State.{script_in, State, Outcome, and_then, ◌>>=◌, define_all}
use Rattle.avs_meaning.specs.Expressions.{loaded_by, no_tree}
use Rattle.avs_meaning.specs.declared.fault.FileKind.{FileKind}
use Rattle.avs_meaning.proofs.RuleLemmas.{rules_are_execution}
use Rattle.meaning_laws.specs.Files.{IsScriptFile, outside_in}
use Rattle.meaning_laws.specs.Means.{Means, no_script, has_no_tree, functions_clash, executed}
use Rattle.meaning_laws.proofs.FileLemmas.{no_tree_found, script_file, no_script_file}

module _ (world : World) (name : Text) where
  abbrev Is : Meaning → Type 0
  Is m = Means world (outside_in world) name m

  -- the meaning by the file, by the tree of its text, and by what the definition of its functions gives
  of_file : Result Text FileKind → Meaning
  of_file file = script_meaning file (outside_in world) name

  of_tree : Result Loaded NoTree → Meaning
  of_tree tree = meaning_by ((loaded_by tree name >>= (λ loaded. to_clip (outside_in world) name loaded.tree.statements loaded.last_line)) start)

  of_defined : Loaded → Outcome (Unit {0}) → Meaning
  of_defined loaded defined = meaning_by (and_then (and_then defined (λ u s. Ok (loaded, s))) (λ l s. to_clip (outside_in world) name l.tree.statements l.last_line s))

  of_statements : Loaded → State → Meaning
  of_statements loaded after = meaning_by (and_then (run (outside_in world) call_limit name loaded.tree.statements after) (clip_or_not name loaded.last_line))

  by_text : (text : Text) → of_file (Ok text) ≡ of_tree (script_of text)
  unfolding of_file of_tree
  by_text text = refl

  by_loaded : (loaded : Loaded) → of_tree (Ok loaded) ≡ of_defined loaded (define_all loaded.tree.functions name start)
  unfolding of_tree of_defined
  by_loaded loaded = refl

  by_none : (why : NoTree) → of_tree (Err why) ≡ wrong (no_tree name why)
  unfolding of_tree
  by_none why = refl

  by_state : (loaded : Loaded) (after : State) → of_defined loaded (Ok (tt, after)) ≡ of_statements loaded after
  unfolding of_defined of_statements to_clip
  by_state loaded after = refl

  -- ---- what it means is so by the relations

  by_functions : (text : Text) (loaded : Loaded) → IsScriptFile world name text → script_of text ≡ Ok loaded → (defined : Outcome (Unit {0}))
      → define_all loaded.tree.functions name start ≡ defined → Is (of_defined loaded defined)
  unfolding of_defined of_statements
  by_functions text loaded file tree (Err fault) is = functions_clash text loaded fault file ((script_found text loaded).0 tree) is
  by_functions text loaded file tree (Ok (tt, after)) is =
      subst Is (sym (by_state loaded after))
      (executed text loaded after _ file ((script_found text loaded).0 tree) is (rules_are_execution.some_result (outside_in world) call_limit name after loaded.tree.statements))

  by_tree : (text : Text) → IsScriptFile world name text → (tree : Result Loaded NoTree) → script_of text ≡ tree → Is (of_tree tree)
  by_tree text file (Err why) is = subst Is (sym (by_none why)) (has_no_tree text why file ((no_tree_found text why).0 is))
  by_tree text file (Ok loaded) is = subst Is (sym (by_loaded loaded)) (by_functions text loaded file is (define_all loaded.tree.functions name start) refl)

  by_file : (file : Result Text FileKind) → script_in (get world name) ≡ file → Is (of_file file)
  unfolding of_file
  by_file (Err why) is = no_script why ((no_script_file world name why).0 is)
  by_file (Ok text) is = subst Is (sym (by_text text)) (by_tree text ((script_file world name text).0 is) (script_of text) refl)

  is_meaning : of_file (script_in (get world name)) ≡ meaning (outside_in world) name
  unfolding of_file
  is_meaning = refl

  pub is_so : (m : Meaning) → meaning (outside_in world) name ≡ m → Is m
  is_so m same = subst Is (is_meaning ∙ same) (by_file (script_in (get world name)) refl)

  -- ---- and what is so by them is what it means

  pub is_it : {m : Meaning} → Is m → meaning (outside_in world) name ≡ m
  unfolding of_file of_defined of_statements
  is_it (no_script why is) = sym is_meaning ∙ ap of_file ((no_script_file world name why).1 is)
  is_it (has_no_tree text why file none) =
      sym is_meaning ∙ ap of_file ((script_file world name text).1 file) ∙ by_text text ∙ ap of_tree ((no_tree_found text why).1 none) ∙ by_none why
  is_it (functions_clash text loaded fault file has clash) =
      sym is_meaning ∙ ap of_file ((script_file world name text).1 file) ∙ by_text text ∙ ap of_tree ((script_found text loaded).1 has) ∙ by_loaded loaded ∙ ap (of_defined loaded) clash
  is_it (executed text loaded after out file has defined executes) =
      sym is_meaning ∙ ap of_file ((script_file world name text).1 file) ∙ by_text text ∙ ap of_tree ((script_found text loaded).1 has) ∙ by_loaded loaded ∙ ap (of_defined loaded) defined ∙ by_state loaded after
      ∙ ap (λ o. meaning_by (and_then o (clip_or_not name loaded.last_line))) (sym (rules_are_execution.one_result (outside_in world) call_limit name after loaded.tree.statements out executes))

pub meaning_is : (world : World) (name : Text) (m : Meaning) → (meaning (outside_in world) name ≡ m) ↔ Means world (outside_in world) name m
meaning_is world name m = (is_so world name m, is_it world name)
