-- The matches of what was given: for each name its values, in order.
use Rattle.std.proofs.Common.{◌≡◌, ◌∙◌, Bool, true, false, refl, sym, ap, List, [], ◌∷◌, ◌++◌, map, fold, Option, if◌then◌else◌, unwrap_or, true≢false}
use Rattle.std.specs.Prelude.{option_map}
use Rattle.std.specs.Str.{bytes_eq}
use Rattle.std.proofs.lemmas.List.{append_assoc, append-nil}
use Rattle.std.proofs.lemmas.Slice.Eq.{bytes_eq-Decides}
use Rattle.std.specs.Borrow.{Bor}
use Rattle.clap.specs.Matches.{matched_of, raw_values}
use Rattle.clap.specs.declared.parser.matches.Found.{Found}
use Rattle.clap.proofs.WalkLemmas.{raw_values-rows}
use Rattle.clap.specs.Walk.{Row, rows_of}
use Rattle.command_line.specs.Command.{Text, Given, values_of}
use Rattle.command_line.specs.Parser.{texts_of, values_in, with_one, rows_by}

-- one more name with a value comes last
fold_snoc : (rows : List Row) (given : Given) (one : Text × Text) → fold with_one rows (given ++ one ∷ []) ≡ with_one (fold with_one rows given) one
fold_snoc rows [] one = refl
fold_snoc rows (first ∷ given) one = fold_snoc (with_one rows first) given one

pub rows_snoc : (given : Given) (one : Text × Text) → rows_by (given ++ one ∷ []) ≡ with_one (rows_by given) one
rows_snoc given one = fold_snoc [] given one

-- the value of a name, where it is the name that is asked for
abbrev value_if : Text → Text × Text → List Text
value_if name one = if bytes_eq one.0 name then one.1 ∷ [] else []

-- the values of a name after one more
values_with : (rows : List Row) (one : Text × Text) (name : Text) → values_in (with_one rows one) name ≡ values_in rows name ++ value_if name one
values_with [] one name = go (bytes_eq one.0 name) refl
  where
    go : (b : Bool) → bytes_eq one.0 name ≡ b → values_in (with_one [] one) name ≡ values_in [] name ++ value_if name one
    go true here = rw here refl
    go false here = rw here refl
values_with (row ∷ rows) one name = go (values_with rows one name) (bytes_eq row.id one.0) refl (bytes_eq row.id name) refl
  where
    go : values_in (with_one rows one) name ≡ values_in rows name ++ value_if name one → (a : Bool) → bytes_eq row.id one.0 ≡ a → (b : Bool) → bytes_eq row.id name ≡ b
        → values_in (with_one (row ∷ rows) one) name ≡ values_in (row ∷ rows) name ++ value_if name one
    go later true same true here =
        let at : row.id ≡ one.0 = (bytes_eq-Decides row.id one.0).0 same in
        let there : bytes_eq one.0 name ≡ true = ap (λ t. bytes_eq t name) (sym at) ∙ here in
        rw (same, here, there) refl
    go later true same false here =
        let at : row.id ≡ one.0 = (bytes_eq-Decides row.id one.0).0 same in
        let there : bytes_eq one.0 name ≡ false = ap (λ t. bytes_eq t name) (sym at) ∙ here in
        rw (same, here, there) (sym (append-nil (values_in rows name)))
    go later false other true here = go_there (bytes_eq one.0 name) refl
      where
        go_there : (d : Bool) → bytes_eq one.0 name ≡ d → values_in (with_one (row ∷ rows) one) name ≡ values_in (row ∷ rows) name ++ value_if name one
        go_there true there =
            let at : row.id ≡ one.0 = (bytes_eq-Decides row.id name).0 here ∙ sym ((bytes_eq-Decides one.0 name).0 there) in
            absurd (true≢false (sym ((bytes_eq-Decides row.id one.0).1 at) ∙ other))
        go_there false there = rw (other, here, there) (sym (append-nil row.values))
    go later false other false here = rw (other, here) later

value_first : (one : Text × Text) (given : Given) (name : Text) → value_if name one ++ values_of given name ≡ values_of (one ∷ given) name
value_first one given name = go (bytes_eq one.0 name) refl
  where
    go : (b : Bool) → bytes_eq one.0 name ≡ b → value_if name one ++ values_of given name ≡ values_of (one ∷ given) name
    go true here = rw here refl
    go false here = rw here refl

values_fold : (given : Given) (rows : List Row) (name : Text) → values_in (fold with_one rows given) name ≡ values_in rows name ++ values_of given name
values_fold [] rows name = sym (append-nil (values_in rows name))
values_fold (one ∷ given) rows name =
    values_fold given (with_one rows one) name ∙ ap (λ t. t ++ values_of given name) (values_with rows one name)
    ∙ append_assoc (values_in rows name) (value_if name one) (values_of given name) ∙ ap (λ t. values_in rows name ++ t) (value_first one given name)

-- the matches of what was given have the values that were given
pub values_are : (given : Given) (name : Text) → values_in (rows_by given) name ≡ values_of given name
values_are given name = values_fold given [] name

-- the values that `clap` lends are those of the rows
pub values_read : (found : Found) (name : Text) (values : Option (Bor (List (Bor Text))))
    → option_map (λ s. map (λ value. value.now) s.now) values ≡ option_map raw_values (matched_of found name) → texts_of values ≡ values_in (rows_of found) name
values_read found name values are = ap (λ o. unwrap_or o []) (are ∙ raw_values-rows found name)
