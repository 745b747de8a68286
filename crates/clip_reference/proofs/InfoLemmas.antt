-- The infos of a list of terms, one after the other.
use Rattle.std.proofs.Common.{◌≡◌, ℕ, ◌+◌, ◌<◌, ◌≤◌, List, [], ◌∷◌, ◌++◌, length, map, drop, get_or, refl, sym, ap, ◌∙◌, arith}
use Rattle.std.specs.Prelude.{Result, Ok, Err, IsOk}
use Rattle.std.proofs.lemmas.List.{drop_more, append-nil, drop_all}
use Rattle.std.proofs.lemmas.Grind.{common_steps}
use Rattle.fv_plane.specs.declared.format.Info.{Info}
use Rattle.clip_term.specs.declared.fault.FilterFault.{FilterFault}
use Rattle.clip_term.specs.declared.term.Term.{Term}
use Rattle.clip_term.specs.Terms.{term_of, clips, info_of, infos_of, with_first}

-- the infos of some terms, or the first refusal
abbrev pub told : List Term → Result (List Info) FilterFault
told ts = infos_of (clips (map term_of ts))

abbrev pub joined : List Info → Result (List Info) FilterFault → Result (List Info) FilterFault
joined done (Ok rest) = Ok (done ++ rest)
joined done (Err fault) = Err fault

told_first : (t : Term) (ts : List Term) → told (t ∷ ts) ≡ with_first (info_of (term_of t)) (told ts)
unfolding infos_of
told_first t ts = refl

told_none : told [] ≡ Ok []
unfolding infos_of
told_none = refl

joined_none : (r : Result (List Info) FilterFault) → joined [] r ≡ r
joined_none r = grind (arith, common_steps)

joined_first : (done : List Info) (info : Info) (r : Result (List Info) FilterFault) → joined (done ++ info ∷ []) r ≡ joined done (with_first (Ok info) r)
joined_first done info r = grind (arith, common_steps)

-- one more
pub joined_more : (ts : List Term) (done : List Info) (info : Info) (i : ℕ) (d : Term) → i < length ts → info_of (term_of (get_or ts i d)) ≡ Ok info
    → joined done (told (drop i ts)) ≡ told ts → joined (done ++ info ∷ []) (told (drop (i + 1) ts)) ≡ told ts
joined_more ts done info i d h e so_far = search (arith, joined_first, drop_more, told_first)

not_ok : (r : Result (List Info) FilterFault) (fault : FilterFault) → Err fault ≡ r → IsOk r → ⊥
not_ok r fault e ok = grind (arith, common_steps)

-- no term is refused where none is to be
pub none_refused : (ts : List Term) (done : List Info) (fault : FilterFault) (i : ℕ) (d : Term) → i < length ts → info_of (term_of (get_or ts i d)) ≡ Err fault
    → joined done (told (drop i ts)) ≡ told ts → IsOk (told ts) → ⊥
none_refused ts done fault i d h e so_far ok = search (arith, drop_more, told_first, not_ok)

pub all_joined : (ts : List Term) (done : List Info) (i : ℕ) → length ts ≤ i → joined done (told (drop i ts)) ≡ told ts → told ts ≡ Ok done
all_joined ts done i h so_far = let p = rw (drop_all i ts h, told_none) at so_far in sym p ∙ ap Ok (append-nil done)
