-- The infos of a term's inputs, over the list that the code goes through.
use Rattle.std.proofs.Common.{◌≡◌, ℕ, ◌+◌, ◌<◌, ◌≤◌, List, [], ◌∷◌, ◌++◌, length, map, take, drop, get_or, Ok, Err, Result, refl, sym, ap, ◌∙◌, arith}
use Rattle.std.proofs.lemmas.List.{take_more, drop_more, append_assoc, append-nil, drop_all, map-append, length-map, length-take-le}
use Rattle.fv_plane.specs.declared.format.Info.{Info}
use Rattle.clip_term.specs.declared.fault.FilterFault.{FilterFault}
use Rattle.clip_term.specs.declared.term.Term.{Term, out-Term}
use Rattle.clip_term.specs.declared.term.Term.TheFolds.{fold_out-Term}
use Rattle.clip_term.specs.Refusals.{no_info}
use Rattle.clip_term.specs.Terms.{ClipTerm, applied, act_of, term_of, term_step, clips, check, info_of, infos_of, with_first, then_check, ok_or}

-- the infos, or the first refusal
abbrev pub gathered : List Term → Result (List Info) FilterFault
gathered [] = Ok []
gathered (t ∷ ts) = with_first (info_of (term_of t)) (gathered ts)

abbrev pub told_by : Term → Info
told_by t = ok_or no_info (info_of (term_of t))

abbrev pub joined_to : List Info → Result (List Info) FilterFault → Result (List Info) FilterFault
joined_to done (Ok rest) = Ok (done ++ rest)
joined_to done (Err fault) = Err fault

-- the first i inputs gave infos, and the rest decide
abbrev pub SoFar : List Term → ℕ → Type 0
SoFar ts i = joined_to (map told_by (take i ts)) (gathered (drop i ts)) ≡ gathered ts

infos_gathered : (ts : List Term) → infos_of (clips (map term_of ts)) ≡ gathered ts
unfolding infos_of
infos_gathered [] = refl
infos_gathered (t ∷ ts) = ap (λ r. with_first (info_of (term_of t)) r) (infos_gathered ts)

term_node : (t : Term) → term_of t ≡ applied (act_of (out-Term t).op) (clips (map term_of (out-Term t).inputs.items))
unfolding term_of
term_node t = fold_out-Term ClipTerm term_step t

node_told : (t : Term) → info_of (applied (act_of (out-Term t).op) (clips (map term_of (out-Term t).inputs.items))) ≡ then_check (act_of (out-Term t).op) (gathered (out-Term t).inputs.items)
unfolding info_of
node_told t = ap (λ r. then_check (act_of (out-Term t).op) r) (infos_gathered (out-Term t).inputs.items)

info_node : (t : Term) → info_of (term_of t) ≡ then_check (act_of (out-Term t).op) (gathered (out-Term t).inputs.items)
info_node t = ap info_of (term_node t) ∙ node_told t

joined_none : (r : Result (List Info) FilterFault) → joined_to [] r ≡ r
joined_none (Ok infos) = refl
joined_none (Err fault) = refl

pub none_so_far : (ts : List Term) → SoFar ts 0
none_so_far ts = joined_none (gathered ts)

joined_first : (done : List Info) (told : Info) (r : Result (List Info) FilterFault) → joined_to (done ++ told ∷ []) r ≡ joined_to done (with_first (Ok told) r)
joined_first done told (Ok infos) = ap Ok (append_assoc done (told ∷ []) infos)
joined_first done told (Err fault) = refl

told_is : (t : Term) (told : Info) → info_of (term_of t) ≡ Ok told → told_by t ≡ told
told_is t told e = rw e refl

-- the infos of one more input
pub told_more : (ts : List Term) (i : ℕ) (d : Term) (told : Info) → i < length ts → info_of (term_of (get_or ts i d)) ≡ Ok told
    → map told_by (take (i + 1) ts) ≡ map told_by (take i ts) ++ told ∷ []
told_more ts i d told h e =
    let next = take_more ts i d h in
    rw next (map-append told_by (take i ts) (get_or ts i d ∷ []) ∙ ap (λ info. map told_by (take i ts) ++ info ∷ []) (told_is (get_or ts i d) told e))

pub one_more : (ts : List Term) (i : ℕ) (d : Term) (told : Info) → i < length ts → info_of (term_of (get_or ts i d)) ≡ Ok told → SoFar ts i → SoFar ts (i + 1)
one_more ts i d told h e so_far =
    ap (λ done. joined_to done (gathered (drop (i + 1) ts))) (told_more ts i d told h e)
    ∙ joined_first (map told_by (take i ts)) told (gathered (drop (i + 1) ts)) ∙ (let p = rw (drop_more ts i d h, e) at so_far in p)

-- the first refusal
refused : (ts : List Term) (i : ℕ) (d : Term) (fault : FilterFault) → i < length ts → info_of (term_of (get_or ts i d)) ≡ Err fault → SoFar ts i → gathered ts ≡ Err fault
refused ts i d fault h e so_far = let p = rw (drop_more ts i d h, e) at so_far in sym p

all_told : (ts : List Term) (i : ℕ) → length ts ≤ i → SoFar ts i → gathered ts ≡ Ok (map told_by (take i ts))
all_told ts i h so_far = let p = rw (drop_all i ts h) at so_far in sym p ∙ ap Ok (append-nil (map told_by (take i ts)))

pub all_there : (ts : List Term) (i total : ℕ) → length ts ≤ i → i ≤ length ts → total ≡ length ts → total ≡ length (map told_by (take i ts))
all_there ts i total h g e =
    let mapped = length-map (take i ts) told_by in
    let taken = length-take-le i ts g in
    omega arith

-- THE ANSWERS OF THE CODE

pub not_told : (t : Term) (ts : List Term) (i : ℕ) (d : Term) (fault : FilterFault) → ts ≡ (out-Term t).inputs.items → i < length ts
    → info_of (term_of (get_or ts i d)) ≡ Err fault → SoFar ts i → Err fault ≡ info_of (term_of t)
not_told t ts i d fault same h e so_far =
    let f : gathered (out-Term t).inputs.items ≡ Err fault = rw (← same) (refused ts i d fault h e so_far) in
    sym (info_node t ∙ ap (λ r. then_check (act_of (out-Term t).op) r) f)

pub told : (t : Term) (ts : List Term) (i : ℕ) → ts ≡ (out-Term t).inputs.items → length ts ≤ i → SoFar ts i
    → check (act_of (out-Term t).op) (map told_by (take i ts)) ≡ info_of (term_of t)
told t ts i same h so_far =
    let f : gathered (out-Term t).inputs.items ≡ Ok (map told_by (take i ts)) = rw (← same) (all_told ts i h so_far) in
    sym (info_node t ∙ ap (λ r. then_check (act_of (out-Term t).op) r) f)
