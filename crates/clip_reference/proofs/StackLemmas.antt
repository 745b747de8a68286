-- Stacks, one picture after the other.
use Rattle.std.proofs.Common.{◌≡◌, ℕ, ◌+◌, ◌-◌, ◌<◌, ◌≤◌, List, length, map, get_or, drop, arith, Bool, false}
use Rattle.std.specs.Prelude.{nat_lt, if◌then◌else◌}
use Rattle.std.proofs.lemmas.List.{drop_more}
use Rattle.std.proofs.lemmas.Bool.Decides.{nat_tests}
use Rattle.std.proofs.lemmas.Grind.{common_steps}
use Rattle.fv_plane.specs.declared.format.Info.{Info}
use Rattle.fv_plane.specs.Format.{plane_width, plane_height}
use Rattle.fv_plane.specs.Picture.{Picture, look_in}
use Rattle.clip_term.specs.Join.{beside, beneath}

later : (t : Bool) (u v w : ℕ) → t ≡ false → (if t then u else v) ≡ w → v ≡ w
later t u v w f e = grind (arith, common_steps)

not_below : (x w : ℕ) → w ≤ x → nat_lt x w ≡ false
not_below x w h = grind (arith, nat_tests)

-- a place past the next picture is one of those after it
pub beside_next : (infos : List Info) (pictures : List Picture) (i p x y w whole : ℕ) (d : Info) (e : Picture) → i < length infos → length pictures ≡ length infos
    → w ≡ plane_width (get_or infos i d).shape p → w ≤ x → beside (drop i infos) (map look_in (drop i pictures)) p x y ≡ whole
    → beside (drop (i + 1) infos) (map look_in (drop (i + 1) pictures)) p (x - w) y ≡ whole
beside_next infos pictures i p x y w whole d e h g same past so_far =
    let more = rw (drop_more infos i d h, drop_more pictures i e (omega arith), ← same) at so_far in
    later (nat_lt x w) (look_in (get_or pictures i e) p x y) (beside (drop (i + 1) infos) (map look_in (drop (i + 1) pictures)) p (x - w) y) whole (not_below x w past) more

pub beneath_next : (infos : List Info) (pictures : List Picture) (i p x y w whole : ℕ) (d : Info) (e : Picture) → i < length infos → length pictures ≡ length infos
    → w ≡ plane_height (get_or infos i d).shape p → w ≤ y → beneath (drop i infos) (map look_in (drop i pictures)) p x y ≡ whole
    → beneath (drop (i + 1) infos) (map look_in (drop (i + 1) pictures)) p x (y - w) ≡ whole
beneath_next infos pictures i p x y w whole d e h g same past so_far =
    let more = rw (drop_more infos i d h, drop_more pictures i e (omega arith), ← same) at so_far in
    later (nat_lt y w) (look_in (get_or pictures i e) p x y) (beneath (drop (i + 1) infos) (map look_in (drop (i + 1) pictures)) p x (y - w)) whole (not_below y w past) more
