-- The refusals of a stack, where the first clip is known.
use Rattle.std.proofs.Common.{◌≡◌, Bool, not, List, [], ◌∷◌, refl}
use Rattle.std.specs.List.{list_all}
use Rattle.fv_plane.specs.declared.format.Info.{Info}
use Rattle.fv_plane.specs.Refusals.{first_fault}
use Rattle.clip_term.specs.declared.fault.FilterFault.TheVariants.{FormatDiffers, SizeDiffers}
use Rattle.clip_term.specs.Refusals.{info_at, same_format}

pub stacked : (test : Info → Info → Bool) (c : Info) (infos : List Info) (formats sides : Bool) → c ≡ info_at infos 0
    → formats ≡ list_all (λ (d : Info). same_format d.shape (info_at infos 0).shape) infos → sides ≡ list_all (λ (d : Info). test d (info_at infos 0)) infos
    → first_fault ((FormatDiffers, not formats) ∷ (SizeDiffers, not sides) ∷ [])
    ≡ first_fault ((FormatDiffers, not (list_all (λ (d : Info). same_format d.shape c.shape) infos)) ∷ (SizeDiffers, not (list_all (λ (d : Info). test d c) infos)) ∷ [])
stacked test c infos formats sides e f g = rw (e, f, g) refl
