-- What a summary tells of a list of infos.
use Rattle.std.specs.Prelude.{◌≡◌, ◌==◌, List, length}
use Rattle.std.specs.List.{list_all, sum_by}
use Rattle.fv_plane.specs.declared.format.Info.{Info}
use Rattle.clip_term.specs.Refusals.{info_at, same_format, same_size}
use Rattle.clip_term.specs.Time.{woven_length}
use Rattle.clip_term.specs.Join.{longest}
use Rattle.clip_check.specs.declared.summary.Summary.{Summary}

-- each part is that of the definitions
pub record Tells (s : Summary) (infos : List Info) : Type 0 where
  pub count : s.count ≡ length infos
  pub first : s.first ≡ info_at infos 0
  pub second : s.second ≡ info_at infos 1
  pub third : s.third ≡ info_at infos 2
  pub formats : s.same_formats ≡ list_all (λ (d : Info). same_format d.shape (info_at infos 0).shape) infos
  pub bits : s.same_bits ≡ list_all (λ (d : Info). d.shape.bits == (info_at infos 0).shape.bits) infos
  pub sizes : s.same_sizes ≡ list_all (λ (d : Info). same_size d.shape (info_at infos 0).shape) infos
  pub widths : s.same_widths ≡ list_all (λ (d : Info). d.shape.width == (info_at infos 0).shape.width) infos
  pub heights : s.same_heights ≡ list_all (λ (d : Info). d.shape.height == (info_at infos 0).shape.height) infos
  pub woven : s.woven ≡ woven_length s.total 0 infos
  pub most : s.most_frames ≡ longest infos
  pub all_frames : s.all_frames ≡ sum_by (λ (d : Info). d.frames) infos
  pub all_widths : s.all_widths ≡ sum_by (λ (d : Info). d.shape.width) infos
  pub all_heights : s.all_heights ≡ sum_by (λ (d : Info). d.shape.height) infos

-- and no info is missing
pub record TellsAll (s : Summary) (infos : List Info) : Type 0 where
  pub told : Tells s infos
  pub whole : s.total ≡ length infos
