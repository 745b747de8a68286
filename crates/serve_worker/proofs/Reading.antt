-- The frame of a source, as its instance reads it.
use Rattle.std.proofs.Common.{◌≡◌, ℕ, ◌<◌, true, false, List, length, Option, Some, Ok, Err, Result, IfOk, refl, sym, ap, ◌∙◌, slice_get}
use Rattle.fv_io.specs.declared.source.Source.{Ghosts}
use Rattle.std.specs.Option.{ForSome}
use Rattle.fv_plane.specs.declared.format.Info.{Info}
use Rattle.fv_plane.specs.declared.key.Key.{Key}
use Rattle.fv_plane.specs.Picture.{Picture, IsPicture}
use Rattle.seq_source.specs.FrameSource.{FrameSource, frames_of}
use Rattle.clip_term.specs.Terms.{Act, source, check, source_info}
use Rattle.clip_graph.specs.Plan.{Application, application_at, infos_among, is_source, IsPlan}
use Rattle.serve_core.specs.Sources.{opened_at}
use Rattle.serve_core.specs.Works.{IsMade}

-- whatever a filter's instance keeps
pub made_with : {E : Type 0} (plan : List Application) (k : Key) (inputs : List Picture) (feed : Option (List Picture)) (r : Result Picture E) → IfOk r (λ frame. (own : Option (List Picture)) → IsMade plan k own inputs frame) → IfOk r (IsMade plan k feed inputs)
made_with plan k inputs feed (Ok frame) made = made feed
made_with plan k inputs feed (Err e) made = tt

-- the node of an instance that keeps a source
pub record IsOfSource (plan : List Application) (i : ℕ) (info : Info) : Type 0 where
  pub source : is_source (application_at plan i).act ≡ true
  pub info_is : info ≡ (application_at plan i).info

opened_info : (act : Act) (infos : List Info) (info told : Info) → Some info ≡ source_info act → check act infos ≡ Ok told → (is_source act ≡ true) × (info ≡ told)
opened_info (source name number own) infos info told is checked = (refl, (let same : info ≡ own = cc in let ok : own ≡ told = cc in same ∙ ok))
opened_info _ infos info told is checked = absurd (cc)

pub of_source : (plan : List Application) (i : ℕ) (info : Info) → IsPlan plan → i < length plan → Some info ≡ opened_at plan i → IsOfSource plan i info
of_source plan i info is less holds =
    let both = opened_info (application_at plan i).act (infos_among plan (application_at plan i).inputs) info (application_at plan i).info holds (is.each i less).told in
    record { source = both.0; info_is = both.1 }

pub made_of_source : {S E : Type 0} (of : Ghosts S) (plan : List Application) (k : Key) (inputs : List Picture) (it : FrameSource S) (r : Result Picture E) → IsOfSource plan k.node it.index.info
    → IfOk r (λ frame. ForSome (frames_of of it) (λ frames. slice_get frames k.n ≡ Some frame)) → IfOk r (λ (frame : Picture). frame.shape ≡ it.index.info.shape) → IfOk r IsPicture → IfOk r (IsMade plan k (frames_of of it) inputs)
made_of_source of plan k inputs it (Err e) at frame shape whole = tt
made_of_source of plan k inputs it (Ok x) at frame shape whole = record {
  shown = λ is frames told. frame frames told;
  filtered = λ no_source book. absurd (let bad : true ≡ false = sym at.source ∙ no_source in cc);
  whole = whole;
  shape = shape ∙ ap (λ (i : Info). i.shape) at.info_is;
}
