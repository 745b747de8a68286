-- What is accepted is lawful.
use Rattle.std.proofs.Common.{◌≡◌, [], List, length, Result, Ok, Err, IfOk, sym, refl, arith, true}
use Rattle.fv_plane.specs.declared.format.Info.{Info}
use Rattle.fv_plane.specs.Format.{has_depth}
use Rattle.fv_plane.specs.Info.{IsLawful, IsPar}
use Rattle.clip_term.specs.declared.fault.FilterFault.{FilterFault}
use Rattle.clip_term.specs.Blank.{check_plain}
use Rattle.clip_term.specs.Terms.{Act, ClipTerm, plain, check, info_of, IsSound, IsSoundTerm, AreLawful}
use Rattle.clip_term.proofs.LawfulLemmas.{checks_lawful}
use Rattle.clip_term.proofs.SoundLemmas.{sound_lawful}

pub checked_lawful : (r : Result Info FilterFault) (op : Act) (infos : List Info) → r ≡ check op infos → IsSound op (length infos) → AreLawful infos
    → IfOk r (λ info. IsLawful info)
checked_lawful (Ok info) op infos e sound lawful = checks_lawful op infos info sound lawful (sym e)
checked_lawful (Err fault) op infos e sound lawful = tt

pub blank_lawful : (r : Result Info FilterFault) (info : Info) → r ≡ check_plain info → IsPar info.par → has_depth info.shape.kind info.shape.bits ≡ true → IfOk r (λ made. IsLawful made)
blank_lawful r info e par depth = checked_lawful r (plain info (record { y = 0; u = 0; v = 0 })) [] e (refl, par, depth) (λ i h. absurd (omega arith))

pub term_lawful : (r : Result Info FilterFault) (term : ClipTerm) → r ≡ info_of term → IsSoundTerm term → IfOk r (λ info. IsLawful info)
term_lawful (Ok info) term e sound = sound_lawful term info sound (sym e)
term_lawful (Err fault) term e sound = tt
