-- The definitions on worked lines.
use Rattle.std.proofs.Common.{◌≡◌, List, [], ◌∷◌, ◌++◌, None, refl, codes}
use Rattle.std.specs.Fmt.{digits}
use Rattle.fv_session.specs.Answers.{answers, frames_asked}
use Rattle.fv_session.specs.Requests.{lines, request_of, requests}
use Rattle.fv_session.specs.declared.request.Request.{Request}
use Rattle.fv_session.specs.declared.request.Request.TheVariants.{Frame, Info, Quit, Bad}

abbrev pub asks : List Request
asks = Frame 2 ∷ Frame 0 ∷ Frame 9 ∷ Bad ∷ Info ∷ Quit ∷ []

pub seven_lines : requests (codes "frame 2\nframe 0\r\nframe 9\nhello\ninfo\nquit\nframe 1\n") ≡ record { requests = asks; fault = None }
unfolding lines request_of
seven_lines = refl

pub their_answers : answers 4 (λ n. n ∷ []) (codes "clip 1x1 Y8 25:1 frames 4\n") asks
    ≡ codes "frame 2 1\n" ++ 2 ∷ codes "frame 0 1\n" ++ 0 ∷ codes "refused range\nrefused line\nclip 1x1 Y8 25:1 frames 4\nbye\n"
unfolding digits
their_answers = refl

pub their_frames : frames_asked 4 asks ≡ 2 ∷ 0 ∷ []
their_frames = refl

pub no_lines : requests [] ≡ record { requests = []; fault = None }
unfolding lines
no_lines = refl

pub edges : requests (codes "frame 007\nframe 4294967296\nframe 00000000001\n\n\r") ≡ record { requests = Frame 7 ∷ Bad ∷ Bad ∷ Bad ∷ Bad ∷ []; fault = None }
unfolding lines request_of
edges = refl
