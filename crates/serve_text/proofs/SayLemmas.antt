-- Lines that are put, whole or cut short.
use Rattle.std.proofs.Common.{◌≡◌, ◌⊎◌, inl, inr, refl, [], ℕ, ◌<◌, List, ◌++◌, length, take, get_or, Result, Ok, Err, OnErr, true, arith}
use Rattle.std.specs.Result.{is_err}
use Rattle.std.proofs.lemmas.List.{append_assoc}
use Rattle.std.specs.List.{flat_map}
use Rattle.std.specs.Prelude.{codes, decimal}
use Rattle.fv_io.specs.declared.sink.Sink.{Ghosts}
use Rattle.fv_io.specs.Sink.{Puts, PutsPrefix, SinkFailed, IsLater}
use Rattle.y4m_stream.proofs.CallerLemmas.{put_cut, one_more}
use Rattle.y4m_stream.specs.declared.fault.Y4mFault.{Y4mFault}
use Rattle.y4m_stream.specs.declared.fault.Y4mFault.TheVariants as of_stream
use Rattle.avs_meaning.specs.Faults.{kind_name}
use Rattle.avs_meaning.specs.declared.fault.ScriptKind.{ScriptKind}
use Rattle.avs_meaning.specs.declared.fault.ScriptKind.TheVariants as k
use Rattle.serve_text.specs.Lines.{Says, kind_text, y4m_detail}

-- what holds of an answer that is an error
pub of_err : {T E P : Type 0} (r : Result T E) → is_err r ≡ true → OnErr r P → P
of_err (Ok x) failed p = absurd (cc)
of_err (Err e) failed p = p

-- where a put failed, the line is cut short
pub says_cut : {X E : Type 0} (sink : Ghosts E) (text : X → List ℕ) (xs : List X) (i : ℕ) (d : X) (old mid new : E) → i < length xs → Puts sink old mid (flat_map text (take i xs)) → PutsPrefix sink mid new (text (get_or xs i d))
    → sink.faults mid ≡ sink.faults old → IsLater sink mid new → SinkFailed sink mid new → Says sink old new (flat_map text xs)
says_cut sink text xs i d old mid new within put cut steady later failed = record {
  cut = put_cut text xs i 1 (sink.bytes old) (sink.bytes mid) (sink.bytes new) put (rw (one_more text xs i d within) cut);
  whole = λ none. absurd (none (omega arith));
  later = omega arith;
}

-- a line that was put is also any line equal to it
pub says_as : {E : Type 0} (sink : Ghosts E) (old new : E) (line other : List ℕ) → line ≡ other → Says sink old new line → Says sink old new other
says_as sink old new line other same says = rw (← same) says

-- the numbers come before the end of the line
pub changed_line : (name frame want got : List ℕ)
    → codes "input fault: " ++ (name ++ (codes ": " ++ (codes "Changed " ++ (frame ++ (codes " want " ++ (want ++ (codes " got " ++ (got ++ codes "\n"))))))))
    ≡ codes "input fault: " ++ (name ++ (codes ": " ++ ((codes "Changed " ++ (frame ++ (codes " want " ++ (want ++ (codes " got " ++ got))))) ++ codes "\n")))
changed_line name frame want got = simp append_assoc

pub detail_line : (name kind detail : List ℕ)
    → codes "input fault: " ++ (name ++ (codes ": " ++ (kind ++ (codes " " ++ (detail ++ codes "\n"))))) ≡ codes "input fault: " ++ (name ++ (codes ": " ++ ((kind ++ (codes " " ++ detail)) ++ codes "\n")))
detail_line name kind detail = simp append_assoc

-- the message of an assertion comes after its name
pub assertion_line : (name line message : List ℕ)
    → codes "script fault: " ++ (name ++ (codes " line " ++ (line ++ (codes ": AssertFailed: " ++ (message ++ codes "\n")))))
    ≡ codes "script fault: " ++ (name ++ (codes " line " ++ (line ++ (codes ": " ++ ((codes "AssertFailed: " ++ message) ++ codes "\n")))))
assertion_line name line message = simp append_assoc

-- a fault of a stream that is about no letter and no frame
pub no_detail : (fault : Y4mFault) → ((letter : ℕ) → fault ≡ of_stream.BadNumber letter → ⊥) → ((frame : ℕ) → fault ≡ of_stream.BadFrame frame → ⊥) → ((frame : ℕ) → fault ≡ of_stream.Truncated frame → ⊥) → y4m_detail fault ≡ []
no_detail of_stream.NotY4m number frame cut = refl
no_detail of_stream.HeadTooLong number frame cut = refl
no_detail of_stream.NoSize number frame cut = refl
no_detail (of_stream.BadNumber letter) number frame cut = absurd (number letter refl)
no_detail of_stream.UnknownColour number frame cut = refl
no_detail of_stream.BadSize number frame cut = refl
no_detail of_stream.TooLarge number frame cut = refl
no_detail of_stream.NoFrames number frame cut = refl
no_detail of_stream.TooManyFrames number frame cut = refl
no_detail (of_stream.BadFrame k) number frame cut = absurd (frame k refl)
no_detail (of_stream.Truncated k) number frame cut = absurd (cut k refl)

-- one that is about a frame
pub of_frame : (fault : Y4mFault) (frame : ℕ) → (fault ≡ of_stream.BadFrame frame) ⊎ (fault ≡ of_stream.Truncated frame) → y4m_detail fault ≡ codes " " ++ decimal frame
of_frame fault frame (inl is) = rw is refl
of_frame fault frame (inr is) = rw is refl

-- only an assertion has a message
pub no_message : (kind : ScriptKind) → ((message : List ℕ) → kind ≡ k.AssertFailed message → ⊥) → kind_text kind ≡ kind_name kind
no_message (k.AssertFailed message) other = absurd (other message refl)
no_message (k.Lex kind) other = refl
no_message (k.Filter fault) other = refl
no_message (k.File kind) other = refl
no_message k.TypeFault other = refl
no_message k.Overflow other = refl
no_message k.DivZero other = refl
no_message k.BadText other = refl
no_message k.BadRange other = refl
no_message k.BadExpression other = refl
no_message k.TextLimit other = refl
no_message k.Syntax other = refl
no_message k.NestLimit other = refl
no_message k.UnknownName other = refl
no_message k.NoMatch other = refl
no_message k.NotClip other = refl
no_message k.DuplicateFunction other = refl
no_message k.StepLimit other = refl
no_message k.CallDepth other = refl
no_message k.NodeLimit other = refl
no_message k.DepthLimit other = refl
no_message k.ModeRefused other = refl
no_message k.PrefetchRange other = refl
