-- Clips that are opened, one after the other.
use Rattle.std.proofs.Common.{◌≡◌, ◌∙◌, ℕ, zero, suc, arith, Bool, true, false, IsTrue, List, [], ◌∷◌, ◌++◌, length, slice_get, Option, Some, Ok, refl, rules}
use Rattle.std.specs.FinMap.{get}
use Rattle.fv_io.specs.World.{World}
use Rattle.fv_io.specs.declared.source.Source.{Ghosts}
use Rattle.seq_source.specs.FrameSource.{FrameSource}
use Rattle.y4m_stream.specs.Stream.{IsIndex}
use Rattle.avs_meaning.specs.State.{clip_in}
use Rattle.avs_meaning.specs.declared.state.SourceClip.{SourceClip}
use Rattle.avs_files.specs.Opened.{told_of, IsSourceOf, IsOpened, AreOpened}

told_is : (told : Bool) (world : World) → IsTrue told → told_of told world ≡ Some world
told_is true world is = refl
told_is false world is = absurd (search (rules, is))

pub length_more : {X : Type 0} (xs : List X) (x : X) → length (xs ++ x ∷ []) ≡ suc (length xs)
length_more [] x = refl
length_more (y ∷ xs) x = let e = length_more xs x in omega (arith, e)

module _ {S : Type 0} (source : Ghosts S) (told : Bool) (world : World) where
  -- a source that was opened, with the name and the info that are listed for it
  pub opened_one : (one : SourceClip) (it : FrameSource S) (tells : Option World) → tells ≡ told_of told world → IsIndex it.index → it.index.info ≡ one.info
      → ((w : World) → tells ≡ Some w → clip_in (get w one.name) ≡ Ok one.info) → IsSourceOf source tells one.name it.source it.index → IsOpened source told world one it
  opened_one one it tells same sound info clip is = record {
    sound = sound;
    info = info;
    clip = λ yes. clip world (same ∙ told_is told world yes);
    bytes = λ yes. is.bytes world (same ∙ told_is told world yes);
    index = λ yes bytes clip file stream. is.indexed world (same ∙ told_is told world yes) bytes clip file stream;
    unfailed = is.unfailed;
  }

  each_more : (listed : List SourceClip) (sources : List (FrameSource S)) (new : SourceClip) (last : FrameSource S) → length listed ≡ length sources
      → ((k : ℕ) (one : SourceClip) (it : FrameSource S) → slice_get listed k ≡ Some one → slice_get sources k ≡ Some it → IsOpened source told world one it)
      → IsOpened source told world new last
      → (k : ℕ) (one : SourceClip) (it : FrameSource S) → slice_get (listed ++ new ∷ []) k ≡ Some one → slice_get (sources ++ last ∷ []) k ≡ Some it → IsOpened source told world one it
  each_more [] [] new last same each is zero one it this that =
      let first : new ≡ one = cc in let second : last ≡ it = cc in rw (first, second) at is
  each_more [] [] new last same each is (suc k) one it this that = cc this
  each_more [] (y ∷ ys) new last same each is k one it this that = absurd (omega (arith, same))
  each_more (x ∷ xs) [] new last same each is k one it this that = absurd (omega (arith, same))
  each_more (x ∷ xs) (y ∷ ys) new last same each is zero one it this that = each zero one it this that
  each_more (x ∷ xs) (y ∷ ys) new last same each is (suc k) one it this that =
      each_more xs ys new last (omega (arith, same)) (λ n a b here there. each (suc n) a b here there) is k one it this that

  pub opened_more : (listed : List SourceClip) (sources : List (FrameSource S)) (new : SourceClip) (last : FrameSource S)
      → AreOpened source told world listed sources → IsOpened source told world new last
      → AreOpened source told world (listed ++ new ∷ []) (sources ++ last ∷ [])
  opened_more listed sources new last are is = record {
    count = omega (arith, are.count, length_more listed new, length_more sources last);
    each = each_more listed sources new last are.count are.each is;
  }
