-- Samples and frames that are added one after the other.
use Rattle.std.proofs.Common.{◌≡◌, ◌∙◌, ℕ, suc, ◌+◌, ◌-◌, ◌<◌, ◌≤◌, refl, sym, ap, List, [], ◌∷◌, ◌++◌, Some, None, codes, arith}
use Rattle.std.proofs.lemmas.List.{append_assoc, append-nil}
use Rattle.fv_io.specs.FilesState.{Entry, FilesState, told_world, with_entry}
use Rattle.fv_io.specs.declared.memory.trip.Trip.{Trip}
use Rattle.self_test.specs.Workload.{next, sample, samples, after, frames, script, self_world, stream_from}

-- one fewer is left
left : (count done : ℕ) → done < count → count - done ≡ suc (count - (done + 1))
left count done lt = omega arith

pub sample_more : (bytes whole : List ℕ) (count done x : ℕ) → done < count → bytes ++ samples (count - done) x ≡ whole
    → (bytes ++ sample (next x) ∷ []) ++ samples (count - (done + 1)) (next x) ≡ whole
unfolding samples
sample_more bytes whole count done x lt is =
    append_assoc bytes (sample (next x) ∷ []) (samples (count - (done + 1)) (next x)) ∙ ap (λ n. bytes ++ samples n x) (sym (left count done lt)) ∙ is

pub after_more : (count done x last : ℕ) → done < count → after (count - done) x ≡ last → after (count - (done + 1)) (next x) ≡ last
unfolding after
after_more count done x last lt is = ap (λ n. after n x) (sym (left count done lt)) ∙ is

pub frame_more : (bytes whole : List ℕ) (size count done x : ℕ) → done < count → bytes ++ frames (count - done) size x ≡ whole
    → ((bytes ++ codes "FRAME\n") ++ samples size x) ++ frames (count - (done + 1)) size (after size x) ≡ whole
unfolding frames
frame_more bytes whole size count done x lt is =
    append_assoc (bytes ++ codes "FRAME\n") (samples size x) (frames (count - (done + 1)) size (after size x))
    ∙ append_assoc bytes (codes "FRAME\n") (samples size x ++ frames (count - (done + 1)) size (after size x))
    ∙ ap (λ n. bytes ++ frames n size x) (sym (left count done lt)) ∙ is

none_left : (count done : ℕ) → count ≤ done → count - done ≡ 0
none_left count done past = omega arith

pub samples_end : (bytes whole : List ℕ) (count done x : ℕ) → count ≤ done → bytes ++ samples (count - done) x ≡ whole → bytes ≡ whole
unfolding samples
samples_end bytes whole count done x past is = sym (append-nil bytes) ∙ ap (λ n. bytes ++ samples n x) (sym (none_left count done past)) ∙ is

pub after_end : (count done x last : ℕ) → count ≤ done → after (count - done) x ≡ last → x ≡ last
unfolding after
after_end count done x last past is = ap (λ n. after n x) (sym (none_left count done past)) ∙ is

pub frames_end : (bytes whole : List ℕ) (size count done x : ℕ) → count ≤ done → bytes ++ frames (count - done) size x ≡ whole → bytes ≡ whole
unfolding frames
frames_end bytes whole size count done x past is = sym (append-nil bytes) ∙ ap (λ n. bytes ++ frames n size x) (sym (none_left count done past)) ∙ is

-- ---- the files

abbrev pub file : List ℕ → List ℕ → ℕ → List Trip → Entry
file name bytes piece trips = record { name = name; first = bytes; later = None; piece = piece; trips = trips }

abbrev pub no_files : FilesState
no_files = record { entries = []; stops = []; calls = 0; sources = 0; given = 0; faults = 0 }

pub tells : (number : ℕ) (stream_name stream script_name text : List ℕ) (piece other : ℕ) (trips more : List Trip) → stream_name ≡ codes "in.y4m" → stream ≡ stream_from number
    → script_name ≡ codes "self.avs" → text ≡ script
    → told_world (with_entry (with_entry no_files (file stream_name stream piece trips)) (file script_name text other more)) ≡ Some (self_world number)
unfolding self_world
tells number stream_name stream script_name text piece other trips more n b m t = rw (n, b, m, t) refl
