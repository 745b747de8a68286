-- A script means one thing at most.
use Rattle.std.proofs.Common.{None, Option, ◌≡◌, ◌∙◌, ℕ, zero, suc, ◌<◌, arith, List, [], ◌∷◌, length, get_or, slice_get, Some, refl, sym, ap}
use Rattle.fv_io.specs.World.{World}
use Rattle.fv_plane.specs.Picture.{Clip, Picture}
use Rattle.y4m_stream.proofs.CallerLemmas.{reads_one_way}
use Rattle.clip_graph.specs.Plan.{Application}
use Rattle.prefetch.specs.Windows.{clip_at}
use Rattle.avs_meaning.specs.Meaning as m
use Rattle.avs_meaning.specs.State.{Numbers}
use Rattle.avs_meaning.specs.declared.state.SourceClip.{SourceClip}
use Rattle.avs_state.specs.Sources.{sources_of}
use Rattle.avs_files.specs.Opened.{IsFileOf}
use Rattle.serve_app.specs.Meaning.{a_clip, a_fault, HasPictures, IsBookOf, MeansClip, MeansOneThing}

-- an item that is there
pub item_at : {X : Type 0} (xs : List X) (k : ℕ) → k < length xs → (x : X) × (slice_get xs k ≡ Some x)
item_at [] k inside = absurd (omega (arith, inside))
item_at (x ∷ xs) zero inside = (x, refl)
item_at (x ∷ xs) (suc k) inside = item_at xs k (omega (arith, inside))

pub same_lists : {X : Type 0} (xs ys : List X) (d : X) → length xs ≡ length ys → ((k : ℕ) → k < length xs → get_or xs k d ≡ get_or ys k d) → xs ≡ ys
same_lists [] [] d long each = refl
same_lists [] (y ∷ ys) d long each = absurd (omega (arith, long))
same_lists (x ∷ xs) [] d long each = absurd (omega (arith, long))
same_lists (x ∷ xs) (y ∷ ys) d long each =
    let first : x ≡ y = each zero (omega arith) in
    ap (λ z. z ∷ xs) first ∙ ap (λ zs. y ∷ zs) (same_lists xs ys d (omega (arith, long)) (λ k inside. each (suc k) (omega (arith, inside))))

-- a file is one clip
pub one_file : (world : World) (name : List ℕ) (one other : Clip) → IsFileOf world name one → IsFileOf world name other → one ≡ other
one_file world name one other a b =
    let bytes : Some a.bytes ≡ Some b.bytes = sym a.bytes_are ∙ b.bytes_are in
    let same : a.bytes ≡ b.bytes = cc in
    reads_one_way.one_clip b.bytes one other (rw same at a.stream) b.stream

same_pictures : (world : World) (name : List ℕ) (one other : List Picture) → HasPictures world name one → HasPictures world name other → one ≡ other
same_pictures world name one other a b =
    a.pictures_are ∙ ap (λ (c : Clip). c.pictures) (one_file world name a.clip b.clip a.file b.file) ∙ sym b.pictures_are

pub one_book : (world : World) (sources : List SourceClip) (one other : List (List Picture)) → IsBookOf world sources one → IsBookOf world sources other → one ≡ other
one_book world sources one other a b =
    same_lists one other [] (a.count ∙ sym b.count) (λ k inside.
    (let item = item_at sources k (omega (arith, inside, a.count)) in
    same_pictures world item.0.name (get_or one k []) (get_or other k []) (a.each k item.0 item.1) (b.each k item.0 item.1)))

plan_of : m.Meaning → List Application → List Application
plan_of (m.clip plan root crew) other = plan
plan_of (m.wrong fault) other = other

root_of : m.Meaning → ℕ
root_of (m.clip plan root crew) = root
root_of (m.wrong fault) = 0

pub same_plan : (one other : List Application) (i j : ℕ) (x y : Option Numbers) → m.clip one i x ≡ m.clip other j y → one ≡ other
unfolding plan_of
same_plan one other i j x y is = ap (λ x. plan_of x []) is

pub same_root : (one other : List Application) (i j : ℕ) (x y : Option Numbers) → m.clip one i x ≡ m.clip other j y → i ≡ j
unfolding root_of
same_root one other i j x y is = ap root_of is

crew_of : m.Meaning → Option Numbers
crew_of (m.clip plan root crew) = crew
crew_of (m.wrong fault) = None

pub same_crew : (one other : List Application) (i j : ℕ) (x y : Option Numbers) → m.clip one i x ≡ m.clip other j y → x ≡ y
unfolding crew_of
same_crew one other i j x y is = ap crew_of is

one_clip : (world : World) (name : List ℕ) (one other : Clip) → MeansClip world name one → MeansClip world name other → one ≡ other
one_clip world name one other a b =
    let same = sym a.means ∙ b.means in
    let plan = same_plan a.plan b.plan a.root b.root a.crew b.crew same in
    let root = same_root a.plan b.plan a.root b.root a.crew b.crew same in
    let first : IsBookOf world (sources_of b.plan) a.book = rw plan at a.is_book in
    let book = one_book world (sources_of b.plan) a.book b.book first b.is_book in
    a.clip_is ∙ ap (λ p. clip_at a.book p a.root) plan ∙ ap (λ i. clip_at a.book b.plan i) root ∙ ap (λ l. clip_at l b.plan b.root) book ∙ sym b.clip_is

pub means_one_thing : MeansOneThing
means_one_thing world name (a_clip one) (a_clip other) a b = ap a_clip (one_clip world name one other a b)
means_one_thing world name (a_clip one) (a_fault fault) a b = let no : m.clip a.plan a.root a.crew ≡ m.wrong fault = sym a.means ∙ b in cc no
means_one_thing world name (a_fault fault) (a_clip other) a b = let no : m.clip b.plan b.root b.crew ≡ m.wrong fault = sym b.means ∙ a in cc no
means_one_thing world name (a_fault one) (a_fault other) a b = let same : m.wrong one ≡ m.wrong other = sym a ∙ b in cc
