-- What was read is the front of the bytes, and tells their head.
use Rattle.std.proofs.Common.{◌≡◌, ◌+◌, ◌≤◌, ◌++◌, ℕ, List, None, Some, Err, length, drop, inl, sym, ◌∙◌, ap, rules}
use Rattle.std.specs.List.{position_or_len}
use Rattle.std.proofs.lemmas.Result.{err_from_is_err_and}
use Rattle.fv_plane.specs.Format.{frame_bytes}
use Rattle.y4m_stream.specs.Stream.{HasIndexFault, is_newline, head_fault, head_info}
use Rattle.y4m_stream.specs.declared.fault.IndexFault.TheVariants.{Y4m}
use Rattle.y4m_stream.proofs.IndexLemmas.{is_index, left_is, indexes, explains}
use Rattle.fv_plane.proofs.CallerLemmas.{some_bytes}
use Rattle.y4m_stream.proofs.WindowLemmas.{same_fault}
use Rattle.y4m_stream.proofs.indexing.index.Goals as goal
use Rattle.y4m_stream.proofs.indexing.index.Given.{Over}
use Rattle.y4m_stream.proofs.indexing.index.Goals.{In_ok-fill, In_ok-head}

-- the window is the front of all bytes
front : (g : Over) (c : In_ok-fill g) (told : List ℕ) → g.S.Source.bytes c.args.source.now ≡ Some told → told ≡ c.fill.new.self ++ drop (g.S.Source.place c.fill.new.source) told
front g c told is = sym (c.in_ok-fill.ensures.told told is ∙ ap (λ (l : List ℕ). l ++ drop (g.S.Source.place c.args.source.now) told) c.in_ok-ahead.ensures ∙ ap (λ n. drop n told) c.requires)

pub returns-in_err-head-clause-fault : goal.returns-in_err-head-clause-fault
returns-in_err-head-clause-fault g c =
    let at = goal.at.returns-in_err-head-clause-fault g c in
    let wrong : head_fault c.fill.new.self ≡ Some c.in_err-head.field-0.0 = rw c.bytes.ensures at c.in_err-head.ensures.fault in
    let fact : (told : List ℕ) → g.S.Source.bytes c.args.source.now ≡ Some told → HasIndexFault told (Y4m c.in_err-head.field-0.0)
    = λ told is. inl (same_fault told c.fill.new.self _ (front g at.In_ok-fill told is) (c.in_ok-fill.ensures.ended told is) ∙ wrong) in
    let p = err_from_is_err_and c.from_residual-in_err-head.result c.from_residual-in_err-head.ensures.1 in
    rw (p.1, p.2) fact

-- what `left_is`, `indexes` and `explains` ask of the head
sound : (g : Over) (c : In_ok-head g) → head_fault c.fill.new.self ≡ None
sound g c = rw c.bytes.ensures at c.in_ok-head.ensures.head.sound

says : (g : Over) (c : In_ok-head g) → c.in_ok-head.head.info ≡ head_info c.fill.new.self 0
says g c = rw c.bytes.ensures at c.in_ok-head.ensures.head.info_is

len_is : (g : Over) (c : In_ok-head g) → c.in_ok-head.head.len ≡ position_or_len is_newline c.fill.new.self + 1
len_is g c = rw c.bytes.ensures at c.in_ok-head.ensures.head.len_is

inside : (g : Over) (c : In_ok-head g) → c.in_ok-head.head.len ≤ length c.fill.new.self
inside g c = rw c.bytes.ensures at c.in_ok-head.ensures.head.inside

pub find_frames-requires-clause-here : goal.find_frames-requires-clause-here
find_frames-requires-clause-here g c told is =
    let at = goal.at.find_frames-requires-clause-here g c in
    let head = at.In_ok-head in
    let told_first : g.S.Source.bytes c.args.source.now ≡ Some told = sym c.in_ok-fill.ensures.keeps.told ∙ is in
    ap (λ (l : List ℕ). l ++ drop (g.S.Source.place c.fill.new.source) told) c.consume.ensures
    ∙ left_is told c.fill.new.self _ (front g at.In_ok-fill told told_first) (c.in_ok-fill.ensures.ended told told_first) c.in_ok-head.head.info c.in_ok-head.head.len (sound g head) (says g head) (len_is g head) (inside g head)

pub returns-in_err-offsets-clause-fault : goal.returns-in_err-offsets-clause-fault
returns-in_err-offsets-clause-fault g c =
    let at = goal.at.returns-in_err-offsets-clause-fault g c in
    let head = at.In_ok-head in
    let fact : (told : List ℕ) → g.S.Source.bytes c.args.source.now ≡ Some told → HasIndexFault told c.in_err-offsets.field-0.0
    = λ told is. explains told c.fill.new.self _ (front g at.In_ok-fill told is) (c.in_ok-fill.ensures.ended told is) c.in_ok-head.head.info c.in_ok-head.head.len (sound g head) (says g head) (len_is g head) (inside g head) c.in_err-offsets.field-0.0
    (rw c.bytes-size.ensures at (c.in_err-offsets.ensures.fault told (c.in_ok-fill.ensures.keeps.told ∙ is))) in
    let is : c.from_residual-in_err-offsets.result ≡ Err c.in_err-offsets.field-0.0 = search rules in
    rw is fact

pub new-requires-2 : goal.new-requires-2
new-requires-2 g c =
    let head = c.in_ok-head.ensures in
    let offsets : List ℕ = c.in_ok-offsets.offsets.items in
    let size_is : c.bytes-size.result ≡ frame_bytes c.in_ok-head.head.info.shape = c.bytes-size.ensures in
    let found = c.in_ok-offsets.ensures in
    is_index c.in_ok-head.head.info offsets c.len-frames.result head.legal head.rate head.par (search rules) (rw size_is at found.offsets)

pub returns-clause-found : goal.returns-clause-found
returns-clause-found g c told is =
    let at = goal.at.returns-clause-found g c in
    let head = at.In_ok-head in
    let found = c.in_ok-offsets.ensures in
    rw c.new-2.ensures (
      _,
      indexes told c.fill.new.self _ (front g at.In_ok-fill told is) (c.in_ok-fill.ensures.ended told is) c.in_ok-head.head.info c.in_ok-head.head.len (sound g head) (says g head) (len_is g head) (inside g head) c.in_ok-offsets.offsets.items
          c.len-frames.result (search rules) (rw c.bytes-size.ensures at found.offsets) (rw c.bytes-size.ensures at (found.found told (c.in_ok-fill.ensures.keeps.told ∙ is))),
    )

pub find_frames-requires-clause-some : goal.find_frames-requires-clause-some
find_frames-requires-clause-some g c = rw c.bytes-size.ensures (some_bytes c.in_ok-head.head.info.shape c.in_ok-head.ensures.legal)
