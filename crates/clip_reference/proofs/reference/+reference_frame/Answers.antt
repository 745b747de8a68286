use Rattle.std.proofs.Common.{◌≡◌, ◌∙◌, List, ◌++◌, ◌∷◌, [], length, sym, ap, map, refl, arith, take, Ok, Err, ◌<◌, get_or, ℕ}
use Rattle.std.proofs.lemmas.List.{take_all, map_more, length-map}
use Rattle.std.proofs.lemmas.List.Elements.{All-push}
use Rattle.std.proofs.lemmas.Result.{IfOk-weaker}
use Rattle.fv_plane.specs.Picture.{Picture, IsPicture, blank}
use Rattle.fv_plane.specs.declared.format.Info.{Info}
use Rattle.fv_plane.specs.declared.format.Shape.{Shape}
use Rattle.clip_term.specs.declared.term.Term.{out-Term}
use Rattle.clip_term.specs.Terms.{ClipTerm, act_of, term_of, clips, asked, asked_picture, check, make, frame_in, term_picture, term_pictures}
use Rattle.clip_term.specs.declared.op.Origin.{Origin}
use Rattle.clip_term.proofs.LawfulLemmas.{checks_lawful}
use Rattle.clip_reference.proofs.ReadyLemmas.{ready, filter_is, made_is}
use Rattle.clip_reference.proofs.RangeLemmas.{made_in_range}
use Rattle.clip_term.specs.Choice.{run_act}
use Rattle.flt_choice.specs.Shown.{picture_shown}
use Rattle.clip_reference.proofs.ChoiceLemmas.{chosen}
use Rattle.clip_reference.proofs.SizeLemmas.{fewer}
use Rattle.clip_reference.proofs.TermLemmas.{node, accepted, Gathered, gathered, inputs_ok, turn, is_blank, no_refusal, made_whole, source_frame, source_picture}
use Rattle.clip_reference.proofs.reference.+reference_frame.Goals as goal
use Rattle.clip_reference.proofs.reference.+reference_frame.Goals.{After-deref-origin-items}

pub frame-requires : goal.frame-requires
frame-requires t c =
    let a = accepted c.args.book.now c.args.term.now c.args.n c.requires.sound c.requires.inside c.requires.sources in
    let source = rw c.in-Source.is at a in
    let frame = source_frame c.args.book.now c.in-Source.name c.in-Source.number c.in-Source.info (out-Term c.args.term.now).inputs.items c.args.n source in
    record { number = frame.listed; inside = frame.inside }

pub returns-in-Source : goal.returns-in-Source
returns-in-Source t c =
    let book = c.args.book.now in
    let a = accepted book c.args.term.now c.args.n c.requires.sound c.requires.inside c.requires.sources in
    let source = rw c.in-Source.is at a in
    let n = node c.args.term.now in
    let is = rw c.in-Source.is at n in
    IfOk-weaker c.frame.result (λ frame. (shape : Shape) → frame ≡ frame_in book c.in-Source.number c.args.n shape)
    (λ frame. frame ≡ term_picture book (term_of c.args.term.now) c.args.n)
    (λ frame e.
    e c.in-Source.info.shape ∙ source_picture book c.in-Source.name c.in-Source.number c.in-Source.info (out-Term c.args.term.now).inputs.items c.args.n source
    ∙ ap (λ (term : ClipTerm). term_picture book term c.args.n) (sym is))
    c.frame.ensures

pub blank-requires : goal.blank-requires
blank-requires t c =
    let a = accepted c.args.book.now c.args.term.now c.args.n c.requires.sound c.requires.inside c.requires.sources in
    let plain = rw c.in-Blank.is at a in
    (is_blank c.args.book.now c.in-Blank.info c.in-Blank.colour (out-Term c.args.term.now).inputs.items c.args.n plain).legal

pub returns-in-Blank : goal.returns-in-Blank
returns-in-Blank t c =
    let book = c.args.book.now in
    let a = accepted book c.args.term.now c.args.n c.requires.sound c.requires.inside c.requires.sources in
    let plain = rw c.in-Blank.is at a in
    let n = node c.args.term.now in
    let is = rw c.in-Blank.is at n in
    let made = is_blank book c.in-Blank.info c.in-Blank.colour (out-Term c.args.term.now).inputs.items c.args.n plain in
    IfOk-weaker c.blank.result (λ frame. frame ≡ blank c.in-Blank.info.shape c.in-Blank.colour) (λ frame. frame ≡ term_picture book (term_of c.args.term.now) c.args.n)
    (λ frame e. e ∙ made.picture ∙ ap (λ (term : ClipTerm). term_picture book term c.args.n) (sym is)) c.blank.ensures

pub infos_of-requires : goal.infos_of-requires
infos_of-requires t c =
    let a = accepted c.args.book.now c.args.term.now c.args.n c.requires.sound c.requires.inside c.requires.sources in
    rw c.deref.ensures.value (inputs_ok c.args.book.now (act_of (out-Term c.args.term.now).op) (out-Term c.args.term.now).inputs.items c.args.n a)

pub asked-requires : goal.asked-requires
asked-requires t c =
    let g = gathered c.args.book.now c.args.term.now c.args.n c.deref.result.now c.in_ok-infos.infos.items c.requires.sound c.requires.inside c.requires.sources c.deref.ensures.value c.in_ok-infos.ensures in
    rw c.deref-2.ensures.value (record { sound = g.known.sound; lawful = g.known.lawful; shown = g.known.shown })

-- what is known once the inputs' infos are gathered
given : (t : ℕ) (c : After-deref-origin-items t) → Gathered c.args.book.now (act_of (out-Term c.args.term.now).op) (out-Term c.args.term.now).inputs.items c.in_ok-infos.infos.items c.args.n
given t c = gathered c.args.book.now c.args.term.now c.args.n c.deref.result.now c.in_ok-infos.infos.items c.requires.sound c.requires.inside c.requires.sources c.deref.ensures.value c.in_ok-infos.ensures

same : (t : ℕ) (c : After-deref-origin-items t) → c.deref-origin-items.result.now ≡ asked (act_of (out-Term c.args.term.now).op) c.in_ok-infos.infos.items c.args.n
same t c = c.deref-origin-items.ensures.value ∙ c.in_ok-origins.ensures ∙ ap (λ ds. asked (act_of (out-Term c.args.term.now).op) ds c.args.n) c.deref-2.ensures.value

pub index-input-requires : goal.index-input-requires
index-input-requires t c =
    let d = (goal.at.index-input-requires t c).After-deref-origin-items in
    let op = act_of (out-Term c.args.term.now).op in
    let ts = (out-Term c.args.term.now).inputs.items in
    let infos = c.in_ok-infos.infos.items in
    let inside = (turn c.args.book.now op ts infos c.args.n (given t d) _ (same t d) c.loop-origin.origin-index (record { input = 0; number = 0 }) c.loop-origin-test.true _ c.args.term.now refl).inside in
    let long = ap length c.deref.ensures.value in
    omega (arith, c.deref.ensures.len)

pub reference_frame-requires : goal.reference_frame-requires
reference_frame-requires t c =
    let d = (goal.at.reference_frame-requires t c).After-deref-origin-items in
    let op = act_of (out-Term c.args.term.now).op in
    let ts = (out-Term c.args.term.now).inputs.items in
    let infos = c.in_ok-infos.infos.items in
    let at = turn c.args.book.now op ts infos c.args.n (given t d) _ (same t d) c.loop-origin.origin-index _ c.loop-origin-test.true c.index-input.result.now _ c.index-input.ensures in
    (fewer c.args.term.now c.index-input.result.now _ (get_or c.deref-origin-items.result.now c.loop-origin.origin-index (record { input = 0; number = 0 })).input t at.inside c.index-input.ensures c.decreases, (at.sound, (at.shown, at.sources)))

pub loop-origin-preserved : goal.loop-origin-preserved
loop-origin-preserved t c =
    let d = (goal.at.loop-origin-preserved t c).After-deref-origin-items in
    let op = act_of (out-Term c.args.term.now).op in
    let ts = (out-Term c.args.term.now).inputs.items in
    let infos = c.in_ok-infos.infos.items in
    let i = c.loop-origin.origin-index in
    let other : Origin = record { input = 0; number = 0 } in
    let at = turn c.args.book.now op ts infos c.args.n (given t d) _ (same t d) i other c.loop-origin-test.true c.index-input.result.now _ c.index-input.ensures in
    let f = asked_picture (term_pictures c.args.book.now (clips (map term_of ts))) in
    let frames = c.loop-origin.frames.items in
    let put : c.push.new.self.items ≡ frames ++ c.in_ok-frame.frame ∷ [] = c.in_ok-push.ensures.items in
    record {
      made = put ∙ ap (λ l. l ++ c.in_ok-frame.frame ∷ []) c.loop-origin.invariant.made
          ∙ ap (λ p. map f (take i c.deref-origin-items.result.now) ++ p ∷ []) (c.in_ok-frame.ensures ∙ sym at.picture) ∙ sym (map_more f c.deref-origin-items.result.now i other c.loop-origin-test.true);
      sizes = rw put (All-push IsPicture frames c.in_ok-frame.frame c.loop-origin.invariant.sizes c.shape.ensures.sizes);
    }

pub made-requires : goal.made-requires
made-requires t c =
    let d = (goal.at.made-requires t c).After-deref-origin-items in
    let op = act_of (out-Term c.args.term.now).op in
    let ts = (out-Term c.args.term.now).inputs.items in
    let infos = c.in_ok-infos.infos.items in
    let k = (given t d).known in
    let f = asked_picture (term_pictures c.args.book.now (clips (map term_of ts))) in
    let checked : check op infos ≡ Ok c.in-Ok.info = ap (check op) (sym c.deref-3.ensures.value) ∙ sym c.check.ensures.exact ∙ c.in-Ok.is in
    let all : c.loop-origin.frames.items ≡ map f c.deref-origin-items.result.now = c.loop-origin.invariant.made ∙ ap (map f) (take_all c.loop-origin.origin-index c.deref-origin-items.result.now c.loop-origin-test.false) in
    let long : length c.loop-origin.frames.items ≡ length (asked op infos c.args.n) = ap length all ∙ length-map c.deref-origin-items.result.now f ∙ ap length (same t d) in
    let filter = made_is (out-Term c.args.term.now).op (filter_is (out-Term c.args.term.now).op c.in_default.not-Source c.in_default-op.not-Blank) c.in_default-op-2.not-Run in
    rw (c.deref-in-Ok.ensures.value, c.deref-in-Ok-2.ensures.value) (record {
      legal = (checks_lawful op infos c.in-Ok.info k.sound k.lawful checked).shape;
      ready = ready op infos c.in-Ok.info c.args.n (length c.loop-origin.frames.items) filter k.sound k.lawful checked long;
      fits = made_in_range c.args.book.now (clips (map term_of ts)) op infos c.in-Ok.info c.args.n c.loop-origin.frames.items (given t d).all filter k.sound k.lawful checked (all ∙ ap (map f) (same t d)) c.loop-origin.invariant.sizes;
    })

pub make_run-requires : goal.make_run-requires
make_run-requires t c =
    let d = (goal.at.make_run-requires t c).After-deref-origin-items in
    let book = c.args.book.now in
    let op = act_of (out-Term c.args.term.now).op in
    let ts = (out-Term c.args.term.now).inputs.items in
    let infos = c.in_ok-infos.infos.items in
    let f = asked_picture (term_pictures book (clips (map term_of ts))) in
    let all : c.loop-origin.frames.items ≡ map f (asked op infos c.args.n)
    = c.loop-origin.invariant.made ∙ ap (map f) (take_all c.loop-origin.origin-index c.deref-origin-items.result.now c.loop-origin-test.false ∙ same t d) in
    let it = chosen book c.args.term.now (run_act c.in-Run.op) c.args.n infos c.loop-origin.frames.items (ap act_of c.in-Run.is) c.requires.sound (given t d) all c.loop-origin.invariant.sizes in
    rw c.deref-in-Run.ensures.value it.ready

pub returns-in-Run : goal.returns-in-Run
returns-in-Run t c =
    let d = (goal.at.returns-in-Run t c).After-deref-origin-items in
    let book = c.args.book.now in
    let op = act_of (out-Term c.args.term.now).op in
    let ts = (out-Term c.args.term.now).inputs.items in
    let infos = c.in_ok-infos.infos.items in
    let f = asked_picture (term_pictures book (clips (map term_of ts))) in
    let all : c.loop-origin.frames.items ≡ map f (asked op infos c.args.n)
    = c.loop-origin.invariant.made ∙ ap (map f) (take_all c.loop-origin.origin-index c.deref-origin-items.result.now c.loop-origin-test.false ∙ same t d) in
    let it = chosen book c.args.term.now (run_act c.in-Run.op) c.args.n infos c.loop-origin.frames.items (ap act_of c.in-Run.is) c.requires.sound (given t d) all c.loop-origin.invariant.sizes in
    IfOk-weaker c.make_run.result (λ frame. frame ≡ picture_shown (run_act c.in-Run.op) c.args.n c.deref-in-Run.result.now) (λ frame. frame ≡ term_picture book (term_of c.args.term.now) c.args.n)
    (λ frame e. e ∙ ap (picture_shown (run_act c.in-Run.op) c.args.n) c.deref-in-Run.ensures.value ∙ it.picture) c.make_run.ensures.made

pub unreachable-requires : goal.unreachable-requires
unreachable-requires t c =
    let d = (goal.at.unreachable-requires t c).After-deref-origin-items in
    let op = act_of (out-Term c.args.term.now).op in
    let infos = c.in_ok-infos.infos.items in
    let k = (given t d).known in
    let refused : check op infos ≡ Err c.in-Err.field-0 = ap (check op) (sym c.deref-3.ensures.value) ∙ sym c.check.ensures.exact ∙ c.in-Err.is in
    no_refusal (check op infos) (λ (info : Info). c.args.n < info.frames) c.in-Err.field-0 k.shown refused

pub returns : goal.returns
returns t c =
    let d = (goal.at.returns t c).After-deref-origin-items in
    let op = act_of (out-Term c.args.term.now).op in
    let ts = (out-Term c.args.term.now).inputs.items in
    let infos = c.in_ok-infos.infos.items in
    let book = c.args.book.now in
    let n = c.args.n in
    let f = asked_picture (term_pictures book (clips (map term_of ts))) in
    let checked : check op infos ≡ Ok c.in-Ok.info = ap (check op) (sym c.deref-3.ensures.value) ∙ sym c.check.ensures.exact ∙ c.in-Ok.is in
    let all : c.deref-in-Ok-2.result.now ≡ map f (asked op infos n)
    = c.deref-in-Ok-2.ensures.value ∙ c.loop-origin.invariant.made ∙ ap (map f) (take_all c.loop-origin.origin-index c.deref-origin-items.result.now c.loop-origin-test.false ∙ same t d) in
    let law = made_whole book c.args.term.now n infos c.in-Ok.info c.deref-in-Ok-2.result.now c.requires.sound (given t d).all checked all in
    IfOk-weaker c.made.result (λ frame. (b : List (List Picture)) → frame ≡ make b op c.deref-in-Ok.result.now c.in-Ok.info n c.deref-in-Ok-2.result.now)
    (λ frame. frame ≡ term_picture book (term_of c.args.term.now) n)
    (λ frame is. is book ∙ ap (λ ds. make book op ds c.in-Ok.info n c.deref-in-Ok-2.result.now) c.deref-in-Ok.ensures.value ∙ law)
    c.made.ensures
