-- Lines that are gathered and put one after the other.
use Rattle.std.proofs.Common.{◌≡◌, ℕ, ◌+◌, ◌<◌, List, [], ◌∷◌, ◌++◌, length, take, drop, get_or, map, Result, Ok, Err, OnOk, OnErr, refl, sym, ap, ◌∙◌, subst}
use Rattle.std.specs.Prelude.{codes}
use Rattle.std.specs.Fmt.{decimal}
use Rattle.std.specs.List.{flat_map, AllByRecursion}
use Rattle.std.proofs.lemmas.List.{append-nil, append_assoc, map-append, take_more, take-append-drop}
use Rattle.fv_io.specs.declared.sink.Sink.{Ghosts}
use Rattle.fv_io.specs.Sink.{Puts, PutsPrefix}
use Rattle.fv_io.specs.Told.{with_piece}
use Rattle.fv_io.proofs.CallerLemmas.{with_piece_twice, with_no_piece, gets_after, gets_more}
use Rattle.serve_machine.specs.declared.event.Event.{Event}
use Rattle.serve_machine.specs.declared.windows.Windowed.{Windowed}
use Rattle.serve_machine.specs.Events.{WindowEvents, window_of}
use Rattle.run_text.specs.declared.line.Line.{Line}
use Rattle.run_text.specs.declared.line.Line.TheVariants.{Did}
use Rattle.run_text.specs.Lines.{LineFits, EventFits, numbers, line_text, event_text, lines_text, window_lines}
use Rattle.run_text.specs.Gathered.{PutsAllBut}

-- LINES

pub one_line : (name : List ℕ) (a : ℕ) → name ++ (codes " " ++ (decimal a ++ (codes "\n" ++ []))) ≡ (name ++ numbers (a ∷ [])) ++ codes "\n"
one_line name a = simp append_assoc

pub two_line : (name : List ℕ) (a b : ℕ) → name ++ (codes " " ++ (decimal a ++ (codes " " ++ (decimal b ++ (codes "\n" ++ []))))) ≡ (name ++ numbers (a ∷ b ∷ [])) ++ codes "\n"
two_line name a b = simp append_assoc

pub three_line : (name : List ℕ) (a b c : ℕ) → name ++ (codes " " ++ (decimal a ++ (codes " " ++ (decimal b ++ (codes " " ++ (decimal c ++ (codes "\n" ++ []))))))) ≡ (name ++ numbers (a ∷ b ∷ c ∷ [])) ++ codes "\n"
three_line name a b c = simp append_assoc

pub memory_line : (w : ℕ) → codes "fail " ++ (decimal w ++ (codes " memory\n" ++ [])) ≡ (codes "fail" ++ (numbers (w ∷ []) ++ codes " memory")) ++ codes "\n"
memory_line w = simp append_assoc

pub read_line : (w i : ℕ) → codes "fail " ++ (decimal w ++ (codes " read " ++ (decimal i ++ (codes "\n" ++ [])))) ≡ (codes "fail" ++ (numbers (w ∷ []) ++ (codes " read" ++ numbers (i ∷ [])))) ++ codes "\n"
read_line w i = simp append_assoc

pub changed_line : (w i n want got : ℕ) → codes "fail " ++ (decimal w ++ (codes " changed " ++ (decimal i ++ (codes " " ++ (decimal n ++ (codes " " ++ (decimal want ++ (codes " " ++ (decimal got ++ (codes "\n" ++ []))))))))))
    ≡ (codes "fail" ++ (numbers (w ∷ []) ++ (codes " changed" ++ numbers (i ∷ n ∷ want ∷ got ∷ [])))) ++ codes "\n"
changed_line w i n want got = simp append_assoc

-- PUTS

module _ {K : Type 0} (sink : Ghosts K) where
  -- nothing was put yet
  pub none_sent : (old : K) (text : List ℕ) → PutsAllBut sink old old text text
  none_sent old text = record { sent = []; put = sym (with_no_piece (sink.bytes old)); text_is = refl }

  -- first this, then that
  pub further : (old mid new : K) (text piece waiting left : List ℕ) → PutsAllBut sink old mid text waiting → PutsAllBut sink mid new (waiting ++ piece) left → PutsAllBut sink old new (text ++ piece) left
  further old mid new text piece waiting left a b = record {
    sent = a.sent ++ b.sent;
    put = b.put ∙ ap (λ told. with_piece told b.sent) a.put ∙ with_piece_twice (sink.bytes old) a.sent b.sent;
    text_is = ap (λ (l : List ℕ). l ++ piece) a.text_is ∙ append_assoc a.sent waiting piece ∙ ap (λ (l : List ℕ). a.sent ++ l) b.text_is ∙ sym (append_assoc a.sent b.sent left);
  }

  -- and then it was cut short
  pub cut_after : (old mid new : K) (text more waiting rest : List ℕ) → PutsAllBut sink old mid text waiting → PutsPrefix sink mid new (waiting ++ more) → PutsPrefix sink old new (text ++ (more ++ rest))
  cut_after old mid new text more waiting rest a cut =
      let all : (a.sent ++ (waiting ++ more)) ++ rest ≡ text ++ (more ++ rest)
      = ap (λ (l : List ℕ). l ++ rest) (sym (append_assoc a.sent waiting more) ∙ ap (λ (l : List ℕ). l ++ more) (sym a.text_is)) ∙ append_assoc text more rest in
      rw (← all) (gets_more (sink.bytes old) (sink.bytes new) (a.sent ++ (waiting ++ more)) rest (gets_after (sink.bytes old) (sink.bytes mid) (sink.bytes new) a.sent (waiting ++ more) a.put cut))

  -- what waited was put
  pub all_sent : (old mid new : K) (text waiting : List ℕ) → PutsAllBut sink old mid text waiting → Puts sink mid new waiting → Puts sink old new text
  all_sent old mid new text waiting a put = put ∙ ap (λ told. with_piece told waiting) a.put ∙ with_piece_twice (sink.bytes old) a.sent waiting ∙ ap (with_piece (sink.bytes old)) (sym a.text_is)

-- THE LINES OF LISTS

lines_text-append : (ls ms : List Line) → lines_text (ls ++ ms) ≡ lines_text ls ++ lines_text ms
lines_text-append [] ms = refl
lines_text-append (l ∷ ls) ms = ap (λ (t : List ℕ). (line_text l ++ codes "\n") ++ t) (lines_text-append ls ms) ∙ sym (append_assoc (line_text l ++ codes "\n") (lines_text ls) (lines_text ms))

flat-append : (vs ws : List WindowEvents) → flat_map window_lines (vs ++ ws) ≡ flat_map window_lines vs ++ flat_map window_lines ws
flat-append [] ws = refl
flat-append (v ∷ vs) ws = ap (λ (l : List Line). window_lines v ++ l) (flat-append vs ws) ∙ sym (append_assoc (window_lines v) (flat_map window_lines vs) (flat_map window_lines ws))

-- one more event
events_more : (es : List Event) (i : ℕ) (d : Event) → i < length es → lines_text (map Did (take (i + 1) es)) ≡ lines_text (map Did (take i es)) ++ (event_text (get_or es i d) ++ codes "\n")
events_more es i d less =
    ap (λ (l : List Event). lines_text (map Did l)) (take_more es i d less)
    ∙ ap lines_text (map-append Did (take i es) (get_or es i d ∷ []))
    ∙ lines_text-append (map Did (take i es)) (Did (get_or es i d) ∷ []) ∙ ap (λ (t : List ℕ). lines_text (map Did (take i es)) ++ t) (append-nil (event_text (get_or es i d) ++ codes "\n"))

-- and those after the first
events_rest : (es : List Event) (i : ℕ) → lines_text (map Did es) ≡ lines_text (map Did (take i es)) ++ lines_text (map Did (drop i es))
events_rest es i =
    ap (λ (l : List Event). lines_text (map Did l)) (sym (take-append-drop i es)) ∙ ap lines_text (map-append Did (take i es) (drop i es)) ∙ lines_text-append (map Did (take i es)) (map Did (drop i es))

abbrev pub windows_text : List Windowed → List ℕ
windows_text ws = lines_text (flat_map window_lines (map window_of ws))

windows-append : (vs ws : List Windowed) → windows_text (vs ++ ws) ≡ windows_text vs ++ windows_text ws
windows-append vs ws =
    ap (λ (l : List WindowEvents). lines_text (flat_map window_lines l)) (map-append window_of vs ws) ∙ ap lines_text (flat-append (map window_of vs) (map window_of ws))
    ∙ lines_text-append (flat_map window_lines (map window_of vs)) (flat_map window_lines (map window_of ws))

-- one more window
pub windows_more : (ws : List Windowed) (i : ℕ) (w : Windowed) → i < length ws → w ≡ get_or ws i w → windows_text (take (i + 1) ws) ≡ windows_text (take i ws) ++ lines_text (window_lines (window_of w))
windows_more ws i w less is =
    ap windows_text (take_more ws i w less ∙ ap (λ (x : Windowed). take i ws ++ x ∷ []) (sym is)) ∙ windows-append (take i ws) (w ∷ [])
    ∙ ap (λ (l : List Line). windows_text (take i ws) ++ lines_text l) (append-nil (window_lines (window_of w)))

pub windows_rest : (ws : List Windowed) (i : ℕ) (w : Windowed) → i < length ws → w ≡ get_or ws i w → windows_text ws ≡ windows_text (take i ws) ++ (lines_text (window_lines (window_of w)) ++ windows_text (drop (i + 1) ws))
windows_rest ws i w less is =
    ap windows_text (sym (take-append-drop (i + 1) ws)) ∙ windows-append (take (i + 1) ws) (drop (i + 1) ws)
    ∙ ap (λ (t : List ℕ). t ++ windows_text (drop (i + 1) ws)) (windows_more ws i w less is)
    ∙ append_assoc (windows_text (take i ws)) (lines_text (window_lines (window_of w))) (windows_text (drop (i + 1) ws))

pub on_ok : {T E P Q : Type 0} (r : Result T E) → OnOk r P → (P → Q) → OnOk r Q
on_ok (Ok x) p f = f p
on_ok (Err e) p f = tt

pub on_err : {T E P Q : Type 0} (r : Result T E) → OnErr r P → (P → Q) → OnErr r Q
on_err (Ok x) p f = tt
on_err (Err e) p f = f p

module _ {K : Type 0} (sink : Ghosts K) where
  -- what was gathered was cut short
  pub cut_here : (old mid new : K) (text waiting rest : List ℕ) → PutsAllBut sink old mid text waiting → PutsPrefix sink mid new waiting → PutsPrefix sink old new (text ++ rest)
  cut_here old mid new text waiting rest a cut =
      rw a.text_is (gets_more (sink.bytes old) (sink.bytes new) (a.sent ++ waiting) rest (gets_after (sink.bytes old) (sink.bytes mid) (sink.bytes new) a.sent waiting a.put cut))

  pub cut_whole : (old mid new : K) (text waiting : List ℕ) → PutsAllBut sink old mid text waiting → PutsPrefix sink mid new waiting → PutsPrefix sink old new text
  cut_whole old mid new text waiting a cut = subst (PutsPrefix sink old new) (append-nil text) (cut_here old mid new text waiting [] a cut)

  pub cut_first : (old new : K) (waiting rest : List ℕ) → PutsPrefix sink old new waiting → PutsPrefix sink old new (waiting ++ rest)
  cut_first old new waiting rest cut = gets_more (sink.bytes old) (sink.bytes new) waiting rest cut

  module _ (old mid new : K) (buf waiting : List ℕ) where
    -- one more event was gathered
    pub event_put : (es : List Event) (i : ℕ) (d : Event) (line left : List ℕ) → i < length es → line ≡ event_text (get_or es i d) ++ codes "\n"
        → PutsAllBut sink old mid (buf ++ lines_text (map Did (take i es))) waiting → PutsAllBut sink mid new (waiting ++ line) left → PutsAllBut sink old new (buf ++ lines_text (map Did (take (i + 1) es))) left
    event_put es i d line left less is a b =
        let all : (buf ++ lines_text (map Did (take i es))) ++ line ≡ buf ++ lines_text (map Did (take (i + 1) es))
        = append_assoc buf (lines_text (map Did (take i es))) line ∙ ap (λ (t : List ℕ). buf ++ t) (ap (λ (l : List ℕ). lines_text (map Did (take i es)) ++ l) is ∙ sym (events_more es i d less)) in
        subst (λ t. PutsAllBut sink old new t left) all (further sink old mid new (buf ++ lines_text (map Did (take i es))) line waiting left a b)

    pub event_cut : (es : List Event) (i : ℕ) → PutsAllBut sink old mid (buf ++ lines_text (map Did (take i es))) waiting → PutsPrefix sink mid new waiting → PutsPrefix sink old new (buf ++ lines_text (map Did es))
    event_cut es i a cut =
        let all : (buf ++ lines_text (map Did (take i es))) ++ lines_text (map Did (drop i es)) ≡ buf ++ lines_text (map Did es)
        = append_assoc buf (lines_text (map Did (take i es))) (lines_text (map Did (drop i es))) ∙ ap (λ (t : List ℕ). buf ++ t) (sym (events_rest es i)) in
        subst (PutsPrefix sink old new) all (cut_here old mid new (buf ++ lines_text (map Did (take i es))) waiting (lines_text (map Did (drop i es))) a cut)

    -- one more window
    pub window_put : (ws : List Windowed) (i : ℕ) (w : Windowed) (left : List ℕ) → i < length ws → w ≡ get_or ws i w
        → PutsAllBut sink old mid (buf ++ windows_text (take i ws)) waiting → PutsAllBut sink mid new (waiting ++ lines_text (window_lines (window_of w))) left → PutsAllBut sink old new (buf ++ windows_text (take (i + 1) ws)) left
    window_put ws i w left less is a b =
        let all : (buf ++ windows_text (take i ws)) ++ lines_text (window_lines (window_of w)) ≡ buf ++ windows_text (take (i + 1) ws)
        = append_assoc buf (windows_text (take i ws)) (lines_text (window_lines (window_of w))) ∙ ap (λ (t : List ℕ). buf ++ t) (sym (windows_more ws i w less is)) in
        subst (λ t. PutsAllBut sink old new t left) all (further sink old mid new (buf ++ windows_text (take i ws)) (lines_text (window_lines (window_of w))) waiting left a b)

    pub window_cut : (ws : List Windowed) (i : ℕ) (w : Windowed) → i < length ws → w ≡ get_or ws i w
        → PutsAllBut sink old mid (buf ++ windows_text (take i ws)) waiting → PutsPrefix sink mid new (waiting ++ lines_text (window_lines (window_of w))) → PutsPrefix sink old new (buf ++ windows_text ws)
    window_cut ws i w less is a cut =
        let all : (buf ++ windows_text (take i ws)) ++ (lines_text (window_lines (window_of w)) ++ windows_text (drop (i + 1) ws)) ≡ buf ++ windows_text ws
        = append_assoc buf (windows_text (take i ws)) (lines_text (window_lines (window_of w)) ++ windows_text (drop (i + 1) ws)) ∙ ap (λ (t : List ℕ). buf ++ t) (sym (windows_rest ws i w less is)) in
        subst (PutsPrefix sink old new) all (cut_after sink old mid new (buf ++ windows_text (take i ws)) (lines_text (window_lines (window_of w))) waiting (windows_text (drop (i + 1) ws)) a cut)

    -- the line of a window, and then its events
    pub events_put : (line events left : List ℕ) (w : Line) → line ≡ line_text w ++ codes "\n" → PutsAllBut sink old mid (buf ++ line) waiting → PutsAllBut sink mid new (waiting ++ events) left
        → PutsAllBut sink old new (buf ++ ((line_text w ++ codes "\n") ++ events)) left
    events_put line events left w is a b =
        let all : (buf ++ line) ++ events ≡ buf ++ ((line_text w ++ codes "\n") ++ events) = append_assoc buf line events ∙ ap (λ (l : List ℕ). buf ++ (l ++ events)) is in
        subst (λ t. PutsAllBut sink old new t left) all (further sink old mid new (buf ++ line) events waiting left a b)

    pub events_cut : (line events : List ℕ) (w : Line) → line ≡ line_text w ++ codes "\n" → PutsAllBut sink old mid (buf ++ line) waiting → PutsPrefix sink mid new (waiting ++ events)
        → PutsPrefix sink old new (buf ++ ((line_text w ++ codes "\n") ++ events))
    events_cut line events w is a cut =
        let all : (buf ++ line) ++ (events ++ []) ≡ buf ++ ((line_text w ++ codes "\n") ++ events) = ap (λ (l : List ℕ). (buf ++ line) ++ l) (append-nil events) ∙ append_assoc buf line events ∙ ap (λ (l : List ℕ). buf ++ (l ++ events)) is in
        subst (PutsPrefix sink old new) all (cut_after sink old mid new (buf ++ line) events waiting [] a cut)

-- NUMBERS FIT

abbrev AllFit : List Line → Type 0
AllFit lines = AllByRecursion LineFits lines

fits-append : (ls ms : List Line) → AllFit ls → AllFit ms → AllFit (ls ++ ms)
fits-append [] ms first second = second
fits-append (l ∷ ls) ms first second = (first.0, fits-append ls ms first.1 second)

-- one more event fits
pub events_fit : (es : List Event) (i : ℕ) (d : Event) → i < length es → AllFit (map Did (take i es)) → EventFits (get_or es i d) → AllFit (map Did (take (i + 1) es))
events_fit es i d less before fits =
    subst AllFit (sym (ap (λ (l : List Event). map Did l) (take_more es i d less) ∙ map-append Did (take i es) (get_or es i d ∷ [])))
    (fits-append (map Did (take i es)) (Did (get_or es i d) ∷ []) before (fits, tt))

-- one more window fits
pub windows_fit : (ws : List Windowed) (i : ℕ) (w : Windowed) → i < length ws → w ≡ get_or ws i w → AllFit (flat_map window_lines (map window_of (take i ws))) → AllFit (window_lines (window_of w))
    → AllFit (flat_map window_lines (map window_of (take (i + 1) ws)))
windows_fit ws i w less is before fits =
    subst AllFit
    (sym (ap (λ (l : List Windowed). flat_map window_lines (map window_of l)) (take_more ws i w less ∙ ap (λ (x : Windowed). take i ws ++ x ∷ []) (sym is))
    ∙ ap (flat_map window_lines) (map-append window_of (take i ws) (w ∷ [])) ∙ flat-append (map window_of (take i ws)) (window_of w ∷ [])
    ∙ ap (λ (l : List Line). flat_map window_lines (map window_of (take i ws)) ++ l) (append-nil (window_lines (window_of w)))))
    (fits-append (flat_map window_lines (map window_of (take i ws))) (window_lines (window_of w)) before fits)
