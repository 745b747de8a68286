-- Lines that are put one after the other.
use Rattle.std.proofs.Common.{◌≡◌, ◌∙◌, ℕ, zero, suc, ◌+◌, ◌-◌, ◌<◌, ◌≤◌, List, [], ◌++◌, refl, sym, ap, ap₂, add-zero, zero-add, arith}
use Rattle.std.specs.List.{flat_map, range_with_len}
use Rattle.std.proofs.lemmas.List.{append_assoc, append-nil}
use Rattle.fv_io.specs.declared.sink.Sink.{Ghosts}
use Rattle.fv_io.specs.Sink.{Puts, PutsPrefix}
use Rattle.fv_io.specs.Told.{with_piece}
use Rattle.fv_io.proofs.CallerLemmas.{with_piece_twice, with_no_piece, gets_after, gets_more}
use Rattle.clip_graph.specs.Plan.{Application, application_at}
use Rattle.serve_machine.specs.Events.{WindowEvents}
use Rattle.serve_text.specs.Report.{node_line, report_line, counts_of, lines_between, PutsUpTo}
use Rattle.serve_text.specs.declared.counts.Counts.{Counts}

module _ {K : Type 0} (sink : Ghosts K) where
  -- nothing was put
  pub all_left : (old : K) (text : List ℕ) → PutsUpTo sink old old text text
  all_left old text = record { front = []; text_is = refl; put = sym (with_no_piece (sink.bytes old)) }

  module _ (old mid new : K) (text piece rest left : List ℕ) (is : left ≡ piece ++ rest) (before : PutsUpTo sink old mid text left) where
    whole_is : text ≡ (before.front ++ piece) ++ rest
    whole_is = before.text_is ∙ ap (λ (l : List ℕ). before.front ++ l) is ∙ sym (append_assoc before.front piece rest)

    -- one more piece was put
    pub less_left : Puts sink mid new piece → PutsUpTo sink old new text rest
    less_left put = record {
      front = before.front ++ piece;
      text_is = whole_is;
      put = put ∙ ap (λ told. with_piece told piece) before.put ∙ with_piece_twice (sink.bytes old) before.front piece;
    }

    -- one more piece was cut short
    pub cut_short : PutsPrefix sink mid new piece → PutsPrefix sink old new text
    cut_short cut =
        rw whole_is (gets_more (sink.bytes old) (sink.bytes new) (before.front ++ piece) rest (gets_after (sink.bytes old) (sink.bytes mid) (sink.bytes new) before.front piece before.put cut))

  -- nothing is left
  pub none_left : (old new : K) (text left : List ℕ) → left ≡ [] → PutsUpTo sink old new text left → Puts sink old new text
  none_left old new text left none before =
      let same : text ≡ before.front = before.text_is ∙ ap (λ (l : List ℕ). before.front ++ l) none ∙ append-nil before.front in
      rw same before.put

module _ (plan : List Application) (windows : List WindowEvents) where
  -- the lines of the first of some nodes, and those of the others
  apart : (first m n : ℕ) → flat_map (report_line plan windows) (range_with_len first (m + n))
      ≡ flat_map (report_line plan windows) (range_with_len first m) ++ flat_map (report_line plan windows) (range_with_len (first + m) n)
  apart first zero n = rw (zero-add, add-zero) refl
  apart first (suc m) n =
      let count : suc m + n ≡ suc (m + n) = omega arith in
      let start : first + 1 + m ≡ first + suc m = omega arith in
      let line = report_line plan windows in
      rw count
      (ap (λ (l : List ℕ). line first ++ l) (apart (first + 1) m n ∙ ap (λ i. flat_map line (range_with_len (first + 1) m) ++ flat_map line (range_with_len i n)) start)
      ∙ sym (append_assoc (line first) (flat_map line (range_with_len (first + 1) m)) (flat_map line (range_with_len (first + suc m) n))))

  pub lines_apart : (first mid end : ℕ) → first ≤ mid → mid ≤ end → lines_between plan windows first end ≡ lines_between plan windows first mid ++ lines_between plan windows mid end
  lines_apart first mid end one two =
      let line = report_line plan windows in
      let count : end - first ≡ (mid - first) + (end - mid) = omega arith in
      let start : first + (mid - first) ≡ mid = omega arith in
      ap (λ n. flat_map line (range_with_len first n)) count ∙ apart first (mid - first) (end - mid) ∙ ap (λ i. flat_map line (range_with_len first (mid - first)) ++ flat_map line (range_with_len i (end - mid))) start

  -- the line of the next node
  pub next_line : (i end : ℕ) → i < end → lines_between plan windows i end ≡ report_line plan windows i ++ lines_between plan windows (i + 1) end
  next_line i end lt =
      let count : end - i ≡ suc (end - (i + 1)) = omega arith in
      ap (λ n. flat_map (report_line plan windows) (range_with_len i n)) count

  pub no_line : (i end : ℕ) → end ≤ i → lines_between plan windows i end ≡ []
  no_line i end past = let count : end - i ≡ 0 = omega arith in ap (λ n. flat_map (report_line plan windows) (range_with_len i n)) count

  -- the line of a node by its counts is that of the report
  pub line_is : (first i : ℕ) (node : Application) (counts : Counts) (bytes : List ℕ) → first ≤ i → bytes ≡ node_line i node counts.made counts.hit counts.evicted counts.entered → node ≡ application_at plan i
      → counts ≡ counts_of windows (first + (i - first)) → bytes ≡ report_line plan windows i
  line_is first i node counts bytes after is there counted =
      let at : first + (i - first) ≡ i = omega arith in
      is ∙ ap₂ (λ (at : Application) (of : Counts). node_line i at of.made of.hit of.evicted of.entered) there (counted ∙ ap (counts_of windows) at)
