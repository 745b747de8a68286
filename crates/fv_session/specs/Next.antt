-- The next request of a reader, and what shows it.
use Rattle.std.specs.Prelude.{◌≡◌, ℕ, ◌+◌, ◌≤◌, ◌==◌, ◌&&◌, ◌||◌, Bool, false, List, [], ◌∷◌, ◌++◌, length, take, drop, min, is_some, Result, Ok, Err, if◌then◌else◌, nat_lt}
use Rattle.std.specs.List.{before_first, after_first, position}
use Rattle.fv_session.specs.declared.look.Look.{Look}
use Rattle.fv_session.specs.declared.look.Look.TheVariants.{Line, Fault, Unknown}
use Rattle.fv_session.specs.declared.request.Request.{Request}
use Rattle.fv_session.specs.declared.request.Request.TheVariants.{End}
use Rattle.fv_session.specs.declared.request.SessionFault.{SessionFault}
use Rattle.fv_session.specs.declared.request.SessionFault.TheVariants.{Read, LineTooLong, TooManyLines}
use Rattle.fv_session.specs.Requests.{is_newline, request_of, Asked, refused, then_ask, requests_after, lines}

-- what contracts see of a reader: the bytes that it took and hasn't used, the number of lines that it gave, and whether it
-- has failed
pub record ReaderState : Type 0 where
  pub held : List ℕ
  pub count : ℕ
  pub failed : Bool

-- the bytes that are left: those that were read, and those from the source's place on
abbrev pub left_of : List ℕ → List ℕ → ℕ → List ℕ
left_of held told place = held ++ drop place told

abbrev pub first_line : List ℕ → List ℕ
first_line left = before_first is_newline left

-- what is left after the first line
abbrev pub after_line : List ℕ → List ℕ
after_line left = after_first is_newline left

-- the first request of what is left after so many lines, or the fault
unfoldable pub next_of : ℕ → List ℕ → Result Request SessionFault
next_of count [] = Ok End
next_of count (byte ∷ bytes) =
    if count == 1000000 then Err TooManyLines
    else if nat_lt 4096 (length (first_line (byte ∷ bytes))) then Err LineTooLong
    else Ok (request_of (first_line (byte ∷ bytes)))

abbrev pub count_after : ℕ → Request → ℕ
count_after count End = count
count_after count request = count + 1

-- a request or a fault, and what is asked after it
abbrev pub asked_by : Result Request SessionFault → Asked → Asked
asked_by (Ok request) rest = then_ask request rest
asked_by (Err fault) rest = refused fault

-- the requests of bytes are the first of them, and those of what is left
abbrev pub ComeInTurn : Type 0
ComeInTurn = (count : ℕ) (left : List ℕ)
    → requests_after count (lines left) ≡ asked_by (next_of count left) (requests_after (count + 1) (lines (after_line left)))

-- ---- what shows the next request

-- bytes show what is next, whatever comes after them: a whole line, or a fault
abbrev pub shows_next : ℕ → List ℕ → Bool
shows_next count bytes = nat_lt 0 (length bytes)
    && (count == 1000000 || nat_lt 4096 (length bytes) || is_some (position is_newline (take 4097 bytes)))

abbrev pub Shows : ℕ → List ℕ → Look → Type 0
Shows count bytes (Line request size) = (size ≤ length bytes) × (count ≡ 1000000 → ⊥) × (request ≡ End → ⊥)
    × ((more : List ℕ) → (next_of count (bytes ++ more) ≡ Ok request) × (after_line (bytes ++ more) ≡ drop size bytes ++ more))
Shows count bytes (Fault fault) = (fault ≡ Read → ⊥) × ((more : List ℕ) → next_of count (bytes ++ more) ≡ Err fault)
Shows count bytes Unknown = (length bytes ≤ 4096) × (shows_next count bytes ≡ false)

-- what the last bytes ask for, which show no whole line, after `count` lines that are fewer than 1,000,000
abbrev pub Last : List ℕ → Request → Type 0
Last bytes request = (count : ℕ) → length bytes ≤ 4096 → shows_next count bytes ≡ false
    → (next_of count bytes ≡ Ok request) × (after_line bytes ≡ []) × (count_after count request ≡ count + min 1 (length bytes))
    × (count ≤ 1000000 → count + min 1 (length bytes) ≤ 1000000)
