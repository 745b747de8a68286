-- The requests of a session, as lines of text.
use Rattle.std.specs.Prelude.{ℕ, ◌+◌, ◌==◌, ◌&&◌, Bool, List, [], ◌∷◌, length, drop, Option, Some, None, if◌then◌else◌, codes, nat_le, nat_lt, nat_eq}
use Rattle.std.specs.Char.{is_ascii_digit}
use Rattle.std.specs.List.{list_all, starts_with}
use Rattle.std.specs.Str.{bytes_eq}
use Rattle.std.specs.Str.Lines.{strip_carriage_return}
use Rattle.std.specs.Str.Parse.{digits_value}
use Rattle.fv_session.specs.declared.request.Request.{Request}
use Rattle.fv_session.specs.declared.request.Request.TheVariants.{Frame, Info, Quit, Bad, End}
use Rattle.fv_session.specs.declared.request.SessionFault.{SessionFault}
use Rattle.fv_session.specs.declared.request.SessionFault.TheVariants.{LineTooLong, TooManyLines}

-- ---- lines

abbrev pub is_newline : ℕ → Bool
is_newline byte = byte == 10

-- a byte is in front of the first line
abbrev pub with_byte : ℕ → List (List ℕ) → List (List ℕ)
with_byte byte [] = (byte ∷ []) ∷ []
with_byte byte (line ∷ lines) = (byte ∷ line) ∷ lines

-- a line ends at a newline or, where it isn't empty, at the end of the bytes
unfoldable pub lines : List ℕ → List (List ℕ)
lines [] = []
lines (byte ∷ bytes) = if is_newline byte then [] ∷ lines bytes else with_byte byte (lines bytes)

-- ---- what a line asks for

abbrev pub is_number : List ℕ → Bool
is_number digits = nat_lt 0 (length digits) && nat_le (length digits) 10 && list_all is_ascii_digit digits

abbrev pub in_bounds : ℕ → Option ℕ
in_bounds n = if nat_le n 4294967295 then Some n else None

-- the number that 1 to 10 decimal digits write
abbrev pub number : List ℕ → Option ℕ
number digits = if is_number digits then in_bounds (digits_value 10 digits) else None

abbrev pub frame_of : Option ℕ → Request
frame_of (Some n) = Frame n
frame_of None = Bad

abbrev pub frame_request : List ℕ → Request
frame_request text = if starts_with nat_eq text (codes "frame ") then frame_of (number (drop 6 text)) else Bad

abbrev pub request_in : List ℕ → Request
request_in text =
    if bytes_eq text (codes "info") then Info
    else if bytes_eq text (codes "quit") then Quit
    else frame_request text

-- a carriage return at the end of a line is dropped
unfoldable pub request_of : List ℕ → Request
request_of line = request_in (strip_carriage_return line)

-- ---- the requests of all lines

-- requests, and the fault that they end with, if there is one
pub record Asked : Type 0 where
  pub requests : List Request
  pub fault : Option SessionFault

abbrev pub nothing : Asked
nothing = record { requests = []; fault = None }

abbrev pub refused : SessionFault → Asked
refused fault = record { requests = []; fault = Some fault }

-- a request and then others: nothing is asked after `quit`
abbrev pub then_ask : Request → Asked → Asked
then_ask Quit rest = record { requests = Quit ∷ []; fault = None }
then_ask End rest = nothing
then_ask request rest = record { requests = request ∷ rest.requests; fault = rest.fault }

-- what lines ask for after `count` others: at most 1,000,000 lines of at most 4,096 bytes
abbrev pub requests_after : ℕ → List (List ℕ) → Asked
requests_after count [] = nothing
requests_after count (line ∷ lines) =
    if count == 1000000 then refused TooManyLines
    else if nat_lt 4096 (length line) then refused LineTooLong
    else then_ask (request_of line) (requests_after (count + 1) lines)

abbrev pub requests : List ℕ → Asked
requests bytes = requests_after 0 (lines bytes)
