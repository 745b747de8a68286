-- How a line is read: a word, and then numbers after one space each.
use Rattle.std.specs.Prelude.{ℕ, ◌-◌, ◌^◌, ◌==◌, nat_le, Bool, not, ◌&&◌, ◌||◌, List, [], ◌∷◌, length, take, drop, slice_index, codes, Option, Some, None, if◌then◌else◌}
use Rattle.std.specs.Option.{option_and_then}
use Rattle.std.specs.List.{prefix_len}
use Rattle.std.specs.Char.{is_ascii_digit}
use Rattle.std.specs.Str.{bytes_eq}
use Rattle.std.specs.Str.Parse.{digits_value}
use Rattle.fv_plane.specs.declared.key.Key.{Key}
use Rattle.serve_machine.specs.declared.event.Event.{Event}
use Rattle.serve_machine.specs.declared.event.Event.TheVariants.{Hit, Claim, Enter, Leave, Evict, Publish, Abandon, Take, Deliver, Fail}
use Rattle.serve_machine.specs.declared.event.WindowStop.{WindowStop}
use Rattle.serve_machine.specs.declared.event.WindowStop.TheVariants.{Read, Changed, Memory}
use Rattle.serve_machine.specs.Events.{frame_key}
use Rattle.run_text.specs.declared.line.Line.{Line}
use Rattle.run_text.specs.declared.line.Line.TheVariants.{Workers, Window, Did}

infixl 10 ◌>>=◌
abbrev pub ◌>>=◌ : {A B : Type 0} → Option A → (A → Option B) → Option B
o >>= f = option_and_then f o

-- where the digits end that a text begins with
abbrev pub digits_end : List ℕ → ℕ
digits_end text = prefix_len is_ascii_digit text

-- digits, and no 0 before others
abbrev pub is_numeral : List ℕ → Bool
is_numeral digits = not (length digits == 0) && (not (slice_index digits 0 == 48) || (length digits == 1))

unfoldable pub number_in : ℕ → List ℕ → Option ℕ
number_in most digits =
    if is_numeral digits && nat_le (digits_value 10 digits) most then Some (digits_value 10 digits) else None

-- the number that a text begins with, up to this one, and what follows it
unfoldable pub number_at : ℕ → List ℕ → Option (ℕ × List ℕ)
number_at most text = do
  n ← number_in most (take (digits_end text) text)
  Some (n, drop (digits_end text) text)

-- a number after a space
unfoldable pub number_next : ℕ → List ℕ → Option (ℕ × List ℕ)
number_next most [] = None
number_next most (byte ∷ text) = if byte == 32 then number_at most text else None

abbrev pub small : ℕ
small = 2 ^ 32 - 1

abbrev pub large : ℕ
large = 2 ^ 64 - 1

-- nothing is left
abbrev pub ended : {A : Type 0} → A → List ℕ → Option A
ended x text = if length text == 0 then Some x else None

unfoldable pub one_number : List ℕ → Option ℕ
one_number text = do
  a ← number_next small text
  ended a.0 a.1

unfoldable pub two_numbers : List ℕ → Option (ℕ × ℕ)
two_numbers text = do
  a ← number_next small text
  b ← number_next small a.1
  ended (a.0, b.0) b.1

unfoldable pub three_numbers : List ℕ → Option (ℕ × ℕ × ℕ)
three_numbers text = do
  a ← number_next small text
  b ← number_next small a.1
  c ← number_next small b.1
  ended (a.0, b.0, c.0) c.1

-- a node, a frame, and two places in a file
unfoldable pub change_of : List ℕ → Option WindowStop
change_of text = do
  i ← number_next small text
  n ← number_next small i.1
  want ← number_next large n.1
  got ← number_next large want.1
  ended (Changed i.0 n.0 want.0 got.0) got.1

-- where the first word ends
abbrev pub word_end : List ℕ → ℕ
word_end text = prefix_len (λ byte. not (byte == 32)) text

abbrev pub word : List ℕ → List ℕ
word text = take (word_end text) text

abbrev pub after_word : List ℕ → List ℕ
after_word text = drop (word_end text) text

-- a worker, and a frame
unfoldable pub key_of : List ℕ → Option (ℕ × Key)
key_of text = do
  p ← three_numbers text
  Some (p.0, frame_key p.1 p.2)

-- why a worker failed, by the word for it
unfoldable pub stop_named : List ℕ → List ℕ → Option WindowStop
stop_named name text =
    if bytes_eq name (codes "memory") then ended Memory text
    else if bytes_eq name (codes "read") then one_number text >>= (λ i. Some (Read i))
    else if bytes_eq name (codes "changed") then change_of text
    else None

unfoldable pub stop_next : List ℕ → Option WindowStop
stop_next [] = None
stop_next (byte ∷ text) = if byte == 32 then stop_named (word text) (after_word text) else None

unfoldable pub failure_of : List ℕ → Option Event
failure_of text = do
  w ← number_next small text
  why ← stop_next w.1
  Some (Fail w.0 why)

-- the line of a first word, by those that come most often first
unfoldable pub line_named : List ℕ → List ℕ → Option Line
line_named name text =
    if bytes_eq name (codes "hit") then key_of text >>= (λ p. Some (Did (Hit p.0 p.1)))
    else if bytes_eq name (codes "claim") then key_of text >>= (λ p. Some (Did (Claim p.0 p.1)))
    else if bytes_eq name (codes "publish") then key_of text >>= (λ p. Some (Did (Publish p.0 p.1)))
    else if bytes_eq name (codes "evict") then key_of text >>= (λ p. Some (Did (Evict p.0 p.1)))
    else if bytes_eq name (codes "abandon") then key_of text >>= (λ p. Some (Did (Abandon p.0 p.1)))
    else if bytes_eq name (codes "enter") then three_numbers text >>= (λ p. Some (Did (Enter p.0 p.1 p.2)))
    else if bytes_eq name (codes "leave") then three_numbers text >>= (λ p. Some (Did (Leave p.0 p.1 p.2)))
    else if bytes_eq name (codes "take") then two_numbers text >>= (λ p. Some (Did (Take p.0 p.1)))
    else if bytes_eq name (codes "deliver") then two_numbers text >>= (λ p. Some (Did (Deliver p.0 p.1)))
    else if bytes_eq name (codes "window") then two_numbers text >>= (λ p. Some (Window p.0 p.1))
    else if bytes_eq name (codes "workers") then one_number text >>= (λ n. Some (Workers n))
    else if bytes_eq name (codes "fail") then failure_of text >>= (λ event. Some (Did event))
    else None

-- the line that this is the text of
unfoldable pub line_of : List ℕ → Option Line
line_of text = line_named (word text) (after_word text)
