-- The line of a head, found among the bytes, and what the head says.
use Rattle.std.specs.Prelude.{◌≡◌, ℕ, ◌+◌, ◌-◌, ◌<◌, ◌≤◌, List, length, take, drop, None}
use Rattle.std.specs.List.{position_or_len, slice_split}
use Rattle.fv_plane.specs.declared.format.Info.{Info}
use Rattle.y4m_stream.specs.Head.{parameter_fault}
use Rattle.y4m_stream.specs.Stream.{is_space, is_newline, parameters, head_fault, head_info}

-- the line ends here, and the head's parameters are in it after the magic word
pub record IsLine (bytes : List ℕ) (end : ℕ) : Type 0 where
  pub end_is : end ≡ position_or_len is_newline bytes
  pub long : 9 ≤ end
  pub short : end < 4096
  pub inside : end < length bytes
  pub parts : slice_split is_space (take (end - 9) (drop 9 bytes)) ≡ parameters bytes
  pub fault : head_fault bytes ≡ parameter_fault (parameters bytes)

-- the bytes begin with a head without a fault, which says this, and has this number of bytes with its newline
pub record IsHead (bytes : List ℕ) (info : Info) (len : ℕ) : Type 0 where
  pub sound : head_fault bytes ≡ None
  pub info_is : info ≡ head_info bytes 0
  pub len_is : len ≡ position_or_len is_newline bytes + 1
  pub short : len ≤ 4096
  pub inside : len ≤ length bytes
