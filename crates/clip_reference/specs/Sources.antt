-- A book that has the frames of a clip's sources.
use Rattle.std.specs.Prelude.{List, [], slice_index_or}
use Rattle.fv_plane.specs.Picture.{Picture, IsClip}
use Rattle.clip_term.specs.Terms.{Act, source, ClipTerm, applied, ClipTerms, no_terms, and_term}

-- where the op is a source, its frames are as many as its info says, and pictures of its shape
abbrev pub HasSource : List (List Picture) → Act → Type 0
HasSource book (source name number info) = IsClip (record { info = info; pictures = slice_index_or book number [] })
HasSource book _ = Unit {0}

unfoldable mutual
  pub HasSources : List (List Picture) → ClipTerm → Type 0
  HasSources book (applied op inputs) = HasSource book op × HaveSources book inputs

  pub HaveSources : List (List Picture) → ClipTerms → Type 0
  HaveSources book no_terms = Unit {0}
  HaveSources book (and_term term rest) = HasSources book term × HaveSources book rest
