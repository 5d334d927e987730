-- The frames of an input (LSP 3.17, "Base Protocol"): a header part, and a content of as many bytes as it states.
use Rattle.std.specs.Prelude.{ℕ, zero, suc, ◌+◌, ◌-◌, if◌then◌else◌, nat_le, List, [], ◌∷◌, ◌++◌, length, take, drop}
use Rattle.lsp_framing.specs.declared.FrameKind.{FrameKind}
use Rattle.lsp_framing.specs.declared.FrameKind.TheVariants.{HeaderLong}
use Rattle.lsp_framing.specs.Lines.{Header, Ended, Fault, Unended, header, longest_header}

-- What an input begins with: a whole frame, with the length of its header part and its content; a fault at this place
-- of the kind; or what may yet become either.
pub data Front : Type 0 where
  Whole : ℕ → List ℕ → Front
  Faulty : ℕ → FrameKind → Front
  Unfinished : Front

abbrev pub front_by : Header → List ℕ → Front
front_by (Ended size len) bytes = if nat_le (size + len) (length bytes) then Whole size (take len (drop size bytes)) else Unfinished
front_by (Fault place kind) bytes = Faulty place kind
front_by Unended bytes = if nat_le longest_header (length bytes) then Faulty 0 HeaderLong else Unfinished

unfoldable pub front : List ℕ → Front
front bytes = front_by (header bytes) bytes

-- what stands behind the whole frames of an input; a place counts bytes from the start of the input
pub data Rest : Type 0 where
  Empty : Rest
  Open : Rest
  Bad : ℕ → FrameKind → Rest

-- the contents of the whole frames from the front of an input, and what stands behind them
pub record Parted : Type 0 where
  pub contents : List (List ℕ)
  pub rest : Rest

abbrev pub parted : List (List ℕ) → Rest → Parted
parted contents rest = record { contents = contents; rest = rest }

-- these contents, and then the others
abbrev pub after : List (List ℕ) → Parted → Parted
after contents others = parted (contents ++ others.contents) others.rest

-- the same, `by` bytes further on
abbrev pub shifted_rest : ℕ → Rest → Rest
shifted_rest by Empty = Empty
shifted_rest by Open = Open
shifted_rest by (Bad place kind) = Bad (by + place) kind

abbrev pub shifted : ℕ → Parted → Parted
shifted by others = parted others.contents (shifted_rest by others.rest)

abbrev pub frames_by : Front → ℕ → (ℕ → Parted) → Parted
frames_by (Whole size content) place behind = after (content ∷ []) (behind (size + length content - 1))
frames_by (Faulty at kind) place behind = parted [] (Bad (place + at) kind)
frames_by Unfinished place behind = parted [] Open

-- The frames of the bytes that stand at `place` of an input, of which the first `skip` belong to a frame before.
abbrev pub frames_from : ℕ → ℕ → List ℕ → Parted
frames_from place skip [] = parted [] Empty
frames_from place (suc skip) (b ∷ rest) = frames_from (place + 1) skip rest
frames_from place zero (b ∷ rest) = frames_by (front (b ∷ rest)) place (λ skip. frames_from (place + 1) skip rest)

unfoldable pub frames : List ℕ → Parted
frames bytes = frames_from 0 0 bytes
