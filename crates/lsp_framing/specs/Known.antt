-- What a reader's state says of the bytes that stand.
use Rattle.std.specs.Prelude.{◌≡◌, ℕ, ◌<◌, ◌≤◌, List, ◌++◌, length, take, drop, Option, Some, None, IfSome}
use Rattle.lsp_framing.specs.declared.FrameKind.{FrameKind}
use Rattle.lsp_framing.specs.declared.FrameKind.TheVariants.{NoLength, HeaderLong}
use Rattle.lsp_framing.specs.declared.header.State.{State}
use Rattle.lsp_framing.specs.declared.header.State.TheVariants.{Header, Content, Faulty}
use Rattle.lsp_framing.specs.Lines as spelled
use Rattle.lsp_framing.specs.Frames as found
use Rattle.lsp_framing.specs.Lines.{header, header_from, longest_header, longest_content}
use Rattle.lsp_framing.specs.Scanned.{lines_met, lines_from}
use Rattle.lsp_framing.specs.Frames.{front}

-- However it goes on behind these bytes, the line that stands last begins at `line`, and those before it state `stated`.
pub record Reads (read : List ℕ) (line : ℕ) (stated : Option ℕ) : Type 0 where
  pub within : line ≤ length read
  pub most : IfSome stated (λ n. n ≤ longest_content)
  pub goes_on : (more : List ℕ) → header_from None 0 (lines_met (read ++ more)) ≡ header_from stated line (lines_from (drop line read) more)

-- However it goes on behind the first `size` of these bytes, they are a header part.
pub record Holds (read : List ℕ) (size len : ℕ) : Type 0 where
  pub within : size ≤ length read
  pub some : 0 < size
  pub most : len ≤ longest_content
  pub goes_on : (more : List ℕ) → header_from None 0 (lines_met (take size read ++ more)) ≡ spelled.Ended size len

-- However it goes on behind these bytes, the header part has this fault.
pub record Fails (read : List ℕ) (at : ℕ) (kind : FrameKind) : Type 0 where
  pub within : at ≤ length read
  pub goes_on : (more : List ℕ) → header_from None 0 (lines_met (read ++ more)) ≡ spelled.Fault at kind

-- what was found in a window of the header part, of which all bytes were read
abbrev pub FoundIn : List ℕ → State → Type 0
FoundIn window (Header line scanned stated) = (scanned ≡ length window) × Reads window line stated
FoundIn window (Content size len) = Holds window size len
FoundIn window (Faulty at kind) = Fails window at kind

pub record KnowsHeader (line scanned : ℕ) (stated : Option ℕ) (bytes : List ℕ) : Type 0 where
  pub within : scanned ≤ length bytes
  pub short : scanned < longest_header
  pub reads : Reads (take scanned bytes) line stated

pub record KnowsContent (size len : ℕ) (bytes : List ℕ) : Type 0 where
  pub within : size ≤ length bytes
  pub short : size ≤ longest_header
  pub some : 0 < size
  pub most : len ≤ longest_content
  pub goes_on : (more : List ℕ) → header (take size bytes ++ more) ≡ spelled.Ended size len

pub record KnowsFault (at : ℕ) (kind : FrameKind) (bytes : List ℕ) : Type 0 where
  pub within : at ≤ length bytes
  pub goes_on : (more : List ℕ) → front (bytes ++ more) ≡ found.Faulty at kind

-- what a state says of the bytes that stand, however they go on
abbrev pub Known : State → List ℕ → Type 0
Known (Header line scanned stated) bytes = KnowsHeader line scanned stated bytes
Known (Content size len) bytes = KnowsContent size len bytes
Known (Faulty at kind) bytes = KnowsFault at kind bytes

-- all bytes that stand were read, as far as it takes
abbrev pub IsSettled : State → List ℕ → Type 0
IsSettled (Header line scanned stated) bytes = scanned ≡ length bytes
IsSettled (Content size len) bytes = Unit {0}
IsSettled (Faulty at kind) bytes = Unit {0}

-- what the empty line gives, behind `size` bytes
abbrev pub end_of : Option ℕ → ℕ → State
end_of (Some len) size = Content size len
end_of None size = Faulty size NoLength

-- where a whole window holds no end of the header part and no fault, the header part is too long
abbrev pub or_long : State → State
or_long (Header line scanned stated) = Faulty 0 HeaderLong
or_long (Content size len) = Content size len
or_long (Faulty at kind) = Faulty at kind
