-- What a reader of frames holds of an input, and how it follows from what was fed and given.
use Rattle.std.specs.Prelude.{◌≡◌, ℕ, List, ◌++◌, length, Result, Ok, Err, Option, Some, None, Vec}
use Rattle.std.specs.declared.alloc.Global.{Global}
use Rattle.lsp_framing.specs.declared.FrameKind.{FrameKind}
use Rattle.lsp_framing.specs.declared.FrameError.{FrameError}
use Rattle.lsp_framing.specs.declared.FrameError.TheVariants.{Fault, NoMemory}
use Rattle.lsp_framing.specs.Frames.{frames, Rest, Empty, Open, Bad}

-- the bytes that were fed and belong to no frame that was given, and how many bytes of the input stand before them
pub record Standing : Type 0 where
  pub place : ℕ
  pub bytes : List ℕ

-- The bytes `fed` were fed in all, and the contents of `given` frames were given: the input is these frames, whole, and
-- then what stands.
pub record Follows (fed : List ℕ) (given : ℕ) (standing : Standing) : Type 0 where
  pub before : List ℕ
  pub fed_is : fed ≡ before ++ standing.bytes
  pub place_is : standing.place ≡ length before
  pub whole : (frames before).rest ≡ Empty
  pub given_is : length (frames before).contents ≡ given

abbrev pub IsEmptyOrOpen : Rest → Type 0
IsEmptyOrOpen Empty = Unit {0}
IsEmptyOrOpen Open = Unit {0}
IsEmptyOrOpen (Bad place kind) = ⊥

-- What `next` gives is spoken of by cases: a content; `None`, where what stands is empty or open; a fault; and no memory.
abbrev pub Content : Type 0
Content = Vec ℕ Global

abbrev pub IfContent : Result (Option Content) FrameError → (List ℕ → Type 0) → Type 0
IfContent (Ok (Some v)) P = P v.items
IfContent (Ok None) P = Unit {0}
IfContent (Err e) P = Unit {0}

abbrev pub OnOpen : Result (Option Content) FrameError → Type 0 → Type 0
OnOpen (Ok (Some v)) P = Unit {0}
OnOpen (Ok None) P = P
OnOpen (Err e) P = Unit {0}

abbrev pub IfFault : Result (Option Content) FrameError → (ℕ → FrameKind → Type 0) → Type 0
IfFault (Ok o) P = Unit {0}
IfFault (Err (Fault place kind)) P = P place kind
IfFault (Err NoMemory) P = Unit {0}

abbrev pub OnNoMemory : Result (Option Content) FrameError → Type 0 → Type 0
OnNoMemory (Ok o) P = Unit {0}
OnNoMemory (Err (Fault place kind)) P = Unit {0}
OnNoMemory (Err NoMemory) P = P
