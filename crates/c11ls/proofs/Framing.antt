-- The laws of frames that lemmas are given: what `contents_stay` and `bad_stays` of `lsp_framing` ensure.
use Rattle.std.proofs.Common.{◌≡◌, ℕ, List, ◌++◌, take, length}
use Rattle.lsp_framing.specs.Frames.{frames, Bad}
use Rattle.lsp_framing.specs.declared.FrameKind.{FrameKind}

-- more bytes leave the contents that were there
abbrev pub ContentsStay : Type 0
ContentsStay = (a b : List ℕ) → take (length (frames a).contents) (frames (a ++ b)).contents ≡ (frames a).contents

-- a fault stays, for good
abbrev pub BadStays : Type 0
BadStays = (a b : List ℕ) (place : ℕ) (kind : FrameKind) → (frames a).rest ≡ Bad place kind → frames (a ++ b) ≡ frames a
