-- The names of the kinds of fault.
use Rattle.std.specs.Prelude.{ℕ, List, codes}
use Rattle.lsp_framing.specs.declared.FrameKind.{FrameKind}
use Rattle.lsp_framing.specs.declared.FrameKind.TheVariants.{NoLength, BadLength, BadField, HeaderLong, ContentLong, Cut}

abbrev pub kind_name : FrameKind → List ℕ
kind_name NoLength = codes "NoLength"
kind_name BadLength = codes "BadLength"
kind_name BadField = codes "BadField"
kind_name HeaderLong = codes "HeaderLong"
kind_name ContentLong = codes "ContentLong"
kind_name Cut = codes "Cut"
