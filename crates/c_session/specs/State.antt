-- What the plain server keeps: the current texts and the session's settings, and nothing that follows from them.
use Rattle.std.specs.Prelude.{None}
use Rattle.text_lines.specs.declared.encoding.Encoding.{Encoding}
use Rattle.text_lines.specs.declared.encoding.Encoding.TheVariants.{Utf16}
use Rattle.doc_texts.specs.Texts.{Texts, texts_under}
use Rattle.project_conf.specs.declared.options.Options.{Options}
use Rattle.c_session.specs.declared.phase.Phase.{Phase}
use Rattle.c_session.specs.declared.phase.Phase.TheVariants.{Fresh}

pub record State : Type 0 where
  -- what the words of the command line say
  pub options : Options
  -- the root, and the texts of files and of open documents
  pub texts : Texts
  -- the code units in which positions count (LSP 3.17, PositionEncodingKind)
  pub encoding : Encoding
  pub phase : Phase

-- the state before the first message: no root and no text
abbrev pub fresh : Options → State
fresh options = record { options = options; texts = texts_under None; encoding = Utf16; phase = Fresh }

-- the state in another phase
abbrev pub in_phase : Phase → State → State
in_phase phase s = record { options = s.options; texts = s.texts; encoding = s.encoding; phase = phase }

-- the state with other texts
abbrev pub with_texts : Texts → State → State
with_texts texts s = record { options = s.options; texts = texts; encoding = s.encoding; phase = s.phase }
