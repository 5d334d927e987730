-- What an editor makes of the answer to a rename (LSP 3.17, WorkspaceEdit), which speaks of positions alone: it reads each range back in the text that it has, and puts the new name there.
use Rattle.std.specs.Prelude.{ℕ, List, map, IfSome, IsUtf8}
use Rattle.doc_texts.specs.Edited.{Stand}
use Rattle.doc_texts.specs.Texts.{Texts, text_at}
use Rattle.doc_texts.specs.declared.ranges.ByteRange.{ByteRange}
use Rattle.lsp_answers.specs.declared.located.Located.{Located}
use Rattle.plain_mean.specs.Given.{text_in}
use Rattle.plain_mean.specs.Ranges.{Ranges, all_renamed, ranges_of}
use Rattle.rename_core.specs.declared.confirming.Edits.{Edits}
use Rattle.text_lines.specs.Positions.{offset_of}
use Rattle.text_lines.specs.declared.encoding.Encoding.{Encoding}
use Rattle.c_session.specs.Renames.{located_in}

-- the bytes that a range of positions takes in a text
abbrev pub bytes_read : List ℕ → Encoding → Located → ByteRange
bytes_read text encoding l = record { start = offset_of text l.start encoding; end = offset_of text l.end encoding }

-- the ranges of one text as they are told to the editor, and as it reads them
abbrev pub read_in : Texts → Encoding → Ranges → Ranges
read_in texts encoding r = record { path = r.path; ranges = map (bytes_read (text_in texts r.path) encoding) (located_in texts encoding r) }

-- the texts that the editor has then: the name stands in place of each range that it read
unfoldable pub editor_after : Texts → Encoding → Edits → Texts
editor_after texts encoding e = all_renamed texts texts (map (read_in texts encoding) (ranges_of texts e.toks)) e.new_name

-- each text is UTF-8, as every one that a session holds
abbrev pub AreUtf8 : Texts → Type 0
AreUtf8 texts = (path : List ℕ) → IfSome (text_at texts path) (λ text. IsUtf8 text)

-- the ranges of one text stand in it in order and apart, none is empty, and none cuts a code point
abbrev pub StandIn : Texts → Ranges → Type 0
StandIn texts r = Stand (text_in texts r.path) 0 r.ranges
