-- Places in a text as a client reads them (LSP 3.17, Position, Range).
use Rattle.std.specs.Prelude.{codes}
use Rattle.serde_json.specs.Data.{Data, number, object, unsigned, no_members, member}
use Rattle.text_lines.specs.declared.pos.Pos.{Pos}

abbrev pub pos_data : Pos → Data
pos_data pos = object (member (codes "character") (number (unsigned pos.character)) (member (codes "line") (number (unsigned pos.line)) no_members))

abbrev pub range_data : Pos → Pos → Data
range_data start end = object (member (codes "end") (pos_data end) (member (codes "start") (pos_data start) no_members))
