use Rattle.std.proofs.Common.{refl}
use Rattle.text_lines.proofs.LineFronts.{front_read}
use Rattle.text_lines.proofs.table.LineTable.front.Goals as goal

pub split_at-requires : goal.split_at-requires
split_at-requires c = (front_read _ _ _ _ _ c.utf8.text c.requires.short c.self.view_is c.requires.table c.requires.line c.index-at.ensures).boundary

pub returns-clause-place : goal.returns-clause-place
returns-clause-place c encoding =
    (front_read _ _ _ _ _ c.utf8.text c.requires.short c.self.view_is c.requires.table c.requires.line c.index-at.ensures).place encoding _ c.split_at.ensures.back refl refl refl

pub returns-clause-seeks : goal.returns-clause-seeks
returns-clause-seeks c character encoding =
    (front_read _ _ _ _ _ c.utf8.text c.requires.short c.self.view_is c.requires.table c.requires.line c.index-at.ensures).seeks encoding character _ c.split_at.ensures.back
