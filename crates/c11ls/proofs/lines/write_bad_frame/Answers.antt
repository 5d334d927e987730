use Rattle.std.proofs.Common.{◌++◌, ◌∷◌, [], codes, decimal}
use Rattle.lsp_framing.specs.Kinds.{kind_name}
use Rattle.c11ls.proofs.Adding.{told_front, told_middle, told_three}
use Rattle.c11ls.proofs.lines.write_bad_frame.Goals as goal

pub returns-in-Err : goal.returns-in-Err
returns-in-Err g c =
    told_front (codes "c11ls: bad frame at byte " ++ decimal c.args.place) ((codes ": " ++ kind_name c.args.kind) ++ 10 ∷ []) _ _ _ _
    (rw c.format-digits.ensures.text at c.in-Err.ensures)

pub returns-in-Err-write_both : goal.returns-in-Err-write_both
returns-in-Err-write_both g c =
    told_middle c.in-Err-write_both.failed (codes "c11ls: bad frame at byte " ++ decimal c.args.place) (codes ": " ++ kind_name c.args.kind) (10 ∷ []) _ _ _ _ _ _
    (rw c.format-digits.ensures.text at c.in-Ok.ensures) (rw c.name.ensures at c.in-Err-write_both.ensures)

pub returns : goal.returns
returns g c =
    told_three c.write_text.result (codes "c11ls: bad frame at byte " ++ decimal c.args.place) (codes ": " ++ kind_name c.args.kind) (10 ∷ []) _ _ _ _ _ _ _ _
    (rw c.format-digits.ensures.text at c.in-Ok.ensures) (rw c.name.ensures at c.in-Ok-write_both.ensures) c.write_text.ensures
