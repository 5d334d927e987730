-- What was written as it is spelled.
use Rattle.std.proofs.Common.{◌≡◌, take, sym, ◌∙◌, arith}
use Rattle.c_tokens.specs.Pieces.{spelling}
use Rattle.c_tokens.specs.Reading.{rest}
use Rattle.c_tokens.proofs.SlimLemmas.{spelled_as_written}
use Rattle.c_tokens.proofs.lexing.name_of.Goals as goal

pub returns-then-piece : goal.returns-then-piece
returns-then-piece c =
    let p = c.args.piece in
    let is = c.requires.piece in
    let word : c.range.result.now ≡ spelling (take p.front.count (rest c.args.text.now p.at)) =
    c.range.ensures.value
    ∙ spelled_as_written c.args.text.now p.at p.own p.front.end p.front.count (omega (arith, is.after.begins, is.after.within)) is.some is.after.enough is.own is.after.ends
    (omega (arith, c.if-piece.true, is.own_within)) in
    rw (sym word) c.name.ensures
