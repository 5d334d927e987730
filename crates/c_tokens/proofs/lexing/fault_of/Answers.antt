-- The place of an open comment is that of its first two characters.
use Rattle.c_tokens.specs.Reading.{rest}
use Rattle.c_tokens.proofs.FindingLemmas.{place_of_two}
use Rattle.c_tokens.proofs.OrderLemmas.{two_within}
use Rattle.c_tokens.proofs.lexing.fault_of.Goals as goal

pub returns-in-OpenComment-clause-value : goal.returns-in-OpenComment-clause-value
returns-in-OpenComment-clause-value c =
    rw c.in-OpenComment.is
    (place_of_two c.args.piece.at c.args.piece.own c.end_of_two-end.result c.args.piece.front.count (rest c.args.text.now c.args.piece.at)
    (c.requires.piece.two c.in-OpenComment.is) c.requires.piece.after.enough c.requires.piece.own c.end_of_two-end.ensures.end)

pub returns-in-OpenComment-clause-within : goal.returns-in-OpenComment-clause-within
returns-in-OpenComment-clause-within c =
    two_within c.args.text.now c.args.piece c.end_of_two-end.result c.requires.piece (c.requires.piece.two c.in-OpenComment.is) c.end_of_two-end.ensures.after
