use Rattle.std.proofs.Common.{take}
use Rattle.c_tokens.proofs.LongestTokens.{longest}
use Rattle.c_tokens.proofs.MemberLemmas.{whole_front}
use Rattle.c_tokens.proofs.OpenLemmas.{stray, open_literal, open_comment}
use Rattle.c_tokens.proofs.Standing.{no_piece, no_literal, no_comment}
use Rattle.c_tokens.proofs.laws.front_is_longest.Goals as goal

pub returns-clause-longest : goal.returns-clause-longest
returns-clause-longest c = λ context n more within. no_piece context (take n c.args._codes.now) (longest context c.args._codes.now n more within)

pub returns-clause-piece : goal.returns-clause-piece
returns-clause-piece c = λ context. whole_front context c.args._codes.now

pub returns-clause-stray : goal.returns-clause-stray
returns-clause-stray c = λ context n some within e. no_piece context (take n c.args._codes.now) (stray context c.args._codes.now n some within e)

pub returns-clause-open_literal : goal.returns-clause-open_literal
returns-clause-open_literal c = λ context n kind within e. no_literal (take n c.args._codes.now) (open_literal context c.args._codes.now n kind within e)

pub returns-clause-open_comment : goal.returns-clause-open_comment
returns-clause-open_comment c = λ context n within e. no_comment (take n c.args._codes.now) (open_comment context c.args._codes.now n within e)
