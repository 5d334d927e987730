use Rattle.c_parser.proofs.Enumerated.{passes_turn}
use Rattle.c_parser.proofs.scope.Scope.past.Goals as goal

pub tokens-preserved : goal.tokens-preserved
tokens-preserved c =
    passes_turn c.args.self c.tokens.scope _ c.args.from c.args.to c.tokens.at c.tokens-test.true c.tokens.invariant c.in_ok-scope.ensures
