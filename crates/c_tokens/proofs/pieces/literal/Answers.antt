-- The opening and the run behind it, joined.
use Rattle.std.proofs.Common.{arith, ◌+◌}
use Rattle.std.proofs.lemmas.Grind.{common_steps}
use Rattle.c_tokens.specs.Pieces.{literal_at}
use Rattle.c_tokens.proofs.AfterLemmas.{after_joins, ahead_behind}
use Rattle.c_tokens.proofs.pieces.literal.Goals as goal
use Rattle.c_tokens.proofs.pieces.literal.Goals.{then-is_closed, else-is_closed}

pub returns : goal.returns
unfolding literal_at
returns c =
    let codes = ahead_behind c.args.text.now c.args.at (c.args.opening.prefix + 1) c.args.opening.end c.requires.after in
    let quote = c.requires.quote in
    record {
      class = elim c.if-is_closed.branch [ then-is_closed w ↦ grind (arith, common_steps, codes, quote) | else-is_closed w ↦ grind (arith, common_steps, codes, quote) ];
      size = grind (arith, common_steps, codes, quote);
      after = after_joins c.args.text.now c.args.at (c.args.opening.prefix + 1) c.args.opening.end c.run-body.result.count c.run-body.result.end c.requires.after c.run-body.ensures.after;
    }
