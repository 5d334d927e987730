use Rattle.std.proofs.Common.{◌∙◌, sym, rules, arith}
use Rattle.io_edges.proofs.PieceLemmas.{goes_past, stays_here}
use Rattle.io_edges.proofs.pieces.Pieces.skip_empty.Goals as goal

pub returns-then-self-len : goal.returns-then-self-len
returns-then-self-len c = sym (stays_here (λ p. p.items) c.loop-self.self-inside.pieces.items c.loop-self.self-inside.next c.loop-self.self-inside.at c.index.result.now (search (rules, arith)) (search (rules, arith))) ∙ c.loop-self.invariant.skipped

pub loop-self-preserved : goal.loop-self-preserved
loop-self-preserved c = record {
  skipped = sym (goes_past (λ p. p.items) c.loop-self.self-inside.pieces.items c.loop-self.self-inside.next c.loop-self.self-inside.at c.index.result.now (search (rules, arith)) (search (rules, arith))) ∙ c.loop-self.invariant.skipped;
  within = omega arith;
}
