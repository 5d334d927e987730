use Rattle.std.proofs.Common.{ap, sym, ◌∙◌, ◌+◌, drop}
use Rattle.std.specs.FinMap as map
use Rattle.macro_expand.specs.Ties.Steps.{meant}
use Rattle.macro_expand.proofs.KeepingLemmas.{plain_kept}
use Rattle.macro_expand.proofs.ListLemmas.{drop_next}
use Rattle.macro_expand.proofs.skimming.skim_plain.Goals as goal

pub loop-token-preserved : goal.loop-token-preserved
loop-token-preserved c =
    let all = c.args.tokens.now in
    let at = c.loop-token.token-index in
    record {
      count = ap (λ n. n + 1) c.loop-token.invariant.count;
      same = λ lines p stopped.
          plain_kept (map.get c.args.table.now) lines c.args.room p c.loop-token.kept c.put_copy.new.self
          c.token-item.result (drop at all) (drop (at + 1) all) c.args.stopped
          (ap meant (sym c.in-Ordinary.is) ∙ c.plain_meaning.ensures) stopped
          (drop_next all at c.token-item.result c.loop-token-test.true c.token-item.is) c.in_ok-put_copy.ensures
          ∙ c.loop-token.invariant.same lines p stopped;
    }
