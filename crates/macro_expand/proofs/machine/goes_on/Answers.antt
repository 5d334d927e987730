use Rattle.std.proofs.Common.{ap, ◌∙◌}
use Rattle.macro_expand.specs.declared.building.Building.{Building}
use Rattle.macro_expand.specs.Ties.Machine.{resume, ended}
use Rattle.macro_expand.proofs.MachineLemmas.{resumed_is}
use Rattle.macro_expand.proofs.machine.goes_on.Goals as goal

pub returns-clause-grows : goal.returns-clause-grows
returns-clause-grows c = λ f h. c.in_ok-advance.ensures.grows f (c.in_ok-settled.ensures.grows f h)

pub returns-clause-value : goal.returns-clause-value
returns-clause-value c = λ f h again.
    c.in_ok-settled.ensures.value f h again
    ∙ ap (λ (b : Building). resume f again c.args.frames.items (ended f again c.args.frame.call b))
    (resumed_is f again c.args.frame.call.def.now c.args.frame.call.args c.as_slice.result.now
    c.args.frame.call.token.token.site c.in_ok-advance.advance c.args.frame.skip c.args.frame.behind.now
    c.args.frame.space c.args.done
    (record {
      progress = c.args.progress;
      tokens = c.args.frame.tokens;
      space = c.args.frame.before;
      empty = c.args.frame.empty;
      first = c.args.frame.first;
    })
    c.puts.new.self c.as_slice.ensures c.in_ok-puts.ensures.value
    (c.in_ok-advance.ensures.value f (c.in_ok-settled.ensures.grows f h) again))
