use Rattle.std.proofs.Common.{None, Some, bytes_eq, cond, ◌∙◌}
use Rattle.std.specs.Option.{option_or}
use Rattle.plain_mean.specs.Lexing.{lexing_at}
use Rattle.plain_mean.proofs.Keys.{updated}
use Rattle.plain_mean.proofs.Lexed.{none_given}
use Rattle.plain_mean.proofs.lexings.KeptLexings.give.Goals as goal

pub returns-in_ok-insert-in-Some-clause-kept : goal.returns-in_ok-insert-in-Some-clause-kept
unfolding lexing_at
returns-in_ok-insert-in-Some-clause-kept c = λ q. updated c.args.self.now.kept c.remove.new.self c.args.path.now None c.remove.ensures.updates.0 q

pub returns-in_ok-insert-in-Some-clause-given : goal.returns-in_ok-insert-in-Some-clause-given
unfolding lexing_at
returns-in_ok-insert-in-Some-clause-given c = λ q.
    updated c.args.others.now.kept c.insert.new.self c.in_ok-share-in-Some.field-0 (Some c.in-Some.lexed) c.in_ok-insert-in-Some.ensures.updates.0 q
    ∙ (λ i. cond (bytes_eq q (c.in_ok-share-in-Some.ensures i)) (option_or (c.in-Some.ensures.value i) (lexing_at c.args.others.now q)) (lexing_at c.args.others.now q))

pub returns-in-None-clause-kept : goal.returns-in-None-clause-kept
unfolding lexing_at
returns-in-None-clause-kept c = λ q. updated c.args.self.now.kept c.remove.new.self c.args.path.now None c.remove.ensures.updates.0 q

pub returns-in-None-clause-given : goal.returns-in-None-clause-given
unfolding lexing_at
returns-in-None-clause-given c = λ q. none_given (bytes_eq q c.args.path.now) (lexing_at c.args.self.now c.args.path.now) (lexing_at c.args.others.now q) c.in-None.ensures.value
