use Rattle.std.proofs.Common.{ap, ◌∙◌}
use Rattle.std.specs.List.{filter_map}
use Rattle.plain_mean.specs.Collected.{numbers_at}
use Rattle.plain_mean.specs.Ranges.{range_at}
use Rattle.plain_mean.proofs.Ranging.{can_be_made}
use Rattle.plain_mean.proofs.ranges.edits_at.Goals as goal

pub returns-clause-ranges : goal.returns-clause-ranges
returns-clause-ranges c =
    c.in_ok-ranges.ensures ∙ ap (λ ps. filter_map (range_at ps.places) (numbers_at c.args.numbers.now c.args.path.now)) c.in_ok-lexed.ensures.places

pub returns-clause-can : goal.returns-clause-can
returns-clause-can c = λ short up.
    can_be_made c.args.docs.now c.args.path.now c.in_ok-lexed.lexed (record { path = c.in_ok-path.path; ranges = c.in_ok-ranges.ranges }) (numbers_at c.args.numbers.now c.args.path.now) c.in_ok-lexed.ensures c.in_ok-path.ensures
    (c.in_ok-ranges.ensures ∙ ap (λ ps. filter_map (range_at ps.places) (numbers_at c.args.numbers.now c.args.path.now)) c.in_ok-lexed.ensures.places) short up
