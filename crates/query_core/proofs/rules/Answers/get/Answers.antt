use Rattle.std.proofs.Common.{sym, ◌∙◌, ap}
use Rattle.std.specs.Option.{option_copied}
use Rattle.query_core.specs.Stored.{seen}
use Rattle.query_core.proofs.Answering.{pairs_absent, pairs_not_among, pairs_among}
use Rattle.query_core.proofs.rules.Answers.get.Goals as goal

pub returns-in_err-node : goal.returns-in_err-node
returns-in_err-node g c =
    rw (← c.self.view_is)
    (ap option_copied c.from_residual.ensures ∙ sym (pairs_absent g.K.PartialEq.eq c.self.inside.store.now c.args.key.now c.self.inside.answered.now c.self.invariant (sym c.in_err-node.ensures)))

pub returns-then-not-contains : goal.returns-then-not-contains
returns-then-not-contains g c =
    rw (← c.self.view_is)
    (sym (pairs_not_among g.K.PartialEq.eq c.self.inside.store.now c.args.key.now c.self.inside.answered.now c.in_ok-node.node c.self.invariant (sym c.in_ok-node.ensures) (sym c.if-not-contains.ensures)))

pub returns : goal.returns
returns g c =
    rw (← c.self.view_is)
    (sym (pairs_among g.K.PartialEq.eq c.self.inside.store.now c.args.key.now c.self.inside.answered.now c.in_ok-node.node (seen c.in_ok-kept.kept) c.self.invariant (sym c.in_ok-node.ensures)
    (sym c.in_ok-kept.ensures) (sym c.if-not-contains.ensures)))
