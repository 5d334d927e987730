use Rattle.stmt_checks.proofs.Taking.{adding_stays, adds_turn}
use Rattle.stmt_checks.proofs.kept.add_all.Goals as goal

pub returns-then-not-added : goal.returns-then-not-added
returns-then-not-added c = λ u tokens_are was.
    adding_stays (c.in_ok-added.ensures.missing c.if-not-added.true) (c.in_ok-added.ensures.parts c.if-not-added.true) (c.items.invariant.goes u tokens_are was)

pub items-preserved : goal.items-preserved
items-preserved c =
    adds_turn c.args.tokens.now c.args.owned.now.folding c.items.owned.folding c.add_firm.new.self c.args.owned.now.parts.items c.items.owned.parts.items c.add_firm.new.parts.items
    c.args.items.now c.items.rest.now c.in-Some.behind.now c.in-Some.item.now c.own.result.now c.in-Some.ensures.cases.0 c.own.ensures.tokens
    (c.in_ok-added.ensures.added c.if-not-added.false) c.in_ok-added.ensures.known c.items.invariant
