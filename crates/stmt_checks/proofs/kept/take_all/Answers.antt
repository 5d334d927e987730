use Rattle.std.specs.Vec.Iter.{into_iter_items}
use Rattle.stmt_checks.proofs.Taking.{IsNext, adding_stays, body_holds, head_holds, taking_turns}
use Rattle.stmt_checks.proofs.kept.take_all.Goals as goal
use Rattle.stmt_checks.specs.Owning.{IsTaking, TakingOver}

pub items-init : goal.items-init
items-init c = λ u before tokens_are changed_are taking. taking

pub returns-in_default-next : goal.returns-in_default-next
returns-in_default-next c = λ u before tokens_are changed_are taking. (c.items.invariant u before tokens_are changed_are taking).adding

pub take_kept-requires-clause-known : goal.take_kept-requires-clause-known
take_kept-requires-clause-known c =
    let it = c.requires.taking in
    (c.items.invariant it.u it.before it.tokens_are it.changed_are it.taking).adding.goes.known

pub take_kept-requires-clause-head : goal.take_kept-requires-clause-head
take_kept-requires-clause-head c =
    let it = c.requires.taking in
    head_holds c.args.tokens.now c.args.changed.now it.u it.before it.tokens_are it.changed_are c.items.owned.folding c.items.owned.parts.items c.items.rest.now c.in-Some.behind.now
    c.in-Some.item.now (into_iter_items c.items.over.parts) (into_iter_items c.next.new.self.parts) (into_iter_items c.items.over.heads) (into_iter_items c.next.new.self.heads)
    (into_iter_items c.items.over.bodies) (into_iter_items c.next.new.self.bodies) c.in-Some-next.kept
    (c.items.invariant it.u it.before it.tokens_are it.changed_are it.taking) c.in-Some.ensures.cases.0 (record {
      parts = c.in-Some-next.ensures.parts;
      heads = c.in-Some-next.ensures.heads;
      bodies = c.in-Some-next.ensures.bodies;
      body = c.in-Some-next.ensures.body;
    }) c.own.result.now c.own.ensures.tokens

pub take_kept-requires-clause-body : goal.take_kept-requires-clause-body
take_kept-requires-clause-body c =
    let it = c.requires.taking in
    body_holds c.args.tokens.now c.args.changed.now it.u it.before it.tokens_are it.changed_are c.items.owned.folding c.items.owned.parts.items c.items.rest.now c.in-Some.behind.now
    c.in-Some.item.now (into_iter_items c.items.over.parts) (into_iter_items c.next.new.self.parts) (into_iter_items c.items.over.heads) (into_iter_items c.next.new.self.heads)
    (into_iter_items c.items.over.bodies) (into_iter_items c.next.new.self.bodies) c.in-Some-next.kept
    (c.items.invariant it.u it.before it.tokens_are it.changed_are it.taking) c.in-Some.ensures.cases.0 (record {
      parts = c.in-Some-next.ensures.parts;
      heads = c.in-Some-next.ensures.heads;
      bodies = c.in-Some-next.ensures.bodies;
      body = c.in-Some-next.ensures.body;
    }) c.own.result.now c.own.ensures.tokens

pub returns-then-not-taken : goal.returns-then-not-taken
returns-then-not-taken c = λ u before tokens_are changed_are taking.
    adding_stays (c.in_ok-taken.ensures.missing c.if-not-taken.true) (c.in_ok-taken.ensures.parts c.if-not-taken.true)
    (c.items.invariant u before tokens_are changed_are taking).adding

pub items-preserved : goal.items-preserved
items-preserved c = λ u before tokens_are changed_are taking.
    taking_turns c.args.tokens.now c.args.changed.now u before tokens_are changed_are c.items.owned.folding c.items.owned.parts.items c.items.rest.now c.in-Some.behind.now
    c.in-Some.item.now (into_iter_items c.items.over.parts) (into_iter_items c.next.new.self.parts) (into_iter_items c.items.over.heads) (into_iter_items c.next.new.self.heads)
    (into_iter_items c.items.over.bodies) (into_iter_items c.next.new.self.bodies) c.in-Some-next.kept (c.items.invariant u before tokens_are changed_are taking)
    c.in-Some.ensures.cases.0 (record {
      parts = c.in-Some-next.ensures.parts;
      heads = c.in-Some-next.ensures.heads;
      bodies = c.in-Some-next.ensures.bodies;
      body = c.in-Some-next.ensures.body;
    }) c.own.result.now c.own.ensures.tokens c.take_kept.new.self c.take_kept.new.parts.items (c.in_ok-taken.ensures.added c.if-not-taken.false) c.in_ok-taken.ensures.known

pub returns : goal.returns
returns c = λ u before tokens_are changed_are taking. (c.items.invariant u before tokens_are changed_are taking).adding
