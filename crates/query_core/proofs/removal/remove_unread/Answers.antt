use Rattle.std.proofs.Common.{subst, sym, ap, ◌∙◌}
use Rattle.std.specs.Option.{option_map}
use Rattle.query_core.specs.Lists.{Has}
use Rattle.query_core.specs.Stored.{shown, stored}
use Rattle.query_core.proofs.Slots.{seen_at, others_seen}
use Rattle.query_core.proofs.Removing.{removing_stays, removing_turns, removing_ends, goes_record, numbers_left}
use Rattle.query_core.proofs.removal.remove_unread.Goals as goal

pub unread-preserved-then-not-goes : goal.unread-preserved-then-not-goes
unread-preserved-then-not-goes g c = λ roots m a num.
    removing_stays g.K.PartialEq.eq roots m c.args.nodes.now.slots c.unread.nodes.slots c.unread.numbers.entries c.unread.tallies c.pop.new.self (c.unread.invariant roots m a num) c.in-Some.node c.in-Some.ensures.some c.pop.ensures.counts
    (sym c.if-not-goes.ensures)

pub unread-preserved : goal.unread-preserved
unread-preserved g c = λ roots m a num.
    let p = c.unread.invariant roots m a num in
    let r = goes_record g.K.PartialEq.eq roots m c.args.nodes.now.slots c.unread.nodes.slots c.pop.new.self c.in-Some.node (sym c.if-not-goes.ensures) in
    let u = c.remove.ensures.removes in
    removing_turns g.K.PartialEq.eq roots m c.args.nodes.now.slots c.unread.nodes.slots c.unread.numbers.entries c.unread.tallies c.pop.new.self p c.in-Some.node c.in-Some.ensures.some c.pop.ensures.counts r.0 r.1.0 r.1.1 r.1.2
    c.remove.new.nodes.slots c.remove.new.numbers.entries c.remove.new.tallies u.changed u.others (c.remove.ensures.tallies r.0 r.1.0)
    (numbers_left g.K.PartialEq.eq (stored c.unread.nodes.slots c.unread.numbers.entries m) (stored c.remove.new.nodes.slots c.remove.new.numbers.entries m) c.in-Some.node (shown m r.0) p.numbered
    (seen_at c.unread.nodes.slots c.unread.numbers.entries m c.in-Some.node ∙ ap (option_map (shown m)) r.1.0) g.met.K.Eq.laws.symm
    (seen_at c.remove.new.nodes.slots c.remove.new.numbers.entries m c.in-Some.node ∙ ap (option_map (shown m)) u.changed)
    (others_seen c.unread.nodes.slots c.remove.new.nodes.slots c.unread.numbers.entries c.remove.new.numbers.entries m c.in-Some.node u.others) (c.remove.ensures.numbers r.0 r.1.0))
    c.remove.ensures.len

pub returns : goal.returns
returns g c = λ roots m a num.
    removing_ends g.K.PartialEq.eq roots m c.args.nodes.now.slots c.unread.nodes.slots c.unread.numbers.entries c.unread.tallies c.pop.new.self (c.unread.invariant roots m a num) c.in_default.ensures.none
    (λ j h. absurd (subst (λ l. Has l j) c.in_default.ensures.none h)) c.pop.ensures.counts
