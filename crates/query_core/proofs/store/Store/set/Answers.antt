use Rattle.std.proofs.Common.{refl, false, cond}
use Rattle.query_core.proofs.Removing.{known_written}
use Rattle.std.proofs.Common.{IsSome, sym, subst}
use Rattle.query_core.specs.Stored.{node_at}
use Rattle.query_core.proofs.store.Store.set.Goals as goal
use Rattle.query_core.proofs.Slots.{set_changes, set_marks}

pub returns-clause-changes : goal.returns-clause-changes
returns-clause-changes g c =
    rw (← c.self.view_is)
    (set_changes c.self.inside.nodes c.set_value.new.nodes c.self.inside.numbers.entries c.self.inside.clean_at c.args.node g.V.PartialEq.eq c.args.value c.args.now c.set_value.ensures.some)

pub returns-clause-marks : goal.returns-clause-marks
returns-clause-marks g c =
    rw (← c.self.view_is)
    (set_marks c.self.inside.nodes c.set_value.new.nodes c.self.inside.numbers.entries c.self.inside.clean_at c.args.node g.V.PartialEq.eq c.args.value c.args.now c.set_value.ensures.some
    (subst (λ o. IsSome (node_at o c.args.node)) (sym c.self.view_is) c.requires))

pub invariant_of-self : goal.invariant_of-self
invariant_of-self g c =
    known_written c.self.inside.readers c.self.inside.tallies c.self.inside.nodes.slots c.set_value.new.nodes.slots c.args.node c.self.inside.roots.items c.self.invariant
    (λ x. record x { value = c.args.value; clean = false; verified_at = c.args.now; changed_at = cond (g.V.PartialEq.eq x.value c.args.value) x.changed_at c.args.now }) (λ x. refl) (λ x. refl) (λ x e. (c.set_value.ensures.some x e).changed) c.set_value.ensures.none
    (λ x e. (c.set_value.ensures.some x e).others)
