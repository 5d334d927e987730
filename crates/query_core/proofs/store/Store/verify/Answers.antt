use Rattle.std.proofs.Common.{refl, true}
use Rattle.query_core.proofs.Removing.{known_written}
use Rattle.std.proofs.Common.{◌≡◌, IsSome, sym, subst}
use Rattle.query_core.specs.Stored.{node_at}
use Rattle.query_core.proofs.store.Store.verify.Goals as goal
use Rattle.query_core.proofs.Slots.{verify_changes, verify_marks}

pub returns-clause-changes : goal.returns-clause-changes
returns-clause-changes g c =
    rw (← c.self.view_is)
    (verify_changes c.self.inside.nodes c.mark_clean.new.nodes c.self.inside.numbers.entries c.self.inside.clean_at c.args.node c.mark_clean.ensures.some c.args.now (subst (λ o. o.clean_at ≡ c.args.now) (sym c.self.view_is) c.requires.fresh))

pub returns-clause-marks : goal.returns-clause-marks
returns-clause-marks g c =
    rw (← c.self.view_is)
    (verify_marks c.self.inside.nodes c.mark_clean.new.nodes c.self.inside.numbers.entries c.self.inside.clean_at c.args.node c.mark_clean.ensures.some (subst (λ o. IsSome (node_at o c.args.node)) (sym c.self.view_is) c.requires.stands))

pub invariant_of-self : goal.invariant_of-self
invariant_of-self g c =
    known_written c.self.inside.readers c.self.inside.tallies c.self.inside.nodes.slots c.mark_clean.new.nodes.slots c.args.node c.self.inside.roots.items c.self.invariant (λ x. record x { clean = true }) (λ x. refl) (λ x. refl) (λ x e. (c.mark_clean.ensures.some x e).changed) c.mark_clean.ensures.none
    (λ x e. (c.mark_clean.ensures.some x e).others)
