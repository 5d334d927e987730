use Rattle.std.proofs.Common.{◌+◌, ◌∷◌, Some, drop, ap, sym, ◌∙◌}
use Rattle.unit_index.specs.Chains.{left, first_from, alike}
use Rattle.unit_index.proofs.WalkLemmas.{stands_there, step_is}
use Rattle.unit_index.proofs.walks.Walk.step.Goals as goal

pub next_alike-self-inside-requires-clause-codes : goal.next_alike-self-inside-requires-clause-codes
next_alike-self-inside-requires-clause-codes c = c.self.invariant.codes

pub next_alike-self-inside-requires-clause-there : goal.next_alike-self-inside-requires-clause-there
next_alike-self-inside-requires-clause-there c = stands_there _ _ _ _ _ _ c.in-Some.is c.index-self-at.is c.self.invariant ∙ ap Some c.index-self-at.is

pub invariant_of-self : goal.invariant_of-self
invariant_of-self c =
    let next = c.next_alike-self-inside.ensures ∙ ap (λ x. first_from (alike c.self.inside.by x) (c.in-Some.at + 1) (drop (c.in-Some.at + 1) c.self.inside.occs.now)) (sym c.index-self-at.is) in
    record {
      codes = c.self.invariant.codes;
      stands = (step_is _ _ _ _ _ _ _ c.in-Some.is c.index-self-at.is c.self.invariant next).stands;
    }

pub returns : goal.returns
returns c =
    let next = c.next_alike-self-inside.ensures ∙ ap (λ x. first_from (alike c.self.inside.by x) (c.in-Some.at + 1) (drop (c.in-Some.at + 1) c.self.inside.occs.now)) (sym c.index-self-at.is) in
    sym c.self.view_is ∙ ap (left c.self.inside.by c.self.inside.occs.now) c.in-Some.is
    ∙ (step_is _ _ _ _ _ _ _ c.in-Some.is c.index-self-at.is c.self.invariant next).goes
    ∙ ap (λ x. x ∷ left c.self.inside.by c.self.inside.occs.now c.next_alike-self-inside.result) c.index-self-at.is
