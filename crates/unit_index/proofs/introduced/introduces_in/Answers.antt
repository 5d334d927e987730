use Rattle.std.proofs.Common.{sym, ◌∙◌}
use Rattle.scope_tables.specs.Occurrences.{is_at}
use Rattle.unit_index.specs.References.{introduces}
use Rattle.unit_index.proofs.SharedLemmas.{any_filter, any_here, any_nowhere}
use Rattle.unit_index.proofs.introduced.introduces_in.Goals as goal

pub returns-then-introduces : goal.returns-then-introduces
returns-then-introduces c =
    any_here (λ o. introduces o.role) c.in-Some.occ.now _ _ c.in-Some.ensures (sym c.introduces.ensures ∙ c.if-introduces.true)
    ∙ c.occs.invariant ∙ any_filter (λ o. introduces o.role) (is_at c.args.tok.now) c.args.piece.now

pub returns : goal.returns
returns c =
    any_nowhere (λ o. introduces o.role) _ c.in_default.ensures
    ∙ c.occs.invariant ∙ any_filter (λ o. introduces o.role) (is_at c.args.tok.now) c.args.piece.now
