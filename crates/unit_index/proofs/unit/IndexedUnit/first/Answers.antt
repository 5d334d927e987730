use Rattle.std.proofs.Common.{ap, sym, ◌∙◌}
use Rattle.std.specs.List.{find}
use Rattle.scope_tables.specs.Occurrences.{is_at}
use Rattle.unit_index.proofs.PieceLemmas.{first_here, first_behind}
use Rattle.unit_index.proofs.unit.IndexedUnit.first.Goals as goal

pub returns-in-Some-first : goal.returns-in-Some-first
returns-in-Some-first c =
    let here = sym (c.in-Some-first.ensures ∙ ap (find (is_at c.args.tok.now)) c.deref.ensures) in
    sym (first_here (is_at c.args.tok.now) _ c.pieces.rest.now c.in-Some.behind.now c.in-Some.piece.now _ c.in-Some.ensures.cases.0 here) ∙ c.pieces.invariant

pub pieces-preserved : goal.pieces-preserved
pieces-preserved c =
    let none = sym (c.in_default-first.ensures ∙ ap (find (is_at c.args.tok.now)) c.deref.ensures) in
    sym (first_behind (is_at c.args.tok.now) _ c.pieces.rest.now c.in-Some.behind.now c.in-Some.piece.now c.in-Some.ensures.cases.0 none) ∙ c.pieces.invariant
