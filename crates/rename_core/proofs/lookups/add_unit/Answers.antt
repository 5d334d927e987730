use Rattle.std.proofs.Common.{ap, sym, ◌∙◌}
use Rattle.std.specs.Prelude.{is_some}
use Rattle.rename_core.specs.Kept.{at}
use Rattle.rename_core.proofs.LookupLemmas.{is_there, is_put}
use Rattle.rename_core.proofs.lookups.add_unit.Goals as goal

pub returns-then-has_unit : goal.returns-then-has_unit
returns-then-has_unit c =
    λ q. is_there (at c.args.units.now) c.args.view.now.path c.args.view.now.occs
    (ap (λ p. is_some (at c.args.units.now p)) (sym c.unit.ensures) ∙ sym c.has_unit.ensures ∙ c.if-has_unit.true) q

pub returns : goal.returns
returns c =
    λ q. is_put (at c.args.units.now) (at c.put_unit.new.units) c.args.view.now.path c.args.view.now.occs
    (ap (λ p. is_some (at c.args.units.now p)) (sym c.unit.ensures) ∙ sym c.has_unit.ensures ∙ c.if-has_unit.false) c.in_ok-put_unit.ensures q
