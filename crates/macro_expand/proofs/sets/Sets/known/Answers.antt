use Rattle.std.proofs.Common.{List, sym, ap, subst, ◌∙◌}
use Rattle.macro_expand.specs.Ties.Codes.{Names}
use Rattle.macro_expand.specs.Ties.Joins.{IsJoin}
use Rattle.macro_expand.specs.Ties.Stands.{Stands}
use Rattle.macro_expand.specs.contracts.sets.JoinPartialEq.TheImpl.{eq-value}
use Rattle.macro_expand.proofs.JoinLemmas.{same_join, All-found}
use Rattle.macro_expand.proofs.sets.Sets.known.Goals as goal

pub returns-in-Some : goal.returns-in-Some
returns-in-Some c = λ f h.
    ap f c.copy.ensures
    ∙ All-found eq-value.it same_join (λ e. IsJoin c.self.inside.table e.0 e.1) c.args.join.now c.in-Some.made.now
    c.self.inside.joins.entries c.self.invariant (sym c.in-Some.ensures.value) f
    (subst (λ (s : List Names). Stands f s) (sym c.self.view_is) h)
