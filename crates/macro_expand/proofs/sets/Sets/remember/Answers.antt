use Rattle.std.proofs.Common.{List, sym, subst}
use Rattle.std.specs.List.{All}
use Rattle.macro_expand.specs.Ties.Codes.{Names}
use Rattle.macro_expand.specs.Ties.Joins.{IsJoin}
use Rattle.macro_expand.specs.Ties.Stands.{Stands}
use Rattle.macro_expand.specs.contracts.sets.JoinPartialEq.TheImpl.{eq-value}
use Rattle.macro_expand.specs.declared.sets.Join.{Join}
use Rattle.macro_expand.proofs.JoinLemmas.{same_join, All-put}
use Rattle.macro_expand.proofs.sets.Sets.remember.Goals as goal

pub invariant_of-self-2 : goal.invariant_of-self-2
invariant_of-self-2 c =
    let new : IsJoin c.self.inside.table c.args.join c.args.made =
    λ f h. c.requires f (subst (λ (s : List Names). Stands f s) c.self.view_is h) in
    subst (λ (es : List (Join × Names)). All (λ e. IsJoin c.self.inside.table e.0 e.1) es)
    (sym c.in_ok-insert.ensures.entries)
    (All-put eq-value.it same_join (λ e. IsJoin c.self.inside.table e.0 e.1) c.args.join c.args.made
    c.self.inside.joins.entries c.self.invariant new)
