-- What is built and what is left make what the list makes.
use Rattle.std.proofs.Common.{◌≡◌, ◌≤◌, length}
use Rattle.macro_expand.specs.Ties.Codes.{Names}
use Rattle.macro_expand.specs.Ties.Stands.{Stands, Grows}
use Rattle.macro_expand.specs.Ties.Numbers.{real_args, real_building}
use Rattle.macro_expand.specs.Ties.Building.{substituted}
use Rattle.macro_expand.specs.Substitution.{Expander}
use Rattle.macro_expand.proofs.advancing.read_list.Given as goal

abbrev pub invariant-parts : goal.invariant-parts
invariant-parts l = record {
  grows : Grows l.fn.sets l.sets;
  goes : (f : Names → Names) → Stands f l.sets → (again : Expander)
      → substituted again l.def (real_args f l.args) l.site l.skip (real_building f l.building) l.rest
      ≡ substituted again l.def (real_args f l.args) l.site l.read (real_building f l.fn.begun) l.list;
  same : l.building.progress.left ≡ l.fn.begun.progress.left;
  shorter : length l.rest ≤ length l.list;
}

abbrev pub decreases-parts : goal.decreases-parts
decreases-parts l = length l.rest
