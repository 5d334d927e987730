use Rattle.std.proofs.Common.{◌≡◌, ◌++◌, vec_len}
use Rattle.macro_expand.specs.Ties.Codes.{Names}
use Rattle.macro_expand.specs.Ties.Stands.{Stands, Grows}
use Rattle.macro_expand.specs.Ties.Numbers.{reals}
use Rattle.macro_expand.specs.Substitution.{all_marked}
use Rattle.macro_expand.proofs.splicing.marked_before.Given as goal

abbrev pub invariant-loop-token : goal.invariant-loop-token
invariant-loop-token l = record {
  grows : Grows l.fn.sets l.sets;
  goes : (f : Names → Names) → Stands f l.sets
      → all_marked l.site (f l.names) (reals f l.front.items) ++ reals f l.rest
      ≡ all_marked l.site (f l.names) (reals f l.initial.front.items) ++ reals f l.initial.rest;
}

abbrev pub decreases-loop-token : goal.decreases-loop-token
decreases-loop-token l = vec_len l.front
