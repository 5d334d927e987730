-- The definitions of the words and of an entry are usable together.
use Rattle.std.proofs.Common.{◌≡◌, List, ◌++◌, arith, sym, subst}
use Rattle.std.proofs.lemmas.List.Elements.{All-append}
use Rattle.std.proofs.lemmas.List.Sums.{sum_by-append}
use Rattle.project_conf.specs.Defines.{size_of, AreUsable}
use Rattle.project_conf.specs.declared.options.Define.{Define}
use Rattle.project_conf.proofs.Usable.{IsNamed}

pub usable_more : (defines defines' : List Define) → AreUsable 131072 defines → defines' ≡ defines → AreUsable 268435456 defines'
usable_more defines defines' h same = subst (AreUsable 268435456) (sym same) (record { names = h.names; size = omega (arith, h.size) })

pub both_usable : (ds es both : List Define) → AreUsable 131072 ds → AreUsable 33554432 es → both ≡ ds ++ es → AreUsable 268435456 both
both_usable ds es both h k same =
    subst (AreUsable 268435456) (sym same) (record {
      names = All-append IsNamed ds es h.names k.names;
      size = omega (arith, h.size, k.size, sum_by-append size_of ds es);
    })
