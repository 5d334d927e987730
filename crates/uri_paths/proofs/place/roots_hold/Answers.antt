use Rattle.std.proofs.Common.{sym, refl}
use Rattle.std.specs.Prelude.{codes}
use Rattle.uri_paths.proofs.Roots.{under_all, under_itself, under_below, under_only}
use Rattle.uri_paths.proofs.place.roots_hold.Goals as goal

pub returns : goal.returns
returns c = record {
  all = λ path. sym (under_all (codes "/") path refl);
  itself = λ path. sym (under_itself path path refl);
  below = under_below;
  only = under_only;
}
