-- What is noted of what is needed.
use Rattle.std.proofs.Common.{rules, ◌≡◌, Bool, true, false, List, Some, None, refl, sym, ap}
use Rattle.std.specs.Bool.{Decides}
use Rattle.indexmap.specs.IndexSet.{insert_key}
use Rattle.unit_index.specs.declared.pairs.TagPair.{TagPair}
use Rattle.unit_index.specs.Needs.{Needed, noted, provided, with_pair}
use Rattle.unit_index.specs.Pairs.{same_pair}

pub pair_exact : (p q : TagPair) → Decides (same_pair p q) (p ≡ q)
pair_exact p q = search rules

pub noted_pair : (seen now : List TagPair) (p : TagPair) (more : Needed) → now ≡ insert_key same_pair seen p → noted seen (with_pair p more) ≡ noted now more
noted_pair seen now p None is = refl
noted_pair seen now p (Some ps) is = ap (λ l. noted l (Some ps)) (sym is)

pub noted_provided : (seen : List TagPair) (holds : Bool) (more : Needed) → noted seen (provided holds more) ≡ provided holds (noted seen more)
noted_provided seen true more = refl
noted_provided seen false more = refl
