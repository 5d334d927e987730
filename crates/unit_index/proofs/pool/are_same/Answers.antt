use Rattle.std.proofs.lemmas.Slice.Eq.{slice_eq-Decides}
use Rattle.unit_index.proofs.PieceLemmas.{occ_exact}
use Rattle.unit_index.proofs.pool.are_same.Goals as goal

pub returns : goal.returns
returns c = slice_eq-Decides occ_exact c.args.occs.now c.args.others.now c.eq.result c.eq.ensures
