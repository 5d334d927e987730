use Rattle.doc_texts.proofs.Followed.{set_members, set_ascends, paths_members, paths_ascend}
use Rattle.doc_texts.proofs.laws.paths_are_sets.Goals as goal

pub returns : goal.returns
returns c = record {
  set_members = set_members;
  set_ascends = set_ascends;
  members = paths_members;
  ascends = paths_ascend;
}
