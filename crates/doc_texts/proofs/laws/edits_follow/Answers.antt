use Rattle.doc_texts.proofs.EditsFollowed.{edited_itself, edited_others, edited_held, edited_version, edited_uri}
use Rattle.doc_texts.proofs.laws.edits_follow.Goals as goal

pub returns : goal.returns
returns c = record {
  made = edited_itself;
  others = edited_others;
  held = edited_held;
  version = edited_version;
  uri = edited_uri;
}
