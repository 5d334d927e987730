use Rattle.doc_texts.proofs.Followed.{disk_itself, disk_others, gone_itself, gone_others, open_itself, open_others, shut_itself, shut_others}
use Rattle.doc_texts.proofs.laws.texts_follow.Goals as goal

pub returns : goal.returns
returns c = record {
  disk = disk_itself;
  disk_others = disk_others;
  gone = gone_itself;
  gone_others = gone_others;
  opened = open_itself;
  opened_others = open_others;
  shut = shut_itself;
  shut_others = shut_others;
}
