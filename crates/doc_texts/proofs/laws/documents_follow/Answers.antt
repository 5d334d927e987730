use Rattle.doc_texts.proofs.Followed.{version_itself, version_others, version_shut, version_shut_others, uri_itself, uri_others, uri_shut, uri_shut_others}
use Rattle.doc_texts.proofs.laws.documents_follow.Goals as goal

pub returns : goal.returns
returns c = record {
  version = version_itself;
  version_others = version_others;
  version_shut = version_shut;
  version_shut_others = version_shut_others;
  uri = uri_itself;
  uri_others = uri_others;
  uri_shut = uri_shut;
  uri_shut_others = uri_shut_others;
}
