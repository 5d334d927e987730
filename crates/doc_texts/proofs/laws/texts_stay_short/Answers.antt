use Rattle.doc_texts.proofs.Shorts.{none_short, loaded_short, opened_short, changed_short, closed_short, text_short}
use Rattle.doc_texts.proofs.laws.texts_stay_short.Goals as goal

pub returns : goal.returns
returns c = record {
  under = none_short;
  loaded = loaded_short;
  opened = opened_short;
  changed = changed_short;
  closed = closed_short;
  shown = text_short;
}
