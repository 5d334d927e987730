use Rattle.c_session.proofs.ShortTexts.{handled_short}
use Rattle.c_session.proofs.rename_laws.contents_keep_limits.Goals as goal

pub returns : goal.returns
returns c = handled_short c.texts_stay_short.ensures.loaded c.texts_stay_short.ensures.opened c.texts_stay_short.ensures.changed c.texts_stay_short.ensures.closed c.texts_stay_short.ensures.under
