-- What the texts of a session come to.
use Rattle.std.specs.Prelude.{length, sum_by}
use Rattle.doc_texts.specs.Texts.{paths_of}
use Rattle.plain_mean.specs.Shown.{units}
use Rattle.c_session.specs.Shown.{conf_in, shows}
use Rattle.c_session.specs.State.{State}
use Rattle.c_session.specs.declared.counts.Counts.{Counts}

-- how many units there are, and how many faults all files show
abbrev pub counts_of : State → Counts
counts_of s = record { units = length (units s.texts (conf_in s)); faults = sum_by (λ path. length (shows s path)) (paths_of s.texts) }
