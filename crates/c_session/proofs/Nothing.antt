-- What files show before the first message: nothing.
use Rattle.std.proofs.Common.{◌≡◌, ℕ, List, [], None, refl, sym, subst}
use Rattle.doc_texts.specs.Texts.{Texts, text_at, texts_under}
use Rattle.project_conf.specs.declared.conf.Conf.{Conf}
use Rattle.plain_mean.specs.Shown.{shown_by}
use Rattle.c_session.specs.Kept.{IsAnalysis}
use Rattle.c_session.specs.Shown.{shown}
use Rattle.c_session.specs.declared.analysis.Analysis.{Analysis}

-- a file without a text shows nothing
pub nothing_of : (t : Texts) (conf : Conf) (path : List ℕ) → text_at t path ≡ None → shown t conf path ≡ []
unfolding shown shown_by
nothing_of t conf path none = rw none refl

pub nothing_yet : (docs : Texts) (conf : Texts → Conf) (kept : Analysis) → docs ≡ texts_under None → ((c : Conf) → IsAnalysis (texts_under None) c kept) → IsAnalysis docs (conf docs) kept
nothing_yet docs conf kept is none = subst (λ t. IsAnalysis t (conf t) kept) (sym is) (none (conf (texts_under None)))
