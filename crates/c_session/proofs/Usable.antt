-- How units are read begins with usable definitions.
use Rattle.std.proofs.Common.{◌≡◌, sym, ap, subst}
use Rattle.std.specs.Prelude.{All, IfSome}
use Rattle.doc_texts.specs.Texts.{Texts}
use Rattle.plain_mean.specs.Confs.{conf_of, IsUsable}
use Rattle.project_conf.specs.Defines.{AreUsable}
use Rattle.project_conf.specs.declared.conf.Conf.{Conf}
use Rattle.project_conf.specs.declared.options.Options.{Options}

pub usable_conf : (options : Options) (t : Texts) (conf : Conf) → AreUsable 131072 options.defines → conf ≡ conf_of options t →
    IfSome conf.database (All (λ u. AreUsable 33554432 u.defines)) → IsUsable conf
usable_conf options t conf words is entries = record {
  words = subst (AreUsable 131072) (sym (ap (λ (c : Conf). c.defines) is)) words;
  entries = entries;
}
