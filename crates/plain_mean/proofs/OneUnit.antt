-- What a unit means, by its tokens and its marks.
use Rattle.std.proofs.Common.{◌≡◌, ℕ, List, ap, ◌∙◌}
use Rattle.asking.specs.LookUps.{asked}
use Rattle.doc_texts.specs.Texts.{Texts}
use Rattle.include_units.specs.Files.{Question}
use Rattle.include_units.specs.Units.{unit_tokens}
use Rattle.include_units.specs.declared.types.UnitTokens.{UnitTokens}
use Rattle.plain_mean.specs.Given.{given, tokens_over}
use Rattle.plain_mean.specs.Meanings.{meaning, meaning_by, meant_by, meant_over}
use Rattle.plain_mean.specs.Spelled.{spelled_marks}
use Rattle.plain_mean.specs.declared.types.UnitMeaning.{UnitMeaning}
use Rattle.project_conf.specs.declared.conf.Conf.{Conf}
use Rattle.project_conf.specs.declared.conf.UnitConf.{UnitConf}
use Rattle.project_conf.specs.Entries.{unit_conf}
use Rattle.scope_tables.specs.declared.entities.Occ.{Occ}

pub means : (t : Texts) (reading : Conf) (unit : List ℕ) {now : Texts} {conf : UnitConf} {tokens : UnitTokens} {qs : List Question} {marks : List Occ} {m : UnitMeaning} →
    conf ≡ unit_conf reading unit → now ≡ t → tokens ≡ tokens_over t conf → qs ≡ asked (given t) (unit_tokens conf) →
    marks ≡ spelled_marks (given now) conf.defines qs tokens.spelled → m ≡ meant_by marks tokens → m ≡ meaning t reading unit
unfolding meaning meaning_by
means t reading unit {now} {conf} {tokens} {qs} {marks} {m} conf_is same tokens_are asked_are marks_are is =
    is ∙ ap (λ ms. meant_by ms tokens) (marks_are ∙ ap (λ x. spelled_marks (given x) conf.defines qs tokens.spelled) same)
    ∙ (λ i. meant_over (given t) conf (asked_are i) (tokens_are i))
    ∙ ap (meaning_by (given t)) conf_is
