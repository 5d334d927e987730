-- The texts before a message and behind it.
use Rattle.std.specs.Prelude.{◌≡◌, ℕ, Bool, List, Some, refl}
use Rattle.std.specs.BTreeMap.{BTreeMap, get}
use Rattle.std.specs.Cmp.Lexicographic.{slice_cmp}
use Rattle.std.specs.Coded.{Coded, code_by, coded_ℕ, coded_list, coded_option, coded×}
use Rattle.std.specs.FinMap.{code}
use Rattle.std.specs.Ordering.{nat_cmp}
use Rattle.doc_texts.specs.Prior.{Prior, is_changed}
use Rattle.doc_texts.specs.Texts.{Texts, texts_code}
use Rattle.include_units.specs.Files.{Text}
use Rattle.plain_mean.specs.Lexing.{WereLexed}
use Rattle.plain_mean.specs.Marks.{is_marked}
use Rattle.plain_mean.specs.Renewed.{has_other_by}
use Rattle.plain_mean.specs.declared.lexings.KeptLexings.{KeptLexings}
use Rattle.plain_mean.specs.declared.marks.Marks.{Marks}

pub record Changing : Type 0 where
  -- what is kept of before
  pub prior : Prior
  pub now : Texts

abbrev pub changing_code : Coded Changing
changing_code =
    code_by (Prior × Texts) (coded× (code (coded_list coded_ℕ) (coded_option (coded_list coded_ℕ))) texts_code) (λ c. (c.prior, c.now)) (λ p. record { prior = p.0; now = p.1 }) (λ _. refl)

-- The changed paths are marked, what is kept is what lexing gave of texts before, and what was compared was found to be so.
pub record AreCompared (prior : Prior) (now : Texts) (marks : Marks) (kept : KeptLexings) (compared : BTreeMap (List ℕ) Bool) : Type 0 where
  pub changed : (path : List ℕ) → is_marked marks path ≡ is_changed prior now path
  pub before : WereLexed prior now kept
  pub others : (path : List ℕ) (other : Bool) → get (slice_cmp nat_cmp) compared path ≡ Some other → other ≡ has_other_by prior now (Text path)
