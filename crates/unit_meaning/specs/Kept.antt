-- What is kept of names, so that it is found and not searched for.
use Rattle.std.specs.Prelude.{◌≡◌, ℕ, Bool, nat_eq, List, Option, is_some}
use Rattle.std.specs.Cmp.Lexicographic.{pointwise}
use Rattle.std.specs.HashMap.{HashMap, get}
use Rattle.std.specs.HashSet.{HashSet, contains}
use Rattle.scope_tables.specs.declared.entities.Occ.{Occ}
use Rattle.scope_tables.specs.declared.meanings.HeadMeaning.{HeadMeaning}
use Rattle.scope_tables.specs.declared.meanings.How.{How}
use Rattle.tok_data.specs.declared.sources.TokId.{TokId}
use Rattle.unit_meaning.specs.Exports.{defines, first_stated, first_token, is_refused, is_tentative, outside}
use Rattle.unit_meaning.specs.declared.statements.Asked.{Asked}
use Rattle.unit_meaning.specs.declared.statements.Asked.TheVariants as asked

abbrev pub asks : Asked → How → Bool
asks asked.Defined = defines
asks asked.Tentative = is_tentative
asks asked.Refused = is_refused

-- a map has a token at the name
unfoldable pub at : {S : Type 0} → HashMap (List ℕ) TokId S → List ℕ → Option TokId
at map name = get (pointwise nat_eq) map name

-- a set has the name
unfoldable pub has : {S : Type 0} → HashSet (List ℕ) S → List ℕ → Bool
has names name = contains (pointwise nat_eq) names name

-- what the names of a unit are asked from
pub record Named : Type 0 where
  pub occs : List Occ
  pub heads : List HeadMeaning

-- what is kept says of each name what the unit says
pub record AreKept (named : Named) (tokens definitions tentatives refusals : List ℕ → Option TokId) (outsides : List ℕ → Bool) : Type 0 where
  pub firsts : (q : List ℕ) → tokens q ≡ first_token q named.occs
  pub defined : (q : List ℕ) → definitions q ≡ first_stated defines q named.heads
  pub tentative : (q : List ℕ) → tentatives q ≡ first_stated is_tentative q named.heads
  pub refused : (q : List ℕ) → refusals q ≡ first_stated is_refused q named.heads
  pub outsiders : (q : List ℕ) → outsides q ≡ is_some (outside q named.heads)
