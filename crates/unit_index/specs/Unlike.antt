-- Where two lists of a unit's names are alike: ahead of some, and behind them.
use Rattle.std.specs.Prelude.{◌≡◌, ℕ, List, ◌++◌, length, map}
use Rattle.scope_tables.specs.declared.units.Exports.{Exports}
use Rattle.unit_index.specs.Crossing.{Seen, seen}
use Rattle.unit_index.specs.News.{Known}

-- they are left of two lists that begin alike
pub record AreBehind (before now gone come : List Seen) : Type 0 where
  pub ahead : List Seen
  pub left : before ≡ ahead ++ gone
  pub right : now ≡ ahead ++ come

-- they are left of two lists that end alike
pub record AreAhead (before now gone come : List Seen) : Type 0 where
  pub behind : List Seen
  pub left : before ≡ gone ++ behind
  pub right : now ≡ come ++ behind

-- these names of a unit were replaced by those, behind as many
pub record AreReplaced (s t : Exports) (front : ℕ) (gone come : List Seen) : Type 0 where
  pub ahead : List Seen
  pub behind : List Seen
  pub left : map seen s.names ≡ ahead ++ (gone ++ behind)
  pub right : map seen t.names ≡ ahead ++ (come ++ behind)
  pub known : Known s.tags t.tags ahead behind
  pub first : length ahead ≡ front
