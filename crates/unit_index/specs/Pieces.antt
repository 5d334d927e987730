-- What is kept of some occurrences, so that what they say of a token or an anchor is found and not searched for.
use Rattle.std.specs.Prelude.{◌≡◌, ℕ, ◌+◌, Bool, nat_lt, List, length, drop, map, if◌then◌else◌}
use Rattle.std.specs.List.{list_any, prefix_len}
use Rattle.scope_tables.specs.declared.entities.Occ.{Occ}
use Rattle.scope_tables.specs.declared.units.UnitMeaning.{UnitMeaning}
use Rattle.unit_index.specs.Codes.{by_token, by_anchor}
use Rattle.unit_index.specs.Files.{introduces_in}
use Rattle.unit_index.specs.Groups.{same_file}

pub record IsPiece (occs : List Occ) (token_codes anchor_codes : List ℕ) (in_file : List ℕ → Bool) : Type 0 where
  pub tokens : token_codes ≡ map by_token occs
  pub anchors : anchor_codes ≡ map by_anchor occs
  pub files : (f : List ℕ) → in_file f ≡ list_any (introduces_in f) occs

-- what a unit means, with its occurrences from elsewhere
abbrev pub with_occs : List Occ → UnitMeaning → UnitMeaning
with_occs os m = record m { occs = os }

-- how many occurrences at the front stand in a text
abbrev pub run_of : List ℕ → List Occ → ℕ
run_of f os = prefix_len (λ o. same_file o.tok.file f) os

-- how many go into one piece with one of a text in front of them: 64 of any text, and those of the text that follow
abbrev pub run : List ℕ → List Occ → ℕ
run f os = if nat_lt (length os) 64 then length os else 64 + run_of f (drop 64 os)
