-- What is known of the units and of their texts before or after an edit.
use Rattle.std.specs.Prelude.{ℕ, Bool, nat_eq, List, [], ◌∷◌, Option, Some, None, if◌then◌else◌}
use Rattle.std.specs.Cmp.Lexicographic.{pointwise}
use Rattle.tok_data.specs.declared.tokens.PpKind.{PpKind}
use Rattle.scope_tables.specs.declared.entities.Occ.{Occ}
use Rattle.rename_core.specs.declared.views.FileKinds.{FileKinds}
use Rattle.rename_core.specs.Occurrences.{first_some}

-- a unit: its path, the kinds of the tokens of some texts, and its occurrences
pub record View : Type 0 where
  pub path : List ℕ
  pub kinds : List FileKinds
  pub occs : List Occ

abbrev pub same_text : List ℕ → List ℕ → Bool
same_text a b = pointwise nat_eq a b

abbrev pub kinds_of : List ℕ → List FileKinds → Option (List PpKind)
kinds_of file [] = None
kinds_of file (k ∷ ks) = if same_text file k.file then Some k.kinds else kinds_of file ks

-- the kinds of a text's tokens, by the first view that tells them
abbrev pub kinds_in : List View → List ℕ → Option (List PpKind)
kinds_in views file = first_some (λ v. kinds_of file v.kinds) views

-- the occurrences of the unit with this path
abbrev pub occs_in : List View → List ℕ → Option (List Occ)
occs_in [] path = None
occs_in (v ∷ vs) path = if same_text path v.path then Some v.occs else occs_in vs path
