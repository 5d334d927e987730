-- What is kept of views for look-ups, and what a rename that isn't refused leaves as it was.
use Rattle.std.specs.Prelude.{◌≡◌, ℕ, Bool, true, false, not, List, map, Option, Some, None, option_map}
use Rattle.std.specs.HashMap.{HashMap, get}
use denote.Ref.{Bor}
use Rattle.tok_data.specs.declared.sources.TokId.{TokId}
use Rattle.tok_data.specs.declared.tokens.PpKind.{PpKind}
use Rattle.scope_tables.specs.declared.entities.Occ.{Occ}
use Rattle.rename_core.specs.declared.class.Plan.{Plan}
use Rattle.rename_core.specs.Classes.{Has}
use Rattle.rename_core.specs.Clashes.{moved, same_kinds, other_since}
use Rattle.rename_core.specs.Occurrences.{in_class}
use Rattle.rename_core.specs.Views.{View, same_text, kinds_in, occs_in}

-- what a map has at a text or at the path of a unit
unfoldable pub at : {A S : Type 0} → HashMap (List ℕ) (Bor (List A)) S → List ℕ → Option (List A)
at map q = option_map (λ k. k.now) (get same_text map q)

abbrev pub other_kinds_at : (List ℕ → Option (List PpKind)) → (List ℕ → Option (List PpKind)) → TokId → Bool
other_kinds_at before after t = not (same_kinds (before t.file) (after t.file))

-- the text that is known, where there is one
abbrev pub is_text : Option (List ℕ) → List ℕ → Bool
is_text None file = false
is_text (Some known) file = same_text known file

abbrev pub other_at : Plan → (List ℕ → Option (List Occ)) → View → Option TokId
other_at p after v = other_since p v.occs (after v.path)

-- Each text of the class has tokens of the same kinds, and as many. In every unit of which a view was made after the edit the same
-- tokens denote, in the same order and roles, what they denoted, an External name of the class being now the new one.
pub record IsKept (p : Plan) (before after : List View) : Type 0 where
  pub kinds : (t : TokId) → in_class p.class.toks t ≡ true → kinds_in after t.file ≡ kinds_in before t.file
  pub bindings : (v : View) (qs : List Occ) → Has before v → occs_in after v.path ≡ Some qs → qs ≡ map (moved p) v.occs
