-- Whether a class with its new name leaves what each token is and denotes, and what the rename comes to.
use Rattle.std.specs.Prelude.{ℕ, Bool, true, false, not, ◌&&◌, List, [], ◌∷◌, Option, Some, None, Result, option_map, if◌then◌else◌}
use Rattle.std.specs.Cmp.Lexicographic.{pointwise}
use Rattle.std.specs.List.{find}
use Rattle.tok_data.specs.declared.sources.TokId.{TokId}
use Rattle.tok_data.specs.declared.tokens.PpKind.{PpKind}
use Rattle.tok_data.specs.contracts.tokens.PpKindPartialEq.TheImpl as kinds
use Rattle.scope_tables.specs.declared.entities.Anchor.{Anchor}
use Rattle.scope_tables.specs.declared.entities.Anchor.TheVariants.{External, Local, Made, Macro}
use Rattle.scope_tables.specs.declared.entities.Occ.{Occ}
use Rattle.scope_tables.specs.contracts.entities.RolePartialEq.TheImpl as roles
use Rattle.rename_core.specs.declared.confirming.Edits.{Edits}
use Rattle.rename_core.specs.declared.error.RenameError.{RenameError}
use Rattle.rename_core.specs.declared.error.RenameError.TheVariants.{ExternalTaken, Clash}
use Rattle.rename_core.specs.declared.class.Plan.{Plan}
use Rattle.scope_tables.specs.Occurrences.{same_tok, same_anchor}
use Rattle.rename_core.specs.Occurrences.{first_some}
use Rattle.rename_core.specs.Refusals.{first_of, outcome}
use Rattle.rename_core.specs.Views.{View, same_text, kinds_in, occs_in}

-- ---- the new name has external linkage in some unit already

abbrev pub names : List ℕ → Anchor → Bool
names name (External n) = same_text n name
names name (Local t) = false
names name (Made t n) = false
names name (Macro n) = false

abbrev pub is_named : List ℕ → Occ → Bool
is_named name o = names name o.anchor

abbrev pub named_in : List ℕ → View → Option TokId
named_in name v = option_map (λ o. o.tok) (find (is_named name) v.occs)

-- the class has an External name, and the new one is another
abbrev pub changes : Option (List ℕ) → List ℕ → Bool
changes None new = false
changes (Some old) new = not (same_text old new)

abbrev pub external_taken : Plan → List View → Option RenameError
external_taken p before = if changes p.class.external p.new_name then option_map ExternalTaken (first_some (named_in p.new_name) before) else None

-- ---- a text has other kinds of tokens, or another number of them

abbrev pub same_kind : PpKind → PpKind → Bool
same_kind a b = kinds.eq-value.it a b

abbrev pub same_kinds : Option (List PpKind) → Option (List PpKind) → Bool
same_kinds None None = true
same_kinds None (Some ls) = false
same_kinds (Some ks) None = false
same_kinds (Some ks) (Some ls) = pointwise same_kind ks ls

abbrev pub has_other_kinds : List View → List View → TokId → Bool
has_other_kinds before after t = not (same_kinds (kinds_in before t.file) (kinds_in after t.file))

-- the first token of the class in such a text
abbrev pub clash_of_kinds : Plan → List View → List View → Option RenameError
clash_of_kinds p before after = option_map Clash (find (has_other_kinds before after) p.class.toks)

-- ---- a token denotes something else in some unit

-- what is External by the old name is External by the new one, where the class has such a name
abbrev pub renamed : Option (List ℕ) → List ℕ → Anchor → Anchor
renamed None new a = a
renamed (Some old) new (External n) = if same_text n old then External new else External n
renamed (Some old) new (Local t) = Local t
renamed (Some old) new (Made t n) = Made t n
renamed (Some old) new (Macro n) = Macro n

abbrev pub moved : Plan → Occ → Occ
moved p o = record o { anchor = renamed p.class.external p.new_name o.anchor }

abbrev pub same_occ : Occ → Occ → Bool
same_occ o q = same_tok o.tok q.tok && (roles.eq-value.it o.role q.role && same_anchor o.anchor q.anchor)

abbrev pub first_tok : List Occ → Option TokId
first_tok [] = None
first_tok (q ∷ qs) = Some q.tok

-- the first place at which the occurrences differ: the token before the edit, or where that list has ended the one after it
abbrev pub first_other : Plan → List Occ → List Occ → Option TokId
first_other p [] qs = first_tok qs
first_other p (o ∷ os) [] = Some o.tok
first_other p (o ∷ os) (q ∷ qs) = if same_occ (moved p o) q then first_other p os qs else Some o.tok

-- a unit that has no view after the edit is as it was
abbrev pub other_since : Plan → List Occ → Option (List Occ) → Option TokId
other_since p os None = None
other_since p os (Some qs) = first_other p os qs

abbrev pub other_in : Plan → List View → View → Option TokId
other_in p after v = other_since p v.occs (occs_in after v.path)

abbrev pub clash_of_bindings : Plan → List View → List View → Option RenameError
clash_of_bindings p before after = option_map Clash (first_some (other_in p after) before)

-- ---- the first refusal that holds, in this order, or the tokens to edit

abbrev pub effect : Plan → List View → List View → Option RenameError
effect p before after = first_of (external_taken p before ∷ clash_of_kinds p before after ∷ clash_of_bindings p before after ∷ [])

abbrev pub confirmed : Plan → List View → List View → Result Edits RenameError
confirmed p before after = outcome (effect p before after) (record { toks = p.class.toks; new_name = p.new_name })
