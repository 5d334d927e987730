-- What the code finds of a class, by lists that it keeps of tokens and of what they denote.
use Rattle.std.specs.Prelude.{ℕ, ◌+◌, ◌==◌, Bool, ◌&&◌, List, [], ◌∷◌, Option, Some, None, option_map, if◌then◌else◌}
use Rattle.std.specs.List.{find, list_any}
use Rattle.std.specs.HashSet.{HashSet, contains}
use Rattle.std.specs.BTreeSet.{insert_key}
use Rattle.tok_data.specs.declared.sources.TokId.{TokId}
use Rattle.scope_tables.specs.declared.entities.Anchor.{Anchor}
use Rattle.scope_tables.specs.declared.entities.Occ.{Occ}
use Rattle.rename_core.specs.declared.class.TwoMeanings.{TwoMeanings}
use Rattle.rename_core.specs.declared.mentions.Told.{Told}
use Rattle.rename_core.specs.declared.mentions.Denoted.{Denoted}
use Rattle.rename_core.specs.Classes.{tok_cmp}
use Rattle.rename_core.specs.Mentions.{same_denoted, denoted_in}
use Rattle.scope_tables.specs.Occurrences.{same_tok, same_anchor}
use Rattle.rename_core.specs.Occurrences.{or_later, first_some}
use Rattle.rename_core.specs.Showing.{external_name, is_pasted}

-- ---- in order

abbrev pub put_all : List TokId → List TokId → List TokId
put_all kept [] = kept
put_all kept (t ∷ ts) = put_all (insert_key tok_cmp kept t) ts

abbrev pub in_order : List TokId → List TokId
in_order ts = put_all [] ts

-- ---- two anchors in one unit, by what is told of a token unit by unit

abbrev pub other_told : Told → List Told → Option (Anchor × Anchor)
other_told one [] = None
other_told one (x ∷ xs) = if x.unit == one.unit then (if same_anchor one.anchor x.anchor then other_told one xs else Some (one.anchor, x.anchor)) else other_told x xs

abbrev pub two_told : List Told → Option (Anchor × Anchor)
two_told [] = None
two_told (x ∷ xs) = other_told x xs

abbrev pub meanings_told : TokId → List Told → Option TwoMeanings
meanings_told t told = option_map (λ p. record { tok = t; first = p.0; second = p.1 }) (two_told told)

-- ---- a name

abbrev pub name_told : List Told → Option (List ℕ)
name_told told = first_some (λ x. external_name x.anchor) told

-- ---- marks

unfoldable pub has_tok : {S : Type 0} → HashSet TokId S → TokId → Bool
has_tok set q = contains same_tok set q

abbrev pub is_pasted_as : ℕ → List Denoted → Occ → Bool
is_pasted_as i ds o = is_pasted o.role && list_any (same_denoted (denoted_in i o.anchor)) ds

abbrev pub pasted_at : ℕ → List Denoted → List Occ → Option TokId
pasted_at i ds os = option_map (λ o. o.tok) (find (is_pasted_as i ds) os)

abbrev pub pasted_from : ℕ → List Denoted → List (List Occ) → Option TokId
pasted_from i ds [] = None
pasted_from i ds (os ∷ us) = or_later (pasted_at i ds os) (pasted_from (i + 1) ds us)
