-- The class of a token as a list: the tokens to which a chain of links leads from it, found by way of the tokens that there are. Two tokens are linked where
-- some unit gives them the same anchor, or two units the same External one.
use Rattle.std.specs.Prelude.{Bool, true, false, ◌&&◌, ◌||◌, List, [], ◌∷◌, flat_map, filter, if◌then◌else◌}
use Rattle.std.specs.List.{list_any}
use Rattle.tok_data.specs.declared.sources.TokId.{TokId}
use Rattle.scope_tables.specs.declared.entities.Anchor.{Anchor}
use Rattle.scope_tables.specs.declared.entities.Anchor.TheVariants.{External, Local, Made, Macro}
use Rattle.scope_tables.specs.declared.entities.Occ.{Occ}
use Rattle.scope_tables.specs.Occurrences.{counts}
use Rattle.rename_core.specs.Found.{in_order}
use Rattle.rename_core.specs.Occurrences.{anchors_at, denotes}

-- ---- links

abbrev pub is_external : Anchor → Bool
is_external (External name) = true
is_external (Local t) = false
is_external (Made t name) = false
is_external (Macro name) = false

-- the token has the anchor of a token of this unit
abbrev pub has_too : List (List Occ) → List Occ → TokId → Anchor → Bool
has_too us os r a = denotes os r a || (is_external a && list_any (λ ps. denotes ps r a) us)

abbrev pub are_linked : List (List Occ) → TokId → TokId → Bool
are_linked us s r = list_any (λ os. list_any (has_too us os r) (anchors_at s os)) us

-- the tokens that denote something
abbrev pub toks_in : List Occ → List TokId
toks_in [] = []
toks_in (o ∷ os) = if counts o.role then o.tok ∷ toks_in os else toks_in os

abbrev pub toks_of : List (List Occ) → List TokId
toks_of us = flat_map toks_in us

-- ---- chains

-- a chain of links leads from a token to another one by way of these alone: it goes by the first of them, or it doesn't
unfoldable pub leads : List (List Occ) → List TokId → TokId → TokId → Bool
leads us [] t s = are_linked us t s
leads us (x ∷ via) t s = leads us via t s || (leads us via t x && leads us via x s)

-- the class, by the names of its texts and by number
unfoldable pub class_toks : List (List Occ) → TokId → List TokId
class_toks us t = in_order (filter (leads us (toks_of us) t) (toks_of us))
