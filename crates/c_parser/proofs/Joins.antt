-- A list that isn't empty has something in front or behind.
use Rattle.std.proofs.Common.{◌≡◌, refl, ℕ, List, [], ◌∷◌, length, ◌==◌, false, true≢false}
use Rattle.tree_data.specs.declared.expr.Expr.{Expr}
use Rattle.tree_data.specs.declared.parts.Suffix.{Suffix}
use Rattle.tree_data.specs.declared.parts.Choice.{Choice}
use Rattle.tree_data.specs.declared.types.Prefix.{Prefix}
use Rattle.tree_data.specs.Seen.{suffixes_of, operands_of, prefixes_of, choices_of, lefts_of}
use Rattle.tree_data.specs.Trees.{Tree, Behinds, None_behind, Fronts, None_before, behinds, fronts}
use Rattle.c_parser.specs.Joining.{followed, preceded}

pub some_suffixes : (make : Tree → Behinds → Tree) → (t : Tree) → (xs : List Suffix) → (length xs == 0) ≡ false
    → followed make t (behinds (suffixes_of xs) None_behind) ≡ make t (behinds (suffixes_of xs) None_behind)
some_suffixes make t [] h = absurd (true≢false h)
some_suffixes make t (x ∷ xs) h = refl

pub some_operands : (make : Tree → Behinds → Tree) → (t : Tree) → (xs : List (ℕ × Expr)) → (length xs == 0) ≡ false
    → followed make t (behinds (operands_of xs) None_behind) ≡ make t (behinds (operands_of xs) None_behind)
some_operands make t [] h = absurd (true≢false h)
some_operands make t (x ∷ xs) h = refl

pub some_prefixes : (make : Fronts → Tree → Tree) → (t : Tree) → (xs : List Prefix) → (length xs == 0) ≡ false
    → preceded make (fronts (prefixes_of xs) None_before) t ≡ make (fronts (prefixes_of xs) None_before) t
some_prefixes make t [] h = absurd (true≢false h)
some_prefixes make t (x ∷ xs) h = refl

pub some_choices : (make : Fronts → Tree → Tree) → (t : Tree) → (xs : List Choice) → (length xs == 0) ≡ false
    → preceded make (fronts (choices_of xs) None_before) t ≡ make (fronts (choices_of xs) None_before) t
some_choices make t [] h = absurd (true≢false h)
some_choices make t (x ∷ xs) h = refl

pub some_lefts : (make : Fronts → Tree → Tree) → (t : Tree) → (xs : List (Expr × ℕ)) → (length xs == 0) ≡ false
    → preceded make (fronts (lefts_of xs) None_before) t ≡ make (fronts (lefts_of xs) None_before) t
some_lefts make t [] h = absurd (true≢false h)
some_lefts make t (x ∷ xs) h = refl
