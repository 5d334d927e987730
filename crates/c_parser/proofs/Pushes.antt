-- The turns of the loops, as the code's lists grow.
use Rattle.std.proofs.Common.{◌≡◌, ap, sym, ◌∙◌, subst, ℕ, ◌+◌, ◌<◌, List, [], ◌∷◌, ◌++◌, length, map, true}
use Rattle.std.proofs.lemmas.List.{map-append}
use Rattle.tree_data.specs.declared.expr.Expr.{Expr}
use Rattle.tree_data.specs.declared.parts.Suffix.{Suffix}
use Rattle.tree_data.specs.declared.parts.Choice.{Choice}
use Rattle.tree_data.specs.Seen.{tree_of, behind_of, front_of, piece_of, designator_of, operands_of, suffixes_of, choices_of, lefts_of, prefix_of, prefixes_of, pieces_of, designators_of, association_of, associations_of}
use Rattle.tree_data.specs.declared.inits.Piece.{Piece}
use Rattle.tree_data.specs.declared.selections.Association.{Association}
use Rattle.tree_data.specs.declared.inits.Designator.{Designator}
use Rattle.tree_data.specs.declared.types.Prefix.{Prefix}
use Rattle.tree_data.specs.Trees.{Tree, Operand_of, Choice_of, operand, left, is_unary}
use Rattle.c_parser.specs.declared.kinds.Kind.{Kind}
use Rattle.c_parser.specs.declared.kinds.Kind.TheVariants.{Question, Colon, CloseBrace, Comma}
use Rattle.c_parser.specs.Kinds.{kind_at, level_at, is_designating}
use Rattle.c_parser.specs.Levels.{IsBinary}
use Rattle.c_parser.specs.Reading.{Found, FoundBehind, FoundFront, FoundPiece, FoundDesignator, FoundAssociation}
use Rattle.c_parser.proofs.Fronts.{Fore, fore_turns, tests_turn, places_turn}
use Rattle.c_parser.proofs.Generics.{Choices, choices_turn, OnlyAssociation, Steps, steps_turn}
use Rattle.c_parser.proofs.Initials.{Row, row_turns, OnlyPiece, Path, path_turns, OnlyDesignator}
use Rattle.c_parser.proofs.Parsing.{Loop, loop_turns, operand_found}

abbrev pairs : List (ℕ × Expr) → List (ℕ × Tree)
pairs items = map (λ p. (p.0, tree_of p.1)) items

abbrev places : List (Expr × ℕ) → List (Tree × ℕ)
places items = map (λ p. (tree_of p.0, p.1)) items

pub operands_push : (ks : List Kind) → (l start : ℕ) → (items more : List (ℕ × Expr)) → (at : ℕ) → (e : Expr) → (m : ℕ) → IsBinary l
    → Loop ks l start (operands_of items) at → level_at ks at ≡ l → Found ks (l + 1) (at + 1) (tree_of e) m
    → more ≡ items ++ (at, e) ∷ [] → Loop ks l start (operands_of more) m
operands_push ks l start items more at e m i loop same found grown =
    subst
    (λ xs. Loop ks l start xs m)
    (sym
    (ap operands_of grown
    ∙ ap (λ ps. map operand ps) (map-append (λ p. (p.0, tree_of p.1)) items ((at, e) ∷ []))
    ∙ map-append operand (pairs items) ((at, tree_of e) ∷ [])))
    (loop_turns ks l start (operands_of items) at (Operand_of at (tree_of e)) m loop same (operand_found ks l at i (tree_of e) m same found))

pub suffixes_push : (ks : List Kind) → (start : ℕ) → (items more : List Suffix) → (at : ℕ) → (s : Suffix) → (m : ℕ)
    → Loop ks 16 start (suffixes_of items) at → level_at ks at ≡ 16 → FoundBehind ks 16 at (behind_of s) m
    → more ≡ items ++ s ∷ [] → Loop ks 16 start (suffixes_of more) m
suffixes_push ks start items more at s m loop same found grown =
    subst
    (λ xs. Loop ks 16 start xs m)
    (sym (ap suffixes_of grown ∙ map-append behind_of items (s ∷ [])))
    (loop_turns ks 16 start (suffixes_of items) at (behind_of s) m loop same found)

pub choices_push : (ks : List Kind) → (start : ℕ) → (items more : List Choice) → (at : ℕ) → (x : Choice) → (test : Tree) → (q : ℕ)
    → (middle : Tree) → (c : ℕ) → Fore ks 3 start (choices_of items) at → Found ks 4 at test q → kind_at ks q ≡ Question
    → Found ks 1 (q + 1) middle c → kind_at ks c ≡ Colon → c < length ks → front_of x ≡ Choice_of test q middle c
    → more ≡ items ++ x ∷ [] → Fore ks 3 start (choices_of more) (c + 1)
choices_push ks start items more at x test q middle c loop found k found' l i is grown =
    subst
    (λ xs. Fore ks 3 start xs (c + 1))
    (sym (ap choices_of grown ∙ map-append front_of items (x ∷ []) ∙ ap (λ y. choices_of items ++ y ∷ []) is))
    (tests_turn ks start (choices_of items) at test q middle c loop found k found' l i)

pub places_push : (ks : List Kind) → (start : ℕ) → (items more : List (Expr × ℕ)) → (at : ℕ) → (e : Expr) → (o : ℕ)
    → Fore ks 2 start (lefts_of items) at → Found ks 3 at (tree_of e) o → level_at ks o ≡ 2 → is_unary (tree_of e) ≡ true
    → o < length ks → more ≡ items ++ (e, o) ∷ [] → Fore ks 2 start (lefts_of more) (o + 1)
places_push ks start items more at e o loop found k is i grown =
    subst
    (λ xs. Fore ks 2 start xs (o + 1))
    (sym
    (ap lefts_of grown
    ∙ ap (λ ps. map left ps) (map-append (λ p. (tree_of p.0, p.1)) items ((e, o) ∷ []))
    ∙ map-append left (places items) ((tree_of e, o) ∷ [])))
    (places_turn ks start (lefts_of items) at (tree_of e) o loop found k is i)

pub prefixes_push : (ks : List Kind) → (start : ℕ) → (items more : List Prefix) → (at : ℕ) → (p : Prefix) → (m : ℕ)
    → Fore ks 15 start (prefixes_of items) at → FoundFront ks 15 at (prefix_of p) m
    → more ≡ items ++ p ∷ [] → Fore ks 15 start (prefixes_of more) m
prefixes_push ks start items more at p m loop found grown =
    subst
    (λ xs. Fore ks 15 start xs m)
    (sym (ap prefixes_of grown ∙ map-append prefix_of items (p ∷ [])))
    (fore_turns ks 15 start (prefixes_of items) at (prefix_of p) m loop found)

pub pieces_push : (ks : List Kind) → (start : ℕ) → (items more : List (ℕ × Piece)) → (at : ℕ) → (p : Piece) → (m : ℕ)
    → Row ks start (pieces_of items) at → kind_at ks at ≡ Comma → (after : Kind) → after ≡ kind_at ks (at + 1) → (after ≡ CloseBrace → ⊥)
    → FoundPiece ks (at + 1) (piece_of p) m → OnlyPiece ks (at + 1) (piece_of p) m
    → more ≡ items ++ (at, p) ∷ [] → Row ks start (pieces_of more) m
pieces_push ks start items more at p m row q after e n found only grown =
    subst
    (λ xs. Row ks start xs m)
    (sym (ap pieces_of grown ∙ map-append (λ x. (x.0, piece_of x.1)) items ((at, p) ∷ [])))
    (row_turns ks start (pieces_of items) at (piece_of p) m row q after e n found only)

pub designators_push : (ks : List Kind) → (start : ℕ) → (items more : List Designator) → (at : ℕ) → (d : Designator) → (m : ℕ)
    → Path ks start (designators_of items) at → is_designating (kind_at ks at) ≡ true → FoundDesignator ks at (designator_of d) m
    → OnlyDesignator ks at (designator_of d) m → more ≡ items ++ d ∷ [] → Path ks start (designators_of more) m
designators_push ks start items more at d m path k found only grown =
    subst
    (λ xs. Path ks start xs m)
    (sym (ap designators_of grown ∙ map-append designator_of items (d ∷ [])))
    (path_turns ks start (designators_of items) at (designator_of d) m path k found only)

pub associations_push : (ks : List Kind) → (start : ℕ) → (items more : List (ℕ × Association)) → (at : ℕ) → (x : Association) → (m : ℕ)
    → Choices ks start (associations_of items) at → kind_at ks at ≡ Comma → FoundAssociation ks (at + 1) (association_of x) m
    → OnlyAssociation ks (at + 1) (association_of x) m → more ≡ items ++ (at, x) ∷ [] → Choices ks start (associations_of more) m
associations_push ks start items more at x m loop q found only grown =
    subst
    (λ xs. Choices ks start xs m)
    (sym (ap associations_of grown ∙ map-append (λ y. (y.0, association_of y.1)) items ((at, x) ∷ [])))
    (choices_turn ks start (associations_of items) at (association_of x) m loop q found only)

pub steps_push : (ks : List Kind) → (start : ℕ) → (items more : List Suffix) → (at : ℕ) → (s : Suffix) → (m : ℕ)
    → Steps ks start (suffixes_of items) at → is_designating (kind_at ks at) ≡ true → FoundBehind ks 16 at (behind_of s) m
    → more ≡ items ++ s ∷ [] → Steps ks start (suffixes_of more) m
steps_push ks start items more at s m loop d found grown =
    subst
    (λ xs. Steps ks start xs m)
    (sym (ap suffixes_of grown ∙ map-append behind_of items (s ∷ [])))
    (steps_turn ks start (suffixes_of items) at (behind_of s) m loop d found)
