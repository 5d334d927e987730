-- Unique reading by places, of whole lists of tokens, and of what stands in a list of tokens.
use Rattle.std.proofs.Common.{◌≡◌, refl, ℕ, ◌+◌, ◌≤◌, List, [], ◌∷◌, length, arith}
use Rattle.tree_data.specs.Trees.{Tree, Behind, Behinds, Front, Braces, Initial, Designator, Association}
use Rattle.c_parser.specs.declared.kinds.Kind.{Kind}
use Rattle.c_parser.specs.declared.kinds.Kind.TheVariants.{End}
use Rattle.c_parser.specs.Grammar.{IsExpression}
use Rattle.c_parser.specs.Kinds.{kind_at}
use Rattle.c_parser.specs.Reading.{Reads, Stops, HoldsBehind, HoldBehinds, HoldsFront, HoldBraces, HoldsInitial, HoldsDesignator, HoldsAssociation}
use Rattle.c_parser.proofs.OneReading as by
use Rattle.c_parser.proofs.SameParts.{Only, OnlyBehind, OnlyBehinds, OnlyFront, OnlyBraces}
use Rattle.c_parser.proofs.Marks.{stops_at}
use Rattle.c_parser.proofs.Spans.{expression_reads}
use Rattle.c_parser.proofs.TypeReading.{everywhere}

pub reads_only : (ks : List Kind) → (n : ℕ) → (t : Tree) → (a b : ℕ) → 1 ≤ n → Reads ks n t a b → Stops ks n b → Only ks n a t b
reads_only ks n t a b = by.placed_only ks n t a b (everywhere ks a)

pub behind_only : (ks : List Kind) → (l : ℕ) → (x : Behind) → (a m : ℕ) → HoldsBehind ks l x a m → Stops ks (l + 1) m → OnlyBehind ks l a x m
behind_only ks l x a m = by.behind_only ks l x a m (everywhere ks a)

pub behinds_only : (ks : List Kind) → (l : ℕ) → (xs : Behinds) → (a b : ℕ) → HoldBehinds ks l xs a b → Stops ks l b → OnlyBehinds ks l a xs b
behinds_only ks l xs a b = by.behinds_only ks l xs a b (everywhere ks a)

pub front_only : (ks : List Kind) → (l : ℕ) → (x : Front) → (a m : ℕ) → HoldsFront ks l x a m → OnlyFront ks l a x m
front_only ks l x a m = by.front_only ks l x a m (everywhere ks a)

pub braces_only : (ks : List Kind) → (x : Braces) → (a b : ℕ) → HoldBraces ks x a b → OnlyBraces ks a x b
braces_only ks x a b = by.braces_only ks x a b (everywhere ks a)

pub initial_only : (ks : List Kind) → (x : Initial) → (a b : ℕ) → HoldsInitial ks x a b → Stops ks 2 b
    → (x' : Initial) → (b' : ℕ) → HoldsInitial ks x' a b' → Stops ks 2 b' → (x ≡ x') × (b ≡ b')
initial_only ks x a b = by.initial_only ks x a b (everywhere ks a)

pub designator_only : (ks : List Kind) → (x : Designator) → (a b : ℕ) → HoldsDesignator ks x a b
    → (x' : Designator) → (b' : ℕ) → HoldsDesignator ks x' a b' → (x ≡ x') × (b ≡ b')
designator_only ks x a b = by.designator_only ks x a b (everywhere ks a)

pub association_only : (ks : List Kind) → (x : Association) → (a b : ℕ) → HoldsAssociation ks x a b → Stops ks 2 b
    → (x' : Association) → (b' : ℕ) → HoldsAssociation ks x' a b' → Stops ks 2 b' → (x ≡ x') × (b ≡ b')
association_only ks x a b = by.association_only ks x a b (everywhere ks a)

pub past_end : (ks : List Kind) → kind_at ks (length ks) ≡ End
past_end [] = refl
past_end (k ∷ ks) = past_end ks

pub stops_at_end : (ks : List Kind) → Stops ks 1 (length ks)
stops_at_end ks = stops_at ks 1 (length ks) End (past_end ks) (omega arith)

pub unique : (ks : List Kind) → (t u : Tree) → IsExpression ks t → IsExpression ks u → t ≡ u
unique ks t u x y =
    (reads_only ks 1 t 0 (length ks) (omega arith) (expression_reads ks t x) (stops_at_end ks)
    u (length ks) (expression_reads ks u y) (stops_at_end ks)).0
