-- An expression with what stands behind it or in front of it, if there is anything.
use Rattle.tree_data.specs.Trees.{Tree, Behinds, None_behind, Behind_then, Fronts, None_before, Front_then}

abbrev pub followed : (Tree → Behinds → Tree) → Tree → Behinds → Tree
followed make f None_behind = f
followed make f (Behind_then x xs) = make f (Behind_then x xs)

abbrev pub preceded : (Fronts → Tree → Tree) → Fronts → Tree → Tree
preceded make None_before t = t
preceded make (Front_then x xs) t = make (Front_then x xs) t
