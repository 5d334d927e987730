-- The elements of an array, as its value is seen.
use Rattle.std.proofs.Common.{◌≡◌, List, [], ◌∷◌, refl, ap}
use Rattle.serde_json.specs.Data.{Data}
use Rattle.serde_json.specs.View.{items_of}
use Rattle.json_view.specs.Kinds.{list_of}

pub elements_viewed : (ds : List Data) → list_of (items_of ds) ≡ ds
elements_viewed [] = refl
elements_viewed (d ∷ ds) = ap (λ more. d ∷ more) (elements_viewed ds)
