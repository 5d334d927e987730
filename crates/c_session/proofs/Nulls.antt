-- An answer is null exactly where no place is left.
use Rattle.std.proofs.Common.{◌≡◌, List, [], ◌∷◌, length, refl, sym, ap, ◌∙◌, arith}
use Rattle.lsp_answers.specs.Located.{listed, location_data}
use Rattle.lsp_answers.specs.declared.located.Located.{Located}
use Rattle.serde_json.specs.Data.{null}
use Rattle.c_session.specs.Definition.{or_null}

pub some_is : (all : List Located) (t : Located) (ts : List Located) → all ≡ t ∷ ts → or_null all ≡ listed location_data all
some_is all t ts is = ap or_null is ∙ sym (ap (listed location_data) is)

pub none_is : (all : List Located) → length all ≡ 0 → or_null all ≡ null
none_is [] e = refl
none_is (t ∷ ts) e = let bad : ⊥ = omega (arith, e) in absurd bad
