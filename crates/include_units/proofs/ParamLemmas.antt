-- A name is among those of the parameters.
use Rattle.std.proofs.Common.{◌≡◌, refl, ap, ◌∙◌, ℕ, List, [], ◌∷◌, ◌||◌, map, Option, None, Some, bytes_eq}
use Rattle.tok_data.specs.declared.tokens.OutToken.{OutToken}
use Rattle.include_units.specs.Definitions.{is_token_of, is_param_of}
use Rattle.include_units.specs.Names.{is_one_of}
use Rattle.include_units.specs.Params.{param_names}

token_named : (ts : List OutToken) (name : List ℕ) → is_one_of (map (λ t. t.spelling) ts) name ≡ is_token_of ts name
token_named [] name = refl
token_named (t ∷ ts) name = ap (λ b. bytes_eq t.spelling name || b) (token_named ts name)

pub param_named : (params : Option (List OutToken)) (names : List (List ℕ)) (name : List ℕ) → names ≡ param_names params → is_one_of names name ≡ is_param_of params name
param_named None names name e = ap (λ ns. is_one_of ns name) e
param_named (Some ts) names name e = ap (λ ns. is_one_of ns name) e ∙ token_named ts name
