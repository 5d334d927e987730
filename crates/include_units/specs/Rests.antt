-- What is left of what asks, when all that is answered was looked up.
use Rattle.std.specs.Prelude.{◌∷◌, Option, None, Some}
use Rattle.asking.specs.Asking.{Kind, Asking, Gives, Asks}
use Rattle.asking.specs.LookUps.{LookUp, found_all}

abbrev pub by_rest : {kind : Kind} {A : Type 0} {X : Type 0} → Asking kind A → (X → Asking kind A) → Option X → Asking kind A
by_rest whole next None = whole
by_rest whole next (Some answers) = next answers

abbrev pub rest_of : {kind : Kind} {A : Type 0} → LookUp kind → Asking kind A → Asking kind A
rest_of {kind} look (Gives x) = Gives x
rest_of {kind} look (Asks q more next) = by_rest (Asks q more next) (λ answers. rest_of look (next answers)) (found_all kind look (q ∷ more))
