-- Where a loop over the elements of an array stops: at the first one that is refused.
use Rattle.std.proofs.Common.{◌≡◌, ◌≢◌, ◌<◌, ℕ, suc, List, ◌∷◌, ◌++◌, length, map, drop, get_or, Result, Ok, Err, sym, ◌∙◌, refl, drop-cons}
use Rattle.serde_json.specs.Data.{Data}
use Rattle.json_view.specs.Refusals.{Refusal, NoMemory, and_then}
use Rattle.c_session.specs.Params.{each_in}

pub each_refused : {T V : Type 0} (see : V → Data) (read : Data → Result T Refusal) (vs : List V) (i : ℕ) (v : V) (made : List T) (e : Refusal)
    → i < length vs
    → v ≡ get_or vs i v
    → each_in read (map see vs) ≡ and_then (each_in read (map see (drop i vs))) (λ more. Ok (made ++ more))
    → (◌≢◌ {A = Result T Refusal} (Err e) (Err NoMemory) → Err e ≡ read (see v))
    → ◌≢◌ {A = Result (List T) Refusal} (Err e) (Err NoMemory)
    → Err e ≡ each_in read (map see vs)
each_refused see read vs i v made e below at left refused unlike =
    let turned : drop i vs ≡ v ∷ drop (suc i) vs = drop-cons vs i v below ∙ cc in
    let here : read (see v) ≡ Err e = sym (refused (λ same. unlike cc)) in
    rw (left, turned, here) refl
