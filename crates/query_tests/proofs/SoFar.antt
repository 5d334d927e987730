-- What was demanded so far of a list of keys.
use Rattle.std.proofs.Common.{◌≡◌, ℕ, true, false, List, [], ◌∷◌, ◌++◌, Some, None, refl, ap, sym, ◌∙◌, subst, append_assoc, append-nil}
use Rattle.std.specs.Option.{option_map_or}
use Rattle.query_core.specs.Lists.{Each}
use Rattle.query_core.specs.Queries.{Queries}
use Rattle.query_core.specs.Graph.{Held, at, is_current, is_verified}
use Rattle.query_core.specs.Soundness.{IsSound, IsUnswept}
use Rattle.query_core.specs.Changes.{IsHolding, Walked}
use Rattle.query_core.specs.Laws.{Demanded, DemandsBegin, DemandsGoOn, VerifiedOn}

each_push : {X : Type 0} (P Q : X → Type 0) → ((x : X) → P x → Q x) → (xs : List X) (x : X) → Each P xs → Q x → Each Q (xs ++ x ∷ [])
each_push P Q f [] x e p = (p, tt)
each_push P Q f (y ∷ xs) x e p = (f y e.0, each_push P Q f xs x e.1 p)

module _ {K V : Type 0} (q : Queries K V) (g0 : Held K V) (roots : List K) where
  -- the keys before the rest were demanded, and are verified now
  pub record SoFar (g : Held K V) (rest : List K) : Type 0 where
    pub done : List K
    pub all : done ++ rest ≡ roots
    pub demanded : Demanded q g0 done g
    pub verified : Each (λ k. is_verified q g k ≡ true) done

  pub begins : DemandsBegin q → IsSound q g0 → IsUnswept q g0 → SoFar g0 roots
  begins law sound unswept = record { done = []; all = refl; demanded = law g0 sound unswept; verified = tt }

  held_verified : (g g' : Held K V) (key : K) (node : ℕ) → IsHolding q g g' key node → is_verified q g' key ≡ true
  held_verified g g' key node h =
      ap (λ o. option_map_or (is_current q g') (option_map_or (at g') o None) false) h.1.0 ∙ ap (λ o. option_map_or (is_current q g') o false) h.1.1 ∙ h.1.3

  pub turns : DemandsGoOn q → VerifiedOn q → IsSound q g0 → (g g' : Held K V) (root key : K) (rest behind : List K) (node : ℕ) → SoFar g rest → rest ≡ root ∷ behind → key ≡ root → Walked q g key g'
      → IsHolding q g g' key node → SoFar g' behind
  turns goes_on stays sound g g' root key rest behind node s e same walked holds = record {
    done = s.done ++ key ∷ [];
    all = append_assoc s.done (key ∷ []) behind ∙ ap (λ k. s.done ++ k ∷ behind) same ∙ ap (λ l. s.done ++ l) (sym e) ∙ s.all;
    demanded = goes_on g0 g g' s.done key sound s.demanded walked;
    verified = each_push (λ k. is_verified q g k ≡ true) (λ k. is_verified q g' k ≡ true) (stays g g' key s.demanded.sound walked) s.done key s.verified (held_verified g g' key node holds);
  }

  all_done : (g : Held K V) (rest : List K) (s : SoFar g rest) → rest ≡ [] → s.done ≡ roots
  all_done g rest s e = sym (append-nil s.done) ∙ ap (λ l. s.done ++ l) (sym e) ∙ s.all

  pub ends : (g : Held K V) (rest : List K) → SoFar g rest → rest ≡ [] → Demanded q g0 roots g
  ends g rest s e = subst (λ l. Demanded q g0 l g) (all_done g rest s e) s.demanded

  pub ends_verified : (g : Held K V) (rest : List K) → SoFar g rest → rest ≡ [] → Each (λ k. is_verified q g k ≡ true) roots
  ends_verified g rest s e = subst (Each (λ k. is_verified q g k ≡ true)) (all_done g rest s e) s.verified
