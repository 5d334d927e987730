-- Where the names are after the places of one name space have changed at one name.
use Rattle.std.proofs.Common.{rules, ◌≡◌, ℕ, Bool, true, false, cond, List, String, Option, None, Some, refl, sym, ap, ◌∙◌}
use Rattle.std.specs.Prelude.{◌&&◌, if◌then◌else◌}
use Rattle.std.specs.Bool.{Decides}
use Rattle.std.specs.HashMap.{HashMap, get, get_by_text}
use Rattle.std.specs.Map.{update}
use Rattle.std.specs.Str.{bytes_eq}
use Rattle.type_data.specs.declared.members.Space.{Space}
use Rattle.type_data.specs.contracts.members.SpacePartialEq.TheImpl as spaces
use Rattle.scope_tables.specs.Places.{is_key, place_in}

pub space_decides : (a b : Space) → Decides (spaces.eq-value.it a b) (a ≡ b)
space_decides a b = search rules

-- the place of a name among those of its name space, which may be missing
abbrev pub placed_in : {A S : Type 0} → Option (HashMap (String A) ℕ S) → List ℕ → Option ℕ
placed_in places q = place_in places (λ ps. get_by_text ps q)

module _ {A S T : Type 0} where
  abbrev pub IsPutAt : Space → List ℕ → Option ℕ → HashMap Space (HashMap (String A) ℕ S) T → HashMap Space (HashMap (String A) ℕ S) T → Type 0
  IsPutAt space name place m n = (s : Space) (q : List ℕ)
      → placed_in (get spaces.eq-value.it n s) q ≡ (if is_key space name s q then place else placed_in (get spaces.eq-value.it m s) q)

  pub is_put : (space : Space) (name : List ℕ) (place : Option ℕ) (m n : HashMap Space (HashMap (String A) ℕ S) T) (w : HashMap (String A) ℕ S)
      → ((s : Space) → get spaces.eq-value.it n s ≡ cond (spaces.eq-value.it space s) (Some w) (get spaces.eq-value.it m s))
      → ((q : List ℕ) → get_by_text w q ≡ update bytes_eq (placed_in (get spaces.eq-value.it m space)) name place q)
      → IsPutAt space name place m n
  unfolding is_key
  is_put space name place m n w updates within s q = step (spaces.eq-value.it space s) refl
    where
      step : (t : Bool) → spaces.eq-value.it space s ≡ t
          → placed_in (get spaces.eq-value.it n s) q ≡ (if is_key space name s q then place else placed_in (get spaces.eq-value.it m s) q)
      step true e =
          ap (λ o. placed_in o q) (updates s ∙ ap (λ t. cond t (Some w) (get spaces.eq-value.it m s)) e)
          ∙ within q
          ∙ ap (λ x. cond (bytes_eq name q) place (placed_in (get spaces.eq-value.it m x) q)) ((space_decides space s).0 e)
          ∙ sym (ap (λ t. if t && bytes_eq name q then place else placed_in (get spaces.eq-value.it m s) q) e)
      step false e =
          ap (λ o. placed_in o q) (updates s ∙ ap (λ t. cond t (Some w) (get spaces.eq-value.it m s)) e)
          ∙ sym (ap (λ t. if t && bytes_eq name q then place else placed_in (get spaces.eq-value.it m s) q) e)

  -- no name of the name space has a place, and none gets one
  pub is_put_nowhere : (space : Space) (name : List ℕ) (place : Option ℕ) (m : HashMap Space (HashMap (String A) ℕ S) T)
      → get spaces.eq-value.it m space ≡ None → place ≡ None → IsPutAt space name place m m
  unfolding is_key
  is_put_nowhere space name place m absent none s q = step (spaces.eq-value.it space s) (bytes_eq name q) refl refl
    where
      step : (t u : Bool) → spaces.eq-value.it space s ≡ t → bytes_eq name q ≡ u
          → placed_in (get spaces.eq-value.it m s) q ≡ (if is_key space name s q then place else placed_in (get spaces.eq-value.it m s) q)
      step true true e f =
          ap (λ x. placed_in (get spaces.eq-value.it m x) q) (sym ((space_decides space s).0 e))
          ∙ ap (λ o. placed_in o q) absent ∙ sym none
          ∙ sym (ap (λ t. if t && bytes_eq name q then place else placed_in (get spaces.eq-value.it m s) q) e
          ∙ ap (λ t. if t then place else placed_in (get spaces.eq-value.it m s) q) f)
      step true false e f =
          sym (ap (λ t. if t && bytes_eq name q then place else placed_in (get spaces.eq-value.it m s) q) e
          ∙ ap (λ t. if t then place else placed_in (get spaces.eq-value.it m s) q) f)
      step false u e f = sym (ap (λ t. if t && bytes_eq name q then place else placed_in (get spaces.eq-value.it m s) q) e)
