-- Things that need others, which need others in turn.
use Rattle.std.specs.Prelude.{◌≡◌, ℕ, zero, suc, Bool, true, false, List, [], ◌∷◌, Option, Some, None}
use Rattle.std.specs.List.{list_all, list_any}
use Rattle.indexmap.specs.IndexSet.{insert_key}

-- what is needed passes a test; where there is none, nothing helps
abbrev pub each : {A : Type 0} → (A → Bool) → Option (List A) → Bool
each f None = false
each f (Some xs) = list_all f xs

module _ {A : Type 0} (same : A → A → Bool) where
  abbrev pub among : List A → A → Bool
  among xs x = list_any (same x) xs

  -- each once, in order
  abbrev pub noted_all : List A → List A → List A
  noted_all seen [] = seen
  noted_all seen (x ∷ xs) = noted_all (insert_key same seen x) xs

  -- what was needed before, and this besides
  abbrev pub put : List A → Option (List A) → Option (List A)
  put seen None = None
  put seen (Some xs) = Some (noted_all seen xs)

  -- some things have what is needed among them, and all that each of them needs
  pub record Met (needs : A → Option (List A)) (needed : Option (List A)) : Type 0 where
    pub things : List A
    pub closed : (x : A) → among things x ≡ true → each (among things) (needs x) ≡ true
    pub holds : each (among things) needed ≡ true

-- within so many steps nothing is met that can't be helped
abbrev pub stands : {A : Type 0} → (A → Option (List A)) → ℕ → A → Bool
stands needs zero x = true
stands needs (suc n) x = each (stands needs n) (needs x)
