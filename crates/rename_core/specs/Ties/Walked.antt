-- What a walk has come to when it ends, told by the lists that it goes along: of each token what it denotes, and of that the tokens.
use Rattle.std.specs.Prelude.{◌≡◌, Bool, true, List, ◌⊎◌, ◌↔◌}
use Rattle.std.specs.List.{list_any}
use Rattle.rename_core.specs.Ties.Steps.{Seen}

module _ {A B : Type 0} (same : A → A → Bool) (alike : B → B → Bool) (keys : A → List B) (tokens : B → List A) where
  -- something that x denotes has y among its tokens
  pub record Shares (x y : A) : Type 0 where
    pub key : B
    pub mine : list_any (alike key) (keys x) ≡ true
    pub yours : list_any (same y) (tokens key) ≡ true

  pub data Chain (t : A) : A → Type 0 where
    first : (x : A) → Shares t x → Chain t x
    further : (x y : A) → Chain t x → Shares x y → Chain t y

  -- a token that denotes it was come to, or the walk began there
  pub record From (t : A) (d : B) : Type 0 where
    pub token : A
    pub come : (token ≡ t) ⊎ Chain t token
    pub denotes : list_any (alike d) (keys token) ≡ true

  pub record IsWalked (t : A) (seen : Seen A B) : Type 0 where
    pub toks : (x : A) → (list_any (same x) seen.toks ≡ true) ↔ Chain t x
    pub denoted : (d : B) → (list_any (alike d) seen.denoted ≡ true) ↔ From t d
