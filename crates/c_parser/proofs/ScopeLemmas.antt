-- The code's view of the kinds of tokens is what the grammar has where names are hidden.
use Rattle.std.proofs.Common.{◌≡◌, refl, ap, sym, ◌∙◌, ℕ, zero, suc, ◌<◌, List, [], ◌∷◌, ◌++◌, length, map, Bool, true, false, ◌||◌, ◌==◌, if◌then◌else◌, slice_index_or, slice_set, nat_lt}
use Rattle.c_parser.specs.declared.kinds.Kind.{Kind}
use Rattle.c_parser.specs.declared.kinds.Kind.TheVariants.{Identifier, TypeName, End}
use Rattle.c_parser.specs.Kinds.{kind_at, IsInside, hidden_one, hide_word}
use Rattle.c_parser.specs.Scopes.{shade}
use Rattle.c_parser.specs.Words.{flagged}

bare_one : (k : Kind) → shade [] k ≡ k
bare_one (TypeName n) = refl
bare_one _ = refl

-- no name is hidden
pub bare : (ks : List Kind) → map (shade []) ks ≡ ks
bare [] = refl
bare (k ∷ ks) = ap (λ x. x ∷ map (shade []) ks) (bare_one k) ∙ ap (λ xs. k ∷ xs) (bare ks)

pub shaded_length : (hidden : List Bool) → (ks : List Kind) → length (map (shade hidden) ks) ≡ length ks
shaded_length hidden [] = refl
shaded_length hidden (k ∷ ks) = ap suc (shaded_length hidden ks)

pub shaded_at : (hidden : List Bool) → (ks : List Kind) → (a : ℕ) → kind_at (map (shade hidden) ks) a ≡ shade hidden (kind_at ks a)
shaded_at hidden [] a = refl
shaded_at hidden (k ∷ ks) zero = refl
shaded_at hidden (k ∷ ks) (suc a) = shaded_at hidden ks a

pub is_inside : (ks : List Kind) → (a : ℕ) → (k : Kind) → a < length ks → IsInside ks a k
is_inside ks a End i = tt
is_inside ks a _ i = i

-- one more name is hidden
choose : (n w : ℕ) → (b : Bool) → (if ((n == w) || b) then Identifier else TypeName n) ≡ hidden_one w (if b then Identifier else TypeName n)
choose n w true = both (n == w)
  where
    both : (c : Bool) → (if (c || true) then Identifier else TypeName n) ≡ Identifier
    both true = refl
    both false = refl
choose n w false = same (n == w)
  where
    same : (c : Bool) → (if (c || false) then Identifier else TypeName n) ≡ (if c then Identifier else TypeName n)
    same true = refl
    same false = refl

pub one_more : (old new : List Bool) → (w : ℕ) → ((n : ℕ) → slice_index_or new n false ≡ ((n == w) || slice_index_or old n false)) → (k : Kind)
    → shade new k ≡ hidden_one w (shade old k)
one_more old new w h (TypeName n) = ap (λ b. if b then Identifier else TypeName n) (h n) ∙ choose n w (slice_index_or old n false)
one_more old new w h _ = refl

pub hidden_more : (old new : List Bool) → (w : ℕ) → ((n : ℕ) → slice_index_or new n false ≡ ((n == w) || slice_index_or old n false)) → (ks : List Kind)
    → map (shade new) ks ≡ hide_word (map (shade old) ks) w
unfolding hide_word
hidden_more old new w h [] = refl
hidden_more old new w h (k ∷ ks) =
    ap (λ x. x ∷ map (shade new) ks) (one_more old new w h k) ∙ ap (λ xs. hidden_one w (shade old k) ∷ xs) (hidden_more old new w h ks)

-- a flag behind the last one that isn't set
pub flag_behind : (flags : List Bool) → (n : ℕ) → slice_index_or (flags ++ false ∷ []) n false ≡ slice_index_or flags n false
flag_behind [] zero = refl
flag_behind [] (suc n) = refl
flag_behind (b ∷ flags) zero = refl
flag_behind (b ∷ flags) (suc n) = flag_behind flags n

-- a flag that is as told
set_same : (flags : List Bool) → (n : ℕ) → (b : Bool) → slice_index_or flags n b ≡ b → slice_set flags n b ≡ flags
set_same [] n b h = refl
set_same (x ∷ flags) zero b h = ap (λ y. y ∷ flags) (sym h)
set_same (x ∷ flags) (suc n) b h = ap (λ ys. x ∷ ys) (set_same flags n b h)

either_way : (flags : List Bool) → (t : Bool) → (n : ℕ) → (b : Bool) → slice_index_or flags n b ≡ b → (if t then slice_set flags n b else flags) ≡ flags
either_way flags true n b h = set_same flags n b h
either_way flags false n b h = refl

pub told_already : (flags : List Bool) → (n : ℕ) → (b : Bool) → slice_index_or flags n b ≡ b → flags ≡ flagged flags n b
unfolding flagged
told_already flags n b h = sym (either_way flags (nat_lt n (length flags)) n b h)
