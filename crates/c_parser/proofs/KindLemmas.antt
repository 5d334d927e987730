-- The kinds of tokens under two tests that agree.
use Rattle.std.proofs.Common.{◌≡◌, refl, ap, ◌∙◌, ℕ, List, [], ◌∷◌, map, Option, is_none, not, ◌||◌}
use Rattle.tok_data.specs.declared.tokens.OutToken.{OutToken}
use Rattle.tok_data.specs.declared.tokens.PpKind.{PpKind}
use Rattle.tok_data.specs.declared.tokens.PpKind.TheVariants as pp
use Rattle.c_parser.specs.Tokens.{kind_of, pp_kind_of, word_of}
use Rattle.c_parser.specs.Words.{is_word}

same_kind : (f g : List ℕ → Option ℕ) → ((text : List ℕ) → f text ≡ g text) → (k : PpKind) → (text : List ℕ)
    → pp_kind_of f k text ≡ pp_kind_of g k text
same_kind f g h pp.Ident text = ap (λ o. word_of o text) (h text)
same_kind f g h pp.Number text = refl
same_kind f g h pp.Char text = refl
same_kind f g h pp.Str text = refl
same_kind f g h pp.Header text = refl
same_kind f g h pp.Punct text = refl
same_kind f g h pp.Stray text = refl

pub same_kinds : (f g : List ℕ → Option ℕ) → ((text : List ℕ) → f text ≡ g text) → (ts : List OutToken)
    → map (kind_of f) ts ≡ map (kind_of g) ts
same_kinds f g h [] = refl
same_kinds f g h (t ∷ ts) =
    ap (λ k. k ∷ map (kind_of f) ts) (same_kind f g h t.kind t.spelling) ∙ ap (λ ks. kind_of g t ∷ ks) (same_kinds f g h ts)

pub same_hidden : (f g : List ℕ → Option ℕ) → ((text : List ℕ) → f text ≡ g text) → (ts : List OutToken)
    → map (λ t. not (is_word t.kind) || is_none (f t.spelling)) ts ≡ map (λ t. not (is_word t.kind) || is_none (g t.spelling)) ts
same_hidden f g h [] = refl
same_hidden f g h (t ∷ ts) =
    ap (λ n. (not (is_word t.kind) || is_none n) ∷ map (λ t. not (is_word t.kind) || is_none (f t.spelling)) ts) (h t.spelling)
    ∙ ap (λ bs. (not (is_word t.kind) || is_none (g t.spelling)) ∷ bs) (same_hidden f g h ts)
