-- A text that begins with a byte is among all keywords where it is among those that begin so.
use Rattle.std.proofs.Common.{◌≡◌, sym, subst, ℕ, List, ◌∷◌, false, bytes_eq}
use Rattle.std.specs.List.{list_any}
use Rattle.tok_data.specs.Keywords.{is_keyword}

pub behind : (words : List (List ℕ)) → (b : ℕ) → (rest text : List ℕ) → text ≡ b ∷ rest
    → list_any (λ w. bytes_eq w (b ∷ rest)) words ≡ is_keyword (b ∷ rest) → list_any (λ w. bytes_eq w text) words ≡ is_keyword text
behind words b rest text e h = subst (λ t. list_any (λ w. bytes_eq w t) words ≡ is_keyword t) (sym e) h

pub behind_none : (b : ℕ) → (rest text : List ℕ) → text ≡ b ∷ rest → false ≡ is_keyword (b ∷ rest) → false ≡ is_keyword text
behind_none b rest text e h = subst (λ t. false ≡ is_keyword t) (sym e) h
