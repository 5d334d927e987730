-- How a command is written: pieces, words and spaces, and what each of them says. No code reads this; `laws` says that what the
-- code reads is the same.
use Rattle.std.specs.Prelude.{◌≡◌, ℕ, Bool, true, false, ◌==◌, ◌||◌, List, [], ◌∷◌, ◌++◌}
use Rattle.project_conf.specs.Parting.{space, double_quote, single_quote, backslash}

-- a character that outside of quotes stands for more than itself
abbrev pub is_special : ℕ → Bool
is_special c = c == space || c == single_quote || c == double_quote || c == backslash

-- a character that between `"` and `"` stands for itself behind a backslash
abbrev pub is_taken : ℕ → Bool
is_taken c = c == double_quote || c == backslash

-- what stands between `'` and `'`
pub data IsSingle : List ℕ → Type 0 where
  single_end : IsSingle []
  single_more : (c : ℕ) (s : List ℕ) → c == single_quote ≡ false → IsSingle s → IsSingle (c ∷ s)

-- what stands between `"` and `"`, and what it says
pub data IsDouble : List ℕ → List ℕ → Type 0 where
  double_end : IsDouble [] []
  double_itself : (c : ℕ) (s t : List ℕ) → is_taken c ≡ false → IsDouble s t → IsDouble (c ∷ s) (c ∷ t)
  double_taken : (c : ℕ) (s t : List ℕ) → is_taken c ≡ true → IsDouble s t → IsDouble (backslash ∷ c ∷ s) (c ∷ t)
  double_both : (c : ℕ) (s t : List ℕ) → is_taken c ≡ false → IsDouble s t → IsDouble (backslash ∷ c ∷ s) (backslash ∷ c ∷ t)

-- a piece of a word, and what it says
pub data IsPiece : List ℕ → List ℕ → Type 0 where
  itself : (c : ℕ) → is_special c ≡ false → IsPiece (c ∷ []) (c ∷ [])
  taken : (c : ℕ) → IsPiece (backslash ∷ c ∷ []) (c ∷ [])
  single : (s : List ℕ) → IsSingle s → IsPiece (single_quote ∷ s ++ single_quote ∷ []) s
  double : (s t : List ℕ) → IsDouble s t → IsPiece (double_quote ∷ s ++ double_quote ∷ []) t

-- a word: one piece or more
pub data IsWord : List ℕ → List ℕ → Type 0 where
  last_piece : (s t : List ℕ) → IsPiece s t → IsWord s t
  more_pieces : (s t s' t' : List ℕ) → IsPiece s t → IsWord s' t' → IsWord (s ++ s') (t ++ t')

-- a word that reaches the end of the command in a quote that isn't closed, or with a last backslash
pub data IsOpen : List ℕ → List ℕ → Type 0 where
  open_backslash : IsOpen (backslash ∷ []) (backslash ∷ [])
  open_single : (s : List ℕ) → IsSingle s → IsOpen (single_quote ∷ s) s
  open_double : (s t : List ℕ) → IsDouble s t → IsOpen (double_quote ∷ s) t
  open_both : (s t : List ℕ) → IsDouble s t → IsOpen (double_quote ∷ s ++ backslash ∷ []) (t ++ backslash ∷ [])
  open_later : (s t s' t' : List ℕ) → IsPiece s t → IsOpen s' t' → IsOpen (s ++ s') (t ++ t')

-- a command, and its words
pub data AreWords : List ℕ → List (List ℕ) → Type 0 where
  no_words : AreWords [] []
  space_first : (s : List ℕ) (words : List (List ℕ)) → AreWords s words → AreWords (space ∷ s) words
  last_word : (s t : List ℕ) → IsWord s t → AreWords s (t ∷ [])
  open_word : (s t : List ℕ) → IsOpen s t → AreWords s (t ∷ [])
  more_words : (s t s' : List ℕ) (words : List (List ℕ)) → IsWord s t → AreWords s' words → AreWords (s ++ space ∷ s') (t ∷ words)
