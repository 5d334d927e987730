-- Every command is written of words, whatever it has.
use Rattle.std.proofs.Common.{◌≡◌, ℕ, Bool, false, ◌==◌, ◌||◌, inl, inr, List, [], ◌∷◌, ◌++◌, refl, sym, ap, ◌∙◌, subst, subst₂, append_assoc, append-nil, eqb-true}
use Rattle.std.proofs.lemmas.Bool.{cases_Bool}
use Rattle.project_conf.specs.Parting.{space, double_quote, single_quote, backslash}
use Rattle.project_conf.specs.Writing.{is_taken, IsSingle, single_end, single_more, IsDouble, double_end, double_itself, double_taken, double_both, IsPiece, itself, taken, single, double, IsWord, last_piece, more_pieces, IsOpen, open_backslash, open_single, open_double, open_both, open_later, AreWords, no_words, space_first, last_word, open_word, more_words}

pub record Command (cs : List ℕ) : Type 0 where
  pub words : List (List ℕ)
  pub are : AreWords cs words

-- a text at the front of a command, and behind a word
record Follows (cs : List ℕ) : Type 0 where
  alone : Command cs
  after : (s t : List ℕ) → IsWord s t → Command (s ++ cs)

data SingleRest (cs : List ℕ) : Type 0 where
  single_closed : (s e : List ℕ) → IsSingle s → Follows e → cs ≡ s ++ single_quote ∷ e → SingleRest cs
  single_unclosed : IsSingle cs → SingleRest cs

data DoubleRest (cs : List ℕ) : Type 0 where
  double_closed : (s t e : List ℕ) → IsDouble s t → Follows e → cs ≡ s ++ double_quote ∷ e → DoubleRest cs
  double_unclosed : (t : List ℕ) → IsDouble cs t → DoubleRest cs
  double_cut : (s t : List ℕ) → IsDouble s t → cs ≡ s ++ backslash ∷ [] → DoubleRest cs

-- a text outside of quotes, between `'`, and between `"`
record Ways (cs : List ℕ) : Type 0 where
  follows : Follows cs
  within_single : SingleRest cs
  within_double : DoubleRest cs

data Second : List ℕ → Type 0 where
  second_none : Second []
  second_some : (d : ℕ) (cs : List ℕ) → Ways cs → Second (d ∷ cs)

-- ---- behind a word

word_piece : (s t : List ℕ) → IsWord s t → (p q : List ℕ) → IsPiece p q → IsWord (s ++ p) (t ++ q)
word_piece s t (last_piece a b x) p q y = more_pieces a b p q x (last_piece p q y)
word_piece s t (more_pieces a b a' b' x w) p q y =
    subst₂ IsWord (sym (append_assoc a a' p)) (sym (append_assoc b b' q)) (more_pieces a b (a' ++ p) (b' ++ q) x (word_piece a' b' w p q y))

word_open : (s t : List ℕ) → IsWord s t → (p q : List ℕ) → IsOpen p q → IsOpen (s ++ p) (t ++ q)
word_open s t (last_piece a b x) p q o = open_later a b p q x o
word_open s t (more_pieces a b a' b' x w) p q o =
    subst₂ IsOpen (sym (append_assoc a a' p)) (sym (append_assoc b b' q)) (open_later a b (a' ++ p) (b' ++ q) x (word_open a' b' w p q o))

end_follows : Follows []
end_follows = record {
  alone = record { words = []; are = no_words };
  after = λ s t w. record { words = t ∷ []; are = last_word (s ++ []) t (subst (λ x. IsWord x t) (sym (append-nil s)) w) };
}

space_follows : (cs : List ℕ) → Follows cs → Follows (space ∷ cs)
space_follows cs f = record {
  alone = record { words = f.alone.words; are = space_first cs f.alone.words f.alone.are };
  after = λ s t w. record { words = t ∷ f.alone.words; are = more_words s t cs f.alone.words w f.alone.are };
}

piece_follows : (p q : List ℕ) → IsPiece p q → (cs : List ℕ) → Follows cs → Follows (p ++ cs)
piece_follows p q y cs f = record {
  alone = f.after p q (last_piece p q y);
  after = λ s t w. subst Command (append_assoc s p cs) (f.after (s ++ p) (t ++ q) (word_piece s t w p q y));
}

open_follows : (p q : List ℕ) → IsOpen p q → Follows p
open_follows p q o = record {
  alone = record { words = q ∷ []; are = open_word p q o };
  after = λ s t w. record { words = (t ++ q) ∷ []; are = open_word (s ++ p) (t ++ q) (word_open s t w p q o) };
}

-- ---- one character more

closed_single : (s e : List ℕ) → IsSingle s → Follows e → Follows (single_quote ∷ s ++ single_quote ∷ e)
closed_single s e i f =
    subst (λ x. Follows (single_quote ∷ x)) (append_assoc s (single_quote ∷ []) e) (piece_follows (single_quote ∷ s ++ single_quote ∷ []) s (single s i) e f)

closed_double : (s t e : List ℕ) → IsDouble s t → Follows e → Follows (double_quote ∷ s ++ double_quote ∷ e)
closed_double s t e i f =
    subst (λ x. Follows (double_quote ∷ x)) (append_assoc s (double_quote ∷ []) e) (piece_follows (double_quote ∷ s ++ double_quote ∷ []) t (double s t i) e f)

single_follows : (cs : List ℕ) → SingleRest cs → Follows (single_quote ∷ cs)
single_follows cs (single_closed s e i f h) = subst (λ x. Follows (single_quote ∷ x)) (sym h) (closed_single s e i f)
single_follows cs (single_unclosed i) = open_follows (single_quote ∷ cs) cs (open_single cs i)

double_follows : (cs : List ℕ) → DoubleRest cs → Follows (double_quote ∷ cs)
double_follows cs (double_closed s t e i f h) = subst (λ x. Follows (double_quote ∷ x)) (sym h) (closed_double s t e i f)
double_follows cs (double_unclosed t i) = open_follows (double_quote ∷ cs) t (open_double cs t i)
double_follows cs (double_cut s t i h) = subst (λ x. Follows (double_quote ∷ x)) (sym h) (open_follows (double_quote ∷ s ++ backslash ∷ []) (t ++ backslash ∷ []) (open_both s t i))

backslash_follows : (cs : List ℕ) → Second cs → Follows (backslash ∷ cs)
backslash_follows cs second_none = open_follows (backslash ∷ []) (backslash ∷ []) open_backslash
backslash_follows cs (second_some d ds w) = piece_follows (backslash ∷ d ∷ []) (d ∷ []) (taken d) ds w.follows

no_test : (a b : Bool) → a ≡ false → b ≡ false → a || b ≡ false
no_test a b h i = rw (h, i) refl

plain_next : (c : ℕ) (cs : List ℕ) → Ways cs → Second cs → Follows (c ∷ cs)
plain_next c cs w second = elim (cases_Bool (c == space)) as (λ _. Follows (c ∷ cs)) [
  | inl h ↦ subst (λ z. Follows (z ∷ cs)) (sym (eqb-true c space h)) (space_follows cs w.follows)
  | inr h ↦ elim (cases_Bool (c == single_quote)) as (λ _. Follows (c ∷ cs)) [
    | inl i ↦ subst (λ z. Follows (z ∷ cs)) (sym (eqb-true c single_quote i)) (single_follows cs w.within_single)
    | inr i ↦ elim (cases_Bool (c == double_quote)) as (λ _. Follows (c ∷ cs)) [
      | inl j ↦ subst (λ z. Follows (z ∷ cs)) (sym (eqb-true c double_quote j)) (double_follows cs w.within_double)
      | inr j ↦ elim (cases_Bool (c == backslash)) as (λ _. Follows (c ∷ cs)) [
        | inl k ↦ subst (λ z. Follows (z ∷ cs)) (sym (eqb-true c backslash k)) (backslash_follows cs second)
        | inr k ↦ piece_follows (c ∷ []) (c ∷ []) (itself c (rw (h, i, j, k) refl)) cs w.follows
      ]
    ]
  ]
]

more_single : (c : ℕ) (cs : List ℕ) → c == single_quote ≡ false → SingleRest cs → SingleRest (c ∷ cs)
more_single c cs h (single_closed s e i f k) = single_closed (c ∷ s) e (single_more c s h i) f (ap (λ x. c ∷ x) k)
more_single c cs h (single_unclosed i) = single_unclosed (single_more c cs h i)

single_next : (c : ℕ) (cs : List ℕ) → Ways cs → SingleRest (c ∷ cs)
single_next c cs w = elim (cases_Bool (c == single_quote)) as (λ _. SingleRest (c ∷ cs)) [
  | inl h ↦ single_closed [] cs single_end w.follows (ap (λ z. z ∷ cs) (eqb-true c single_quote h))
  | inr h ↦ more_single c cs h w.within_single
]

more_double : (a b cs : List ℕ) → ((s t : List ℕ) → IsDouble s t → IsDouble (a ++ s) (b ++ t)) → DoubleRest cs → DoubleRest (a ++ cs)
more_double a b cs g (double_closed s t e i f h) = double_closed (a ++ s) (b ++ t) e (g s t i) f (ap (λ x. a ++ x) h ∙ sym (append_assoc a s (double_quote ∷ e)))
more_double a b cs g (double_unclosed t i) = double_unclosed (b ++ t) (g cs t i)
more_double a b cs g (double_cut s t i h) = double_cut (a ++ s) (b ++ t) (g s t i) (ap (λ x. a ++ x) h ∙ sym (append_assoc a s (backslash ∷ [])))

double_escape : (cs : List ℕ) → Second cs → DoubleRest (backslash ∷ cs)
double_escape cs second_none = double_cut [] [] double_end refl
double_escape cs (second_some d ds w) = elim (cases_Bool (is_taken d)) as (λ _. DoubleRest (backslash ∷ d ∷ ds)) [
  | inl h ↦ more_double (backslash ∷ d ∷ []) (d ∷ []) ds (λ s t i. double_taken d s t h i) w.within_double
  | inr h ↦ more_double (backslash ∷ d ∷ []) (backslash ∷ d ∷ []) ds (λ s t i. double_both d s t h i) w.within_double
]

double_next : (c : ℕ) (cs : List ℕ) → Ways cs → Second cs → DoubleRest (c ∷ cs)
double_next c cs w second = elim (cases_Bool (c == double_quote)) as (λ _. DoubleRest (c ∷ cs)) [
  | inl h ↦ double_closed [] [] cs double_end w.follows (ap (λ z. z ∷ cs) (eqb-true c double_quote h))
  | inr h ↦ elim (cases_Bool (c == backslash)) as (λ _. DoubleRest (c ∷ cs)) [
    | inl i ↦ subst (λ z. DoubleRest (z ∷ cs)) (sym (eqb-true c backslash i)) (double_escape cs second)
    | inr i ↦ more_double (c ∷ []) (c ∷ []) cs (λ s t j. double_itself c s t (no_test (c == double_quote) (c == backslash) h i) j) w.within_double
  ]
]

next : (c : ℕ) (cs : List ℕ) → Ways cs → Second cs → Ways (c ∷ cs)
next c cs w second = record { follows = plain_next c cs w second; within_single = single_next c cs w; within_double = double_next c cs w second }

ends : Ways []
ends = record { follows = end_follows; within_single = single_unclosed single_end; within_double = double_unclosed [] double_end }

ways : (cs : List ℕ) → Ways cs
ways [] = ends
ways (c ∷ []) = next c [] ends second_none
ways (c ∷ d ∷ cs) = next c (d ∷ cs) (ways (d ∷ cs)) (second_some d cs (ways cs))

pub written : (cs : List ℕ) → Command cs
written cs = (ways cs).follows.alone
