-- Ranges that are found one after another stand in order.
use Rattle.std.proofs.Common.{◌≡◌, ℕ, ◌<◌, ◌≤◌, List, [], ◌∷◌, ◌++◌, ap, ◌∙◌, refl, arith, IsCharBoundary}
use Rattle.c_tokens.specs.declared.lexing.Piece.{Piece as PieceRead}
use Rattle.c_tokens.specs.declared.types.LexFault.{LexFault}
use Rattle.c_tokens.specs.Finding.{IsPiece, IsWithin}
use Rattle.c_tokens.specs.Laws.{Grows, InOrder, ranges}
use Rattle.c_tokens.specs.Reading.{rest, IsAfter}
use Rattle.c_tokens.proofs.FollowLemmas.{rest_follows}
use Rattle.c_tokens.proofs.LawLemmas.{end_of_later}

-- a later limit
pub order_further : (text : List ℕ) (from at limit : ℕ) (rs : List (ℕ × ℕ)) → at ≤ limit → InOrder text from at rs → InOrder text from limit rs
order_further text from at limit [] on order = omega (arith, on, order)
order_further text from at limit (r ∷ rs) on order = (order.0, order.1, order.2, order.3, order_further text r.1 at limit rs on order.4)

order_turns : (text : List ℕ) (from at a b limit : ℕ) (rs : List (ℕ × ℕ)) → at ≤ a → a < b → b ≤ limit → IsCharBoundary text a → IsCharBoundary text b
    → InOrder text from at rs → InOrder text from limit (rs ++ (a, b) ∷ [])
order_turns text from at a b limit [] on some within front back order = (omega (arith, on, order), some, front, back, within)
order_turns text from at a b limit (r ∷ rs) on some within front back order = (order.0, order.1, order.2, order.3, order_turns text r.1 at a b limit rs on some within front back order.4)

-- a range of a piece is added
pub grows_by : (text : List ℕ) (p : PieceRead) (a b : ℕ) (rs more : List (ℕ × ℕ)) → IsWithin text p a b → more ≡ rs ++ (a, b) ∷ [] → Grows text p.at p.front.end rs more
grows_by text p a b rs more is e utf8 first order = rw e (order_turns text 0 p.at a b p.front.end rs is.begins is.some is.ends (is.front utf8 first) (is.back utf8 first) order)

-- nothing is added
pub grows_none : (text : List ℕ) (p : PieceRead) (rs more : List (ℕ × ℕ)) → IsPiece text p → more ≡ rs → Grows text p.at p.front.end rs more
grows_none text p rs more is e utf8 first order = rw e (order_further text 0 p.at p.front.end rs (omega (arith, is.begins, is.own_within)) order)

pub whole_piece : (text : List ℕ) (p : PieceRead) → IsPiece text p → IsWithin text p p.own p.front.end
whole_piece text p is = record { begins = is.begins; some = is.own_within; ends = omega arith; front = is.own_boundary; back = is.after.boundary }

-- the first two characters of a piece
pub two_within : (text : List ℕ) (p : PieceRead) (here : ℕ) → IsPiece text p → 2 ≤ p.front.count → IsAfter text p.at 2 here → IsWithin text p p.own here
two_within text p here is two after = record {
  begins = is.begins;
  some = is.past 2 here (omega arith) after;
  ends = omega (arith, after.ends, is.after.ends, end_of_later p.at _ 2 p.front.count (rest text p.at) two (rest_follows text p.at));
  front = is.own_boundary;
  back = after.boundary;
}

ranges_more : (fs : List LexFault) (f : LexFault) → ranges (fs ++ f ∷ []) ≡ ranges fs ++ (f.start, f.end) ∷ []
ranges_more [] f = refl
ranges_more (g ∷ fs) f = ap (λ (rs : List (ℕ × ℕ)). (g.start, g.end) ∷ rs) (ranges_more fs f)

-- a fault of a piece is added
pub fault_grows : (text : List ℕ) (p : PieceRead) (f : LexFault) (fs more : List LexFault) → IsWithin text p f.start f.end → more ≡ fs ++ f ∷ [] → Grows text p.at p.front.end (ranges fs) (ranges more)
fault_grows text p f fs more is e = grows_by text p f.start f.end (ranges fs) (ranges more) is (ap ranges e ∙ ranges_more fs f)
