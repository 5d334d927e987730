-- How the code collects what the pieces of a text give.
use Rattle.std.specs.Prelude.{◌≡◌, ℕ, ◌<◌, ◌≤◌, Bool, List, ◌∷◌, take}
use Rattle.c_tokens.specs.declared.lexing.Piece.{Piece as PieceRead}
use Rattle.c_tokens.specs.declared.pieces.Class.TheVariants.{OpenComment}
use Rattle.c_tokens.specs.declared.pieces.Context.{Context}
use Rattle.c_tokens.specs.Pieces.{Piece, pieces, after_piece, is_space, spelling}
use Rattle.c_tokens.specs.Logical.{start_of}
use Rattle.c_tokens.specs.Reading.{rest, IsAfter, KeepsBoundary}

-- the piece that was read
abbrev pub read_piece : List ℕ → PieceRead → Piece
read_piece text p = record { class = p.front.class; characters = take p.front.count (rest text p.at); context = p.context; spaced = p.spaced }

-- what a piece that was read keeps
pub record IsPiece (text : List ℕ) (p : PieceRead) : Type 0 where
  pub after : IsAfter text p.at p.front.count p.front.end
  pub own : p.own ≡ start_of (take p.front.count (rest text p.at))
  pub some : 0 < p.front.count
  pub own_within : p.own < p.front.end
  pub begins : p.at ≤ p.own
  pub past : (n here : ℕ) → 0 < n → IsAfter text p.at n here → p.own < here
  pub own_boundary : KeepsBoundary text p.at p.own
  pub two : p.front.class ≡ OpenComment → 2 ≤ p.front.count

-- a range within a piece that was read
pub record IsWithin (text : List ℕ) (p : PieceRead) (from to : ℕ) : Type 0 where
  pub begins : p.at ≤ from
  pub some : from < to
  pub ends : to ≤ p.front.end
  pub front : KeepsBoundary text p.at from
  pub back : KeepsBoundary text p.at to

-- the piece at the front of what is left
pub record IsNextPiece (text : List ℕ) (at : ℕ) (context : Context) (spaced : Bool) (p : PieceRead) : Type 0 where
  pub piece : IsPiece text p
  pub place : p.at ≡ at
  pub goes_on : at < p.front.end
  pub front : pieces context spaced 0 (rest text at)
      ≡ read_piece text p ∷ pieces (after_piece p.front.class p.context (spelling (read_piece text p).characters)) (is_space p.front.class) 0 (rest text p.front.end)
