-- The laws of pieces, from those of characters.
use Rattle.std.proofs.Common.{◌≡◌, ℕ, zero, suc, ◌-◌, ◌≤◌, Bool, List, [], ◌∷◌, ◌++◌, length, take, drop, refl, ap, ◌∙◌, arith, Option, Some, None}
use Rattle.std.proofs.lemmas.List.{take-append-drop}
use Rattle.std.specs.List.{flat_map}
use Rattle.tok_data.specs.declared.tokens.PpKind.{PpKind}
use Rattle.tok_data.specs.declared.tokens.PpToken.{PpToken}
use Rattle.c_tokens.specs.declared.pieces.Context.{Context}
use Rattle.c_tokens.specs.Logical.{Character, end_of}
use Rattle.c_tokens.specs.Pieces.{Piece, Front, pieces, front_of, after_piece, is_space, spelling}
use Rattle.c_tokens.specs.Lexed.{token_of, place_of, token_by, place_by, kind_of}
use Rattle.c_tokens.specs.Laws.{joined, Follow}
use Rattle.c_tokens.proofs.FrontLemmas.{sized_front}
use Rattle.c_tokens.proofs.LexingLemmas.{drop_less}

-- the pieces joined are the characters
pub joined_pieces : (context : Context) (spaced : Bool) (skip : ℕ) (cs : List Character) → joined (pieces context spaced skip cs) ≡ drop skip cs
joined_pieces context spaced zero [] = refl
joined_pieces context spaced (suc skip) [] = refl
joined_pieces context spaced (suc skip) (c ∷ cs) = joined_pieces context spaced skip cs
joined_pieces context spaced zero (c ∷ cs) =
    let f : Front = front_of context c cs in
    let own : List Character = take f.size (c ∷ cs) in
    ap (λ (rest : List Character). own ++ rest)
    (joined_pieces (after_piece f.class context (spelling own)) (is_space f.class) (f.size - 1) cs ∙ drop_less f.size c cs (sized_front context c cs).some)
    ∙ take-append-drop f.size (c ∷ cs)

paired_by : (p : Piece) (ts : List PpToken) (rs : List (ℕ × ℕ)) (o : Option PpKind) → length ts ≡ length rs → length (token_by o p ++ ts) ≡ length (place_by o p ++ rs)
paired_by p ts rs None e = e
paired_by p ts rs (Some kind) e = ap suc e

-- as many places as tokens
pub paired : (ps : List Piece) → length (flat_map token_of ps) ≡ length (flat_map place_of ps)
paired [] = refl
paired (p ∷ ps) = paired_by p (flat_map token_of ps) (flat_map place_of ps) (kind_of p.class) (paired ps)

-- where characters end
pub end_of_from : (at limit n : ℕ) (cs : List Character) → Follow at limit cs → at ≤ end_of at (take n cs)
end_of_from at limit zero cs follow = omega arith
end_of_from at limit (suc n) [] follow = omega arith
end_of_from at limit (suc n) (c ∷ cs) follow = omega (arith, follow.0, follow.1, follow.2, end_of_from c.to limit n cs follow.3)

pub end_of_later : (at limit m n : ℕ) (cs : List Character) → m ≤ n → Follow at limit cs → end_of at (take m cs) ≤ end_of at (take n cs)
end_of_later at limit zero n cs few follow = end_of_from at limit n cs follow
end_of_later at limit (suc m) zero cs few follow = absurd (omega arith)
end_of_later at limit (suc m) (suc n) [] few follow = omega arith
end_of_later at limit (suc m) (suc n) (c ∷ cs) few follow = end_of_later c.to limit m n cs (omega arith) follow.3
