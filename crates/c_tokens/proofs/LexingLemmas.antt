-- A text is lexed piece by piece.
use Rattle.std.proofs.Common.{◌≡◌, ℕ, zero, suc, ◌+◌, ◌-◌, ◌<◌, Bool, List, [], ◌∷◌, ◌++◌, length, take, drop, refl, ap, sym, ◌∙◌, arith, append_assoc}
use Rattle.std.proofs.lemmas.List.{length-append}
use Rattle.std.specs.List.{flat_map}
use Rattle.c_tokens.specs.declared.pieces.Context.{Context}
use Rattle.tok_data.specs.declared.tokens.PpToken.{PpToken}
use Rattle.c_tokens.specs.declared.types.LexFault.{LexFault}
use Rattle.c_tokens.specs.Logical.{Character}
use Rattle.c_tokens.specs.Pieces.{Piece, Front, pieces, front_of, after_piece, is_space, spelling}
use Rattle.c_tokens.specs.Lexed.{token_of, place_of, fault_as, faults_from}

pub pieces_skip : (context : Context) (spaced : Bool) (k : ℕ) (cs : List Character) → pieces context spaced k cs ≡ pieces context spaced 0 (drop k cs)
pieces_skip context spaced zero cs = refl
pieces_skip context spaced (suc k) [] = refl
pieces_skip context spaced (suc k) (c ∷ cs) = pieces_skip context spaced k cs

pub drop_less : (n : ℕ) (c : Character) (cs : List Character) → 0 < n → drop (n - 1) cs ≡ drop n (c ∷ cs)
drop_less zero c cs some = absurd (omega arith)
drop_less (suc n) c cs some = let e : suc n - 1 ≡ n = omega arith in rw e refl

-- the first piece of some characters, and those behind it
pub pieces_at : (context : Context) (spaced : Bool) (c : Character) (cs : List Character) → 0 < (front_of context c cs).size
    → let f : Front = front_of context c cs in
    let own : List Character = take f.size (c ∷ cs) in
    pieces context spaced 0 (c ∷ cs) ≡ (record { class = f.class; characters = own; context = context; spaced = spaced }) ∷ pieces (after_piece f.class context (spelling own)) (is_space f.class) 0 (drop f.size (c ∷ cs))
pieces_at context spaced c cs some =
    let f : Front = front_of context c cs in
    let own : List Character = take f.size (c ∷ cs) in
    ap (λ (ps : List Piece). (record { class = f.class; characters = own; context = context; spaced = spaced }) ∷ ps)
    (pieces_skip (after_piece f.class context (spelling own)) (is_space f.class) (f.size - 1) cs
    ∙ ap (pieces (after_piece f.class context (spelling own)) (is_space f.class) 0) (drop_less f.size c cs some))

-- how far lexing has come: what was found, and what the pieces that are left give
pub record Goes (tokens : List PpToken) (places : List (ℕ × ℕ)) (faults : List LexFault) (left : List Piece) (all : List Piece) : Type 0 where
  pub found_tokens : tokens ++ flat_map token_of left ≡ flat_map token_of all
  pub found_places : places ++ flat_map place_of left ≡ flat_map place_of all
  pub found_faults : faults ++ faults_from (length tokens) left ≡ faults_from 0 all

pub goes_begins : (all : List Piece) → Goes [] [] [] all all
goes_begins all = record { found_tokens = refl; found_places = refl; found_faults = refl }

pub goes_turns : (tokens tokens' : List PpToken) (places places' : List (ℕ × ℕ)) (faults faults' : List LexFault) (left all behind : List Piece) (p : Piece)
    → left ≡ p ∷ behind → tokens' ≡ tokens ++ token_of p → places' ≡ places ++ place_of p → faults' ≡ faults ++ fault_as p.class p.characters (length tokens)
    → Goes tokens places faults left all → Goes tokens' places' faults' behind all
goes_turns tokens tokens' places places' faults faults' left all behind p e et ep ef goes =
    let more : length tokens' ≡ length tokens + length (token_of p) = ap length et ∙ length-append tokens (token_of p) in
    record {
      found_tokens = rw et (append_assoc tokens (token_of p) (flat_map token_of behind) ∙ (sym (ap (λ (ps : List Piece). tokens ++ flat_map token_of ps) e) ∙ goes.found_tokens));
      found_places = rw ep (append_assoc places (place_of p) (flat_map place_of behind) ∙ (sym (ap (λ (ps : List Piece). places ++ flat_map place_of ps) e) ∙ goes.found_places));
      found_faults = rw (more, ef) (append_assoc faults (fault_as p.class p.characters (length tokens)) (faults_from (length tokens + length (token_of p)) behind)
          ∙ (sym (ap (λ (ps : List Piece). faults ++ faults_from (length tokens) ps) e) ∙ goes.found_faults));
    }
