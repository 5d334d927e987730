-- The piece that was read is the first of those that are left.
use Rattle.std.proofs.Common.{◌≡◌, ℕ, zero, suc, ◌+◌, ◌<◌, Bool, List, ◌∷◌, take, drop, refl, ap, sym, ◌∙◌, subst, arith}
use Rattle.c_tokens.specs.declared.logical.Read.{Read}
use Rattle.c_tokens.specs.declared.pieces.Class.{Class}
use Rattle.c_tokens.specs.declared.pieces.Context.{Context}
use Rattle.c_tokens.specs.declared.pieces.Front.{Front as FrontRead}
use Rattle.c_tokens.specs.Logical.{Character, start_of, end_of}
use Rattle.c_tokens.specs.Laws.{Follow}
use Rattle.c_tokens.specs.Pieces.{Piece, pieces, front_of, after_piece, is_space, spelling}
use Rattle.c_tokens.specs.Reading.{rest, units, IsNext, IsAfter, IsFront, read_character}
use Rattle.c_tokens.specs.Finding.{IsNextPiece, read_piece}
use Rattle.c_tokens.proofs.FrontLemmas.{Sized, sized_front}
use Rattle.c_tokens.proofs.FollowLemmas.{rest_follows, widths}
use Rattle.c_tokens.proofs.LawLemmas.{end_of_from}
use Rattle.c_tokens.proofs.LexingLemmas.{pieces_at}

start_of_take : (n : ℕ) (c : Character) (cs : List Character) → 0 < n → start_of (take n (c ∷ cs)) ≡ c.own
start_of_take zero c cs some = absurd (omega arith)
start_of_take (suc n) c cs some = refl

-- characters end behind the front of the first one
past_first : (text : List ℕ) (at count here : ℕ) (r : Read) → IsNext text at r → 0 < count → IsAfter text at count here → r.own < here
past_first text at zero here r next some after = absurd (omega arith)
past_first text at (suc count) here r next some after =
    let follow : Follow at _ (read_character text at r ∷ rest text r.end) = subst (λ (cs : List Character). Follow at (at + widths (units text at)) cs) next.first (rest_follows text at) in
    let ends : here ≡ end_of r.end (take count (rest text r.end)) = after.ends ∙ ap (λ (cs : List Character). end_of at (take (suc count) cs)) next.first in
    omega (arith, ends, next.goes_on, end_of_from r.end _ count (rest text r.end) follow.3)

-- what is cut from characters, by a class and a size
abbrev cut_off : Context → Bool → Class → ℕ → List Character → List Piece
cut_off context spaced class size cs = (record { class = class; characters = take size cs; context = context; spaced = spaced }) ∷ pieces (after_piece class context (spelling (take size cs))) (is_space class) 0 (drop size cs)

pub next_is : (text : List ℕ) (at : ℕ) (context : Context) (spaced : Bool) (r : Read) (front : FrontRead) → IsNext text at r → IsFront text at (front_of context (read_character text at r) (rest text r.end)) front
    → IsNextPiece text at context spaced (record { at = at; own = r.own; front = front; context = context; spaced = spaced })
next_is text at context spaced r front next is =
    let m : Character = read_character text at r in
    let cs : List Character = rest text r.end in
    let sized : Sized (front_of context m cs) = sized_front context m cs in
    let some : 0 < front.count = rw is.size sized.some in
    let own : start_of (take front.count (rest text at)) ≡ r.own = ap (λ (xs : List Character). start_of (take front.count xs)) next.first ∙ start_of_take front.count m cs some in
    record {
      piece = record {
        after = is.after;
        own = sym own;
        some = some;
        own_within = past_first text at front.count front.end r next some is.after;
        begins = next.begins;
        past = λ n here more after. past_first text at n here r next more after;
        own_boundary = next.own_boundary;
        two = λ k. rw is.size (sized.two (sym is.class ∙ k));
      };
      place = refl;
      goes_on = omega (arith, some, is.after.begins);
      front =
          ap (pieces context spaced 0) next.first
          ∙ (pieces_at context spaced m cs sized.some
          ∙ (ap (λ (k : Class). cut_off context spaced k (front_of context m cs).size (m ∷ cs)) (sym is.class)
          ∙ (ap (λ (n : ℕ). cut_off context spaced front.class n (m ∷ cs)) (sym is.size)
          ∙ (ap (λ (xs : List Character). cut_off context spaced front.class front.count xs) (sym next.first)
          ∙ ap (λ (xs : List Character). read_piece text (record { at = at; own = r.own; front = front; context = context; spaced = spaced }) ∷ pieces (after_piece front.class context (spelling (take front.count (rest text at)))) (is_space front.class) 0 xs) (sym is.after.left)))));
    }
