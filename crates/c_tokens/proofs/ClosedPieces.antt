-- A line end behind all characters changes no token, no place and no fault.
use Rattle.std.proofs.Common.{◌≡◌, ℕ, zero, suc, ◌+◌, ◌-◌, ◌≤◌, inl, inr, Bool, false, List, [], ◌∷◌, ◌++◌, length, take, refl, ap, sym, ◌∙◌, subst, arith, None}
use Rattle.std.proofs.lemmas.List.{length-append, append-nil, take-append-le, take_all}
use Rattle.std.specs.List.{flat_map}
use Rattle.c_tokens.specs.declared.pieces.Class.{Class}
use Rattle.c_tokens.specs.declared.pieces.Class.TheVariants.{OpenComment}
use Rattle.c_tokens.specs.declared.pieces.Context.{Context}
use Rattle.c_tokens.specs.declared.pieces.Context.TheVariants.{Fresh}
use Rattle.c_tokens.specs.Logical.{Character, code, codes_of, ends_in_line_end, closing_line_end, end_of, characters_of}
use Rattle.c_tokens.specs.Pieces.{Piece, Front, pieces, front_of, first_front, is_front_mark, after_piece, is_space, spelling}
use Rattle.c_tokens.specs.Lexed.{token_of, place_of, fault, fault_as, faults_from, pieces_of}
use Rattle.c_tokens.proofs.AfterLemmas.{length_codes_of}
use Rattle.c_tokens.proofs.FrontLemmas.{if_cases, Sized, sized_front}
use Rattle.c_tokens.proofs.ClosedFirst.{Closed, closed_first, first_within, if_both}

-- the line end that is added
abbrev line_end : ℕ → ℕ → Character
line_end from end = record { spelling = 10 ∷ []; from = from; own = end; to = end }

codes_closed : (cs : List Character) (from end : ℕ) → codes_of (cs ++ line_end from end ∷ []) ≡ codes_of cs ++ 10 ∷ []
codes_closed [] from end = refl
codes_closed (c ∷ cs) from end = ap (λ (xs : List ℕ). code c ∷ xs) (codes_closed cs from end)

closed_front : (context : Context) (c : Character) (cs : List Character) (from end : ℕ) → Closed (length (c ∷ cs)) (front_of context c cs) (front_of context c (cs ++ line_end from end ∷ []))
closed_front context c cs from end =
    let P : Front → Front → Type 0 = Closed (length (c ∷ cs)) in
    if_both P (is_front_mark c) _ _ _ _ (λ _. inl refl)
    (λ _. rw (codes_closed (c ∷ cs) from end, ← length_codes_of (c ∷ cs)) (closed_first context (code c) (codes_of cs)))

front_within : (context : Context) (c : Character) (cs : List Character) → (front_of context c cs).size ≤ length (c ∷ cs)
front_within context c cs = if_cases (λ (f : Front). f.size ≤ length (c ∷ cs)) (is_front_mark c) _ _ (λ _. omega arith)
    (λ _. rw (← length_codes_of (c ∷ cs)) (first_within context (codes_of (c ∷ cs)) (omega arith)))

pub pieces_past : (context : Context) (spaced : Bool) (skip : ℕ) (cs : List Character) → length cs ≤ skip → pieces context spaced skip cs ≡ []
pieces_past context spaced skip [] past = refl
pieces_past context spaced zero (c ∷ cs) past = absurd (omega arith)
pieces_past context spaced (suc skip) (c ∷ cs) past = pieces_past context spaced skip cs (omega arith)

-- pieces that give the same
pub record SameFound (ps qs : List Piece) : Type 0 where
  pub same_tokens : flat_map token_of ps ≡ flat_map token_of qs
  pub same_places : flat_map place_of ps ≡ flat_map place_of qs
  pub same_faults : (number : ℕ) → faults_from number ps ≡ faults_from number qs

same_found : (ps : List Piece) → SameFound ps ps
same_found ps = record { same_tokens = refl; same_places = refl; same_faults = λ number. refl }

same_behind : (p : Piece) (ps qs : List Piece) → SameFound ps qs → SameFound (p ∷ ps) (p ∷ qs)
same_behind p ps qs same = record {
  same_tokens = ap (λ ts. token_of p ++ ts) same.same_tokens;
  same_places = ap (λ rs. place_of p ++ rs) same.same_places;
  same_faults = λ number. ap (λ fs. fault_as p.class p.characters number ++ fs) (same.same_faults (number + length (token_of p)));
}

-- the pieces of some characters, by what stands at their front
abbrev built : Context → Bool → Front → List Character → List Character → List Piece
built context spaced f own cs = (record { class = f.class; characters = own; context = context; spaced = spaced }) ∷ pieces (after_piece f.class context (spelling own)) (is_space f.class) (f.size - 1) cs

-- an open comment at the end
ends_open : (context : Context) (spaced : Bool) (f : Front) (own cs : List Character) → f.class ≡ OpenComment → length cs ≤ f.size - 1
    → built context spaced f own cs ≡ (record { class = OpenComment; characters = own; context = context; spaced = spaced }) ∷ []
ends_open context spaced f own cs e past =
    ap (λ (ps : List Piece). (record { class = f.class; characters = own; context = context; spaced = spaced }) ∷ ps) (pieces_past (after_piece f.class context (spelling own)) (is_space f.class) (f.size - 1) cs past)
    ∙ ap (λ (k : Class). (record { class = k; characters = own; context = context; spaced = spaced }) ∷ []) e

same_open : (context : Context) (spaced : Bool) (own own' : List Character) → take 2 own' ≡ take 2 own
    → SameFound ((record { class = OpenComment; characters = own'; context = context; spaced = spaced }) ∷ []) ((record { class = OpenComment; characters = own; context = context; spaced = spaced }) ∷ [])
same_open context spaced own own' e = record {
  same_tokens = refl;
  same_places = refl;
  same_faults = λ number. ap (λ (cs : List Character). fault 101 cs None ++ []) e;
}

closed_at_end : (context : Context) (spaced : Bool) (from end : ℕ) → SameFound (pieces context spaced 0 (line_end from end ∷ [])) []
unfolding first_front
closed_at_end context spaced from end =
    let m : Character = line_end from end in
    if_cases (λ (f : Front). SameFound (built context spaced f (take f.size (m ∷ [])) []) []) (is_front_mark m) _ _ (λ _. record { same_tokens = refl; same_places = refl; same_faults = λ _. refl }) (λ _. record { same_tokens = refl; same_places = refl; same_faults = λ _. refl })

closed_by : (context : Context) (spaced : Bool) (c : Character) (cs : List Character) (from end : ℕ) (f f' : Front)
    → Closed (length (c ∷ cs)) f f' → f.size ≤ length (c ∷ cs) → Sized f
    → SameFound (pieces (after_piece f.class context (spelling (take f.size (c ∷ cs)))) (is_space f.class) (f.size - 1) (cs ++ line_end from end ∷ [])) (pieces (after_piece f.class context (spelling (take f.size (c ∷ cs)))) (is_space f.class) (f.size - 1) cs)
    → SameFound (built context spaced f' (take f'.size (c ∷ cs ++ line_end from end ∷ [])) (cs ++ line_end from end ∷ [])) (built context spaced f (take f.size (c ∷ cs)) cs)
closed_by context spaced c cs from end f f' (inl e) within sized behind =
    let m : Character = line_end from end in
    let wanted : List Piece = built context spaced f (take f.size (c ∷ cs)) cs in
    subst (λ (g : Front). SameFound (built context spaced g (take g.size (c ∷ cs ++ m ∷ [])) (cs ++ m ∷ [])) wanted) (sym e)
    (subst (λ (own : List Character). SameFound (built context spaced f own (cs ++ m ∷ [])) wanted) (sym (take-append-le f.size (c ∷ cs) (m ∷ []) within))
    (same_behind _ _ _ behind))
closed_by context spaced c cs from end f f' (inr takes) within sized behind =
    let m : Character = line_end from end in
    let own : List Character = take f.size (c ∷ cs) in
    let own' : List Character = take f'.size (c ∷ cs ++ m ∷ []) in
    let two : 2 ≤ length (c ∷ cs) = omega (arith, sized.two takes.open_before, takes.all_before) in
    let all : own ≡ c ∷ cs = take_all f.size (c ∷ cs) (omega (arith, takes.all_before)) in
    let all' : own' ≡ c ∷ cs ++ m ∷ [] = take_all f'.size (c ∷ cs ++ m ∷ []) (omega (arith, takes.all_after, length-append (c ∷ cs) (m ∷ []))) in
    let same : take 2 own' ≡ take 2 own = ap (take 2) all' ∙ (take-append-le 2 (c ∷ cs) (m ∷ []) two ∙ ap (take 2) (sym all)) in
    rw (
      ends_open context spaced f' own' (cs ++ m ∷ []) takes.open_after (omega (arith, takes.all_after, length-append cs (m ∷ []))),
      ends_open context spaced f own cs takes.open_before (omega (arith, takes.all_before)),
    )
    (same_open context spaced own own' same)

pub closed_pieces : (context : Context) (spaced : Bool) (skip : ℕ) (cs : List Character) (from end : ℕ) → SameFound (pieces context spaced skip (cs ++ line_end from end ∷ [])) (pieces context spaced skip cs)
closed_pieces context spaced zero [] from end = closed_at_end context spaced from end
closed_pieces context spaced (suc skip) [] from end = same_found []
closed_pieces context spaced (suc skip) (c ∷ cs) from end = closed_pieces context spaced skip cs from end
closed_pieces context spaced zero (c ∷ cs) from end =
    let f : Front = front_of context c cs in
    closed_by context spaced c cs from end f (front_of context c (cs ++ line_end from end ∷ [])) (closed_front context c cs from end) (front_within context c cs) (sized_front context c cs)
    (closed_pieces (after_piece f.class context (spelling (take f.size (c ∷ cs)))) (is_space f.class) (f.size - 1) cs from end)

-- so what a text gives is what it gives without the line end that is added
pub closed_text : (text : List ℕ) → SameFound (pieces_of text) (pieces Fresh false 0 (characters_of text))
unfolding closing_line_end
closed_text text =
    let cs : List Character = characters_of text in
    if_cases (λ (t : List Character). SameFound (pieces Fresh false 0 (cs ++ t)) (pieces Fresh false 0 cs)) (ends_in_line_end false cs) _ _
    (λ _. rw (append-nil cs) (same_found (pieces Fresh false 0 cs)))
    (λ _. closed_pieces Fresh false 0 cs (end_of 0 cs) (length text))
