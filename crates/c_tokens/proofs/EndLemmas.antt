-- At the end of a text all was found.
use Rattle.std.proofs.Common.{◌≡◌, ℕ, ◌+◌, ◌<◌, ◌≤◌, Bool, false, List, [], ◌∷◌, ◌++◌, length, Option, Some, None, IfSome, refl, ap, sym, ◌∙◌, subst, arith}
use Rattle.std.proofs.lemmas.List.{append-nil, length-append}
use Rattle.tok_data.specs.declared.tokens.PpKind.TheVariants.{Ident, Number, Char, Str, Header, Punct, Stray}
use Rattle.c_tokens.specs.declared.pieces.Class.{Class}
use Rattle.c_tokens.specs.declared.pieces.Class.TheVariants.{Blank, LineEnd, Comment, OpenComment, Token, OpenLiteral}
use Rattle.std.specs.List.{flat_map}
use Rattle.c_tokens.specs.declared.pieces.Context.{Context}
use Rattle.c_tokens.specs.declared.pieces.Context.TheVariants.{Fresh}
use Rattle.tok_data.specs.declared.tokens.PpToken.{PpToken}
use Rattle.c_tokens.specs.declared.types.LexFault.{LexFault}
use Rattle.c_tokens.specs.Logical.{Character, logical, characters_of, closing_line_end, ends_in_line_end, end_of}
use Rattle.c_tokens.specs.Pieces.{Piece, pieces}
use Rattle.c_tokens.specs.Lexed.{token_of, place_of, fault_as, faults_from, pieces_of}
use Rattle.c_tokens.specs.Reading.{rest}
use Rattle.c_tokens.specs.Laws.{Follow, AreNumbered}
use Rattle.c_tokens.proofs.FrontLemmas.{if_cases}
use Rattle.c_tokens.proofs.FollowLemmas.{text_follows, follow_closed}
use Rattle.c_tokens.proofs.LexingLemmas.{Goes}
use Rattle.c_tokens.proofs.ClosedPieces.{closed_text}

-- at the end of a text
pub ended_tokens : (tokens : List PpToken) (places : List (ℕ × ℕ)) (faults : List LexFault) (text : List ℕ) (at : ℕ) (context : Context) (spaced : Bool)
    → rest text at ≡ [] → Goes tokens places faults (pieces context spaced 0 (rest text at)) (pieces Fresh false 0 (rest text 0)) → tokens ≡ flat_map token_of (pieces_of text)
unfolding rest
ended_tokens tokens places faults text at context spaced none goes =
    sym (append-nil tokens) ∙ (sym (ap (λ (cs : List Character). tokens ++ flat_map token_of (pieces context spaced 0 cs)) none) ∙ (goes.found_tokens ∙ sym (closed_text text).same_tokens))

pub ended_places : (tokens : List PpToken) (places : List (ℕ × ℕ)) (faults : List LexFault) (text : List ℕ) (at : ℕ) (context : Context) (spaced : Bool)
    → rest text at ≡ [] → Goes tokens places faults (pieces context spaced 0 (rest text at)) (pieces Fresh false 0 (rest text 0)) → places ≡ flat_map place_of (pieces_of text)
unfolding rest
ended_places tokens places faults text at context spaced none goes =
    sym (append-nil places) ∙ (sym (ap (λ (cs : List Character). places ++ flat_map place_of (pieces context spaced 0 cs)) none) ∙ (goes.found_places ∙ sym (closed_text text).same_places))

pub ended_faults : (tokens : List PpToken) (places : List (ℕ × ℕ)) (faults : List LexFault) (text : List ℕ) (at : ℕ) (context : Context) (spaced : Bool)
    → rest text at ≡ [] → Goes tokens places faults (pieces context spaced 0 (rest text at)) (pieces Fresh false 0 (rest text 0)) → faults ≡ faults_from 0 (pieces_of text)
unfolding rest
ended_faults tokens places faults text at context spaced none goes =
    sym (append-nil faults) ∙ (sym (ap (λ (cs : List Character). faults ++ faults_from (length tokens) (pieces context spaced 0 cs)) none) ∙ (goes.found_faults ∙ sym ((closed_text text).same_faults 0)))

-- the ranges of all logical characters
pub logical_follows : (text : List ℕ) → Follow 0 (length text) (logical text)
unfolding closing_line_end
logical_follows text =
    let cs : List Character = characters_of text in
    let m : Character = record { spelling = 10 ∷ []; from = end_of 0 cs; own = length text; to = length text } in
    if_cases (λ (t : List Character). Follow 0 (length text) (cs ++ t)) (ends_in_line_end false cs) [] (m ∷ [])
    (λ _. rw (append-nil cs) (text_follows text))
    (λ _. follow_closed 0 (length text) cs m refl refl refl (text_follows text))

-- a fault of some pieces has one of their tokens
numbered_more : (fs more : List LexFault) (few many : ℕ) → few ≤ many → AreNumbered few fs → AreNumbered many more → AreNumbered many (fs ++ more)
numbered_more [] more few many h a b = b
numbered_more (f ∷ fs) more few many h a b = (if_less f.tok a.0, numbered_more fs more few many h a.1 b) where
  if_less : (o : Option ℕ) → IfSome o (λ number. number < few) → IfSome o (λ number. number < many)
  if_less None i = tt
  if_less (Some number) i = omega (arith, i)

one_numbered : (class : Class) (cs : List Character) (number : ℕ) (context : Context) (spaced : Bool)
    → AreNumbered (number + length (token_of (record { class = class; characters = cs; context = context; spaced = spaced }))) (fault_as class cs number)
one_numbered OpenComment cs number context spaced = (tt, tt)
one_numbered (OpenLiteral kind) cs number context spaced = (omega arith, tt)
one_numbered (Token Stray) cs number context spaced = (omega arith, tt)
one_numbered (Token Ident) cs number context spaced = tt
one_numbered (Token Number) cs number context spaced = tt
one_numbered (Token Char) cs number context spaced = tt
one_numbered (Token Str) cs number context spaced = tt
one_numbered (Token Header) cs number context spaced = tt
one_numbered (Token Punct) cs number context spaced = tt
one_numbered Blank cs number context spaced = tt
one_numbered LineEnd cs number context spaced = tt
one_numbered Comment cs number context spaced = tt

numbered_from : (ps : List Piece) (number : ℕ) → AreNumbered (number + length (flat_map token_of ps)) (faults_from number ps)
numbered_from [] number = tt
numbered_from (p ∷ ps) number =
    let own = token_of p in
    let n : length (flat_map token_of (p ∷ ps)) ≡ length own + length (flat_map token_of ps) = length-append own (flat_map token_of ps) in
    let e : (number + length own) + length (flat_map token_of ps) ≡ number + length (flat_map token_of (p ∷ ps)) = omega (arith, n) in
    numbered_more (fault_as p.class p.characters number) (faults_from (number + length own) ps) (number + length own) (number + length (flat_map token_of (p ∷ ps)))
    (omega (arith, n)) (one_numbered p.class p.characters number p.context p.spaced)
    (subst (λ (k : ℕ). AreNumbered k (faults_from (number + length own) ps)) e (numbered_from ps (number + length own)))

pub numbered_faults : (text : List ℕ) → AreNumbered (length (flat_map token_of (pieces_of text))) (faults_from 0 (pieces_of text))
numbered_faults text =
    let e : 0 + length (flat_map token_of (pieces_of text)) ≡ length (flat_map token_of (pieces_of text)) = omega arith in
    subst (λ (k : ℕ). AreNumbered k (faults_from 0 (pieces_of text))) e (numbered_from (pieces_of text) 0)
