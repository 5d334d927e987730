-- What the pieces that were read give.
use Rattle.std.proofs.Common.{◌≡◌, ℕ, zero, suc, ◌-◌, ◌<◌, ◌≤◌, List, [], ◌∷◌, ◌++◌, length, take, refl, ap, sym, ◌∙◌, arith, append_assoc, None}
use Rattle.c_tokens.specs.declared.logical.Read.{Read}
use Rattle.c_tokens.specs.Logical.{Character, start_of, end_of}
use Rattle.c_tokens.specs.Pieces.{spelling}
use Rattle.c_tokens.specs.Lexed.{fault}
use Rattle.c_tokens.specs.Reading.{rest, IsNext, read_spelling}

-- one character more of those to be joined
pub spelling_turns : (text : List ℕ) (place left : ℕ) (r : Read) (out made all : List ℕ) → 0 < left → IsNext text place r → made ≡ out ++ read_spelling r.unit text r.own r.end → out ++ spelling (take left (rest text place)) ≡ all → made ++ spelling (take (left - 1) (rest text r.end)) ≡ all
spelling_turns text place zero r out made all some next e joined = absurd (omega arith)
spelling_turns text place (suc left) r out made all some next e joined =
    let less : suc left - 1 ≡ left = omega arith in
    rw (less, e) (append_assoc out (read_spelling r.unit text r.own r.end) (spelling (take left (rest text r.end)))
    ∙ (sym (ap (λ (cs : List Character). out ++ spelling (take (suc left) cs)) next.first) ∙ joined))

-- one character fewer
pub enough_turns : (text : List ℕ) (place left : ℕ) (r : Read) → IsNext text place r → left ≤ length (rest text place) → left - 1 ≤ length (rest text r.end)
enough_turns text place left r next enough = omega (arith, ap length next.first)

-- where some characters end does not depend on where they begin
pub end_of_some : (at : ℕ) (cs : List Character) → 0 < length cs → end_of 0 cs ≡ end_of at cs
end_of_some at [] some = absurd (omega arith)
end_of_some at (c ∷ cs) some = refl

-- the place of an open comment
pub place_of_two : (at own end count : ℕ) (cs : List Character) → 2 ≤ count → count ≤ length cs → own ≡ start_of (take count cs) → end ≡ end_of at (take 2 cs) → (record { rule = 101; start = own; end = end; tok = None }) ∷ [] ≡ fault 101 (take 2 (take count cs)) None
place_of_two at own end zero cs two enough e f = absurd (omega arith)
place_of_two at own end (suc zero) cs two enough e f = absurd (omega arith)
place_of_two at own end (suc (suc count)) [] two enough e f = absurd (omega arith)
place_of_two at own end (suc (suc count)) (c ∷ []) two enough e f = absurd (omega arith)
place_of_two at own end (suc (suc count)) (c ∷ d ∷ cs) two enough e f = rw (e, f) refl
