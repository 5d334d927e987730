-- A list that is read piece by piece.
use Rattle.std.proofs.Common.{◌≡◌, refl, ap, sym, ◌∙◌, append_assoc, ℕ, zero, suc, Bool, true, false, ◌||◌, List, [], ◌∷◌, ◌++◌, map, flat_map, drop, Option, None, codes, if◌then◌else◌}
use Rattle.std.specs.List.{list_any}
use Rattle.tok_data.specs.declared.tokens.OutToken.{OutToken}
use Rattle.tok_data.specs.declared.macros.MacroOcc.{MacroOcc}
use Rattle.macro_expand.specs.Expansion.{Definitions}
use Rattle.pp_cond.specs.declared.reader.Reader.{Reader}
use Rattle.pp_cond.specs.Defined.{pieces, pieces_behind, piece, tested, width, name_in, is_word, operand, written, prepared, occurrences_of, occurrences, symbol, symbols}
use Rattle.pp_cond.specs.Machine.{run, step}

-- those of a list of which the first tokens are left out are those of the list behind them
pub pieces_skip : (n : ℕ) → (ts : List OutToken) → pieces_behind n ts ≡ pieces (drop n ts)
pieces_skip zero [] = refl
pieces_skip zero (t ∷ ts) = refl
pieces_skip (suc n) [] = refl
pieces_skip (suc n) (t ∷ ts) = pieces_skip n ts

-- what stands at the front of a list that is read
pub record Front (rest : List OutToken) (t : OutToken) (ts : List OutToken) (operand : Option OutToken) (after : List OutToken) : Type 0 where
  pub is : rest ≡ t ∷ ts
  pub tests : operand ≡ name_in (tested t ts)
  pub behind : after ≡ drop (width (tested t ts)) ts

pub pieces_turn : (rest : List OutToken) → (t : OutToken) → (ts : List OutToken) → (operand : Option OutToken) → (after : List OutToken)
    → Front rest t ts operand after → pieces rest ≡ piece t operand ∷ pieces after
pieces_turn rest t ts operand after f =
    ap pieces f.is
    ∙ ap (λ ps. piece t (name_in (tested t ts)) ∷ ps) (pieces_skip (width (tested t ts)) ts ∙ ap pieces (sym f.behind))
    ∙ ap (λ o. piece t o ∷ pieces after) (sym f.tests)

pub prepared_turns : (table : Definitions) → (made all rest : List OutToken) → (t : OutToken) → (ts : List OutToken)
    → (operand : Option OutToken) → (after : List OutToken) → (w : OutToken) → Front rest t ts operand after
    → w ≡ written table (piece t operand) → made ++ prepared table rest ≡ all
    → (made ++ w ∷ []) ++ prepared table after ≡ all
prepared_turns table made all rest t ts operand after w f e h =
    append_assoc made (w ∷ []) (prepared table after)
    ∙ ap (λ x. made ++ x ∷ prepared table after) e
    ∙ ap (λ ps. made ++ map (written table) ps) (sym (pieces_turn rest t ts operand after f))
    ∙ h

-- where no token is `defined` the tokens stay
none_is : (b r : Bool) → b || r ≡ false → (b ≡ false) × (r ≡ false)
none_is true r e = cc e
none_is false r e = (refl, e)

pub prepared_same : (table : Definitions) → (ts : List OutToken) → list_any (is_word (codes "defined")) ts ≡ false → prepared table ts ≡ ts
prepared_same table [] none = refl
prepared_same table (t ∷ ts) none =
    let split = none_is (is_word (codes "defined") t) (list_any (is_word (codes "defined")) ts) none in
    let untested : tested t ts ≡ None = ap (λ b. if b then operand ts else None) split.0 in
    ap (λ o. map (written table) (piece t (name_in o) ∷ pieces_behind (width o) ts)) untested
    ∙ ap (λ xs. t ∷ xs) (prepared_same table ts split.1)

pub symbols_turn : (table : Definitions) → (r : Reader) → (rest : List OutToken) → (t : OutToken) → (ts : List OutToken)
    → (operand : Option OutToken) → (after : List OutToken) → Front rest t ts operand after
    → run (step (symbol table (piece t operand)) r) (symbols table after) ≡ run r (symbols table rest)
symbols_turn table r rest t ts operand after f =
    ap (λ ps. run r (map (symbol table) ps)) (sym (pieces_turn rest t ts operand after f))

pub occurrences_turn : (table : Definitions) → (left : Bool) → (made all : List MacroOcc) → (rest : List OutToken)
    → (t : OutToken) → (ts : List OutToken) → (operand : Option OutToken) → (after : List OutToken) → (occs : List MacroOcc)
    → Front rest t ts operand after → occs ≡ occurrences_of table left (piece t operand)
    → made ++ occurrences table left rest ≡ all → (made ++ occs) ++ occurrences table left after ≡ all
occurrences_turn table left made all rest t ts operand after occs f e h =
    append_assoc made occs (occurrences table left after)
    ∙ ap (λ x. made ++ (x ++ occurrences table left after)) e
    ∙ ap (λ ps. made ++ flat_map (occurrences_of table left) ps) (sym (pieces_turn rest t ts operand after f))
    ∙ h
