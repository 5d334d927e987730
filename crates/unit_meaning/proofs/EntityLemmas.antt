-- The entities that are left stand from a place on, and the first of them at it.
use Rattle.std.proofs.Common.{arith, ◌≡◌, ◌≤◌, ◌+◌, ◌-◌, ℕ, suc, List, ◌∷◌, length, drop, ap, sym, ◌∙◌}
use Rattle.std.proofs.lemmas.List.{drop-drop}
use Rattle.scope_tables.specs.declared.entities.Anchor.{Anchor}
use Rattle.scope_tables.specs.declared.entities.Entity.{Entity}
use Rattle.scope_tables.specs.Shared.{anchored, first_as}
use Rattle.unit_items.specs.Sources as sources
use Rattle.unit_items.specs.Units.{Unit}
use Rattle.unit_meaning.specs.Entities.{By_anchor, entity, put, put_all}

is_behind : {A : Type 0} (xs left : List A) (x : A) (n m : ℕ) → drop n xs ≡ x ∷ left → m ≡ n + 1 → drop m xs ≡ left
is_behind xs left x n m here next = ap (λ k. drop k xs) next ∙ sym (drop-drop 1 n xs) ∙ ap (drop 1) here

-- where the next one stands
pub left_behind : {A : Type 0} (xs rest left : List A) (x : A) → drop (length xs - length rest) xs ≡ rest → rest ≡ x ∷ left → length rest ≤ length xs
    → drop (length xs - length left) xs ≡ left
left_behind xs rest left x here is short =
    let e : length rest ≡ suc (length left) = ap length is in
    is_behind xs left x (length xs - length rest) (length xs - length left) (here ∙ is) (omega (arith, e, short))

-- an entity is put as one of the unit
pub put_turns : (u : Unit) (all next first : By_anchor) (es rest left : List Entity) (x e : Entity) (count : ℕ) (a : Anchor)
    → count ≡ length es → drop (length es - length rest) es ≡ rest → rest ≡ x ∷ left
    → a ≡ sources.anchored u.tokens u.items x.anchor → e ≡ first_as a (drop (count - length rest) es) → next ≡ put all e
    → put_all u all rest ≡ first → put_all u next left ≡ first
put_turns u all next first es rest left x e count a many here is by made puts was =
    let at : drop (count - length rest) es ≡ x ∷ left = ap (λ n. drop (n - length rest) es) many ∙ here ∙ is in
    let one : e ≡ entity u x = made ∙ ap (first_as a) at ∙ ap (anchored x) by in
    ap (λ b. put_all u b left) (puts ∙ ap (put all) one) ∙ sym (ap (put_all u all) is) ∙ was
