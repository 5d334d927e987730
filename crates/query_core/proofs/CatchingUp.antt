-- What a demand leaves that begins by letting the clean records count as verified now.
use Rattle.std.proofs.Common.{◌≡◌, ℕ, ◌+◌, ◌≤◌, true, [], length, drop, ap, sym, ◌∙◌, subst, Some, Result, Ok, Err, IfOk, OnErr, append-nil, add-zero}
use Rattle.query_core.specs.Queries.{Queries, AreLawful}
use Rattle.query_core.specs.Graph.{Held, node_of, is_verified}
use Rattle.query_core.specs.Changes.{IsHolding, WalkedBy, ran}
use Rattle.query_core.proofs.Ending.{holds_already, ran_is}
use Rattle.query_core.proofs.Composing.{holding_after}

on_err_from : {A E : Type 0} (r : Result A E) (P Q : Type 0) → (P → Q) → OnErr r P → OnErr r Q
on_err_from (Ok a) P Q f h = h
on_err_from (Err e) P Q f h = f h

if_ok_map : {A E : Type 0} (r : Result A E) (P Q : A → Type 0) → ((a : A) → P a → Q a) → IfOk r P → IfOk r Q
if_ok_map (Ok a) P Q f h = f a h
if_ok_map (Err e) P Q f h = h

pub if_ok_first : {A E : Type 0} (r : Result A E) (P Q : A → Type 0) → IfOk r (λ a. P a × Q a) → IfOk r P
if_ok_first (Ok a) P Q h = h.0
if_ok_first (Err e) P Q h = h

module _ {K V : Type 0} (g0 g1 g2 : Held K V) (same : g1.runs ≡ g0.runs) where
  ran_same : ran g1 g2 ≡ ran g0 g2
  ran_same = ap (λ l. drop (length l) g2.runs) same

  pub caught_up_err : {E : Type 0} (steps steps' : ℕ) (r : Result ℕ E)
      → OnErr r ((steps + length (ran g1 g2) ≤ steps') × (steps' ≤ steps + length (ran g1 g2) + 1)) → OnErr r ((steps + length (ran g0 g2) ≤ steps') × (steps' ≤ steps + length (ran g0 g2) + 1))
  caught_up_err steps steps' r h = subst (λ l. OnErr r ((steps + length l ≤ steps') × (steps' ≤ steps + length l + 1))) ran_same h

  module _ (q : Queries K V) (laws : AreLawful q) (w : WalkedBy q g0 (λ k. ⊥) g1) (key : K) (steps steps' : ℕ) where
    pub caught_up_ok : {E : Type 0} (r : Result ℕ E) → IfOk r (λ id. IsHolding q g1 g2 key id × (steps' ≡ steps + length (ran g1 g2))) → IfOk r (λ id. IsHolding q g0 g2 key id × (steps' ≡ steps + length (ran g0 g2)))
    caught_up_ok r h =
        if_ok_map r (λ id. IsHolding q g1 g2 key id × (steps' ≡ steps + length (ran g1 g2))) (λ id. IsHolding q g0 g2 key id × (steps' ≡ steps + length (ran g0 g2)))
        (λ id p. (holding_after q laws g0 g1 g2 key id w.leaves.inputs_stay p.0, p.1 ∙ ap (λ l. steps + length l) ran_same)) h

-- a key that is verified after that
pub caught_up_now : {K V : Type 0} (q : Queries K V) (laws : AreLawful q) (g0 g1 : Held K V) → WalkedBy q g0 (λ k. ⊥) g1 → g1.runs ≡ g0.runs → (key : K) (i steps : ℕ) → node_of q g1 key ≡ Some i → is_verified q g1 key ≡ true
    → IsHolding q g0 g1 key i × (steps ≡ steps + length (ran g0 g1))
caught_up_now q laws g0 g1 w same key i steps n v = (
  holding_after q laws g0 g1 g1 key i w.leaves.inputs_stay (holds_already q laws g1 w.sound key i n v),
  sym (ap (λ l. steps + length l) (ran_is g0 g1 [] (same ∙ sym (append-nil g0.runs))) ∙ add-zero steps),
)
