-- Items are named from the front: the labels that were counted are those of the items before.
use Rattle.std.proofs.Common.{◌≡◌, ℕ, ◌+◌, ◌-◌, List, [], ◌∷◌, ◌++◌, take, drop, bytes_eq, if◌then◌else◌, ap, ◌∙◌, subst, append_assoc}
use Rattle.item_cut.specs.Labels.{label}
use Rattle.tok_data.specs.declared.tokens.OutToken.{OutToken}
use Rattle.unit_items.specs.declared.items.Item.{Item}
use Rattle.unit_items.specs.Items.{item, times, named}

-- labels that were counted as `count` says are those before what is left, and the items that were made and what is left make the whole
pub record Names (whole made : List Item) (count : List ℕ → ℕ) (left : List OutToken) (rest : List (ℕ × ℕ)) : Type 0 where
  pub seen : List (List ℕ)
  pub told : (t : List ℕ) → count t ≡ times t seen
  pub makes : made ++ named left seen rest ≡ whole

-- the next item is named, and its label counts from there on
pub names_turn : {whole made : List Item} → {count : List ℕ → ℕ} → {left : List OutToken} → (p : ℕ × ℕ) → {ps : List (ℕ × ℕ)}
    → Names whole made count left (p ∷ ps)
    → (next : List ℕ → ℕ) → (one : Item)
    → ((seen : List (List ℕ)) → ((t : List ℕ) → count t ≡ times t seen) → one ≡ item (label (take (p.1 - p.0) left)) seen p.0 p.1)
    → ((t : List ℕ) → next t ≡ (if bytes_eq (label (take (p.1 - p.0) left)) t then count t + 1 else count t))
    → Names whole (made ++ one ∷ []) next (drop (p.1 - p.0) left) ps
names_turn {whole} {made} {count} {left} p {ps} n next one is counts =
    let text : List ℕ = label (take (p.1 - p.0) left) in
    let rest : List Item = named (drop (p.1 - p.0) left) (text ∷ n.seen) ps in
    record {
      seen = text ∷ n.seen;
      told = λ t. counts t ∙ ap (λ k. if bytes_eq text t then k + 1 else k) (n.told t);
      makes = append_assoc made (one ∷ []) rest ∙ ap (λ i. made ++ i ∷ rest) (is n.seen n.told) ∙ n.makes;
    }

-- the same of values that are these
pub names_next : {whole made made' : List Item} → {count next : List ℕ → ℕ} → {left left' : List OutToken} → {p : ℕ × ℕ} → {all ps : List (ℕ × ℕ)}
    → {one : Item} → {text : List ℕ}
    → Names whole made count left all → all ≡ p ∷ ps → text ≡ label (take (p.1 - p.0) left) → drop (p.1 - p.0) left ≡ left' → made ++ one ∷ [] ≡ made'
    → ((seen : List (List ℕ)) → ((t : List ℕ) → count t ≡ times t seen) → one ≡ item text seen p.0 p.1)
    → ((t : List ℕ) → next t ≡ (if bytes_eq text t then count t + 1 else count t))
    → Names whole made' next left' ps
names_next {whole} {made} {made'} {count} {next} {left} {left'} {p} {all} {ps} {one} {text} n is labelled back pushed named_so counts =
    let turned : Names whole (made ++ one ∷ []) next (drop (p.1 - p.0) left) ps =
    names_turn p (subst (λ xs. Names whole made count left xs) is n) next one
    (λ seen h. named_so seen h ∙ ap (λ w. item w seen p.0 p.1) labelled)
    (λ t. counts t ∙ ap (λ w. if bytes_eq w t then count t + 1 else count t) labelled) in
    subst (λ xs. Names whole xs next left' ps) pushed (subst (λ l. Names whole (made ++ one ∷ []) next l ps) back turned)
