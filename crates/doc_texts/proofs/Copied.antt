-- Entries that are put in one after another, in their order.
use Rattle.std.proofs.Common.{◌≡◌, ℕ, List, [], ◌∷◌, ◌++◌, Less, Greater, sym, refl, ap, ◌∙◌, append_assoc, subst}
use Rattle.std.specs.BTreeMap.{insert_entry}
use Rattle.std.specs.Cmp.Lexicographic.{nat_list_cmp_total}
use Rattle.std.specs.List.{AllByRecursion}
use Rattle.std.specs.List.Sorted.{IsStrictlySortedBy}
use Rattle.std.specs.Map.{keys_of}
use Rattle.std.specs.Ordering.{match_ordering, ordering_reverse}
use Rattle.doc_texts.proofs.Maps.{by_bytes}

module _ {X : Type 0} where
  among : (P : List ℕ → Type 0) (es : List (List ℕ × X)) (k : List ℕ) (v : X) (rest : List (List ℕ × X)) → AllByRecursion P (keys_of (es ++ (k, v) ∷ rest)) → P k
  among P [] k v rest h = h.0
  among P (e ∷ es) k v rest h = among P es k v rest h.1

  -- an entry above all that are there comes last
  put_last : (es : List (List ℕ × X)) (k : List ℕ) (v : X) (rest : List (List ℕ × X)) → IsStrictlySortedBy by_bytes (keys_of (es ++ (k, v) ∷ rest)) → insert_entry by_bytes es k v ≡ es ++ (k, v) ∷ []
  unfolding IsStrictlySortedBy
  put_last [] k v rest s = refl
  put_last (e ∷ es) k v rest s =
      let below = among (λ y. by_bytes e.0 y ≡ Less) es k v rest s.0 in
      let above : by_bytes k e.0 ≡ Greater = nat_list_cmp_total.antisymm k e.0 ∙ ap ordering_reverse below in
      ap (λ o. match_ordering o ((k, v) ∷ e ∷ es) ((e.0, v) ∷ es) (e ∷ insert_entry by_bytes es k v)) above
      ∙ ap (λ fs. e ∷ fs) (put_last es k v rest s.1)

  -- what is left to put in, after one more entry
  pub entry_again : (es from rest all made : List (List ℕ × X)) (k j : List ℕ) (v w : X) → IsStrictlySortedBy by_bytes (keys_of all) → es ++ from ≡ all → from ≡ (k, v) ∷ rest → made ≡ insert_entry by_bytes es j w → j ≡ k → w ≡ v → made ++ rest ≡ all
  entry_again es from rest all made k j v w sorted so_far is put key value =
      let same = ap (λ fs. es ++ fs) (sym is) ∙ so_far in
      ap (λ fs. fs ++ rest) (put ∙ (λ i. insert_entry by_bytes es (key i) (value i)) ∙ put_last es k v rest (subst (λ fs. IsStrictlySortedBy by_bytes (keys_of fs)) (sym same) sorted))
      ∙ append_assoc es ((k, v) ∷ []) rest ∙ same
