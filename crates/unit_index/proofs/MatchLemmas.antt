-- A walk over the pairs of tags that two types lead to.
use Rattle.std.proofs.Common.{◌≡◌, ℕ, ◌+◌, ◌<◌, ◌^◌, Bool, true, false, List, [], Option, Some, None, refl, sym, ap, subst, ◌∙◌}
use Rattle.std.specs.List.{slice_get}
use Rattle.std.specs.Map.{lookup}
use Rattle.type_data.specs.declared.members.TagInfo.{TagInfo}
use Rattle.type_data.specs.Same.{same_tag}
use Rattle.type_data.specs.Types.{Ty}
use Rattle.type_rel.specs.Inside.{most_tags}
use Rattle.unit_index.specs.declared.pairs.TagPair.{TagPair}
use Rattle.unit_index.specs.Closing.{each, stands}
use Rattle.unit_index.specs.Handles.{Tagging}
use Rattle.unit_index.specs.Matching.{Match, matched, pair_needs, tags_need, Told, types_need}
use Rattle.unit_index.specs.Needs.{Needed, needs, noted, provided}
use Rattle.unit_index.specs.Pairs.{same_pair}
use Rattle.unit_index.proofs.ClosingLemmas.{Walking, begins, fails, fails_at_once, falls, meets, stays, turns}
use Rattle.unit_index.proofs.NeedLemmas.{pair_exact}

abbrev pub IsWalked : Tagging → Tagging → Ty → Ty → ℕ → List TagPair → Type 0
IsWalked ta tb a b at seen = Walking same_pair pair_exact (pair_needs ta tb) (types_need a b) at seen

-- of what is noted for all that is needed besides
abbrev pub Noting : List TagPair → List TagPair → (Needed → Needed) → Bool → Type 0
Noting seen now need fits = (more : Needed) → noted seen (need more) ≡ provided fits (noted now more)

pub noting_types : (a b : Ty) (seen now : List TagPair) (said fits : Bool) → Noting seen now (needs a b) said → said ≡ fits → Noting seen now (needs a b) fits
noting_types a b seen now said fits is e = λ more. is more ∙ ap (λ c. provided c (noted now more)) e

pub noting_tags : (ta tb : Tagging) (seen now : List TagPair) (p : TagPair) (x y : Option TagInfo) (said fits : Bool)
    → x ≡ lookup (same_tag p.left) ta → y ≡ lookup (same_tag p.right) tb → Noting seen now (tags_need p.read_as ta tb x y) said → said ≡ fits
    → Noting seen now (tags_need p.read_as ta tb (lookup (same_tag p.left) ta) (lookup (same_tag p.right) tb)) fits
noting_tags ta tb seen now p x y said fits ex ey is e = λ more.
    ap (λ o. noted seen (tags_need p.read_as ta tb o (lookup (same_tag p.right) tb) more)) (sym ex)
    ∙ ap (λ o. noted seen (tags_need p.read_as ta tb x o more)) (sym ey)
    ∙ is more ∙ ap (λ c. provided c (noted now more)) e

below_most : (n : ℕ) → n < 2 ^ 63 → n < most_tags
unfolding most_tags
below_most n h = h

as_test : (ta tb : Tagging) (a b : Ty) (said : Bool) → each (stands (pair_needs ta tb) most_tags) (types_need a b) ≡ said → said ≡ matched ta tb a b
unfolding matched
as_test ta tb a b said h = sym h

told_no : (ta tb : Tagging) (a b : Ty) → (Match ta tb a b → ⊥) → each (stands (pair_needs ta tb) most_tags) (types_need a b) ≡ false → Told ta tb a b false
told_no ta tb a b none test = record {
  meant = (λ h. let bad : ⊥ = cc in absurd bad, λ m. absurd (none m));
  value = as_test ta tb a b false test;
}

pub walk_begins : (ta tb : Tagging) (a b : Ty) (seen now : List TagPair) → seen ≡ [] → Noting seen now (needs a b) true → IsWalked ta tb a b 0 now
walk_begins ta tb a b seen now none is =
    begins same_pair pair_exact (pair_needs ta tb) (types_need a b) now (subst (λ s. noted s (types_need a b) ≡ Some now) none (is (Some [])))

pub walk_turns : (ta tb : Tagging) (a b : Ty) (at : ℕ) (seen now : List TagPair) (p : TagPair) → IsWalked ta tb a b at seen → slice_get seen at ≡ Some p
    → Noting seen now (tags_need p.read_as ta tb (lookup (same_tag p.left) ta) (lookup (same_tag p.right) tb)) true → IsWalked ta tb a b (at + 1) now
walk_turns ta tb a b at seen now p was here is = turns same_pair pair_exact (pair_needs ta tb) (types_need a b) at seen now p was here (is (Some []))

pub walk_ends : (ta tb : Tagging) (a b : Ty) (at : ℕ) (seen : List TagPair) → IsWalked ta tb a b at seen → slice_get seen at ≡ None → Told ta tb a b true
walk_ends ta tb a b at seen was none =
    let m : Match ta tb a b = meets same_pair pair_exact (pair_needs ta tb) (types_need a b) at seen was none in
    record {
      meant = (λ h. m, λ n. refl);
      value = as_test ta tb a b true (stays same_pair pair_exact (pair_needs ta tb) (types_need a b) most_tags m);
    }

pub walk_fails : (ta tb : Tagging) (a b : Ty) (at : ℕ) (seen now : List TagPair) (p : TagPair) → IsWalked ta tb a b at seen → slice_get seen at ≡ Some p → at < 2 ^ 63
    → Noting seen now (tags_need p.read_as ta tb (lookup (same_tag p.left) ta) (lookup (same_tag p.right) tb)) false → Told ta tb a b false
walk_fails ta tb a b at seen now p was here small is =
    told_no ta tb a b
    (fails same_pair pair_exact (pair_needs ta tb) (types_need a b) at seen p was here (is (Some [])))
    (falls same_pair pair_exact (pair_needs ta tb) (types_need a b) at most_tags seen p was here (is (Some [])) (below_most at small))

pub walk_refuses : (ta tb : Tagging) (a b : Ty) (seen now : List TagPair) → Noting seen now (needs a b) false → Told ta tb a b false
walk_refuses ta tb a b seen now is =
    let none : types_need a b ≡ None = nothing (types_need a b) (is (Some [])) in
    told_no ta tb a b
    (fails_at_once same_pair pair_exact (pair_needs ta tb) (types_need a b) none)
    (ap (each (stands (pair_needs ta tb) most_tags)) none)
  where
    nothing : (needed : Needed) → noted seen needed ≡ None → needed ≡ None
    nothing None h = refl
    nothing (Some ps) h = let bad : ⊥ = cc in absurd bad
