-- Layouts are the same exactly where they are equal.
use Rattle.std.specs.Prelude.{◌≡◌, Bool, true, ◌&&◌, nat_eq}
use Rattle.std.proofs.Common.{refl, ap, ◌∙◌}
use Rattle.std.specs.Bool.{Decides}
use Rattle.std.specs.Cmp.{IsEquivalence, decided, unsigned_Decides}
use Rattle.std.specs.Cmp.Lexicographic.{pointwise, bytes_decides}
use Rattle.type_data.specs.Layouts.{Laid}
use Rattle.type_data.specs.SameLaws.{both, join}

abbrev pub same_layout : Laid → Laid → Bool
same_layout a b = nat_eq a.size b.size && nat_eq a.align b.align && pointwise nat_eq a.offsets b.offsets

layout_sound : (a b : Laid) → same_layout a b ≡ true → a ≡ b
layout_sound a b h =
    let parts = both (nat_eq a.size b.size && nat_eq a.align b.align) (pointwise nat_eq a.offsets b.offsets) h in
    let more = both (nat_eq a.size b.size) (nat_eq a.align b.align) parts.0 in
    let s : a.size ≡ b.size = (unsigned_Decides a.size b.size).0 more.0 in
    let l : a.align ≡ b.align = (unsigned_Decides a.align b.align).0 more.1 in
    let o : a.offsets ≡ b.offsets = (bytes_decides a.offsets b.offsets).0 parts.1 in
    λ i. record { size = s i; align = l i; offsets = o i }

layout_itself : (a : Laid) → same_layout a a ≡ true
layout_itself a =
    join _ _ (join _ _ ((unsigned_Decides a.size a.size).1 refl) ((unsigned_Decides a.align a.align).1 refl)) ((bytes_decides a.offsets a.offsets).1 refl)

pub layout_decides : (a b : Laid) → Decides (same_layout a b) (a ≡ b)
layout_decides a b = (layout_sound a b, (λ e. ap (λ x. same_layout x b) e ∙ layout_itself b))

pub layouts_equiv : IsEquivalence same_layout
layouts_equiv = decided same_layout layout_decides
