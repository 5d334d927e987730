-- Entities are compared by all that is said of them.
use Rattle.std.proofs.Common.{rules, ◌≡◌, refl, ap, true, ◌&&◌, List, [], ◌∷◌, Option, Some, None}
use Rattle.std.proofs.lemmas.Bool.Decides.{Decides-int_eq}
use Rattle.std.proofs.lemmas.Slice.Eq.{bytes_eq-Decides}
use Rattle.std.specs.Bool.{Decides}
use Rattle.std.specs.Cmp.{unsigned_Decides}
use Rattle.std.specs.Cmp.Lexicographic.{pointwise}
use Rattle.std.specs.Option.{option_eq}
use Rattle.std.specs.Prelude.{bytes_eq}
use Rattle.scope_tables.specs.contracts.entities.AnchorPartialEq.TheImpl as anchors
use Rattle.scope_tables.specs.contracts.entities.EntityKindPartialEq.TheImpl as kinds
use Rattle.scope_tables.specs.contracts.entities.EntityPartialEq.TheImpl as entities
use Rattle.scope_tables.specs.contracts.entities.LifePartialEq.TheImpl as lives
use Rattle.scope_tables.specs.contracts.entities.LinkagePartialEq.TheImpl as linkages
use Rattle.scope_tables.specs.declared.entities.Anchor.{Anchor}
use Rattle.scope_tables.specs.declared.entities.Entity.{Entity}
use Rattle.scope_tables.specs.declared.entities.EntityKind.{EntityKind}
use Rattle.scope_tables.specs.declared.entities.EntityKind.TheVariants as kind
use Rattle.scope_tables.specs.declared.entities.Life.{Life}
use Rattle.scope_tables.specs.declared.entities.Linkage.{Linkage}
use Rattle.type_data.proofs.AlikeLemmas.{entries_decide}
use Rattle.type_data.specs.Alike.{same_entry, same_info}
use Rattle.type_data.specs.Same.{same_qual, same_tag, same_type}
use Rattle.type_data.specs.SameLaws.{both, join, qual_decides, tag_decides, type_decides}
use Rattle.type_data.specs.contracts.values.ValuePartialEq.TheImpl as values
use Rattle.type_data.specs.declared.members.TagInfo.{TagInfo}
use Rattle.type_data.specs.declared.names.TagId.{TagId}
use Rattle.type_data.specs.declared.values.Value.{Value}
use Rattle.type_data.specs.declared.values.Value.TheVariants.{Known, Unknown, Faulty}

-- ---- what is known of a tag

abbrev info_of : TagInfo → List (TagId × TagInfo) → TagInfo
info_of x [] = x
info_of x (e ∷ es) = e.1

no_tag : TagId
no_tag = record { item = record { label = []; nth = 0 }; at = 0 }

same_of_tag : (x y : TagInfo) → same_info x y ≡ true → x ≡ y
same_of_tag x y h =
    let whole : pointwise same_entry ((no_tag, x) ∷ []) ((no_tag, y) ∷ []) ≡ true =
    join (same_tag no_tag no_tag && same_info x y) true (join (same_tag no_tag no_tag) (same_info x y) ((tag_decides no_tag no_tag).1 refl) h) refl in
    ap (info_of x) ((entries_decide ((no_tag, x) ∷ []) ((no_tag, y) ∷ [])).0 whole)

same_kind : (a b : EntityKind) → kinds.eq-value.it a b ≡ true → a ≡ b
same_kind kind.Object kind.Object h = refl
same_kind kind.Object kind.Function h = absurd (cc h)
same_kind kind.Object kind.Typedef h = absurd (cc h)
same_kind kind.Object kind.Enumerator h = absurd (cc h)
same_kind kind.Object kind.Member h = absurd (cc h)
same_kind kind.Object kind.Label h = absurd (cc h)
same_kind kind.Object (kind.Tag j y) h = absurd (cc h)
same_kind kind.Function kind.Object h = absurd (cc h)
same_kind kind.Function kind.Function h = refl
same_kind kind.Function kind.Typedef h = absurd (cc h)
same_kind kind.Function kind.Enumerator h = absurd (cc h)
same_kind kind.Function kind.Member h = absurd (cc h)
same_kind kind.Function kind.Label h = absurd (cc h)
same_kind kind.Function (kind.Tag j y) h = absurd (cc h)
same_kind kind.Typedef kind.Object h = absurd (cc h)
same_kind kind.Typedef kind.Function h = absurd (cc h)
same_kind kind.Typedef kind.Typedef h = refl
same_kind kind.Typedef kind.Enumerator h = absurd (cc h)
same_kind kind.Typedef kind.Member h = absurd (cc h)
same_kind kind.Typedef kind.Label h = absurd (cc h)
same_kind kind.Typedef (kind.Tag j y) h = absurd (cc h)
same_kind kind.Enumerator kind.Object h = absurd (cc h)
same_kind kind.Enumerator kind.Function h = absurd (cc h)
same_kind kind.Enumerator kind.Typedef h = absurd (cc h)
same_kind kind.Enumerator kind.Enumerator h = refl
same_kind kind.Enumerator kind.Member h = absurd (cc h)
same_kind kind.Enumerator kind.Label h = absurd (cc h)
same_kind kind.Enumerator (kind.Tag j y) h = absurd (cc h)
same_kind kind.Member kind.Object h = absurd (cc h)
same_kind kind.Member kind.Function h = absurd (cc h)
same_kind kind.Member kind.Typedef h = absurd (cc h)
same_kind kind.Member kind.Enumerator h = absurd (cc h)
same_kind kind.Member kind.Member h = refl
same_kind kind.Member kind.Label h = absurd (cc h)
same_kind kind.Member (kind.Tag j y) h = absurd (cc h)
same_kind kind.Label kind.Object h = absurd (cc h)
same_kind kind.Label kind.Function h = absurd (cc h)
same_kind kind.Label kind.Typedef h = absurd (cc h)
same_kind kind.Label kind.Enumerator h = absurd (cc h)
same_kind kind.Label kind.Member h = absurd (cc h)
same_kind kind.Label kind.Label h = refl
same_kind kind.Label (kind.Tag j y) h = absurd (cc h)
same_kind (kind.Tag i x) kind.Object h = absurd (cc h)
same_kind (kind.Tag i x) kind.Function h = absurd (cc h)
same_kind (kind.Tag i x) kind.Typedef h = absurd (cc h)
same_kind (kind.Tag i x) kind.Enumerator h = absurd (cc h)
same_kind (kind.Tag i x) kind.Member h = absurd (cc h)
same_kind (kind.Tag i x) kind.Label h = absurd (cc h)
same_kind (kind.Tag i x) (kind.Tag j y) h =
    let parts = both (same_tag i j) (same_info x y) h in
    let t : i ≡ j = (tag_decides i j).0 parts.0 in
    let e : x ≡ y = same_of_tag x y parts.1 in
    λ k. kind.Tag (t k) (e k)

-- ---- the rest

same_value : (a b : Value) → values.eq-value.it a b ≡ true → a ≡ b
same_value (Known x) (Known y) h = ap Known ((Decides-int_eq x y).0 h)
same_value (Known x) Unknown h = absurd (cc h)
same_value (Known x) (Faulty n) h = absurd (cc h)
same_value Unknown (Known y) h = absurd (cc h)
same_value Unknown Unknown h = refl
same_value Unknown (Faulty n) h = absurd (cc h)
same_value (Faulty m) (Known y) h = absurd (cc h)
same_value (Faulty m) Unknown h = absurd (cc h)
same_value (Faulty m) (Faulty n) h = ap Faulty ((unsigned_Decides m n).0 h)

same_option : (a b : Option Value) → option_eq values.eq-value.it a b ≡ true → a ≡ b
same_option None None h = refl
same_option None (Some y) h = absurd (cc h)
same_option (Some x) None h = absurd (cc h)
same_option (Some x) (Some y) h = ap Some (same_value x y h)

anchor_decides : (a b : Anchor) → Decides (anchors.eq-value.it a b) (a ≡ b)
anchor_decides a b = search rules

linkage_decides : (a b : Linkage) → Decides (linkages.eq-value.it a b) (a ≡ b)
linkage_decides a b = search rules

life_decides : (a b : Life) → Decides (lives.eq-value.it a b) (a ≡ b)
life_decides a b = search rules

pub same_entity : (a b : Entity) → entities.eq-value.it a b ≡ true → a ≡ b
same_entity a b h =
    let p0 = both (bytes_eq a.name b.name) _ h in
    let p1 = both (kinds.eq-value.it a.kind b.kind) _ p0.1 in
    let p2 = both (same_type a.ty b.ty) _ p1.1 in
    let p3 = both (same_qual a.qual b.qual) _ p2.1 in
    let p4 = both (linkages.eq-value.it a.linkage b.linkage) _ p3.1 in
    let p5 = both (lives.eq-value.it a.life b.life) _ p4.1 in
    let p6 = both (option_eq values.eq-value.it a.value b.value) (anchors.eq-value.it a.anchor b.anchor) p5.1 in
    let n : a.name ≡ b.name = (bytes_eq-Decides a.name b.name).0 p0.0 in
    let k : a.kind ≡ b.kind = same_kind a.kind b.kind p1.0 in
    let t : a.ty ≡ b.ty = (type_decides a.ty b.ty).0 p2.0 in
    let q : a.qual ≡ b.qual = (qual_decides a.qual b.qual).0 p3.0 in
    let l : a.linkage ≡ b.linkage = (linkage_decides a.linkage b.linkage).0 p4.0 in
    let f : a.life ≡ b.life = (life_decides a.life b.life).0 p5.0 in
    let v : a.value ≡ b.value = same_option a.value b.value p6.0 in
    let c : a.anchor ≡ b.anchor = (anchor_decides a.anchor b.anchor).0 p6.1 in
    λ i. record { name = n i; kind = k i; ty = t i; qual = q i; linkage = l i; life = f i; value = v i; anchor = c i }

pub same_anchor : (a b : Anchor) → anchors.eq-value.it a b ≡ true → a ≡ b
same_anchor a b h = (anchor_decides a b).0 h
