-- `==` of what is known of tags decides equality.
use Rattle.std.proofs.Common.{rules, ◌≡◌, Bool, true, false, ◌&&◌, ◌==◌, List, Option, Some, None, refl, ap}
use Rattle.std.proofs.lemmas.Bool.Decides.{Decides-int_eq}
use Rattle.std.proofs.lemmas.Slice.Eq.{bytes_eq-Decides}
use Rattle.std.specs.Bool.{Decides}
use Rattle.std.specs.Cmp.{unsigned_Decides}
use Rattle.std.specs.Cmp.Lexicographic.{pointwise, pointwise_decides}
use Rattle.std.specs.Option.{option_eq}
use Rattle.std.specs.Ordering.{int_eq}
use Rattle.type_data.specs.declared.members.Member.{Member}
use Rattle.type_data.specs.declared.members.TagInfo.{TagInfo}
use Rattle.type_data.specs.declared.members.TagKind.{TagKind}
use Rattle.type_data.specs.declared.names.TagId.{TagId}
use Rattle.type_data.specs.declared.values.Value.{Value}
use Rattle.type_data.specs.declared.values.Value.TheVariants.{Known, Unknown, Faulty}
use Rattle.type_data.specs.contracts.members.MemberPartialEq.TheImpl as members
use Rattle.type_data.specs.contracts.members.TagKindPartialEq.TheImpl as kinds
use Rattle.type_data.specs.contracts.values.ValuePartialEq.TheImpl as values
use Rattle.type_data.specs.Alike.{same_entry, same_info}
use Rattle.type_data.specs.LayoutLaws.{layout_decides}
use Rattle.type_data.specs.SameLaws.{qual_decides, tag_decides, type_decides}

both : {P Q : Type 0} (p q : Bool) → Decides p P → Decides q Q → Decides (p && q) (P × Q)
both true q dp dq = ((λ e. (dp.0 refl, dq.0 e)), (λ h. dq.1 h.1))
both false q dp dq = ((λ e. absurd (cc e)), (λ h. dp.1 h.0))

option_decides : {T : Type 0} (test : T → T → Bool) → ((x y : T) → Decides (test x y) (x ≡ y)) → (a b : Option T) → Decides (option_eq test a b) (a ≡ b)
option_decides test each None None = ((λ e. refl), (λ e. refl))
option_decides test each None (Some y) = ((λ e. cc e), (λ e. cc e))
option_decides test each (Some x) None = ((λ e. cc e), (λ e. cc e))
option_decides test each (Some x) (Some y) = let same : Decides (test x y) (x ≡ y) = each x y in ((λ e. ap Some (same.0 e)), (λ e. same.1 (cc e)))

value_decides : (a b : Value) → Decides (values.eq-value.it a b) (a ≡ b)
value_decides (Known x) (Known y) = let same : Decides (int_eq x y) (x ≡ y) = Decides-int_eq x y in ((λ e. ap Known (same.0 e)), (λ e. same.1 (cc e)))
value_decides (Known x) Unknown = ((λ e. cc e), (λ e. cc e))
value_decides (Known x) (Faulty n) = ((λ e. cc e), (λ e. cc e))
value_decides Unknown (Known y) = ((λ e. cc e), (λ e. cc e))
value_decides Unknown Unknown = ((λ e. refl), (λ e. refl))
value_decides Unknown (Faulty n) = ((λ e. cc e), (λ e. cc e))
value_decides (Faulty m) (Known y) = ((λ e. cc e), (λ e. cc e))
value_decides (Faulty m) Unknown = ((λ e. cc e), (λ e. cc e))
value_decides (Faulty m) (Faulty n) = let same : Decides (m == n) (m ≡ n) = unsigned_Decides m n in ((λ e. ap Faulty (same.0 e)), (λ e. same.1 (cc e)))

kind_decides : (a b : TagKind) → Decides (kinds.eq-value.it a b) (a ≡ b)
kind_decides a b = search rules

all_member : (a b : Member) → a.name ≡ b.name → a.ty ≡ b.ty → a.qual ≡ b.qual → a.width ≡ b.width → a.align ≡ b.align → a.value ≡ b.value → a.at ≡ b.at → a ≡ b
all_member a b n t q w l v p = λ i. record { name = n i; ty = t i; qual = q i; width = w i; align = l i; value = v i; at = p i }

member_decides : (a b : Member) → Decides (members.eq-value.it a b) (a ≡ b)
member_decides a b =
    let all = both _ _ (option_decides _ bytes_eq-Decides a.name b.name) (both _ _ (type_decides a.ty b.ty) (both _ _ (qual_decides a.qual b.qual)
    (both _ _ (option_decides _ unsigned_Decides a.width b.width) (both _ _ (option_decides _ unsigned_Decides a.align b.align)
    (both _ _ (option_decides _ value_decides a.value b.value) (option_decides _ tag_decides a.at b.at)))))) in (
      (λ e. (let h = all.0 e in all_member a b h.0 h.1.0 h.1.1.0 h.1.1.1.0 h.1.1.1.1.0 h.1.1.1.1.1.0 h.1.1.1.1.1.1)),
      (λ e. all.1 (ap (λ m. m.name) e, (ap (λ m. m.ty) e, (ap (λ m. m.qual) e, (ap (λ m. m.width) e, (ap (λ m. m.align) e, (ap (λ m. m.value) e, ap (λ m. m.at) e))))))),
    )

all_info : (a b : TagInfo) → a.kind ≡ b.kind → a.name ≡ b.name → a.members ≡ b.members → a.layout ≡ b.layout → a ≡ b
all_info a b k n m l = λ i. record { kind = k i; name = n i; members = m i; layout = l i }

info_decides : (a b : TagInfo) → Decides (same_info a b) (a ≡ b)
info_decides a b =
    let all = both _ _ (kind_decides a.kind b.kind) (both _ _ (option_decides _ bytes_eq-Decides a.name b.name)
    (both _ _ (option_decides _ (pointwise_decides member_decides) a.members b.members) (option_decides _ layout_decides a.layout b.layout))) in (
      (λ e. (let h = all.0 e in all_info a b h.0 h.1.0 h.1.1.0 h.1.1.1)),
      (λ e. all.1 (ap (λ x. x.kind) e, (ap (λ x. x.name) e, (ap (λ x. x.members) e, ap (λ x. x.layout) e)))),
    )

entry_decides : (p q : TagId × TagInfo) → Decides (same_entry p q) (p ≡ q)
entry_decides p q =
    let all = both _ _ (tag_decides p.0 q.0) (info_decides p.1 q.1) in
    ((λ e. (let h = all.0 e in (λ i. (h.0 i, h.1 i)))), (λ e. all.1 (ap (λ x. x.0) e, ap (λ x. x.1) e)))

pub entries_decide : (xs ys : List (TagId × TagInfo)) → Decides (pointwise same_entry xs ys) (xs ≡ ys)
entries_decide xs ys = pointwise_decides entry_decides xs ys
