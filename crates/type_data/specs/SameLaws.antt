-- Types are the same exactly where they are equal.
use Rattle.std.proofs.Common.{rules, ◌≡◌, Bool, true, false, refl, subst, ap, ◌∙◌}
use Rattle.std.specs.Prelude.{◌&&◌}
use Rattle.std.specs.Bool.{Decides}
use Rattle.std.specs.Cmp.{IsEquivalence, decided}
use Rattle.type_data.specs.declared.basics.Basic.{Basic}
use Rattle.type_data.specs.declared.names.TagId.{TagId}
use Rattle.type_data.specs.declared.qualifiers.Extent.{Extent}
use Rattle.type_data.specs.declared.qualifiers.Proto.{Proto}
use Rattle.type_data.specs.declared.qualifiers.Qual.{Qual}
use Rattle.type_data.specs.Same.{same_basic, same_tag, same_extent, same_proto, same_qual, same_type, same_params}
use Rattle.type_data.specs.Types.{Ty, Void_type, Basic_type, Enumerated_type, Tagged_type, Pointer_to, Array_of, Function_of, Bad_type, Parameters, No_more, Parameter_then}

pub basic_decides : (a b : Basic) → Decides (same_basic a b) (a ≡ b)
basic_decides a b = search rules

pub tag_decides : (a b : TagId) → Decides (same_tag a b) (a ≡ b)
tag_decides a b = search rules

pub extent_decides : (a b : Extent) → Decides (same_extent a b) (a ≡ b)
extent_decides a b = search rules

pub proto_decides : (a b : Proto) → Decides (same_proto a b) (a ≡ b)
proto_decides a b = search rules

pub qual_decides : (a b : Qual) → Decides (same_qual a b) (a ≡ b)
qual_decides a b = search rules

pub both : (p q : Bool) → (p && q) ≡ true → (p ≡ true) × (q ≡ true)
both true true h = (refl, refl)
both true false h = (refl, h)
both false q h = (h, let bad : ⊥ = cc in absurd bad)

pub join : (p q : Bool) → p ≡ true → q ≡ true → (p && q) ≡ true
join p q h k = ap (λ x. x && q) h ∙ k

mutual
  same_sound : (a b : Ty) → same_type a b ≡ true → a ≡ b
  same_sound Void_type Void_type h = refl
  same_sound (Basic_type a) (Basic_type b) h = ap Basic_type ((basic_decides a b).0 h)
  same_sound (Enumerated_type a) (Enumerated_type b) h = ap Enumerated_type ((tag_decides a b).0 h)
  same_sound (Tagged_type a) (Tagged_type b) h = ap Tagged_type ((tag_decides a b).0 h)
  same_sound (Pointer_to a q) (Pointer_to b r) h =
      let parts = both (same_qual q r) (same_type a b) h in
      let t : a ≡ b = same_sound a b parts.1 in
      let s : q ≡ r = (qual_decides q r).0 parts.0 in
      λ i. Pointer_to (t i) (s i)
  same_sound (Array_of a q m) (Array_of b r n) h =
      let parts = both (same_qual q r && same_extent m n) (same_type a b) h in
      let more = both (same_qual q r) (same_extent m n) parts.0 in
      let t : a ≡ b = same_sound a b parts.1 in
      let s : q ≡ r = (qual_decides q r).0 more.0 in
      let e : m ≡ n = (extent_decides m n).0 more.1 in
      λ i. Array_of (t i) (s i) (e i)
  same_sound (Function_of a ps p) (Function_of b qs q) h =
      let parts = both (same_proto p q && same_type a b) (same_params ps qs) h in
      let more = both (same_proto p q) (same_type a b) parts.0 in
      let t : a ≡ b = same_sound a b more.1 in
      let l : ps ≡ qs = params_sound ps qs parts.1 in
      let e : p ≡ q = (proto_decides p q).0 more.0 in
      λ i. Function_of (t i) (l i) (e i)
  same_sound Bad_type Bad_type h = refl
  same_sound a b h = let bad : ⊥ = cc in absurd bad

  params_sound : (ps qs : Parameters) → same_params ps qs ≡ true → ps ≡ qs
  params_sound No_more No_more h = refl
  params_sound (Parameter_then a q ps) (Parameter_then b r qs) h =
      let parts = both (same_qual q r && same_type a b) (same_params ps qs) h in
      let more = both (same_qual q r) (same_type a b) parts.0 in
      let t : a ≡ b = same_sound a b more.1 in
      let l : ps ≡ qs = params_sound ps qs parts.1 in
      let s : q ≡ r = (qual_decides q r).0 more.0 in
      λ i. Parameter_then (t i) (s i) (l i)
  params_sound ps qs h = let bad : ⊥ = cc in absurd bad

mutual
  same_itself : (a : Ty) → same_type a a ≡ true
  same_itself Void_type = refl
  same_itself (Basic_type b) = (basic_decides b b).1 refl
  same_itself (Enumerated_type id) = (tag_decides id id).1 refl
  same_itself (Tagged_type id) = (tag_decides id id).1 refl
  same_itself (Pointer_to t q) = join _ _ ((qual_decides q q).1 refl) (same_itself t)
  same_itself (Array_of t q n) = join _ _ (join _ _ ((qual_decides q q).1 refl) ((extent_decides n n).1 refl)) (same_itself t)
  same_itself (Function_of t ps p) = join _ _ (join _ _ ((proto_decides p p).1 refl) (same_itself t)) (params_itself ps)
  same_itself Bad_type = refl

  params_itself : (ps : Parameters) → same_params ps ps ≡ true
  params_itself No_more = refl
  params_itself (Parameter_then t q ps) = join _ _ (join _ _ ((qual_decides q q).1 refl) (same_itself t)) (params_itself ps)

pub type_decides : (a b : Ty) → Decides (same_type a b) (a ≡ b)
type_decides a b = (same_sound a b, (λ e. subst (λ x. same_type a x ≡ true) e (same_itself a)))

pub params_decides : (ps qs : Parameters) → Decides (same_params ps qs) (ps ≡ qs)
params_decides ps qs = (params_sound ps qs, (λ e. subst (λ x. same_params ps x ≡ true) e (params_itself ps)))

pub types_equiv : IsEquivalence same_type
types_equiv = decided same_type type_decides

pub params_equiv : IsEquivalence same_params
params_equiv = decided same_params params_decides
