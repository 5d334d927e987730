-- One tag further down on the walks through members by value.
use Rattle.std.proofs.Common.{◌≡◌, ℕ, suc, false, List, ◌∷◌, Option, Some, None, ap, sym, ◌∙◌}
use Rattle.std.specs.Prelude.{if◌then◌else◌}
use Rattle.std.specs.List.{list_any}
use Rattle.std.specs.Map.{lookup}
use Rattle.type_data.specs.declared.members.Member.{Member}
use Rattle.type_data.specs.declared.members.TagInfo.{TagInfo}
use Rattle.type_data.specs.declared.names.TagId.{TagId}
use Rattle.type_data.specs.Same.{same_tag}
use Rattle.type_rel.specs.Kinds.{Tagging}
use Rattle.expr_rules.specs.Members.{Found, among, member_in, of_info, of_members, places_of}

pub member_step : (n m : ℕ) (tags : Tagging) (inside deep : List TagId) (name : List ℕ) (id : TagId) (info : TagInfo) (ms given : List Member) (ps : List ℕ) → n ≡ suc m
    → list_any (same_tag id) inside ≡ false → lookup (same_tag id) tags ≡ Some info → info.members ≡ Some ms → deep ≡ id ∷ inside → given ≡ ms
    → ps ≡ places_of info.layout → among (λ other. member_in m tags deep name other) name given ps ≡ member_in n tags inside name id
member_step n m tags inside deep name id info ms given ps e out found has is same places =
    let F : TagId → Option Found = λ other. member_in m tags (id ∷ inside) name other in
    ap (λ xs. among (λ other. member_in m tags xs name other) name given ps) is
    ∙ ap (λ ys. among F name ys ps) same
    ∙ ap (λ qs. among F name ms qs) places
    ∙ sym (ap (λ k. member_in k tags inside name id) e
    ∙ ap (λ b. if b then None else of_info F name (lookup (same_tag id) tags)) out
    ∙ ap (of_info F name) found
    ∙ ap (λ o. of_members F name o (places_of info.layout)) has)
