-- One tag further down on the walks through members by value.
use Rattle.std.proofs.Common.{◌≡◌, ℕ, suc, Bool, false, List, ◌∷◌, Option, Some, None, ap, sym, ◌∙◌}
use Rattle.std.specs.Prelude.{if◌then◌else◌}
use Rattle.std.specs.List.{list_any}
use Rattle.std.specs.Map.{lookup}
use Rattle.type_data.specs.declared.members.Member.{Member}
use Rattle.type_data.specs.declared.members.TagInfo.{TagInfo}
use Rattle.type_data.specs.declared.names.TagId.{TagId}
use Rattle.type_data.specs.Same.{same_tag}
use Rattle.type_rel.specs.Kinds.{Tagging}
use Rattle.elab_core.specs.Flexible as flexible
use Rattle.elab_core.specs.Flexible.{flexible_in}
use Rattle.elab_core.specs.Members.{among, member_in, of_info, of_members}

pub member_step : (n m : ℕ) (tags : Tagging) (inside deep : List TagId) (name : List ℕ) (id : TagId) (info : TagInfo) (ms given : List Member) → n ≡ suc m
    → list_any (same_tag id) inside ≡ false → lookup (same_tag id) tags ≡ Some info → info.members ≡ Some ms → deep ≡ id ∷ inside → given ≡ ms
    → among (λ other. member_in m tags deep name other) name given ≡ member_in n tags inside name id
member_step n m tags inside deep name id info ms given e out found has is same =
    let F : TagId → Option Member = λ other. member_in m tags (id ∷ inside) name other in
    ap (λ xs. among (λ other. member_in m tags xs name other) name given) is
    ∙ ap (λ ys. among F name ys) same
    ∙ sym (ap (λ k. member_in k tags inside name id) e
    ∙ ap (λ b. if b then None else of_info F name (lookup (same_tag id) tags)) out
    ∙ ap (of_info F name) found
    ∙ ap (λ o. of_members F name o) has)

pub flexible_step : (n m : ℕ) (tags : Tagging) (inside deep : List TagId) (id : TagId) (info : TagInfo) → n ≡ suc m
    → list_any (same_tag id) inside ≡ false → lookup (same_tag id) tags ≡ Some info → deep ≡ id ∷ inside
    → flexible.of_members (λ other. flexible_in m tags deep other) info.kind info.members ≡ flexible_in n tags inside id
flexible_step n m tags inside deep id info e out found is =
    let F : TagId → Bool = λ other. flexible_in m tags (id ∷ inside) other in
    ap (λ xs. flexible.of_members (λ other. flexible_in m tags xs other) info.kind info.members) is
    ∙ sym (ap (λ k. flexible_in k tags inside id) e
    ∙ ap (λ b. if b then false else flexible.of_info F (lookup (same_tag id) tags)) out
    ∙ ap (flexible.of_info F) found)
