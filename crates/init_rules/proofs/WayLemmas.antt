-- One tag further down on the ways through members by value.
use Rattle.std.proofs.Common.{◌≡◌, ℕ, suc, Bool, false, List, [], ◌∷◌, Some, None, ap, sym, ◌∙◌}
use Rattle.std.specs.Prelude.{if◌then◌else◌}
use Rattle.std.specs.List.{list_any}
use Rattle.std.specs.Map.{lookup}
use Rattle.type_data.specs.declared.members.Member.{Member}
use Rattle.type_data.specs.declared.members.TagInfo.{TagInfo}
use Rattle.type_data.specs.declared.names.TagId.{TagId}
use Rattle.type_data.specs.Same.{same_tag}
use Rattle.type_data.specs.Types.{Ty, Tagged_type}
use Rattle.type_rel.specs.Kinds.{Tagging}
use Rattle.type_rel.specs.Inside.{most_tags}
use Rattle.init_rules.specs.declared.state.OpenPlace.{OpenPlace}
use Rattle.init_rules.specs.Descents.{Way, down, down_in, ends_at, to_first}
use Rattle.init_rules.specs.Parts.{Part, after, of_tag}
use Rattle.init_rules.specs.Paths.{Path, among, from_next, in_info, of_info, of_members, path, path_in}
use Rattle.init_rules.specs.Places.{place}

pub path_step : (n m : ℕ) (tags : Tagging) (inside deep : List TagId) (name : List ℕ) (id : TagId) (info : TagInfo) (ms given : List Member) → n ≡ suc m
    → list_any (same_tag id) inside ≡ false → lookup (same_tag id) tags ≡ Some info → info.members ≡ Some ms → deep ≡ id ∷ inside → given ≡ ms
    → among (λ other. path_in m tags deep name other) name 0 given ≡ path_in n tags inside name id
path_step n m tags inside deep name id info ms given e out found has is same =
    let F : TagId → Path = λ other. path_in m tags (id ∷ inside) name other in
    ap (λ xs. among (λ other. path_in m tags xs name other) name 0 given) is
    ∙ ap (λ ys. among F name 0 ys) same
    ∙ sym (ap (λ k. path_in k tags inside name id) e
    ∙ ap (λ b. if b then None else of_info F name (lookup (same_tag id) tags)) out
    ∙ ap (of_info F name) found
    ∙ ap (of_members F name) has)

pub path_is : (n : ℕ) (tags : Tagging) (inside : List TagId) (name : List ℕ) (next : ℕ) (id : TagId) (info : TagInfo) (ms given : List Member) → n ≡ most_tags
    → lookup (same_tag id) tags ≡ Some info → info.members ≡ Some ms → inside ≡ id ∷ [] → given ≡ ms
    → from_next (λ other. path_in n tags inside name other) name next (Some given) ≡ path tags name next id
unfolding path
path_is n tags inside name next id info ms given e found has is same =
    let F : TagId → Path = λ other. path_in most_tags tags (id ∷ []) name other in
    ap (λ k. from_next (λ other. path_in k tags inside name other) name next (Some given)) e
    ∙ ap (λ xs. from_next (λ other. path_in most_tags tags xs name other) name next (Some given)) is
    ∙ ap (λ ys. from_next F name next (Some ys)) same
    ∙ sym (ap (in_info F name next) found ∙ ap (from_next F name next) has)

pub way_step : (n m : ℕ) (tags : Tagging) (inside deep : List TagId) (takes : Ty → Bool) (id : TagId) (part : Part) (ps qs : List OpenPlace) → n ≡ suc m
    → list_any (same_tag id) inside ≡ false → Some part ≡ of_tag false 0 (lookup (same_tag id) tags) → deep ≡ id ∷ inside
    → qs ≡ place (Tagged_type id) (after part.number) false ∷ ps
    → down (λ other rs. down_in m tags deep takes other rs) takes part.ty qs ≡ down_in n tags inside takes id ps
way_step n m tags inside deep takes id part ps qs e out found is are =
    let F : Ty → List OpenPlace → Way = λ t rs. down (λ other ss. down_in m tags (id ∷ inside) takes other ss) takes t rs in
    ap (λ xs. down (λ other rs. down_in m tags xs takes other rs) takes part.ty qs) is
    ∙ ap (F part.ty) are
    ∙ sym (ap (λ k. down_in k tags inside takes id ps) e
    ∙ ap (λ b. if b then ends_at (Tagged_type id) ps else to_first F id ps (of_tag false 0 (lookup (same_tag id) tags))) out
    ∙ ap (to_first F id ps) (sym found))
