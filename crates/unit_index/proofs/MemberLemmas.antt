-- Members that correspond in any order.
use Rattle.std.proofs.Common.{◌≡◌, ℕ, nat_eq, length, Bool, true, List, Option, sym, ap, ◌∙◌}
use Rattle.type_data.specs.declared.members.Member.{Member}
use Rattle.type_data.specs.declared.members.TagKind.{TagKind}
use Rattle.unit_index.specs.declared.pairs.TagPair.{TagPair}
use Rattle.unit_index.specs.Handles.{partner, Tagging}
use Rattle.unit_index.specs.Members.{by_handles, in_any_order, in_order, nameless}
use Rattle.unit_index.specs.Needs.{Needed, noted, provided}

pub any_order : (k : TagKind) (ta tb : Tagging) (xs ys : List Member) (seen middle now : List TagPair) (at : List ℕ → Option Member) (named fits : Bool)
    → nat_eq (length xs) (length ys) ≡ true → ((q : List ℕ) → at q ≡ partner tb ys q)
    → ((more : Needed) → noted seen (by_handles k ta at xs more) ≡ provided named (noted middle more)) → named ≡ true
    → ((more : Needed) → noted middle (in_order k (nameless ta xs) (nameless tb ys) more) ≡ provided fits (noted now more))
    → (more : Needed) → noted seen (in_any_order k ta tb xs ys more) ≡ provided fits (noted now more)
any_order k ta tb xs ys seen middle now at named fits many found by_name is_named nameless_so more =
    let rest : Needed = in_order k (nameless ta xs) (nameless tb ys) more in
    let same : at ≡ partner tb ys = λ i q. found q i in
    ap (λ b. noted seen (provided b (by_handles k ta (partner tb ys) xs rest))) many
    ∙ ap (λ f. noted seen (by_handles k ta f xs rest)) (sym same)
    ∙ by_name rest ∙ ap (λ b. provided b (noted middle rest)) is_named ∙ nameless_so more
