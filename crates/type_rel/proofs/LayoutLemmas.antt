-- Members laid in front of others.
use Rattle.std.proofs.Common.{◌≡◌, ℕ, Bool, ◌++◌, List, [], ◌∷◌, Option, Some, None, refl, ap, sym, ◌∙◌, append_assoc}
use Rattle.std.specs.Prelude.{not, ◌&&◌}
use Rattle.type_data.specs.declared.members.Member.{Member}
use Rattle.type_data.specs.declared.members.TagInfo.{TagInfo}
use Rattle.type_data.specs.declared.names.TagId.{TagId}
use Rattle.type_rel.specs.Layout.{Step, Placed, in_front, next, step, placed, member_size, is_empty}

-- what was laid in front of the rest
abbrev pub together : List ℕ → Option Placed → Option Placed
together front None = None
together front (Some p) = Some (record { offsets = front ++ p.offsets; at = p.at; align = p.align })

pub together_none : (p : Option Placed) → together [] p ≡ p
together_none None = refl
together_none (Some p) = refl

one_more : (front : List ℕ) (begins : ℕ) (p : Option Placed) → together (front ++ begins ∷ []) p ≡ together front (in_front begins p)
one_more front begins None = refl
one_more front begins (Some p) = ap (λ os. Some (record { offsets = os; at = p.at; align = p.align })) (append_assoc front (begins ∷ []) p.offsets)

-- the next member was laid
pub member_laid : (tags : List (TagId × TagInfo)) (union : Bool) (at align : ℕ) (front : List ℕ) (m : Member) (ms members : List Member) (s : Step) (all : Option Placed)
    → members ≡ m ∷ ms → Some s ≡ step union m (member_size tags (not union && is_empty ms) m.ty) at align
    → together front (placed tags union at align members) ≡ all
    → together (front ++ s.begins ∷ []) (placed tags union s.at s.align ms) ≡ all
member_laid tags union at align front m ms members s all is laid was =
    one_more front s.begins (placed tags union s.at s.align ms)
    ∙ ap (λ r. together front (next r (λ s. placed tags union s.at s.align ms))) laid
    ∙ ap (λ xs. together front (placed tags union at align xs)) (sym is)
    ∙ was

-- the next member has no size, or passes the limit
pub member_none : (tags : List (TagId × TagInfo)) (union : Bool) (at align : ℕ) (front : List ℕ) (m : Member) (ms members : List Member) (all : Option Placed)
    → members ≡ m ∷ ms → None ≡ step union m (member_size tags (not union && is_empty ms) m.ty) at align
    → together front (placed tags union at align members) ≡ all
    → None ≡ all
member_none tags union at align front m ms members all is laid was =
    ap (λ r. together front (next r (λ s. placed tags union s.at s.align ms))) laid
    ∙ ap (λ xs. together front (placed tags union at align xs)) (sym is)
    ∙ was
