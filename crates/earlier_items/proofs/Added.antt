-- What an item more declares stands in front of what the items before it declare.
use Rattle.std.proofs.Common.{◌≡◌, refl, sym, ap, ◌∙◌, List, [], ◌∷◌, ◌++◌, Option, Some, None}
use Rattle.scope_tables.specs.Scopes.{or_outside}
use Rattle.scope_tables.specs.declared.entities.Entity.{Entity}
use Rattle.scope_tables.specs.declared.meanings.HeadMeaning.{HeadMeaning}
use Rattle.elab_state.specs.declared.wants.Wanted.{Wanted}
use Rattle.elab_state.specs.Wants.{answered}
use Rattle.earlier_items.proofs.Noted.{members_then, no_members, said_of}
use Rattle.earlier_items.specs.Before.{AreBefore, Tells, before, in_head, members_only, or_answer, said}

outside_none : (a : Option Entity) → or_outside a None ≡ a
outside_none None = refl
outside_none (Some e) = refl

outside_twice : (a b c : Option Entity) → or_outside (or_outside a b) c ≡ or_outside a (or_outside b c)
outside_twice None b c = refl
outside_twice (Some e) b c = refl

pub one_more : (q : Wanted) → (hs : List HeadMeaning) → (h : HeadMeaning) → before (hs ++ h ∷ []) q ≡ or_outside (in_head q h) (before hs q)
one_more q [] h = sym (outside_none (in_head q h))
one_more q (first ∷ hs) h =
    ap (λ x. or_outside x (in_head q first)) (one_more q hs h)
    ∙ outside_twice (in_head q h) (before hs q) (in_head q first)

-- the head is noted
pub added : (h : HeadMeaning) → (old new : Tells) → ((q : Wanted) → answered new.known q ≡ or_answer (in_head q h) (answered old.known q))
    → ((q : Wanted) → answered new.tags q ≡ or_answer (members_only q.space (in_head q h)) (answered old.tags q))
    → (front : List HeadMeaning) → AreBefore front old → AreBefore (front ++ h ∷ []) new
added h old new noted members front are = record {
  said = λ q. said_of q old.known new.known (in_head q h) (noted q) ∙ ap (or_outside (in_head q h)) (are.said q) ∙ sym (one_more q front h);
  tags = λ q. members_then q front h old.tags new.tags (members q) (are.tags q) (one_more q front h);
}

-- no item
pub none_added : (none : Tells) → ((q : Wanted) → said none.known q ≡ None) → ((q : Wanted) → answered none.tags q ≡ None) → AreBefore [] none
none_added none known tags = record { said = known; tags = λ q. tags q ∙ sym (no_members q) }
