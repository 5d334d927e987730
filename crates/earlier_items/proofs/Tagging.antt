-- The tags of some heads are what these say of tags.
use Rattle.std.proofs.Common.{◌≡◌, refl, sym, ap, ◌∙◌, true, ℕ, ◌+◌, List, [], ◌∷◌, ◌++◌, drop, Option, Some, None, option_map}
use Rattle.std.proofs.lemmas.List.{drop-drop}
use Rattle.scope_tables.specs.Scopes.{or_outside}
use Rattle.scope_tables.specs.Shared.{anchored, first_as}
use Rattle.scope_tables.specs.declared.bindings.Binding.{Binding}
use Rattle.scope_tables.specs.declared.entities.Entity.{Entity}
use Rattle.scope_tables.specs.declared.meanings.HeadMeaning.{HeadMeaning}
use Rattle.type_data.specs.declared.members.Space.{Space}
use Rattle.type_data.specs.declared.members.Space.TheVariants as space
use Rattle.elab_state.specs.declared.wants.Wanted.{Wanted}
use Rattle.elab_state.specs.Wants.{wanted}
use Rattle.earlier_items.specs.Before.{before, bound, if_it, in_head, is_other, members_only, tag, tag_by, tags_before}
use Rattle.earlier_items.proofs.Noted.{members_both, tag_only}

outside_twice : (a b c : Option Entity) → or_outside (or_outside a b) c ≡ or_outside a (or_outside b c)
outside_twice None b c = refl
outside_twice (Some e) b c = refl

outside_none : (a : Option Entity) → or_outside a None ≡ a
outside_none None = refl
outside_none (Some e) = refl

-- ---- the entity at a place

pub first_is : (all : List Entity) (e : Entity) (behind : List Entity) (at : ℕ) → drop at all ≡ e ∷ behind → first_as e.anchor (drop at all) ≡ e
first_is all e behind at is = ap (first_as e.anchor) is

pub next_place : (all : List Entity) (e : Entity) (rest behind : List Entity) (at : ℕ) → drop at all ≡ rest → rest ≡ e ∷ behind → drop (at + 1) all ≡ behind
next_place all e rest behind at here is = sym (drop-drop 1 at all) ∙ ap (drop 1) (here ∙ is)

-- ---- one after another

pub tag_then : (q : Wanted) (es : List Entity) (e : Entity) → tag q (es ++ e ∷ []) ≡ or_outside (tag_by q e e.kind) (tag q es)
tag_then q [] e = sym (outside_none (tag_by q e e.kind))
tag_then q (x ∷ es) e = ap (λ o. or_outside o (tag_by q x x.kind)) (tag_then q es e) ∙ outside_twice (tag_by q e e.kind) (tag q es) (tag_by q x x.kind)

pub tag_turns : (q : Wanted) (rest behind ts ts' : List Entity) (e : Entity) (all : Option Entity) → rest ≡ e ∷ behind → tag q ts' ≡ or_outside (tag_by q e e.kind) (tag q ts) →
    or_outside (tag q rest) (tag q ts) ≡ all → or_outside (tag q behind) (tag q ts') ≡ all
tag_turns q rest behind ts ts' e all is added so_far =
    ap (or_outside (tag q behind)) added ∙ sym (outside_twice (tag q behind) (tag_by q e e.kind) (tag q ts)) ∙ ap (λ es. or_outside (tag q es) (tag q ts)) (sym is) ∙ so_far

-- ---- no binding is in a tag's own name space

no_member : (s t : Space) (name other : List ℕ) (e : Entity) → is_other s ≡ true → members_only t (if_it (wanted s name) (wanted t other) e) ≡ None
no_member space.Labels space.Labels name other e h = refl
no_member space.Labels space.Tags name other e h = refl
no_member space.Labels (space.Members i) name other e h = refl
no_member space.Labels space.Ordinary name other e h = refl
no_member space.Tags space.Labels name other e h = refl
no_member space.Tags space.Tags name other e h = refl
no_member space.Tags (space.Members i) name other e h = refl
no_member space.Tags space.Ordinary name other e h = refl
no_member (space.Members i) t name other e h = absurd (cc h)
no_member space.Ordinary space.Labels name other e h = refl
no_member space.Ordinary space.Tags name other e h = refl
no_member space.Ordinary (space.Members i) name other e h = refl
no_member space.Ordinary space.Ordinary name other e h = refl

pub other_turns : (q : Wanted) (rest behind : List Binding) (b : Binding) → rest ≡ b ∷ behind → is_other b.space ≡ true → members_only q.space (bound q behind) ≡ None →
    members_only q.space (bound q rest) ≡ None
other_turns q rest behind b is other none =
    ap (λ bs. members_only q.space (bound q bs)) is ∙ members_both q.space (bound q behind) (if_it (wanted b.space b.name) q b.entity)
    ∙ ap (λ o. or_outside o (members_only q.space (if_it (wanted b.space b.name) q b.entity))) none
    ∙ no_member b.space q.space b.name q.name b.entity other

-- ---- a head more

pub head_turns : (q : Wanted) (all rest behind : List HeadMeaning) (h : HeadMeaning) (ts ts' : List Entity) → rest ≡ h ∷ behind →
    members_only q.space (bound q h.declared) ≡ None → tag q ts' ≡ or_outside (tag q h.entities) (tag q ts) →
    members_only q.space (before all q) ≡ members_only q.space (or_outside (before rest q) (tag q ts)) →
    members_only q.space (before all q) ≡ members_only q.space (or_outside (before behind q) (tag q ts'))
head_turns q all rest behind h ts ts' is none added so_far =
    so_far ∙ ap (λ hs. members_only q.space (or_outside (before hs q) (tag q ts))) is
    ∙ ap (members_only q.space) (outside_twice (before behind q) (in_head q h) (tag q ts))
    ∙ members_both q.space (before behind q) (or_outside (in_head q h) (tag q ts))
    ∙ ap (or_outside (members_only q.space (before behind q)))
    (ap (members_only q.space) (outside_twice (tag q h.entities) (bound q h.declared) (tag q ts))
    ∙ members_both q.space (tag q h.entities) (or_outside (bound q h.declared) (tag q ts))
    ∙ ap (or_outside (members_only q.space (tag q h.entities)))
    (members_both q.space (bound q h.declared) (tag q ts) ∙ ap (λ o. or_outside o (members_only q.space (tag q ts))) none)
    ∙ sym (members_both q.space (tag q h.entities) (tag q ts)) ∙ ap (members_only q.space) (sym added))
    ∙ sym (members_both q.space (before behind q) (tag q ts'))

pub heads_end : (q : Wanted) (all rest : List HeadMeaning) (ts : List Entity) → rest ≡ [] →
    members_only q.space (before all q) ≡ members_only q.space (or_outside (before rest q) (tag q ts)) → tags_before all q ≡ option_map Some (tag q ts)
heads_end q all rest ts is so_far =
    ap (option_map Some) (so_far ∙ ap (λ hs. members_only q.space (or_outside (before hs q) (tag q ts))) is ∙ tag_only q ts)

-- ---- the same tags

pub same_unit : (v w d e : Entity) → anchored d v.anchor ≡ v → anchored e w.anchor ≡ w → v.anchor ≡ w.anchor → d ≡ e → v ≡ w
same_unit v w d e is other a same = sym is ∙ (λ i. anchored (same i) (a i)) ∙ other
