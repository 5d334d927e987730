-- What is noted of an item more is answered from then on.
use Rattle.std.proofs.Common.{◌≡◌, refl, sym, ap, ◌∙◌, ℕ, List, [], ◌∷◌, ◌++◌, Option, Some, None, option_map}
use Rattle.scope_tables.specs.Scopes.{or_outside}
use Rattle.scope_tables.specs.declared.bindings.Binding.{Binding}
use Rattle.scope_tables.specs.declared.entities.Entity.{Entity}
use Rattle.scope_tables.specs.declared.entities.EntityKind.{EntityKind}
use Rattle.scope_tables.specs.declared.entities.EntityKind.TheVariants as kind
use Rattle.scope_tables.specs.declared.meanings.HeadMeaning.{HeadMeaning}
use Rattle.type_data.specs.declared.members.Space.{Space}
use Rattle.type_data.specs.declared.members.Space.TheVariants as space
use Rattle.elab_state.specs.declared.wants.Wanted.{Wanted}
use Rattle.type_data.specs.declared.names.TagId.{TagId}
use Rattle.elab_state.specs.Wants.{Told, answered, members_of, wanted}
use Rattle.earlier_items.specs.Before.{before, bound, if_it, in_head, members_only, or_answer, or_nothing, said, tag, tag_by, tags_before}

or_twice : (a b : Option Entity) (x : Option (Option Entity)) → or_answer (or_outside a b) x ≡ or_answer a (or_answer b x)
or_twice None b x = refl
or_twice (Some e) b x = refl

pub members_both : (s : Space) (a b : Option Entity) → members_only s (or_outside a b) ≡ or_outside (members_only s a) (members_only s b)
members_both space.Labels a b = refl
members_both space.Tags a b = refl
members_both (space.Members id) a b = refl
members_both space.Ordinary a b = refl

-- ---- one after another

module _ (q : Wanted) (known next : Told) {all : Option (Option Entity)} where
  pub tags_next : {rest behind : List Entity} {e : Entity} → rest ≡ e ∷ behind → answered next q ≡ or_answer (tag_by q e e.kind) (answered known q) →
      or_answer (tag q rest) (answered known q) ≡ all → or_answer (tag q behind) (answered next q) ≡ all
  tags_next {rest} {behind} {e} is said so_far =
      ap (or_answer (tag q behind)) said ∙ sym (or_twice (tag q behind) (tag_by q e e.kind) (answered known q))
      ∙ ap (λ es. or_answer (tag q es) (answered known q)) (sym is) ∙ so_far

  pub bound_next : {rest behind : List Binding} {b : Binding} → rest ≡ b ∷ behind →
      answered next q ≡ or_answer (if_it (wanted b.space b.name) q b.entity) (answered known q) →
      or_answer (bound q rest) (answered known q) ≡ all → or_answer (bound q behind) (answered next q) ≡ all
  bound_next {rest} {behind} {b} is said so_far =
      ap (or_answer (bound q behind)) said ∙ sym (or_twice (bound q behind) (if_it (wanted b.space b.name) q b.entity) (answered known q))
      ∙ ap (λ bs. or_answer (bound q bs) (answered known q)) (sym is) ∙ so_far

  pub members_next : {rest behind : List Binding} {b : Binding} → rest ≡ b ∷ behind →
      answered next q ≡ or_answer (members_only q.space (if_it (wanted b.space b.name) q b.entity)) (answered known q) →
      or_answer (members_only q.space (bound q rest)) (answered known q) ≡ all → or_answer (members_only q.space (bound q behind)) (answered next q) ≡ all
  members_next {rest} {behind} {b} is said so_far =
      ap (or_answer (members_only q.space (bound q behind))) said
      ∙ sym (or_twice (members_only q.space (bound q behind)) (members_only q.space (if_it (wanted b.space b.name) q b.entity)) (answered known q))
      ∙ ap (λ o. or_answer o (answered known q)) (sym (members_both q.space (bound q behind) (if_it (wanted b.space b.name) q b.entity)))
      ∙ ap (λ bs. or_answer (members_only q.space (bound q bs)) (answered known q)) (sym is) ∙ so_far

-- ---- what is said

nothing_or : (x : Option Entity) (answer : Option (Option Entity)) → or_nothing (or_answer x answer) ≡ or_outside x (or_nothing answer)
nothing_or None answer = refl
nothing_or (Some e) answer = refl

pub said_of : (q : Wanted) (old new : Told) (x : Option Entity) → answered new q ≡ or_answer x (answered old q) → said new q ≡ or_outside x (said old q)
unfolding said
said_of q old new x e = ap or_nothing e ∙ nothing_or x (answered old q)

-- ---- of what is said of tags

it_only : (id : TagId) (s : Space) (name : List ℕ) (e : Entity) → members_only s (if_it (members_of id) (wanted s name) e) ≡ if_it (members_of id) (wanted s name) e
it_only id space.Labels name e = refl
it_only id space.Tags name e = refl
it_only id (space.Members other) name e = refl
it_only id space.Ordinary name e = refl

pub none_only : (s : Space) → members_only s None ≡ None
none_only space.Labels = refl
none_only space.Tags = refl
none_only (space.Members id) = refl
none_only space.Ordinary = refl

by_only : (q : Wanted) (e : Entity) (k : EntityKind) → members_only q.space (tag_by q e k) ≡ tag_by q e k
by_only q e (kind.Tag id info) = it_only id q.space q.name e
by_only q e kind.Object = none_only q.space
by_only q e kind.Function = none_only q.space
by_only q e kind.Typedef = none_only q.space
by_only q e kind.Enumerator = none_only q.space
by_only q e kind.Member = none_only q.space
by_only q e kind.Label = none_only q.space

pub tag_only : (q : Wanted) (es : List Entity) → members_only q.space (tag q es) ≡ tag q es
tag_only q [] = none_only q.space
tag_only q (e ∷ es) = members_both q.space (tag q es) (tag_by q e e.kind) ∙ ap (λ o. or_outside o (members_only q.space (tag_by q e e.kind))) (tag_only q es)
    ∙ ap (or_outside (tag q es)) (by_only q e e.kind)

-- ---- a head

pub head_of : (q : Wanted) (h : HeadMeaning) (bs : List Binding) (es : List Entity) (old between new : Told) → bs ≡ h.declared → es ≡ h.entities →
    answered between q ≡ or_answer (bound q bs) (answered old q) → answered new q ≡ or_answer (tag q es) (answered between q) →
    answered new q ≡ or_answer (in_head q h) (answered old q)
head_of q h bs es old between new d e bindings tags =
    tags ∙ ap (or_answer (tag q es)) bindings ∙ sym (or_twice (tag q es) (bound q bs) (answered old q))
    ∙ ap (λ o. or_answer o (answered old q)) ((λ i. or_outside (tag q (e i)) (bound q (d i))))

pub members_of_head : (q : Wanted) (h : HeadMeaning) (bs : List Binding) (es : List Entity) (old between new : Told) → bs ≡ h.declared → es ≡ h.entities →
    answered between q ≡ or_answer (members_only q.space (bound q bs)) (answered old q) → answered new q ≡ or_answer (tag q es) (answered between q) →
    answered new q ≡ or_answer (members_only q.space (in_head q h)) (answered old q)
members_of_head q h bs es old between new d e bindings tags =
    tags ∙ ap (or_answer (tag q es)) bindings ∙ ap (λ o. or_answer o (or_answer (members_only q.space (bound q bs)) (answered old q))) (sym (tag_only q es))
    ∙ sym (or_twice (members_only q.space (tag q es)) (members_only q.space (bound q bs)) (answered old q))
    ∙ ap (λ o. or_answer o (answered old q)) (sym (members_both q.space (tag q es) (bound q bs)))
    ∙ ap (λ o. or_answer (members_only q.space o) (answered old q)) ((λ i. or_outside (tag q (e i)) (bound q (d i))))

-- ---- what is said of tags, of all that is said

all_members : (s : Space) (x z : Option Entity) →
    or_answer (members_only s x) (option_map Some (members_only s z)) ≡ option_map Some (members_only s (or_outside x z))
all_members space.Labels x z = refl
all_members space.Tags x z = refl
all_members (space.Members id) None z = refl
all_members (space.Members id) (Some x) z = refl
all_members space.Ordinary x z = refl

-- before the first item nothing is
pub no_members : (q : Wanted) → tags_before [] q ≡ None
no_members q = ap (option_map Some) (none_only q.space)

-- a head more
pub members_then : (q : Wanted) (front : List HeadMeaning) (h : HeadMeaning) (tags tags' : Told) →
    answered tags' q ≡ or_answer (members_only q.space (in_head q h)) (answered tags q) → answered tags q ≡ tags_before front q →
    before (front ++ h ∷ []) q ≡ or_outside (in_head q h) (before front q) → answered tags' q ≡ tags_before (front ++ h ∷ []) q
members_then q front h tags tags' noted was more =
    noted ∙ ap (or_answer (members_only q.space (in_head q h))) was ∙ all_members q.space (in_head q h) (before front q)
    ∙ ap (λ o. option_map Some (members_only q.space o)) (sym more)
