-- Tags whose members by value lead to one another: what is noted of them, and what is found.
use Rattle.std.proofs.Common.{◌≡◌, ℕ, suc, zero, ◌+◌, ◌^◌, ◌<◌, Bool, true, false, ◌||◌, List, [], ◌∷◌, ◌++◌, Option, Some, None, refl, sym, ap, subst, ◌∙◌, append_assoc}
use Rattle.std.specs.List.{list_any}
use Rattle.std.specs.Map.{lookup}
use Rattle.std.specs.Prelude.{if◌then◌else◌, not, slice_get}
use Rattle.indexmap.specs.IndexSet.{insert_key}
use Rattle.type_data.specs.declared.members.Member.{Member}
use Rattle.type_data.specs.declared.members.TagInfo.{TagInfo}
use Rattle.type_data.specs.declared.names.TagId.{TagId}
use Rattle.type_data.specs.Same.{same_tag}
use Rattle.type_data.specs.SameLaws.{tag_decides}
use Rattle.type_data.specs.Types.{Ty, Void_type, Basic_type, Enumerated_type, Tagged_type, Pointer_to, Array_of, Function_of, Bad_type}
use Rattle.type_rel.specs.Inside.{most_tags}
use Rattle.type_rel.specs.Kinds.{Tagging}
use Rattle.expr_rules.specs.Members.{any_const, const_in, element_const, info_const, innermost, members_const, type_const}
use Rattle.expr_rules.specs.Reached.{Seen, and_then, noted_all, noted_element, noted_info, noted_members}
use Rattle.expr_rules.proofs.WalkLemmas.{Notes, Walked, begins, ends, finds, has, no, none_behind, outside_now, own_has, refuted, sees, turns}

-- one of three
three_mono : (a b b' c c' : Bool) → (b ≡ true → b' ≡ true) → (c ≡ true → c' ≡ true) → (a || b || c) ≡ true → (a || b' || c') ≡ true
three_mono true b b' c c' f k h = refl
three_mono false b true c c' f k h = refl
three_mono false true false c c' f k h = absurd (no (f refl) refl)
three_mono false false false c c' f k h = k h

none_of_three : (a b c : Bool) → a ≡ false → b ≡ false → c ≡ false → (a || b || c) ≡ false
none_of_three a b c e f g = ap (λ x. x || b || c) e ∙ ap (λ x. false || x || c) f ∙ g

last_two : (a b c : Bool) → (a || b || c) ≡ false → (b ≡ false) × (c ≡ false)
last_two true b c h = absurd (no refl h)
last_two false true c h = absurd (no refl h)
last_two false false c h = (refl, h)

first_true : (a b c : Bool) → a ≡ true → (a || b || c) ≡ true
first_true a b c e = ap (λ x. x || b || c) e

second_true : (a b c : Bool) → b ≡ true → (a || b || c) ≡ true
second_true true b c e = refl
second_true false b c e = ap (λ x. x || c) e

third_true : (a b c : Bool) → c ≡ true → (a || b || c) ≡ true
third_true true b c e = refl
third_true false true c e = refl
third_true false false c e = e

abbrev or_those : List TagId → Seen → List TagId
or_those seen None = seen
or_those seen (Some now) = now

-- where f passes, g does
abbrev pub Wider : (TagId → Bool) → (TagId → Bool) → Type 0
Wider f g = (id : TagId) → f id ≡ true → g id ≡ true

element_wider : (f g : TagId → Bool) (t : Option Ty) → Wider f g → element_const f t ≡ true → element_const g t ≡ true
element_wider f g None part h = refl
element_wider f g (Some (Tagged_type id)) part h = part id h
element_wider f g (Some Void_type) part h = h
element_wider f g (Some (Basic_type b)) part h = h
element_wider f g (Some (Enumerated_type id)) part h = h
element_wider f g (Some (Pointer_to t q)) part h = h
element_wider f g (Some (Array_of t q n)) part h = h
element_wider f g (Some (Function_of t ps p)) part h = h
element_wider f g (Some Bad_type) part h = h

any_wider : (f g : TagId → Bool) (ms : List Member) → Wider f g → any_const (λ t. type_const f t) ms ≡ true → any_const (λ t. type_const g t) ms ≡ true
any_wider f g [] part h = h
any_wider f g (m ∷ ms) part h =
    three_mono m.qual.is_const (type_const f m.ty) (type_const g m.ty) (any_const (λ t. type_const f t) ms) (any_const (λ t. type_const g t) ms)
    (element_wider f g (innermost m.ty) part) (any_wider f g ms part) h

members_wider : (f g : TagId → Bool) (ms : Option (List Member)) → Wider f g → members_const (λ t. type_const f t) ms ≡ true → members_const (λ t. type_const g t) ms ≡ true
members_wider f g None part h = h
members_wider f g (Some ms) part h = any_wider f g ms part h

info_wider : (f g : TagId → Bool) (info : Option TagInfo) → Wider f g → info_const (λ t. type_const f t) info ≡ true → info_const (λ t. type_const g t) info ≡ true
info_wider f g None part h = h
info_wider f g (Some info) part h = members_wider f g info.members part h

-- whether a tag has a const member of its own, or leads to a tag that passes
abbrev pub look : Tagging → (TagId → Bool) → TagId → Bool
look tags f id = info_const (λ t. type_const f t) (lookup (same_tag id) tags)

pub look_wider : (tags : Tagging) (f g : TagId → Bool) (id : TagId) → Wider f g → look tags f id ≡ true → look tags g id ≡ true
look_wider tags f g id part h = info_wider f g (lookup (same_tag id) tags) part h

const_is_seen : (tags : Tagging) (n : ℕ) (inside : List TagId) (id : TagId) → const_in n tags inside id ≡ sees same_tag tag_decides (look tags) (look_wider tags) n inside id
const_is_seen tags zero inside id = refl
const_is_seen tags (suc n) inside id = λ i. if list_any (same_tag id) inside then false else look tags (λ other. const_is_seen tags n (id ∷ inside) other i) id

abbrev Noted : ((TagId → Bool) → Bool) → List TagId → List TagId → Type 0
Noted leads seen now = Notes same_tag tag_decides leads seen now

nothing_behind : (xs : List TagId) → xs ++ [] ≡ xs
nothing_behind [] = refl
nothing_behind (x ∷ xs) = ap (λ ys. x ∷ ys) (nothing_behind xs)

nothing_noted : (leads : (TagId → Bool) → Bool) (seen now : List TagId) → seen ≡ now → ((f : TagId → Bool) → leads f ≡ false) → Noted leads seen now
nothing_noted leads seen now is none = record {
  others = [];
  behind = sym is ∙ sym (nothing_behind seen);
  closed = none (λ y. not (has same_tag tag_decides now y));
  led = λ f e n. subst (λ xs. list_any f xs ≡ false) is n;
}

tag_noted : (id : TagId) (seen now : List TagId) → insert_key same_tag seen id ≡ now → Noted (λ f. f id) seen now
tag_noted id seen now is =
    elim (list_any (same_tag id) seen) as (λ b. list_any (same_tag id) seen ≡ b → (if b then seen else seen ++ id ∷ []) ≡ now → Noted (λ f. f id) seen now) [
      | true ↦ (λ had e. record {
        others = [];
        behind = sym e ∙ sym (nothing_behind seen);
        closed = ap not (subst (λ xs. list_any (same_tag id) xs ≡ true) e had);
        led = λ f k n. subst (λ xs. list_any f xs ≡ false) e n;
      })
      | false ↦ (λ had e. record {
        others = id ∷ [];
        behind = sym e;
        closed = ap not (subst (λ xs. list_any (same_tag id) xs ≡ true) e (own_has same_tag tag_decides seen [] id));
        led = λ f k n. subst (λ xs. list_any f xs ≡ false) e (none_behind same_tag tag_decides f seen id n k);
      })
    ] refl is

element_noted : (t : Option Ty) (seen now : List TagId) → noted_element seen t ≡ Some now → Noted (λ f. element_const f t) seen now
element_noted None seen now e = let bad : ⊥ = cc in absurd bad
element_noted (Some (Tagged_type id)) seen now e = tag_noted id seen now (ap (or_those seen) e)
element_noted (Some Void_type) seen now e = nothing_noted _ seen now (ap (or_those seen) e) (λ f. refl)
element_noted (Some (Basic_type b)) seen now e = nothing_noted _ seen now (ap (or_those seen) e) (λ f. refl)
element_noted (Some (Enumerated_type id)) seen now e = nothing_noted _ seen now (ap (or_those seen) e) (λ f. refl)
element_noted (Some (Pointer_to t q)) seen now e = nothing_noted _ seen now (ap (or_those seen) e) (λ f. refl)
element_noted (Some (Array_of t q n)) seen now e = nothing_noted _ seen now (ap (or_those seen) e) (λ f. refl)
element_noted (Some (Function_of t ps p)) seen now e = nothing_noted _ seen now (ap (or_those seen) e) (λ f. refl)
element_noted (Some Bad_type) seen now e = nothing_noted _ seen now (ap (or_those seen) e) (λ f. refl)

element_found : (f : TagId → Bool) (t : Option Ty) (seen : List TagId) → noted_element seen t ≡ None → element_const f t ≡ true
element_found f None seen e = refl
element_found f (Some (Tagged_type id)) seen e = let bad : ⊥ = cc in absurd bad
element_found f (Some Void_type) seen e = let bad : ⊥ = cc in absurd bad
element_found f (Some (Basic_type b)) seen e = let bad : ⊥ = cc in absurd bad
element_found f (Some (Enumerated_type id)) seen e = let bad : ⊥ = cc in absurd bad
element_found f (Some (Pointer_to t q)) seen e = let bad : ⊥ = cc in absurd bad
element_found f (Some (Array_of t q n)) seen e = let bad : ⊥ = cc in absurd bad
element_found f (Some (Function_of t ps p)) seen e = let bad : ⊥ = cc in absurd bad
element_found f (Some Bad_type) seen e = let bad : ⊥ = cc in absurd bad

-- one after the other
both_noted : (m : Member) (ms : List Member) (seen middle now : List TagId) → m.qual.is_const ≡ false
    → Noted (λ f. type_const f m.ty) seen middle → Noted (λ f. any_const (λ t. type_const f t) ms) middle now
    → Noted (λ f. any_const (λ t. type_const f t) (m ∷ ms)) seen now
both_noted m ms seen middle now own first rest = record {
  others = first.others ++ rest.others;
  behind = rest.behind ∙ ap (λ xs. xs ++ rest.others) first.behind ∙ append_assoc seen first.others rest.others;
  closed =
      let out : TagId → Bool = λ y. not (has same_tag tag_decides now y) in
      none_of_three m.qual.is_const (type_const out m.ty) (any_const (λ t. type_const out t) ms) own
      (refuted (type_const out m.ty) (λ h. no (element_wider out (λ y. not (has same_tag tag_decides middle y)) (innermost m.ty)
      (outside_now same_tag tag_decides (λ f. any_const (λ t. type_const f t) ms) middle now rest) h) first.closed))
      rest.closed;
  led = λ f e n.
      let parts = last_two m.qual.is_const (type_const f m.ty) (any_const (λ t. type_const f t) ms) e in
      rest.led f parts.1 (first.led f parts.0 n);
}

all_noted : (ms : List Member) (seen now : List TagId) → noted_all seen ms ≡ Some now → Noted (λ f. any_const (λ t. type_const f t) ms) seen now
all_noted [] seen now e = nothing_noted _ seen now (ap (or_those seen) e) (λ f. refl)
all_noted (m ∷ ms) seen now e =
    elim m.qual.is_const as (λ c. m.qual.is_const ≡ c → (if c then None else and_then (noted_element seen (innermost m.ty)) (λ xs. noted_all xs ms)) ≡ Some now → Noted (λ f. any_const (λ t. type_const f t) (m ∷ ms)) seen now) [
      | true ↦ (λ own h. let bad : ⊥ = cc in absurd bad)
      | false ↦ (λ own h. elim (noted_element seen (innermost m.ty)) as (λ s. noted_element seen (innermost m.ty) ≡ s → and_then s (λ xs. noted_all xs ms) ≡ Some now → Noted (λ f. any_const (λ t. type_const f t) (m ∷ ms)) seen now) [
        | None ↦ (λ k g. let bad : ⊥ = cc in absurd bad)
        | Some middle ↦ (λ k g. both_noted m ms seen middle now own (element_noted (innermost m.ty) seen middle k) (all_noted ms middle now g))
      ] refl h)
    ] refl e

all_found : (f : TagId → Bool) (ms : List Member) (seen : List TagId) → noted_all seen ms ≡ None → any_const (λ t. type_const f t) ms ≡ true
all_found f [] seen e = let bad : ⊥ = cc in absurd bad
all_found f (m ∷ ms) seen e =
    elim m.qual.is_const as (λ c. m.qual.is_const ≡ c → (if c then None else and_then (noted_element seen (innermost m.ty)) (λ xs. noted_all xs ms)) ≡ None → any_const (λ t. type_const f t) (m ∷ ms) ≡ true) [
      | true ↦ (λ own h. first_true m.qual.is_const (type_const f m.ty) (any_const (λ t. type_const f t) ms) own)
      | false ↦ (λ own h. elim (noted_element seen (innermost m.ty)) as (λ s. noted_element seen (innermost m.ty) ≡ s → and_then s (λ xs. noted_all xs ms) ≡ None → any_const (λ t. type_const f t) (m ∷ ms) ≡ true) [
        | None ↦ (λ k g. second_true m.qual.is_const (type_const f m.ty) (any_const (λ t. type_const f t) ms) (element_found f (innermost m.ty) seen k))
        | Some middle ↦ (λ k g. third_true m.qual.is_const (type_const f m.ty) (any_const (λ t. type_const f t) ms) (all_found f ms middle g))
      ] refl h)
    ] refl e

members_noted : (ms : Option (List Member)) (seen now : List TagId) → noted_members seen ms ≡ Some now → Noted (λ f. members_const (λ t. type_const f t) ms) seen now
members_noted None seen now e = nothing_noted _ seen now (ap (or_those seen) e) (λ f. refl)
members_noted (Some ms) seen now e = all_noted ms seen now e

info_noted : (info : Option TagInfo) (seen now : List TagId) → noted_info seen info ≡ Some now → Noted (λ f. info_const (λ t. type_const f t) info) seen now
info_noted None seen now e = nothing_noted _ seen now (ap (or_those seen) e) (λ f. refl)
info_noted (Some info) seen now e = members_noted info.members seen now e

members_found : (f : TagId → Bool) (ms : Option (List Member)) (seen : List TagId) → noted_members seen ms ≡ None → members_const (λ t. type_const f t) ms ≡ true
members_found f None seen e = let bad : ⊥ = cc in absurd bad
members_found f (Some ms) seen e = all_found f ms seen e

info_found : (f : TagId → Bool) (info : Option TagInfo) (seen : List TagId) → noted_info seen info ≡ None → info_const (λ t. type_const f t) info ≡ true
info_found f None seen e = let bad : ⊥ = cc in absurd bad
info_found f (Some info) seen e = members_found f info.members seen e

-- a walk from a tag, that looked at those before a place
abbrev pub IsReached : ℕ → Tagging → TagId → ℕ → List TagId → Type 0
IsReached top tags root at seen = Walked same_tag tag_decides (look tags) (look_wider tags) top root at seen

pub reached_begins : (top : ℕ) (tags : Tagging) (root : TagId) (seen : List TagId) → seen ≡ root ∷ [] → IsReached top tags root 0 seen
reached_begins top tags root seen is = subst (IsReached top tags root 0) (sym is) (begins same_tag tag_decides (look tags) (look_wider tags) top root)

pub reached_turns : (top : ℕ) (tags : Tagging) (root : TagId) (at : ℕ) (seen now : List TagId) (id : TagId) → IsReached top tags root at seen → Some id ≡ slice_get seen at
    → noted_info seen (lookup (same_tag id) tags) ≡ Some now → IsReached top tags root (at + 1) now
reached_turns top tags root at seen now id was here e =
    turns same_tag tag_decides (look tags) (look_wider tags) top root at seen now id was (sym here) (info_noted (lookup (same_tag id) tags) seen now e)

pub reached_finds : (top : ℕ) (tags : Tagging) (root : TagId) (at : ℕ) (seen : List TagId) (id : TagId) → IsReached top tags root at seen → Some id ≡ slice_get seen at → at < top
    → noted_info seen (lookup (same_tag id) tags) ≡ None → const_in top tags [] root ≡ true
reached_finds top tags root at seen id was here small e =
    const_is_seen tags top [] root
    ∙ finds same_tag tag_decides (look tags) (look_wider tags) top root at seen id was (sym here) small (λ f. info_found f (lookup (same_tag id) tags) seen e)

pub reached_ends : (top : ℕ) (tags : Tagging) (root : TagId) (at : ℕ) (seen : List TagId) → IsReached top tags root at seen → None ≡ slice_get seen at → const_in top tags [] root ≡ false
reached_ends top tags root at seen was none =
    const_is_seen tags top [] root ∙ ends same_tag tag_decides (look tags) (look_wider tags) top root at seen was (sym none)

pub below_most : (n : ℕ) → n < 2 ^ 63 → n < most_tags
unfolding most_tags
below_most n h = h
