-- What is compared before and after an edit.
use Rattle.std.proofs.Common.{rules, ◌≡◌, ℕ, Bool, true, false, List, [], ◌∷◌, map, Option, Some, None, inl, inr, refl, sym, ap, subst, ◌∙◌}
use Rattle.std.specs.Bool.{Decides}
use Rattle.std.specs.Cmp.Lexicographic.{pointwise, pointwise_decides}
use Rattle.std.specs.List.{find}
use Rattle.std.specs.Prelude.{if◌then◌else◌, not, ◌&&◌, option_map}
use Rattle.tok_data.specs.declared.sources.TokId.{TokId}
use Rattle.tok_data.specs.declared.tokens.PpKind.{PpKind}
use Rattle.scope_tables.specs.declared.entities.Anchor.{Anchor}
use Rattle.scope_tables.specs.declared.entities.Anchor.TheVariants.{External, Local, Made, Macro}
use Rattle.scope_tables.specs.declared.entities.Occ.{Occ}
use Rattle.scope_tables.specs.declared.entities.Role.{Role}
use Rattle.scope_tables.specs.contracts.entities.RolePartialEq.TheImpl as roles
use Rattle.rename_core.specs.declared.error.RenameError.TheVariants.{Clash}
use Rattle.rename_core.specs.declared.class.Plan.{Plan}
use Rattle.rename_core.specs.Classes.{Has}
use Rattle.rename_core.specs.Clashes.{names, renamed, moved, same_occ, same_kind, same_kinds, has_other_kinds, first_other, other_since, other_in, external_taken, clash_of_kinds, clash_of_bindings, effect}
use Rattle.rename_core.specs.Kept.{IsKept, is_text, other_kinds_at}
use Rattle.scope_tables.specs.Occurrences.{same_anchor, same_tok}
use Rattle.rename_core.specs.Occurrences.{in_class, or_later, first_some}
use Rattle.rename_core.specs.Views.{View, kinds_in}
use Rattle.rename_core.proofs.LinkLemmas.{both}
use Rattle.rename_core.proofs.LookupLemmas.{text_exact}
use Rattle.rename_core.proofs.MentionLemmas.{tok_exact, anchor_exact}
use Rattle.rename_core.proofs.WalkLemmas.{either_true}

-- ---- texts, each compared once

-- what is found among the tokens that are left, the text that is known being no other
pub record Compares (before after : List ℕ → Option (List PpKind)) (all rest : List TokId) (known : Option (List ℕ)) : Type 0 where
  pub finds : find (other_kinds_at before after) rest ≡ find (other_kinds_at before after) all
  pub same : (f : List ℕ) → known ≡ Some f → same_kinds (before f) (after f) ≡ true

module _ (before after : List ℕ → Option (List PpKind)) where
  passes_by : (t : TokId) (rest behind : List TokId) (found : Option TokId) → rest ≡ t ∷ behind → same_kinds (before t.file) (after t.file) ≡ true
      → find (other_kinds_at before after) rest ≡ found → find (other_kinds_at before after) behind ≡ found
  passes_by t rest behind found is same was =
      sym (ap (λ b. if not b then Some t else find (other_kinds_at before after) behind) same) ∙ ap (find (other_kinds_at before after)) (sym is) ∙ was

  pub compares_known : (all rest behind : List TokId) (t : TokId) (known : Option (List ℕ)) → Compares before after all rest known → rest ≡ t ∷ behind → is_text known t.file ≡ true
      → Compares before after all behind known
  compares_known all rest behind t None was is e = absurd (cc e)
  compares_known all rest behind t (Some f) was is e =
      record { finds = passes_by t rest behind _ is (subst (λ g. same_kinds (before g) (after g) ≡ true) ((text_exact f t.file).0 e) (was.same f refl)) was.finds; same = was.same }

  some_file : (f g : List ℕ) → Some f ≡ Some g → f ≡ g
  some_file f g e = cc e

  pub compares_new : (all rest behind : List TokId) (t : TokId) (known : Option (List ℕ)) → Compares before after all rest known → rest ≡ t ∷ behind
      → same_kinds (before t.file) (after t.file) ≡ true → Compares before after all behind (Some t.file)
  compares_new all rest behind t known was is e =
      record { finds = passes_by t rest behind _ is e was.finds; same = λ f i. subst (λ g. same_kinds (before g) (after g) ≡ true) (some_file t.file f i) e }

  pub compares_found : (all rest behind : List TokId) (t : TokId) (known : Option (List ℕ)) → Compares before after all rest known → rest ≡ t ∷ behind
      → same_kinds (before t.file) (after t.file) ≡ false → Some t ≡ find (other_kinds_at before after) all
  compares_found all rest behind t known was is e =
      sym (ap (λ b. if not b then Some t else find (other_kinds_at before after) behind) e) ∙ ap (find (other_kinds_at before after)) (sym is) ∙ was.finds

-- ---- an anchor that became another

same_bool : (a b : Bool) → (a ≡ true → b ≡ true) → (b ≡ true → a ≡ true) → a ≡ b
same_bool true b f g = sym (f refl)
same_bool false true f g = g refl
same_bool false false f g = refl

named_is : (name : List ℕ) (b : Anchor) → names name b ≡ true → External name ≡ b
named_is name (External n) e = ap External (sym ((text_exact n name).0 e))
named_is name (Local t) e = absurd (cc e)
named_is name (Made t n) e = absurd (cc e)
named_is name (Macro n) e = absurd (cc e)

name_same : (name : List ℕ) (b : Anchor) → names name b ≡ same_anchor (External name) b
name_same name b =
    same_bool (names name b) (same_anchor (External name) b) (λ e. (anchor_exact (External name) b).1 (named_is name b e))
    (λ e. ap (names name) (sym ((anchor_exact (External name) b).0 e)) ∙ (text_exact name name).1 refl)

pub became_name : (old new : List ℕ) (a b : Anchor) → names old a ≡ true → names new b ≡ same_anchor (renamed (Some old) new a) b
became_name old new (External n) b e = name_same new b ∙ ap (λ x. same_anchor x b) (sym (ap (λ t. if t then External new else External n) e))
became_name old new (Local t) b e = absurd (cc e)
became_name old new (Made t n) b e = absurd (cc e)
became_name old new (Macro n) b e = absurd (cc e)

pub became_same : (old new : List ℕ) (a b : Anchor) → names old a ≡ false → same_anchor a b ≡ same_anchor (renamed (Some old) new a) b
became_same old new (External n) b e = ap (λ x. same_anchor x b) (sym (ap (λ t. if t then External new else External n) e))
became_same old new (Local t) b e = refl
became_same old new (Made t n) b e = refl
became_same old new (Macro n) b e = refl

-- ---- where no refusal holds, all is kept

kind_exact : (a b : PpKind) → Decides (same_kind a b) (a ≡ b)
kind_exact a b = search rules

kinds_exact : (xs ys : List PpKind) → pointwise same_kind xs ys ≡ true → xs ≡ ys
kinds_exact xs ys e = (pointwise_decides kind_exact xs ys).0 e

same_options : (a b : Option (List PpKind)) → same_kinds a b ≡ true → b ≡ a
same_options None None e = refl
same_options None (Some ys) e = absurd (cc e)
same_options (Some xs) None e = absurd (cc e)
same_options (Some xs) (Some ys) e = ap Some (sym (kinds_exact xs ys e))

role_exact : (a b : Role) → Decides (roles.eq-value.it a b) (a ≡ b)
role_exact a b = search rules

occ_exact : (o q : Occ) → same_occ o q ≡ true → o ≡ q
occ_exact o q e =
    let parts = both (same_tok o.tok q.tok) (roles.eq-value.it o.role q.role && same_anchor o.anchor q.anchor) e in
    let more = both (roles.eq-value.it o.role q.role) (same_anchor o.anchor q.anchor) parts.1 in
    let t = (tok_exact o.tok q.tok).0 parts.0 in
    let r = (role_exact o.role q.role).0 more.0 in
    let a = (anchor_exact o.anchor q.anchor).0 more.1 in λ i. record { tok = t i; anchor = a i; role = r i }

none_some : {A B : Type 0} (f : A → B) (o : Option A) → option_map f o ≡ None → o ≡ None
none_some f None e = refl
none_some f (Some x) e = absurd (cc e)

both_none : {A : Type 0} (a b : Option A) → or_later a b ≡ None → (a ≡ None) × (b ≡ None)
both_none None b e = (refl, e)
both_none (Some x) b e = absurd (cc e)

-- nothing is found: none of them passes
none_found : (p : TokId → Bool) (ts : List TokId) (t : TokId) → find p ts ≡ None → in_class ts t ≡ true → p t ≡ false
none_found p [] t e h = absurd (cc h)
none_found p (x ∷ xs) t e h = by_test (p x) refl e (none_found p xs t)
  where
    by_test : (b : Bool) → p x ≡ b → (if b then Some x else find p xs) ≡ None → (find p xs ≡ None → in_class xs t ≡ true → p t ≡ false) → p t ≡ false
    by_test true f n again = absurd (cc n)
    by_test false f n again =
        elim (either_true (same_tok t x) (in_class xs t) h) [
          | inl i ↦ ap p ((tok_exact t x).0 i) ∙ f
          | inr k ↦ again n k
        ]

none_of : {A B : Type 0} (f : A → Option B) (xs : List A) (x : A) → first_some f xs ≡ None → Has xs x → f x ≡ None
none_of f [] x e h = absurd h
none_of f (y ∷ ys) x e (inl i) = ap f (sym i) ∙ (both_none (f y) (first_some f ys) e).0
none_of f (y ∷ ys) x e (inr h) = none_of f ys x (both_none (f y) (first_some f ys) e).1 h

none_other : (p : Plan) (os qs : List Occ) → first_other p os qs ≡ None → qs ≡ map (moved p) os
none_other p [] [] e = refl
none_other p [] (q ∷ qs) e = absurd (cc e)
none_other p (o ∷ os) [] e = absurd (cc e)
none_other p (o ∷ os) (q ∷ qs) e = by_test (same_occ (moved p o) q) refl e (none_other p os qs)
  where
    by_test : (b : Bool) → same_occ (moved p o) q ≡ b → (if b then first_other p os qs else Some o.tok) ≡ None → (first_other p os qs ≡ None → qs ≡ map (moved p) os) → q ∷ qs ≡ moved p o ∷ map (moved p) os
    by_test true f n again = ap (λ x. x ∷ qs) (sym (occ_exact (moved p o) q f)) ∙ ap (λ l. moved p o ∷ l) (again n)
    by_test false f n again = absurd (cc n)

not_false : (b : Bool) → not b ≡ false → b ≡ true
not_false true e = refl
not_false false e = absurd (cc e)

pub all_kept : (p : Plan) (before after : List View) → None ≡ effect p before after → IsKept p before after
all_kept p before after e =
    let first = both_none (external_taken p before) (or_later (clash_of_kinds p before after) (or_later (clash_of_bindings p before after) None)) (sym e) in
    let second = both_none (clash_of_kinds p before after) (or_later (clash_of_bindings p before after) None) first.1 in
    let third = both_none (clash_of_bindings p before after) None second.1 in
    let kinds = none_some Clash (find (has_other_kinds before after) p.class.toks) second.0 in
    let bindings = none_some Clash (first_some (other_in p after) before) third.0 in
    record {
      kinds = λ t h. same_options (kinds_in before t.file) (kinds_in after t.file)
          (not_false (same_kinds (kinds_in before t.file) (kinds_in after t.file)) (none_found (has_other_kinds before after) p.class.toks t kinds h));
      bindings = λ v qs h is. none_other p v.occs qs (sym (ap (other_since p v.occs) is) ∙ none_of (other_in p after) before v bindings h);
    }
