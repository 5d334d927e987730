-- What is noted of questions one after another.
use Rattle.std.proofs.Common.{rules, ◌≡◌, refl, sym, ap, ◌∙◌, subst, Bool, true, false, List, [], ◌∷◌, Option, Some, None, Result, Ok, Err, OnOk, if◌then◌else◌, ◌⊎◌, inl, inr}
use Rattle.std.specs.Bool.{Decides}
use Rattle.scope_tables.specs.Scopes.{or_outside}
use Rattle.scope_tables.specs.declared.entities.Entity.{Entity}
use Rattle.elab_state.specs.Same.{same_wanted}
use Rattle.elab_state.specs.Wants.{Told, answered}
use Rattle.elab_state.specs.declared.wants.Wanted.{Wanted}
use Rattle.earlier_items.specs.Before.{or_nothing, said}
use Rattle.earlier_items.specs.Differences.{AreSaid, IsAmong, IsFurther, has_question}
use Rattle.earlier_items.specs.declared.differences.Changed.{Changed}

same_decides : (a b : Wanted) → Decides (same_wanted a b) (a ≡ b)
same_decides a b = search rules

pub on_ok : {A E P Q : Type 0} (r : Result A E) → (P → Q) → OnOk r P → OnOk r Q
on_ok (Ok x) f h = f h
on_ok (Err e) f h = h

-- ---- an entity is put in

nothing_if : (b : Bool) (e : Entity) (answer : Option (Option Entity)) →
    or_nothing (if b then Some (Some e) else answer) ≡ (if b then or_outside (Some e) (or_nothing answer) else or_nothing answer)
nothing_if true e answer = refl
nothing_if false e answer = refl

pub said_if : (one q : Wanted) (e : Entity) (given : Option Entity) (old new : Told) → given ≡ Some e →
    answered new q ≡ (if same_wanted one q then Some (Some e) else answered old q) →
    said new q ≡ (if same_wanted one q then or_outside given (said old q) else said old q)
unfolding said
said_if one q e given old new is put =
    ap or_nothing put ∙ nothing_if (same_wanted one q) e (answered old q)
    ∙ ap (λ o. if same_wanted one q then or_outside o (or_nothing (answered old q)) else or_nothing (answered old q)) (sym is)

pub said_same : (b : Bool) (given was : Option Entity) → given ≡ None → was ≡ (if b then or_outside given was else was)
said_same true given was is = sym (ap (λ o. or_outside o was) is)
said_same false given was is = refl

-- ---- one question

right : (x y : Option Entity) → (y ≡ None) ⊎ (y ≡ x) → or_outside x y ≡ x
right (Some e) y h = refl
right None y (inl h) = h
right None y (inr h) = h

still : (b : Bool) (w x y z : Option Entity) → z ≡ (if b then or_outside w y else y) → (b ≡ true → w ≡ x) → (y ≡ None) ⊎ (y ≡ x) → (z ≡ None) ⊎ (z ≡ x)
still true w x y z is same h = inr (is ∙ ap (λ o. or_outside o y) (same refl) ∙ right x y h)
still false w x y z is same (inl h) = inl (is ∙ h)
still false w x y z is same (inr h) = inr (is ∙ h)

stays : (b : Bool) (w x y z : Option Entity) → z ≡ (if b then or_outside w y else y) → (b ≡ true → w ≡ x) → y ≡ x → z ≡ x
stays true w x y z is same h = is ∙ ap (λ o. or_outside o y) (same refl) ∙ right x y (inr h)
stays false w x y z is same h = is ∙ h

module _ (known names names' : Told) (one : Wanted) (noted : (q : Wanted) → said names' q ≡ (if same_wanted one q then or_outside (said known one) (said names q) else said names q)) where
  its : (q : Wanted) → same_wanted one q ≡ true → said known one ≡ said known q
  its q e = ap (λ p. said known p) ((same_decides one q).0 e)

  pub are_said : AreSaid known names → AreSaid known names'
  are_said so_far q = still (same_wanted one q) (said known one) (said known q) (said names q) (said names' q) (noted q) (its q) (so_far q)

  pub is_said : AreSaid known names → said names' one ≡ said known one
  is_said so_far =
      noted one ∙ ap (λ b. if b then or_outside (said known one) (said names one) else said names one) ((same_decides one one).1 refl)
      ∙ right (said known one) (said names one) (so_far one)

  pub is_further : (changed changed' : Changed) → ((q : Wanted) → has_question changed' q ≡ false → has_question changed q ≡ false) →
      IsFurther known names names' changed changed'
  is_further changed changed' less = record {
    stays = λ q h. stays (same_wanted one q) (said known one) (said known q) (said names q) (said names' q) (noted q) (its q) h;
    less = less;
  }

-- ---- one after another

pub further_again : {known names between names' : Told} {changed some changed' : Changed} → IsFurther known names between changed some → IsFurther known between names' some changed' →
    IsFurther known names names' changed changed'
further_again a b = record { stays = λ q h. b.stays q (a.stays q h); less = λ q h. a.less q (b.less q h) }

pub not_further : (known names : Told) (changed : Changed) → IsFurther known names names changed changed
not_further known names changed = record { stays = λ q h. h; less = λ q h. h }

-- of all these questions, all but the rest were noted
pub record Noting (known before : Told) (asked rest : List Wanted) (names names' : Told) (changed changed' : Changed) : Type 0 where
  pub noted : AreSaid known names'
  pub further : IsFurther known names names' changed changed'
  pub named : (q : Wanted) → IsAmong asked q → IsAmong rest q ⊎ (said names' q ≡ said known q)
  pub left : (q : Wanted) → IsAmong asked q → IsAmong rest q ⊎ (has_question changed' q ≡ false → said before q ≡ said known q)

pub noting_begins : (known before : Told) (asked : List Wanted) (names : Told) (changed : Changed) → AreSaid known names → Noting known before asked asked names names changed changed
noting_begins known before asked names changed noted = record {
  noted = noted;
  further = not_further known names changed;
  named = λ q h. inl h;
  left = λ q h. inl h;
}

its_own : {P Q : Type 0} (one q : Wanted) (more : List Wanted) → (one ≡ q → P) → (Q → P) → IsAmong (one ∷ more) q ⊎ Q → IsAmong more q ⊎ P
its_own one q more own older (inl (inl is)) = inr (own is)
its_own one q more own older (inl (inr h)) = inl h
its_own one q more own older (inr h) = inr (older h)

pub noting_turns : {known before : Told} {asked rest more : List Wanted} {one : Wanted} {names between names' : Told} {changed some changed' : Changed} →
    Noting known before asked rest names between changed some → rest ≡ one ∷ more → AreSaid known names' → IsFurther known between names' some changed' →
    said names' one ≡ said known one → (has_question changed' one ≡ false → said before one ≡ said known one) → Noting known before asked more names names' changed changed'
noting_turns {known} {before} {asked} {rest} {more} {one} {names} {between} {names'} {changed} {some} {changed'} was is noted step named left = record {
  noted = noted;
  further = further_again was.further step;
  named = λ q h.
      its_own one q more (λ e. subst (λ p. said names' p ≡ said known p) e named) (λ k. step.stays q k)
      (subst (λ xs. IsAmong xs q ⊎ (said between q ≡ said known q)) is (was.named q h));
  left = λ q h.
      its_own one q more (λ e. subst (λ p. has_question changed' p ≡ false → said before p ≡ said known p) e left) (λ k n. k (step.less q n))
      (subst (λ xs. IsAmong xs q ⊎ (has_question some q ≡ false → said before q ≡ said known q)) is (was.left q h));
}

of_none : {P : Type 0} (q : Wanted) → IsAmong [] q ⊎ P → P
of_none q (inl x) = absurd x
of_none q (inr h) = h

pub all_named : {known before : Told} {asked rest : List Wanted} {names names' : Told} {changed changed' : Changed} → Noting known before asked rest names names' changed changed' → rest ≡ [] →
    (q : Wanted) → IsAmong asked q → said names' q ≡ said known q
all_named {known} {before} {asked} {rest} {names} {names'} was is q h = of_none q (subst (λ xs. IsAmong xs q ⊎ (said names' q ≡ said known q)) is (was.named q h))

pub all_left : {known before : Told} {asked rest : List Wanted} {names names' : Told} {changed changed' : Changed} → Noting known before asked rest names names' changed changed' → rest ≡ [] →
    (q : Wanted) → IsAmong asked q → has_question changed' q ≡ false → said before q ≡ said known q
all_left {known} {before} {asked} {rest} {names} {names'} {changed} {changed'} was is q h =
    of_none q (subst (λ xs. IsAmong xs q ⊎ (has_question changed' q ≡ false → said before q ≡ said known q)) is (was.left q h))
