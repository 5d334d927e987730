-- What tokens ask is asked once for each question.
use Rattle.std.proofs.Common.{rules, ◌≡◌, refl, sym, ap, ◌∙◌, subst, Bool, true, false, not, List, [], ◌∷◌, filter, is_some, None, if◌then◌else◌, inl, inr}
use Rattle.std.specs.Bool.{Decides}
use Rattle.asking.specs.Lists.{Has}
use Rattle.asking.specs.LookUps.{LookUp, once, unanswered}
use Rattle.elab_state.specs.Asked.{identifiers}
use Rattle.elab_state.specs.Same.{same_wanted}
use Rattle.elab_state.specs.Tokens.{bare_tokens}
use Rattle.elab_state.specs.Wants.{Told, answered, wants}
use Rattle.elab_state.specs.declared.wants.Wanted.{Wanted}
use Rattle.tok_data.specs.declared.tokens.OutToken.{OutToken}
use Rattle.earlier_items.specs.Differences.{Asks, IsAmong}

same_decides : (a b : Wanted) → Decides (same_wanted a b) (a ≡ b)
same_decides a b = search rules

-- what a filter lets through stays
here : (p : Wanted → Bool) (x q : Wanted) (more : List Wanted) (b : Bool) → p x ≡ b → p q ≡ true → x ≡ q → Has (if b then x ∷ more else more) q
here p x q more true t e is = inl is
here p x q more false f e is = let no : true ≡ false = sym e ∙ ap p (sym is) ∙ f in absurd (cc no)

there : (x q : Wanted) (more : List Wanted) (b : Bool) → Has more q → Has (if b then x ∷ more else more) q
there x q more true h = inr h
there x q more false h = h

kept : (p : Wanted → Bool) (xs : List Wanted) (q : Wanted) → p q ≡ true → Has xs q → Has (filter p xs) q
kept p [] q e h = h
kept p (x ∷ xs) q e (inl is) = here p x q (filter p xs) (p x) refl e is
kept p (x ∷ xs) q e (inr h) = there x q (filter p xs) (p x) (kept p xs q e h)

once_more : (x q : Wanted) (more : List Wanted) (b : Bool) → same_wanted q x ≡ b → Has more q → Has (x ∷ filter (λ p. not (same_wanted p x)) more) q
once_more x q more true t h = inl (sym ((same_decides q x).0 t))
once_more x q more false f h = inr (kept (λ p. not (same_wanted p x)) more q (ap not f) h)

among_once : (xs : List Wanted) (q : Wanted) → Has xs q → Has (once wants xs) q
among_once [] q h = h
among_once (x ∷ xs) q (inl is) = inl is
among_once (x ∷ xs) q (inr h) = once_more x q (once wants xs) (same_wanted q x) refl (among_once xs q h)

none_known : (look : LookUp wants) (xs : List Wanted) → ((q : Wanted) → look q ≡ None) → (q : Wanted) → Has xs q → Has (filter (λ p. not (is_some (look p))) xs) q
none_known look xs none q h = kept (λ p. not (is_some (look p))) xs q (ap (λ a. not (is_some a)) (none q)) h

pub asked_all : (known : Told) (ts : List OutToken) (list : List Wanted) → known ≡ record { entries = []; others = None } →
    list ≡ unanswered wants (answered known) (identifiers false (bare_tokens ts)) → (q : Wanted) → Asks (bare_tokens ts) q → IsAmong list q
asked_all known ts list none is q asks =
    subst (λ xs. Has xs q) (sym is)
    (among_once (filter (λ p. not (is_some (answered known p))) (identifiers false (bare_tokens ts))) q
    (none_known (answered known) (identifiers false (bare_tokens ts)) (λ p. ap (λ k. answered k p) none) q asks))
