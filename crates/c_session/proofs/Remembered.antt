-- The texts that are remembered of two moments' files are the prior texts of the earlier one.
use Rattle.std.proofs.Common.{◌≡◌, ℕ, Bool, true, false, cond, List, [], ◌∷◌, ◌||◌, Option, Some, None, is_some, sym, refl, ap, ◌∙◌, subst, true≢false}
use Rattle.std.specs.Cmp.Lexicographic.{nat_list_cmp_total}
use Rattle.std.specs.FinMap.{get, insert, contains_key, empty, get-empty, get-insert}
use Rattle.std.specs.List.{list_any}
use Rattle.std.proofs.lemmas.Bool.{or_parts}
use Rattle.doc_texts.specs.Texts.{Texts, text_at, paths_of}
use Rattle.doc_texts.specs.Prior.{Prior, remembered}
use Rattle.c_session.specs.Ties.News.{IsPrior, all_remembered}
use Rattle.c_session.proofs.PathSets.{or_none, swap_or, by_bytes, ties, tied_is, has_put, has_path}

some_is : {X : Type 0} (x y : X) → Some x ≡ Some y → x ≡ y
some_is x y same = cc

nothing : {X : Type 0} (o : Option X) → is_some o ≡ false → o ≡ None
nothing None none = refl
nothing (Some x) none = absurd (true≢false none)

module _ (t : Texts) where
  -- what is kept is what there is
  abbrev pub Holds : Prior → Type 0
  Holds prior = (path : List ℕ) (text : Option (List ℕ)) → get prior path ≡ Some text → text ≡ text_at t path

  put_holds : (q p : List ℕ) (b : Bool) (old : Option (Option (List ℕ))) (text : Option (List ℕ)) → ties q p ≡ b → (old ≡ Some text → text ≡ text_at t q) → cond b (Some (text_at t p)) old ≡ Some text → text ≡ text_at t q
  put_holds q p true old text tied held found = sym (some_is (text_at t p) text found) ∙ ap (text_at t) (sym (tied_is q p tied))
  put_holds q p false old text tied held found = held found

  holds_more : (prior : Prior) (p : List ℕ) → Holds prior → Holds (remembered prior t p)
  unfolding remembered
  holds_more prior p holds path text =
      elim (contains_key prior p) as (λ b. get (cond b prior (insert prior p (text_at t p))) path ≡ Some text → text ≡ text_at t path) [
        | true ↦ holds path text
        | false ↦ λ found. put_holds path p (ties path p) (get prior path) text refl (holds path text) (sym (get-insert nat_list_cmp_total prior p (text_at t p) path) ∙ found)
      ]

  all_hold : (prior : Prior) (paths : List (List ℕ)) → Holds prior → Holds (all_remembered prior t paths)
  all_hold prior [] holds = holds
  all_hold prior (p ∷ paths) holds = all_hold (remembered prior t p) paths (holds_more prior p holds)

  there : (prior : Prior) (q p : List ℕ) (b : Bool) → ties q p ≡ b → contains_key prior p ≡ true → contains_key prior q ≡ (b || contains_key prior q)
  there prior q p true tied has = ap (contains_key prior) (tied_is q p tied) ∙ has
  there prior q p false tied has = refl

  has_more : (prior : Prior) (p q : List ℕ) → contains_key (remembered prior t p) q ≡ (ties q p || contains_key prior q)
  unfolding remembered
  has_more prior p q =
      elim (contains_key prior p) as (λ b. contains_key prior p ≡ b → contains_key (cond b prior (insert prior p (text_at t p))) q ≡ (ties q p || contains_key prior q)) [
        | true ↦ λ has. there prior q p (ties q p) refl has
        | false ↦ λ has. has_put prior p (text_at t p) q
      ] refl

  has_all : (prior : Prior) (paths : List (List ℕ)) (q : List ℕ) → contains_key (all_remembered prior t paths) q ≡ (contains_key prior q || list_any (ties q) paths)
  has_all prior [] q = or_none (contains_key prior q)
  has_all prior (p ∷ paths) q = has_all (remembered prior t p) paths q ∙ ap (λ b. b || list_any (ties q) paths) (has_more prior p q) ∙ swap_or (ties q p) (contains_key prior q) (list_any (ties q) paths)

  empty_holds : Holds empty
  empty_holds path text found = absurd (true≢false (ap is_some (sym found ∙ get-empty by_bytes path)))

module _ (old new : Texts) where
  -- a path for which nothing is kept has no text at either moment
  no_text : (q : List ℕ) → get (all_remembered (all_remembered empty old (paths_of old)) old (paths_of new)) q ≡ None → text_at new q ≡ text_at old q
  no_text q none =
      let both = or_parts (contains_key (all_remembered empty old (paths_of old)) q) (list_any (ties q) (paths_of new)) (sym (has_all old (all_remembered empty old (paths_of old)) (paths_of new) q) ∙ ap is_some none) in
      let before = or_parts (contains_key empty q) (list_any (ties q) (paths_of old)) (sym (has_all old empty (paths_of old) q) ∙ both.0) in
      nothing (text_at new q) (sym (has_path new q) ∙ both.1) ∙ sym (nothing (text_at old q) (sym (has_path old q) ∙ before.1))

  prior_is : IsPrior old (all_remembered (all_remembered empty old (paths_of old)) old (paths_of new)) new
  prior_is = record {
    held = all_hold old (all_remembered empty old (paths_of old)) (paths_of new) (all_hold old empty (paths_of old) (empty_holds old));
    rest = no_text;
  }

  -- by the calls that remember them
  pub prior_told : (before between after : Prior) (was are : List (List ℕ)) → before ≡ empty → was ≡ paths_of old → between ≡ all_remembered before old was →
      are ≡ paths_of new → after ≡ all_remembered between old are → IsPrior old after new
  prior_told before between after was are none olds once news twice =
      let first : between ≡ all_remembered empty old (paths_of old) = once ∙ (λ i. all_remembered (none i) old (olds i)) in
      subst (λ prior. IsPrior old prior new) (sym (twice ∙ (λ i. all_remembered (first i) old (news i)))) prior_is
