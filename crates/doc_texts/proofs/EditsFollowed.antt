-- What edits leave at each path.
use Rattle.std.proofs.Common.{◌≡◌, ◌≢◌, ℕ, Bool, true, false, cond, List, [], ◌∷◌, Option, Some, None, option_map, is_some, sym, refl, ap, ◌∙◌, true≢false}
use Rattle.std.specs.FinMap.{get}
use Rattle.std.specs.List.{AllByRecursion}
use Rattle.doc_texts.specs.declared.ranges.TextEdits.{TextEdits}
use Rattle.doc_texts.specs.Edited.{renamed, in_place, with_text_at, with_edits, all_made, edited, AreApart}
use Rattle.doc_texts.specs.Texts.{Texts, OpenText, shown, text_at, version_at, uri_at}
use Rattle.doc_texts.proofs.Followed.{disk_itself, disk_others, open_itself, open_others}
use Rattle.doc_texts.proofs.Maps.{ties, ties_itself, same_key, get_put}

-- ---- another text at a path

module _ (t : Texts) (p x : List ℕ) where
  itself_by : (r : Option OpenText) → get t.opened p ≡ r → text_at (in_place t p x r) p ≡ Some x
  itself_by None shut = disk_itself t p x ∙ ap (λ d. shown d (Some x)) shut
  itself_by (Some d) found = open_itself t p (record { uri = d.uri; version = d.version; text = x })

  others_by : (r : Option OpenText) (q : List ℕ) → q ≢ p → text_at (in_place t p x r) q ≡ text_at t q
  others_by None q other = disk_others t p x q other
  others_by (Some d) q other = open_others t p (record { uri = d.uri; version = d.version; text = x }) q other

  pub put_itself : text_at (with_text_at t p x) p ≡ Some x
  unfolding with_text_at
  put_itself = itself_by (get t.opened p) refl

  pub put_others : (q : List ℕ) → q ≢ p → text_at (with_text_at t p x) q ≡ text_at t q
  unfolding with_text_at
  put_others q other = others_by (get t.opened p) q other

  -- a document that stays open keeps all but its text
  module _ {Y : Type 0} (f : OpenText → Y) where
    kept_at : (d e : OpenText) → f e ≡ f d → get t.opened p ≡ Some d → (q : List ℕ) (b : Bool) → ties q p ≡ b → option_map f (cond b (Some e) (get t.opened q)) ≡ option_map f (get t.opened q)
    kept_at d e same found q true tie = ap Some same ∙ sym (ap (λ k. option_map f (get t.opened k)) (same_key q p tie) ∙ ap (option_map f) found)
    kept_at d e same found q false tie = refl

    kept_by : ((d : OpenText) → f (record { uri = d.uri; version = d.version; text = x }) ≡ f d) → (r : Option OpenText) → get t.opened p ≡ r → (q : List ℕ) → option_map f (get (in_place t p x r).opened q) ≡ option_map f (get t.opened q)
    kept_by same None shut q = refl
    kept_by same (Some d) found q =
        let e : OpenText = record { uri = d.uri; version = d.version; text = x } in
        ap (option_map f) (get_put t.opened p e q) ∙ kept_at d e (same d) found q (ties q p) refl

  pub version_kept : (q : List ℕ) → version_at (with_text_at t p x) q ≡ version_at t q
  unfolding with_text_at version_at
  version_kept q = kept_by (λ d. d.version) (λ d. refl) (get t.opened p) refl q

  pub uri_kept : (q : List ℕ) → uri_at (with_text_at t p x) q ≡ uri_at t q
  unfolding with_text_at uri_at
  uri_kept q = kept_by (λ d. d.uri) (λ d. refl) (get t.opened p) refl q

  held_by : is_some (text_at t p) ≡ true → (q : List ℕ) (b : Bool) → ties q p ≡ b → is_some (text_at (with_text_at t p x) q) ≡ is_some (text_at t q)
  held_by is q true tie = ap (λ k. is_some (text_at (with_text_at t p x) k)) (same_key q p tie) ∙ ap is_some put_itself ∙ sym is ∙ ap (λ k. is_some (text_at t k)) (sym (same_key q p tie))
  held_by is q false apart = ap is_some (put_others q (λ same. true≢false (sym (ap (λ k. ties k p) same ∙ ties_itself p) ∙ apart)))

  pub held_kept : is_some (text_at t p) ≡ true → (q : List ℕ) → is_some (text_at (with_text_at t p x) q) ≡ is_some (text_at t q)
  held_kept is q = held_by is q (ties q p) refl

-- ---- the edits of one text

module _ (u : Texts) (e : TextEdits) (name : List ℕ) where
  pub edits_others : (o : Option (List ℕ)) (q : List ℕ) → q ≢ e.path → text_at (with_edits u e name o) q ≡ text_at u q
  edits_others None q other = refl
  edits_others (Some text) q other = put_others u e.path (renamed name e.ranges.items text) q other

  edits_itself : (o : Option (List ℕ)) → is_some (text_at u e.path) ≡ is_some o → text_at (with_edits u e name o) e.path ≡ option_map (renamed name e.ranges.items) o
  edits_itself None held = none_is (text_at u e.path) held
    where
      none_is : (r : Option (List ℕ)) → is_some r ≡ false → r ≡ None
      none_is None h = refl
      none_is (Some y) h = absurd (true≢false h)
  edits_itself (Some text) held = put_itself u e.path (renamed name e.ranges.items text)

  edits_held : (o : Option (List ℕ)) → is_some (text_at u e.path) ≡ is_some o → (q : List ℕ) → is_some (text_at (with_edits u e name o) q) ≡ is_some (text_at u q)
  edits_held None held q = refl
  edits_held (Some text) held q = held_kept u e.path (renamed name e.ranges.items text) held q

  edits_version : (o : Option (List ℕ)) (q : List ℕ) → version_at (with_edits u e name o) q ≡ version_at u q
  edits_version None q = refl
  edits_version (Some text) q = version_kept u e.path (renamed name e.ranges.items text) q

  edits_uri : (o : Option (List ℕ)) (q : List ℕ) → uri_at (with_edits u e name o) q ≡ uri_at u q
  edits_uri None q = refl
  edits_uri (Some text) q = uri_kept u e.path (renamed name e.ranges.items text) q

-- ---- all edits

module _ (t : Texts) (name : List ℕ) where
  others_made : (es : List TextEdits) (u : Texts) (q : List ℕ) → AllByRecursion (λ e. q ≢ e.path) es → text_at (all_made t u es name) q ≡ text_at u q
  unfolding all_made
  others_made [] u q other = refl
  others_made (e ∷ es) u q other = others_made es (with_edits u e name (text_at t e.path)) q other.1 ∙ edits_others u e name (text_at t e.path) q other.0

  version_made : (es : List TextEdits) (u : Texts) (q : List ℕ) → version_at (all_made t u es name) q ≡ version_at u q
  unfolding all_made
  version_made [] u q = refl
  version_made (e ∷ es) u q = version_made es (with_edits u e name (text_at t e.path)) q ∙ edits_version u e name (text_at t e.path) q

  uri_made : (es : List TextEdits) (u : Texts) (q : List ℕ) → uri_at (all_made t u es name) q ≡ uri_at u q
  unfolding all_made
  uri_made [] u q = refl
  uri_made (e ∷ es) u q = uri_made es (with_edits u e name (text_at t e.path)) q ∙ edits_uri u e name (text_at t e.path) q

  held_made : (es : List TextEdits) (u : Texts) → ((q : List ℕ) → is_some (text_at u q) ≡ is_some (text_at t q)) → (q : List ℕ) → is_some (text_at (all_made t u es name) q) ≡ is_some (text_at t q)
  unfolding all_made
  held_made [] u held q = held q
  held_made (e ∷ es) u held q = held_made es (with_edits u e name (text_at t e.path)) (λ k. edits_held u e name (text_at t e.path) (held e.path) k ∙ held k) q

  itself_made : (es : List TextEdits) (u : Texts) → ((q : List ℕ) → is_some (text_at u q) ≡ is_some (text_at t q)) → AreApart es → AllByRecursion (λ e. text_at (all_made t u es name) e.path ≡ option_map (renamed name e.ranges.items) (text_at t e.path)) es
  unfolding all_made
  itself_made [] u held apart = tt
  itself_made (e ∷ es) u held apart =
      let v = with_edits u e name (text_at t e.path) in (
        others_made es v e.path apart.0 ∙ edits_itself u e name (text_at t e.path) (held e.path),
        itself_made es v (λ k. edits_held u e name (text_at t e.path) (held e.path) k ∙ held k) apart.1,
      )

module _ (t : Texts) (edits : List TextEdits) (name : List ℕ) where
  pub edited_itself : AreApart edits → AllByRecursion (λ e. text_at (edited t edits name) e.path ≡ option_map (renamed name e.ranges.items) (text_at t e.path)) edits
  unfolding edited
  edited_itself apart = itself_made t name edits t (λ q. refl) apart

  pub edited_others : (q : List ℕ) → AllByRecursion (λ e. q ≢ e.path) edits → text_at (edited t edits name) q ≡ text_at t q
  unfolding edited
  edited_others q other = others_made t name edits t q other

  pub edited_held : (q : List ℕ) → is_some (text_at (edited t edits name) q) ≡ is_some (text_at t q)
  unfolding edited
  edited_held q = held_made t name edits t (λ k. refl) q

  pub edited_version : (q : List ℕ) → version_at (edited t edits name) q ≡ version_at t q
  unfolding edited
  edited_version q = version_made t name edits t q

  pub edited_uri : (q : List ℕ) → uri_at (edited t edits name) q ≡ uri_at t q
  unfolding edited
  edited_uri q = uri_made t name edits t q
