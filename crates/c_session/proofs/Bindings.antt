-- What a rename that isn't refused keeps.
use Rattle.std.proofs.Common.{rules, ◌≡◌, ℕ, Bool, true, false, ◌||◌, cond, List, [], ◌∷◌, map, Option, Some, None, Result, Ok, Err, unwrap_or, bytes_eq, inl, inr, refl, sym, ap, subst, ◌∙◌}
use Rattle.std.specs.Bool.{Decides}
use Rattle.std.specs.Prelude.{◌⊎◌}
use Rattle.std.specs.List.{cons_option, filter_map, list_any}
use Rattle.std.proofs.lemmas.Slice.Eq.{bytes_eq-Decides}
use Rattle.doc_texts.specs.Texts.{Texts, path_set, text_at}
use Rattle.plain_mean.specs.Shown.{units}
use Rattle.plain_mean.specs.TokenKinds as told
use Rattle.project_conf.specs.declared.conf.Conf.{Conf}
use Rattle.rename_core.specs.Chained.{class_toks}
use Rattle.rename_core.specs.Classes.{Has, IsClass}
use Rattle.rename_core.specs.Clashes.{confirmed, renamed}
use Rattle.rename_core.specs.Kept.{IsKept}
use Rattle.rename_core.specs.Occurrences.{or_later}
use Rattle.rename_core.specs.Views.{View, kinds_in, kinds_of, occs_in as occs_told, same_text}
use Rattle.rename_core.specs.declared.class.Plan.{Plan}
use Rattle.rename_core.specs.declared.confirming.Edits.{Edits}
use Rattle.rename_core.specs.declared.error.RenameError.{RenameError}
use Rattle.rename_core.specs.declared.views.FileKinds.{FileKinds}
use Rattle.scope_tables.specs.declared.entities.Occ.{Occ}
use Rattle.scope_tables.specs.Occurrences.{same_tok}
use Rattle.tok_data.specs.declared.sources.TokId.{TokId}
use Rattle.tok_data.specs.declared.tokens.PpKind.{PpKind}
use Rattle.uri_paths.specs.Paths.{is_path, path_read}
use Rattle.c_session.specs.Classed.{class_in}
use Rattle.c_session.specs.Keeping.{KeepsBindings, as_after}
use Rattle.c_session.specs.Outcomes.{after, all_occs, and_confirmed, confirmed_over, kinds_at, occs_in, plan_of, rename, view, views}
use Rattle.plain_mean.specs.Ranges.{paths_in, texts_after}
use Rattle.rename_core.specs.declared.class.Class.{Class}
use Rattle.c_session.proofs.Plans.{plan_class}

-- ---- lists

either_true : (a b : Bool) → (a || b) ≡ true → (a ≡ true) ⊎ (b ≡ true)
either_true true b e = inl refl
either_true false b e = inr e

module _ {A : Type 0} where
  any_has : (f : A → Bool) (xs : List A) → list_any f xs ≡ true → (x : A) × (Has xs x) × (f x ≡ true)
  any_has f [] e = absurd (let bad : ⊥ = cc e in bad)
  any_has f (x ∷ xs) e = elim (either_true (f x) (list_any f xs) e) [
    | inl h ↦ (x, inl refl, h)
    | inr h ↦ let m = any_has f xs h in (m.0, inr m.1, m.2)
  ]

  has_any : (f : A → Bool) (xs : List A) (x : A) → Has xs x → f x ≡ true → list_any f xs ≡ true
  has_any f [] x h e = absurd h
  has_any f (y ∷ ys) x h e = elim h [
    | inl i ↦ ap (λ b. b || list_any f ys) (ap f i ∙ e)
    | inr l ↦ (ap (λ b. f y || b) (has_any f ys x l e) ∙ last (f y))
  ]
    where
      last : (b : Bool) → (b || true) ≡ true
      last true = refl
      last false = refl

  has_mapped : {B : Type 0} (f : A → B) (xs : List A) (x : A) → Has xs x → Has (map f xs) (f x)
  has_mapped f [] x h = absurd h
  has_mapped f (y ∷ ys) x h = elim h [
    | inl i ↦ inl (ap f i)
    | inr l ↦ inr (has_mapped f ys x l)
  ]

one_of : (path : List ℕ) (paths : List (List ℕ)) → list_any (bytes_eq path) paths ≡ true → Has paths path
one_of path paths e =
    let m = any_has (bytes_eq path) paths e in
    subst (Has paths) (sym ((bytes_eq-Decides path m.0).0 m.2)) m.1

-- ---- views

-- a unit's occurrences, by the first view with its path
occs_by : (path x : List ℕ) (os ps : List Occ) (later : Option (List Occ)) (b : Bool) → same_text path x ≡ b → (x ≡ path → os ≡ ps) → (same_text path x ≡ false → later ≡ Some ps) →
    cond b (Some os) later ≡ Some ps
occs_by path x os ps later true e here there = ap Some (here (sym ((bytes_eq-Decides path x).0 e)))
occs_by path x os ps later false e here there = there e

found_occs : (texts : Texts) (conf : Conf) (kinds : List FileKinds) (us : List (List ℕ)) (unit : List ℕ) → Has us unit →
    occs_told (map (view texts conf kinds) us) unit ≡ Some (occs_in texts conf unit)
found_occs texts conf kinds [] unit h = absurd h
found_occs texts conf kinds (x ∷ us) unit h =
    occs_by unit x (occs_in texts conf x) (occs_in texts conf unit) (occs_told (map (view texts conf kinds) us) unit) (same_text unit x) refl
    (λ same. ap (occs_in texts conf) same)
    (λ apart. elim h [
      | inl i ↦ absurd (let bad : ⊥ = cc (apart, (bytes_eq-Decides unit x).1 (sym i)) in bad)
      | inr l ↦ found_occs texts conf kinds us unit l
    ])

kinds_by : (path x : List ℕ) (ks ls : List PpKind) (later : Option (List PpKind)) (b : Bool) → same_text path x ≡ b → (x ≡ path → ks ≡ ls) → (same_text path x ≡ false → later ≡ Some ls) →
    cond b (Some ks) later ≡ Some ls
kinds_by path x ks ls later true e here there = ap Some (here (sym ((bytes_eq-Decides path x).0 e)))
kinds_by path x ks ls later false e here there = there e

found_kinds : (texts : Texts) (paths : List (List ℕ)) (path : List ℕ) → Has paths path → kinds_of path (map (kinds_at texts) paths) ≡ Some (told.kinds_in (text_at texts path))
found_kinds texts [] path h = absurd h
found_kinds texts (x ∷ paths) path h =
    kinds_by path x (told.kinds_in (text_at texts x)) (told.kinds_in (text_at texts path)) (kinds_of path (map (kinds_at texts) paths)) (same_text path x) refl
    (λ same. ap (λ p. told.kinds_in (text_at texts p)) same)
    (λ apart. elim h [
      | inl i ↦ absurd (let bad : ⊥ = cc (apart, (bytes_eq-Decides path x).1 (sym i)) in bad)
      | inr l ↦ found_kinds texts paths path l
    ])

later_first : (o later : Option (List PpKind)) (ks : List PpKind) → o ≡ Some ks → or_later o later ≡ Some ks
later_first o later ks e = ap (λ x. or_later x later) e

-- the first view tells the kinds of each text, where there is a view
kinds_told : (texts : Texts) (conf : Conf) (toks : List TokId) (us : List (List ℕ)) (path : List ℕ) → (us ≡ [] → ⊥) → Has (paths_in toks) path →
    kinds_in (views texts conf toks us) path ≡ Some (told.kinds_in (text_at texts path))
kinds_told texts conf toks [] path some h = absurd (some refl)
kinds_told texts conf toks (x ∷ us) path some h =
    later_first (kinds_of path (map (kinds_at texts) (paths_in toks))) (kinds_in (views texts conf toks us) path) (told.kinds_in (text_at texts path)) (found_kinds texts (paths_in toks) path h)

-- ---- the texts of tokens

path_by : (t : TokId) (b : Bool) (x : List ℕ) → cond b (Some t.file) None ≡ Some x → x ≡ t.file
path_by t true x e = ap (λ o. unwrap_or o x) (sym e)
path_by t false x e = absurd (let bad : ⊥ = cc e in bad)

with_path_by : (t : TokId) (ts : List TokId) (path : List ℕ) (o : Option (List ℕ)) → path_read t.file ≡ o → Has (cons_option o (filter_map (λ t. path_read t.file) ts)) path →
    (t.file ≡ path) ⊎ Has (filter_map (λ t. path_read t.file) ts) path
with_path_by t ts path None e h = inr h
with_path_by t ts path (Some x) e h = elim h [
  | inl i ↦ inl (sym (path_by t (is_path t.file) x e) ∙ i)
  | inr l ↦ inr l
]

with_path : (toks : List TokId) (path : List ℕ) → Has (filter_map (λ t. path_read t.file) toks) path → (t : TokId) × (Has toks t) × (t.file ≡ path)
with_path [] path h = absurd h
with_path (t ∷ ts) path h = elim (with_path_by t ts path (path_read t.file) refl h) [
  | inl i ↦ (t, inl refl, i)
  | inr l ↦ let m = with_path ts path l in (m.0, inr m.1, m.2)
]

-- ---- where there is no unit there is no class

no_unit : (t : TokId) (u : TokId) → Has (class_toks [] t) u → ⊥
unfolding class_toks
no_unit t u h = h

some_is : {A : Type 0} (x y : A) → Some x ≡ Some y → x ≡ y
some_is x y e = ap (λ o. unwrap_or o x) e

tok_exact : (s t : TokId) → Decides (same_tok s t) (s ≡ t)
tok_exact s t = search rules

tok_itself : (t : TokId) → same_tok t t ≡ true
tok_itself t = (tok_exact t t).1 refl

abbrev with_name : Option (List ℕ) → List ℕ → Occ → Occ
with_name external name o = record o { anchor = renamed external name o.anchor }

planned_by : (texts : Texts) (conf : Conf) (edits : Edits) (r : Result Plan RenameError) → and_confirmed texts conf r ≡ Ok edits → (p : Plan) × (r ≡ Ok p) × (confirmed_over texts conf p ≡ Ok edits)
planned_by texts conf edits (Err e) h = absurd (let bad : ⊥ = cc h in bad)
planned_by texts conf edits (Ok p) h = (p, refl, h)

pub planned_is : (texts : Texts) (conf : Conf) (t : TokId) (name : List ℕ) (edits : Edits) → rename texts conf t name ≡ Ok edits → (p : Plan) × (plan_of texts conf t name ≡ Ok p) × (confirmed_over texts conf p ≡ Ok edits)
unfolding rename
planned_is texts conf t name edits is = planned_by texts conf edits (plan_of texts conf t name) is

-- ---- all of it

module _
    (members : (paths : List (List ℕ)) (q : List ℕ) → list_any (bytes_eq q) (path_set paths) ≡ list_any (bytes_eq q) paths)
    (classes : (us : List (List Occ)) (t : TokId) → IsClass us t (class_toks us t))
    (kept : (p : Plan) (before after : List View) (edits : Edits) → confirmed p before after ≡ Ok edits → IsKept p before after)
    (edited : (p : Plan) (before after : List View) (edits : Edits) → confirmed p before after ≡ Ok edits → edits.toks ≡ p.class.toks)
    (named : (p : Plan) (before after : List View) (edits : Edits) → confirmed p before after ≡ Ok edits → edits.new_name ≡ p.new_name)
    (texts : Texts) (conf : Conf) (t : TokId) (name : List ℕ) (edits : Edits) (p : Plan) (planned : plan_of texts conf t name ≡ Ok p) (is : confirmed_over texts conf p ≡ Ok edits) where
  abbrev before : List View
  before = views texts conf p.class.toks (units texts conf)

  abbrev behind : List View
  behind = views (after texts p) conf p.class.toks (units texts conf)

  class_is : p.class ≡ class_in (all_occs texts conf) t
  class_is = plan_class (class_in (all_occs texts conf) t) name p planned

  toks_are : edits.toks ≡ p.class.toks
  toks_are = edited p before behind edits is

  name_is : edits.new_name ≡ p.new_name
  name_is = named p before behind edits is

  own_toks : edits.toks ≡ class_toks (all_occs texts conf) t
  unfolding class_in
  own_toks = toks_are ∙ ap (λ (c : Class). c.toks) class_is

  stays : IsKept p before behind
  stays = kept p before behind edits is

  after_is : after texts p ≡ texts_after texts edits.toks edits.new_name
  after_is = λ i. texts_after texts (sym toks_are i) (sym name_is i)

  some_unit : (u : TokId) → Has edits.toks u → units texts conf ≡ [] → ⊥
  some_unit u h none = no_unit t u (subst (λ us. Has (class_toks (map (occs_in texts conf) us) t) u) none (subst (λ ts. Has ts u) own_toks h))

  kinds_stay : (path : List ℕ) → list_any (bytes_eq path) (paths_in edits.toks) ≡ true →
      told.kinds_in (text_at (texts_after texts edits.toks edits.new_name) path) ≡ told.kinds_in (text_at texts path)
  kinds_stay path e =
      let m = with_path edits.toks path (one_of path _ (sym (members _ path) ∙ e)) in
      let among : Has p.class.toks m.0 = subst (λ ts. Has ts m.0) toks_are m.1 in
      let listed : Has (paths_in p.class.toks) path = subst (λ ts. Has (paths_in ts) path) toks_are (one_of path (paths_in edits.toks) e) in
      let told_same = stays.kinds m.0 (has_any (same_tok m.0) p.class.toks m.0 among (tok_itself m.0)) in
      let some = some_unit m.0 m.1 in
      ap (λ x. told.kinds_in (text_at x path)) (sym after_is)
      ∙ some_is _ _ (
      sym (kinds_told (after texts p) conf p.class.toks (units texts conf) path some listed)
      ∙ ap (kinds_in (views (after texts p) conf p.class.toks (units texts conf))) (sym m.2) ∙ told_same
      ∙ ap (kinds_in (views texts conf p.class.toks (units texts conf))) m.2
      ∙ kinds_told texts conf p.class.toks (units texts conf) path some listed)

  bindings_stay : (unit : List ℕ) → list_any (bytes_eq unit) (units texts conf) ≡ true →
      occs_in (texts_after texts edits.toks edits.new_name) conf unit ≡ map (as_after texts conf t edits.new_name) (occs_in texts conf unit)
  bindings_stay unit e =
      let among : Has (units texts conf) unit = one_of unit (units texts conf) e in
      ap (λ x. occs_in x conf unit) (sym after_is)
      ∙ stays.bindings (view texts conf (map (kinds_at texts) (paths_in p.class.toks)) unit) (occs_in (after texts p) conf unit)
      (has_mapped (view texts conf (map (kinds_at texts) (paths_in p.class.toks))) (units texts conf) unit among)
      (found_occs (after texts p) conf (map (kinds_at (after texts p)) (paths_in p.class.toks)) (units texts conf) unit among)
      ∙ (λ i. map (with_name (class_is i).external (sym name_is i)) (occs_in texts conf unit))

  pub keeps_by : KeepsBindings texts conf t edits
  keeps_by = record {
    class = subst (IsClass (all_occs texts conf) t) (sym own_toks) (classes (all_occs texts conf) t);
    kinds = kinds_stay;
    bindings = bindings_stay;
  }
