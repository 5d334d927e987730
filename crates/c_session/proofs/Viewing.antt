-- Units as they are, and with edits made: those that were worked out anew, and the others as they are.
use Rattle.std.proofs.Common.{◌≡◌, ℕ, Bool, true, false, cond, List, [], ◌∷◌, ◌++◌, map, Option, Some, None, unwrap_or, append_assoc, append-nil, refl, sym, ap, ◌∙◌}
use Rattle.doc_texts.specs.Texts.{Texts}
use Rattle.plain_mean.specs.Meanings.{meaning}
use Rattle.plain_mean.specs.Ranges.{paths_in}
use Rattle.plain_mean.specs.Renewed.{is_renewed}
use Rattle.plain_mean.specs.Shown.{units}
use Rattle.plain_mean.specs.declared.types.UnitMeaning.{UnitMeaning}
use Rattle.project_conf.specs.declared.conf.Conf.{Conf}
use Rattle.rename_core.specs.Clashes.{confirmed}
use Rattle.rename_core.specs.Views.{View}
use Rattle.rename_core.specs.declared.class.Plan.{Plan}
use Rattle.rename_core.specs.declared.views.FileKinds.{FileKinds}
use Rattle.scope_tables.specs.declared.entities.Occ.{Occ}
use Rattle.unit_index.specs.Known.{Known}
use Rattle.unit_index.specs.Occurrences.{occs_of}
use Rattle.c_session.specs.Outcomes.{after, confirmed_over, kinds_at, occs_in, view}
use Rattle.c_session.specs.Ties.Renamings.{anew_of, occs_by, view_by, views_by}
use Rattle.c_session.specs.Units.{known, known_unit}

-- ---- what units keep

-- the occurrences of the next unit
pub own_one : (rest behind : List Known) (u : Known) (left more : List (List Occ)) (own : List Occ) → rest ≡ u ∷ behind → left ≡ own ∷ more → left ≡ map occs_of rest → (own ≡ occs_of u) × (more ≡ map occs_of behind)
own_one rest behind u left more own first other are = let both = sym other ∙ are ∙ ap (map occs_of) first in (cc both, cc both)

-- as long as there is a next one, it has some
pub own_left : (rest behind : List Known) (u : Known) (left : List (List Occ)) → rest ≡ u ∷ behind → left ≡ [] → left ≡ map occs_of rest → ⊥
own_left rest behind u left first none are = let both = sym none ∙ are ∙ ap (map occs_of) first in (let bad : ⊥ = cc both in bad)

pub chosen : (u : Known) (o : Option (List Occ)) → unwrap_or o (occs_of u) ≡ occs_by u o
chosen u None = refl
chosen u (Some occs) = refl

-- ---- one behind the other

module _ (kinds : List FileKinds) where
  pub views_turn : (rest behind : List Known) (u : Known) (others more : List (Option (List Occ))) (o : Option (List Occ)) (old new : List View) (one : View) (all : List View) →
      rest ≡ u ∷ behind → others ≡ o ∷ more → new ≡ old ++ one ∷ [] → one ≡ view_by kinds u o → old ++ views_by kinds rest others ≡ all → new ++ views_by kinds behind more ≡ all
  views_turn rest behind u others more o old new one all first other grown made is =
      ap (λ vs. vs ++ views_by kinds behind more) grown ∙ append_assoc old (one ∷ []) (views_by kinds behind more) ∙ ap (λ v. old ++ v ∷ views_by kinds behind more) made
      ∙ (λ i. old ++ views_by kinds (sym first i) (sym other i)) ∙ is

  pub views_end : (rest : List Known) (others : List (Option (List Occ))) (now all : List View) → rest ≡ [] → now ++ views_by kinds rest others ≡ all → now ≡ all
  views_end rest others now all none is = sym (append-nil now) ∙ ap (λ us. now ++ views_by kinds us others) (sym none) ∙ is

  no_other : (us : List Known) → views_by kinds us [] ≡ []
  no_other [] = refl
  no_other (u ∷ us) = refl

  pub views_stop : (rest : List Known) (others : List (Option (List Occ))) (now all : List View) → others ≡ [] → now ++ views_by kinds rest others ≡ all → now ≡ all
  views_stop rest others now all none is =
      sym (append-nil now) ∙ ap (λ vs. now ++ vs) (sym (no_other rest)) ∙ ap (λ os. now ++ views_by kinds rest os) (sym none) ∙ is

  -- ---- what they are

  before_are : (t : Texts) (conf : Conf) (us : List (List ℕ)) → map (λ u. view_by kinds u None) (map (known_unit t conf) us) ≡ map (view t conf kinds) us
  before_are t conf [] = refl
  before_are t conf (u ∷ us) = ap (λ vs. view t conf kinds u ∷ vs) (before_are t conf us)

  after_by : (t now : Texts) (conf : Conf) (u : List ℕ) (b : Bool) → is_renewed t conf now conf u ≡ b → (is_renewed t conf now conf u ≡ false → meaning now conf u ≡ meaning t conf u) →
      occs_by (known_unit t conf u) (cond b (Some (occs_in now conf u)) None) ≡ occs_in now conf u
  after_by t now conf u true e stays = refl
  after_by t now conf u false e stays = ap (λ (m : UnitMeaning). m.meaning.occs) (sym (stays e))

  after_are : (t now : Texts) (conf : Conf) → ((unit : List ℕ) → is_renewed t conf now conf unit ≡ false → meaning now conf unit ≡ meaning t conf unit) → (us : List (List ℕ)) →
      views_by kinds (map (known_unit t conf) us) (map (anew_of t conf now) (map (known_unit t conf) us)) ≡ map (view now conf kinds) us
  after_are t now conf stays [] = refl
  after_are t now conf stays (u ∷ us) =
      ap (λ os. (record { path = u; kinds = kinds; occs = os }) ∷ views_by kinds (map (known_unit t conf) us) (map (anew_of t conf now) (map (known_unit t conf) us)))
      (after_by t now conf u (is_renewed t conf now conf u) refl (stays u))
      ∙ ap (λ vs. view now conf kinds u ∷ vs) (after_are t now conf stays us)

-- ---- what a plan comes to

pub plan_settled : (t : Texts) (conf : Conf) (p : Plan) (us : List Known) (kinds kinds' : List FileKinds) (others : List (Option (List Occ))) → us ≡ known t conf →
    kinds ≡ map (kinds_at t) (paths_in p.class.toks) → kinds' ≡ map (kinds_at (after t p)) (paths_in p.class.toks) → others ≡ map (anew_of t conf (after t p)) us →
    ((unit : List ℕ) → is_renewed t conf (after t p) conf unit ≡ false → meaning (after t p) conf unit ≡ meaning t conf unit) →
    confirmed p (map (λ u. view_by kinds u None) us) (views_by kinds' us others) ≡ confirmed_over t conf p
unfolding known
plan_settled t conf p us kinds kinds' others is same same' found stays =
    let before : map (λ u. view_by kinds u None) us ≡ map (view t conf (map (kinds_at t) (paths_in p.class.toks))) (units t conf) =
    (λ i. map (λ u. view_by (same i) u None) (is i)) ∙ before_are (map (kinds_at t) (paths_in p.class.toks)) t conf (units t conf) in
    let behind : views_by kinds' us others ≡ map (view (after t p) conf (map (kinds_at (after t p)) (paths_in p.class.toks))) (units t conf) =
    ap (views_by kinds' us) found ∙ (λ i. views_by (same' i) (is i) (map (anew_of t conf (after t p)) (is i)))
    ∙ after_are (map (kinds_at (after t p)) (paths_in p.class.toks)) t (after t p) conf stays (units t conf) in
    (λ i. confirmed p (before i) (behind i))
