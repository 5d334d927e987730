-- Units that are gone through from the front, over other texts: what each means there, where that has to be worked out.
use Rattle.std.proofs.Common.{◌≡◌, ℕ, suc, ◌+◌, Bool, true, false, not, cond, ◌||◌, List, [], ◌∷◌, ◌++◌, length, map, Option, Some, None, bytes_eq, append-nil, append_assoc, refl, sym, ap, ◌∙◌, subst, arith}
use Rattle.std.specs.List.{filter, list_any}
use Rattle.std.proofs.lemmas.Slice.Eq.{bytes_eq-Decides}
use Rattle.doc_texts.specs.Prior.{Prior}
use Rattle.doc_texts.specs.Texts.{Texts}
use Rattle.project_conf.specs.Entries.{unit_conf}
use Rattle.project_conf.specs.declared.conf.Conf.{Conf}
use Rattle.plain_mean.specs.Meanings.{meaning}
use Rattle.plain_mean.specs.Renewed.{IsGrounds, are_gone, has_other, is_renewed, questions, renewed}
use Rattle.plain_mean.specs.Same.{same_conf}
use Rattle.plain_mean.specs.Shown.{units}
use Rattle.plain_mean.specs.declared.types.Grounds.{Grounds}
use Rattle.scope_tables.specs.declared.entities.Occ.{Occ}
use Rattle.unit_index.specs.Known.{Known}
use Rattle.c_session.specs.Kept.{AreGrounds}
use Rattle.c_session.specs.Ties.Renamings.{anew_of}
use Rattle.c_session.specs.Units.{known, known_unit}

abbrev path_of : Known → List ℕ
path_of u = u.path

own_paths : (t : Texts) (conf : Conf) (us : List (List ℕ)) → map path_of (map (known_unit t conf) us) ≡ us
own_paths t conf [] = refl
own_paths t conf (u ∷ us) = ap (λ ps. u ∷ ps) (own_paths t conf us)

pub paths_are : (t : Texts) (conf : Conf) (kept : List Known) → kept ≡ known t conf → map path_of kept ≡ units t conf
unfolding known
paths_are t conf kept is = ap (map path_of) is ∙ own_paths t conf (units t conf)

one_more : (b : Bool) (x : List ℕ) (xs : List (List ℕ)) → length (cond b (x ∷ xs) xs) ≡ cond b 1 0 + length xs
one_more true x xs = let n : suc (length xs) ≡ 1 + length xs = omega arith in n
one_more false x xs = let n : length xs ≡ 0 + length xs = omega arith in n

turned : (steps steps' one rest behind all : ℕ) → steps' ≡ steps + one → rest ≡ one + behind → steps + rest ≡ all → steps' + behind ≡ all
turned steps steps' one rest behind all ticked parts before = omega (arith, ticked, parts, before)

ended : (steps rest all : ℕ) → rest ≡ 0 → steps + rest ≡ all → steps ≡ all
ended steps rest all none before = omega (arith, none, before)

module _ (t now : Texts) (conf : Conf) (us : List Known) (start : ℕ) where
  pub record IsAnewing (rest : List Known) (resting : List Grounds) (all : List (Option (List Occ))) (steps : ℕ) : Type 0 where
    pub made : all ++ map (anew_of t conf now) rest ≡ map (anew_of t conf now) us
    pub rests : AreGrounds t conf (map path_of rest) resting
    pub among : (path : List ℕ) → list_any (bytes_eq path) (map path_of rest) ≡ true → list_any (bytes_eq path) (units t conf) ≡ true
    pub count : steps + length (filter (is_renewed t conf now conf) (map path_of rest)) ≡ start + length (filter (is_renewed t conf now conf) (map path_of us))

  pub anewing_begins : (resting : List Grounds) (all : List (Option (List Occ))) → us ≡ known t conf → AreGrounds t conf (units t conf) resting → all ≡ [] → IsAnewing us resting all start
  anewing_begins resting all is rests none = record {
    made = ap (λ os. os ++ map (anew_of t conf now) us) none;
    rests = subst (λ ps. AreGrounds t conf ps resting) (sym (paths_are t conf us is)) rests;
    among = λ path h. sym (ap (list_any (bytes_eq path)) (paths_are t conf us is)) ∙ h;
    count = refl;
  }

  pub anewing_starts : (rest : List Known) (resting kept : List Grounds) (all : List (Option (List Occ))) → rest ≡ us → resting ≡ kept → us ≡ known t conf → AreGrounds t conf (units t conf) kept → all ≡ [] →
      IsAnewing rest resting all start
  anewing_starts rest resting kept all first other is rests none =
      subst (λ r. IsAnewing r resting all start) (sym first) (subst (λ gs. IsAnewing us gs all start) (sym other) (anewing_begins kept all is rests none))

  module _ (prior : Prior) (holds : (unit : List ℕ) (grounds : Grounds) → IsGrounds t conf unit grounds →
      are_gone prior now conf unit grounds ≡ (not (same_conf (unit_conf conf unit) (unit_conf conf unit)) || list_any (has_other t now) (questions t conf unit))) where
    gone_is : (path : List ℕ) (g : Grounds) → list_any (bytes_eq path) (units t conf) ≡ true → IsGrounds t conf path g → are_gone prior now conf path g ≡ is_renewed t conf now conf path
    gone_is path g among rests =
        holds path g rests
        ∙ sym (ap (λ b. not b || (not (same_conf (unit_conf conf path) (unit_conf conf path)) || list_any (has_other t now) (questions t conf path))) among)

    pub anewing_turns : (rest behind : List Known) (u : Known) (resting more : List Grounds) (g : Grounds) (all all' : List (Option (List Occ))) (one : Option (List Occ)) (steps steps' : ℕ) →
        IsAnewing rest resting all steps → rest ≡ u ∷ behind → resting ≡ g ∷ more →
        one ≡ cond (are_gone prior now conf u.path g) (Some (meaning now conf u.path).meaning.occs) None → all' ≡ all ++ one ∷ [] → steps' ≡ steps + cond (are_gone prior now conf u.path g) 1 0 →
        IsAnewing behind more all' steps'
    anewing_turns rest behind u resting more g all all' one steps steps' is first rested one_is grown ticked =
        let rests : AreGrounds t conf (u.path ∷ map path_of behind) (g ∷ more) = subst (λ gs. AreGrounds t conf (u.path ∷ map path_of behind) gs) rested (subst (λ r. AreGrounds t conf (map path_of r) resting) first is.rests) in
        let here : list_any (bytes_eq u.path) (map path_of rest) ≡ true = ap (λ r. list_any (bytes_eq u.path) (map path_of r)) first ∙ ap (λ b. b || list_any (bytes_eq u.path) (map path_of behind)) ((bytes_eq-Decides u.path u.path).1 refl) in
        let gone : are_gone prior now conf u.path g ≡ is_renewed t conf now conf u.path = gone_is u.path g (is.among u.path here) rests.0 in
        record {
          made =
              ap (λ os. os ++ map (anew_of t conf now) behind) grown ∙ append_assoc all (one ∷ []) (map (anew_of t conf now) behind)
              ∙ ap (λ o. all ++ o ∷ map (anew_of t conf now) behind) (one_is ∙ ap (λ b. cond b (Some (meaning now conf u.path).meaning.occs) None) gone)
              ∙ ap (λ r. all ++ map (anew_of t conf now) r) (sym first) ∙ is.made;
          rests = rests.1;
          among = λ path h. is.among path (ap (λ r. list_any (bytes_eq path) (map path_of r)) first ∙ ap (λ b. bytes_eq path u.path || b) h ∙ last (bytes_eq path u.path));
          count = turned steps steps' (cond (is_renewed t conf now conf u.path) 1 0) (length (filter (is_renewed t conf now conf) (map path_of rest))) (length (filter (is_renewed t conf now conf) (map path_of behind))) _
              (ticked ∙ ap (λ b. steps + cond b 1 0) gone)
              (ap (λ r. length (filter (is_renewed t conf now conf) (map path_of r))) first ∙ one_more (is_renewed t conf now conf u.path) u.path (filter (is_renewed t conf now conf) (map path_of behind)))
              is.count;
        }
      where
        last : (b : Bool) → (b || true) ≡ true
        last true = refl
        last false = refl

  pub anewing_made : (rest : List Known) (resting : List Grounds) (all : List (Option (List Occ))) (steps : ℕ) → IsAnewing rest resting all steps → rest ≡ [] → all ≡ map (anew_of t conf now) us
  anewing_made rest resting all steps is none = sym (append-nil all) ∙ ap (λ r. all ++ map (anew_of t conf now) r) (sym none) ∙ is.made

  pub anewing_counted : (rest : List Known) (resting : List Grounds) (all : List (Option (List Occ))) (steps : ℕ) → us ≡ known t conf → units now conf ≡ units t conf →
      IsAnewing rest resting all steps → rest ≡ [] → steps ≡ start + length (renewed t conf now conf)
  unfolding renewed
  anewing_counted rest resting all steps known_are same is none =
      ended steps (length (filter (is_renewed t conf now conf) (map path_of rest))) _ (ap (λ r. length (filter (is_renewed t conf now conf) (map path_of r))) none) is.count
      ∙ ap (λ ps. start + length (filter (is_renewed t conf now conf) ps)) (paths_are t conf us known_are ∙ sym same)
