-- What units see of one another, while these are gone through.
use Rattle.std.proofs.Common.{◌≡◌, ℕ, Bool, true, false, cond, ◌&&◌, List, [], ◌∷◌, ◌++◌, map, Option, None, Some, IfSome, bytes_eq, append_assoc, refl, sym, ap, ◌∙◌, subst, true≢false}
use Rattle.std.proofs.lemmas.List.{append-nil, map-append}
use Rattle.std.specs.List.{list_any}
use Rattle.std.specs.Prelude.{not}
use Rattle.std.proofs.lemmas.Slice.Eq.{bytes_eq-Decides}
use Rattle.doc_texts.specs.Texts.{Texts}
use Rattle.scope_tables.specs.declared.units.Exports.{Exports}
use Rattle.project_conf.specs.declared.conf.Conf.{Conf}
use Rattle.plain_mean.specs.Shown.{units}
use Rattle.unit_index.specs.Crossing.{Sight, all_crossings, sight}
use Rattle.unit_index.specs.Known.{Known}
use Rattle.unit_index.specs.Matching.{matched}
use Rattle.unit_index.specs.News.{AreNews}
use Rattle.unit_index.specs.declared.across.news.News.{News}
use Rattle.unit_index.specs.declared.crossing.Crossing.{Crossing}
use Rattle.c_session.specs.Renewal.{HasMore, HaveNews, seen_before, sight_of, stand_at}
use Rattle.c_session.specs.Units.{WereCrossed, crossed, exported, known, known_unit, sights}
use Rattle.c_session.specs.declared.held.Earlier.{Earlier}
use Rattle.c_session.specs.declared.held.Earlier.TheVariants.{Other, Same}
use Rattle.c_session.specs.declared.held.HeldUnit.{HeldUnit}
use Rattle.c_session.proofs.Holding.{WasHeld}

-- ---- one unit, and where units stand

pub both : (a b : Bool) → (a && b) ≡ true → (a ≡ true) × (b ≡ true)
both true b e = (refl, e)
both false b e = absurd (true≢false (sym e))

pub is_not : (a : Bool) → not a ≡ true → a ≡ false
is_not true e = absurd (true≢false (sym e))
is_not false e = refl

pub paths_are : (us : List Known) (ps : List (List ℕ)) → stand_at us ps ≡ true → map (λ u. u.path) us ≡ ps
paths_are [] [] on = refl
paths_are [] (p ∷ ps) on = absurd (true≢false (sym on))
paths_are (u ∷ us) [] on = absurd (true≢false (sym on))
paths_are (u ∷ us) (p ∷ ps) on =
    let parts = both (bytes_eq u.path p) (stand_at us ps) on in
    let here : u.path ≡ p = (bytes_eq-Decides u.path p).0 parts.0 in
    λ i. here i ∷ paths_are us ps parts.1 i

-- ---- the news of a unit more

module _ (earlier : Earlier) (has_new : Bool) (news news' : News) (u : Known) (old : has_new ≡ false) where
  pub more_same : earlier ≡ Same → ((ss ts : List Sight) (s : Sight) → AreNews ss ts news → AreNews (ss ++ s ∷ []) (ts ++ s ∷ []) news') →
      HasMore has_new news (seen_before earlier u) (sight (exported u)) news'
  more_same is grows = record {
    old = old;
    was = sight (exported u);
    seen = ap (λ e. seen_before e u) is;
    more = λ ss ts are. grows ss ts (sight (exported u)) are;
  }

  pub more_other : (was : Known) (before now : Exports) → earlier ≡ Other was → before ≡ was.meaning.exports → now ≡ u.meaning.exports →
      ((ss ts : List Sight) (path : List ℕ) → AreNews ss ts news →
      AreNews (ss ++ sight (record { path = path; exports = before }) ∷ []) (ts ++ sight (record { path = path; exports = now }) ∷ []) news') →
      HasMore has_new news (seen_before earlier u) (sight (exported u)) news'
  more_other was before now is one other grows = record {
    old = old;
    was = sight (record { path = u.path; exports = was.meaning.exports });
    seen = ap (λ e. seen_before e u) is;
    more = λ ss ts are.
        subst (λ (x : Exports). AreNews (ss ++ sight (record { path = u.path; exports = was.meaning.exports }) ∷ []) (ts ++ sight (record { path = u.path; exports = x }) ∷ []) news') other
        (subst (λ (x : Exports). AreNews (ss ++ sight (record { path = u.path; exports = x }) ∷ []) (ts ++ sight (record { path = u.path; exports = now }) ∷ []) news') one
        (grows ss ts u.path are));
  }

module _ (held : List ℕ → Option HeldUnit) (paths : List (List ℕ)) where
  -- the news of the units at the first paths, where all of them were there before
  pub record SeenSoFar (rest : List (List ℕ)) (us : List Known) (has_new : Bool) (news : News) : Type 0 where
    pub done : List (List ℕ)
    pub all : done ++ rest ≡ paths
    pub so_far : has_new ≡ false → HaveNews held done us news

  pub seen_begins : (us : List Known) (has_new : Bool) (news : News) → us ≡ [] → AreNews [] [] news → SeenSoFar paths us has_new news
  seen_begins us has_new news none are = record {
    done = [];
    all = refl;
    so_far = λ old. record { saw = []; seen = refl; are = subst (λ xs. AreNews [] (sights xs) news) (sym none) are };
  }

  pub seen_turns : (waiting : List ℕ → Option HeldUnit) (rest behind : List (List ℕ)) (path : List ℕ) (us us' : List Known) (has_new has_new' : Bool) (news news' : News) (earlier : Earlier) (u : Known) →
      SeenSoFar rest us has_new news → rest ≡ path ∷ behind → waiting path ≡ held path → ((s : Sight) → seen_before earlier u ≡ Some s → sight_of (waiting path) ≡ Some s) → us' ≡ us ++ u ∷ [] →
      (has_new' ≡ false → HasMore has_new news (seen_before earlier u) (sight (exported u)) news') → SeenSoFar behind us' has_new' news'
  seen_turns waiting rest behind path us us' has_new has_new' news news' earlier u before first here is one_unit more = record {
    done = before.done ++ path ∷ [];
    all = append_assoc before.done (path ∷ []) behind ∙ ap (λ xs. before.done ++ xs) (sym first) ∙ before.all;
    so_far = λ old.
        let one = more old in
        let first_ones = before.so_far one.old in
        let saw : sight_of (held path) ≡ Some one.was = ap sight_of (sym here) ∙ is one.was one.seen in
        record {
          saw = first_ones.saw ++ one.was ∷ [];
          seen = map-append (λ p. sight_of (held p)) before.done (path ∷ []) ∙ (λ i. first_ones.seen i ++ saw i ∷ []) ∙ sym (map-append Some first_ones.saw (one.was ∷ []));
          are = subst (λ xs. AreNews (first_ones.saw ++ one.was ∷ []) xs news') (sym (ap sights one_unit ∙ map-append (λ (k : Known). sight (exported k)) us (u ∷ [])))
              (one.more first_ones.saw (sights us) first_ones.are);
        };
  }

  pub seen_ends : (rest : List (List ℕ)) (us : List Known) (has_new : Bool) (news : News) → SeenSoFar rest us has_new news → rest ≡ [] → has_new ≡ false → HaveNews held paths us news
  seen_ends rest us has_new news before none old =
      subst (λ ps. HaveNews held ps us news) (sym (append-nil before.done) ∙ ap (λ xs. before.done ++ xs) (sym none) ∙ before.all) (before.so_far old)

-- ---- what was seen

pub map_twice : {A B C : Type 0} (g : B → C) (f : A → B) (xs : List A) → map g (map f xs) ≡ map (λ x. g (f x)) xs
map_twice g f [] = refl
map_twice g f (x ∷ xs) = ap (λ l. g (f x) ∷ l) (map_twice g f xs)

itself : (ps : List (List ℕ)) → map (λ p. p) ps ≡ ps
itself [] = refl
itself (p ∷ ps) = ap (λ l. p ∷ l) (itself ps)

module _ (t : Texts) (c : Conf) where
  one_was : (among : Bool) (path : List ℕ) (o : Option HeldUnit) (s : Sight) → WasHeld t c among path o → sight_of o ≡ Some s → s ≡ sight (exported (known_unit t c path))
  one_was among path None s was saw = absurd (cc saw)
  one_was among path (Some h) s was saw = let same : sight (exported h.unit) ≡ s = cc saw in sym same ∙ ap (λ k. sight (exported k)) was.meant

  sights_were : (held : List ℕ → Option HeldUnit) → ((q : List ℕ) → WasHeld t c (list_any (bytes_eq q) (units t c)) q (held q)) → (paths : List (List ℕ)) (saw : List Sight) →
      map (λ p. sight_of (held p)) paths ≡ map Some saw → saw ≡ map (λ p. sight (exported (known_unit t c p))) paths
  sights_were held were [] [] seen = refl
  sights_were held were [] (s ∷ saw) seen = absurd (cc seen)
  sights_were held were (p ∷ ps) [] seen = absurd (cc seen)
  sights_were held were (p ∷ ps) (s ∷ saw) seen =
      let first : sight_of (held p) ≡ Some s = cc seen in
      let later : map (λ q. sight_of (held q)) ps ≡ map Some saw = cc seen in
      λ i. one_was (list_any (bytes_eq p) (units t c)) p (held p) s (were p) first i ∷ sights_were held were ps saw later i

  known_at : (us : List Known) (paths : List (List ℕ)) → us ≡ known t c → map (λ u. u.path) us ≡ paths → paths ≡ units t c
  unfolding known
  known_at us paths are at = sym at ∙ ap (map (λ u. u.path)) are ∙ map_twice (λ (u : Known). u.path) (known_unit t c) (units t c) ∙ itself (units t c)

  -- the warnings that were kept are those of what the units showed
  pub were_crossed : (held : List ℕ → Option HeldUnit) → ((q : List ℕ) → WasHeld t c (list_any (bytes_eq q) (units t c)) q (held q)) → (paths : List (List ℕ)) (kept us : List Known) (news : News)
      (across : List (List Crossing)) → kept ≡ known t c → map (λ u. u.path) kept ≡ paths → HaveNews held paths us news → across ≡ crossed (known t c) → WereCrossed across news us
  unfolding crossed known
  were_crossed held were paths kept us news across are at seen is = record {
    saw = seen.saw;
    are = seen.are;
    crossings = is
        ∙ ap (all_crossings matched)
        (map_twice sight exported (map (known_unit t c) (units t c)) ∙ map_twice (λ k. sight (exported k)) (known_unit t c) (units t c)
        ∙ sym (sights_were held were paths seen.saw seen.seen ∙ ap (map (λ p. sight (exported (known_unit t c p)))) (known_at kept paths are at)));
  }

-- what a unit showed, where it stands at the same path
pub was_at : (u v : Known) (s : Sight) → bytes_eq u.path v.path ≡ true → Some (sight (record { path = u.path; exports = v.meaning.exports })) ≡ Some s → s ≡ sight (exported v)
was_at u v s at saw =
    let path : u.path ≡ v.path = (bytes_eq-Decides u.path v.path).0 at in
    let same : sight (record { path = u.path; exports = v.meaning.exports }) ≡ s = cc saw in
    sym same ∙ (λ i. sight (record { path = path i; exports = v.meaning.exports }))

where_some : {A : Type 0} (flag : Bool) (a : A) (P : A → Type 0) → (flag ≡ true → P a) → IfSome (cond flag (Some a) None) P
where_some true a P is = is refl
where_some false a P is = tt

-- what may be kept, under what it is kept for
pub where_kept : {A : Type 0} (o : Option A) (flag : Bool) (a : A) (P : A → Type 0) → o ≡ cond flag (Some a) None → (flag ≡ true → P a) → IfSome o P
where_kept o flag a P same is = subst (λ x. IfSome x P) (sym same) (where_some flag a P is)
