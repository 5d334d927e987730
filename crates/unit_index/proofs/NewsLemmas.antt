-- What units show otherwise, gathered unit by unit.
use Rattle.std.proofs.Common.{arith, ◌≡◌, ℕ, ◌+◌, ◌-◌, Bool, true, false, ◌||◌, nat_eq, List, [], ◌∷◌, ◌++◌, length, map, refl, sym, ap, ◌∙◌, subst, append_assoc, append-nil, true≢false}
use Rattle.std.proofs.lemmas.List.{length-append, length-map, map-append}
use Rattle.std.specs.Cmp.Lexicographic.{pointwise}
use Rattle.std.specs.List.{list_any}
use Rattle.scope_tables.specs.declared.units.Export.{Export}
use Rattle.scope_tables.specs.declared.units.Exports.{Exports}
use Rattle.unit_index.specs.declared.across.news.News.{News}
use Rattle.unit_index.specs.declared.across.news.Shift.{Shift}
use Rattle.unit_index.specs.Crossing.{Seen, Sight, same_seen, seen, sight}
use Rattle.unit_index.specs.News.{AreNews, AreShifts, IsShift, has, is_of}
use Rattle.unit_index.specs.News.Known.{Alike, Anew}
use Rattle.unit_index.specs.Unlike.{AreAhead, AreBehind, AreReplaced}
use Rattle.unit_index.proofs.SharedLemmas.{any_map}
use Rattle.unit_index.proofs.SightLemmas.{one_seen}

-- ---- names that are alike at both ends

pub behind_begins : (before now : List Seen) → AreBehind before now before now
behind_begins before now = record { ahead = []; left = refl; right = refl }

pub behind_turns : (before now : List Seen) (gone come more others : List Export) (one other : Export) → AreBehind before now (map seen gone) (map seen come)
    → gone ≡ one ∷ more → come ≡ other ∷ others → same_seen one other ≡ true → AreBehind before now (map seen more) (map seen others)
behind_turns before now gone come more others one other was first second same = record {
  ahead = was.ahead ++ seen one ∷ [];
  left = was.left ∙ ap (λ xs. was.ahead ++ map seen xs) first ∙ sym (append_assoc was.ahead (seen one ∷ []) (map seen more));
  right = was.right ∙ ap (λ xs. was.ahead ++ map seen xs) second ∙ ap (λ s. was.ahead ++ s ∷ map seen others) (sym (one_seen one other same))
      ∙ sym (append_assoc was.ahead (seen one ∷ []) (map seen others));
}

pub ahead_begins : (before now : List Seen) → AreAhead before now before now
ahead_begins before now = record { behind = []; left = sym (append-nil before); right = sym (append-nil now) }

pub ahead_turns : (before now : List Seen) (gone come more others : List Export) (one other : Export) → AreAhead before now (map seen gone) (map seen come)
    → gone ≡ more ++ one ∷ [] → come ≡ others ++ other ∷ [] → same_seen one other ≡ true → AreAhead before now (map seen more) (map seen others)
ahead_turns before now gone come more others one other was first second same = record {
  behind = seen one ∷ was.behind;
  left = was.left ∙ ap (λ xs. map seen xs ++ was.behind) first ∙ ap (λ xs. xs ++ was.behind) (map-append seen more (one ∷ [])) ∙ append_assoc (map seen more) (seen one ∷ []) was.behind;
  right = was.right ∙ ap (λ xs. map seen xs ++ was.behind) second ∙ ap (λ xs. xs ++ was.behind) (map-append seen others (other ∷ []))
      ∙ ap (λ s. (map seen others ++ s ∷ []) ++ was.behind) (sym (one_seen one other same)) ∙ append_assoc (map seen others) (seen one ∷ []) was.behind;
}

pub both_ends : (s t : Exports) (before now gone come : List Export) (front : ℕ) (gone' come' : List Seen) → s.tags ≡ t.tags → before ≡ s.names → now ≡ t.names
    → AreBehind (map seen before) (map seen now) (map seen gone) (map seen come) → AreAhead (map seen gone) (map seen come) gone' come' → front ≡ length before - length gone → AreReplaced s t front gone' come'
both_ends s t before now gone come front gone' come' tags one other start end fronts = record {
  ahead = start.ahead;
  behind = end.behind;
  left = ap (map seen) (sym one) ∙ start.left ∙ ap (λ xs. start.ahead ++ xs) end.left;
  right = ap (map seen) (sym other) ∙ start.right ∙ ap (λ xs. start.ahead ++ xs) end.right;
  known = Alike tags;
  first = let parts : length before ≡ length start.ahead + length gone =
      sym (length-map before seen) ∙ ap length start.left ∙ length-append start.ahead (map seen gone) ∙ ap (λ n. length start.ahead + n) (length-map gone seen) in
      omega (arith, parts, fronts);
}

pub all_of : (s t : Exports) (gone come : List Export) → gone ≡ s.names → come ≡ t.names → AreReplaced s t 0 (map seen gone) (map seen come)
all_of s t gone come first second = record {
  ahead = [];
  behind = [];
  left = ap (map seen) (sym first) ∙ sym (append-nil (map seen gone));
  right = ap (map seen) (sym second) ∙ sym (append-nil (map seen come));
  known = Anew refl refl;
  first = refl;
}

-- ---- units more

module _ (noted noted' : List ℕ → Bool) (grows : (q : List ℕ) → noted q ≡ true → noted' q ≡ true) where
  still : (s t : Sight) (x : Shift) → IsShift noted s t x → IsShift noted' s t x
  still s t x is = record {
    ahead = is.ahead;
    lost = is.lost;
    found = is.found;
    behind = is.behind;
    path = is.path;
    before = is.before;
    now = is.now;
    tags = is.tags;
    first = is.first;
    losses = is.losses;
    gains = is.gains;
    names = λ q e. grows q (is.names q e);
  }

  one_more : (ss ts : List Sight) (xs : List Shift) (s t : Sight) (x : Shift) → AreShifts noted ss ts xs → IsShift noted' s t x → AreShifts noted' (ss ++ s ∷ []) (ts ++ t ∷ []) (xs ++ x ∷ [])
  one_more [] [] [] s t x are is = (is, tt)
  one_more [] [] (y ∷ xs) s t x are is = absurd are
  one_more [] (v ∷ ts) xs s t x are is = absurd are
  one_more (u ∷ ss) [] xs s t x are is = absurd are
  one_more (u ∷ ss) (v ∷ ts) [] s t x are is = absurd are
  one_more (u ∷ ss) (v ∷ ts) (y ∷ xs) s t x are is = (still u v y are.0, one_more ss ts xs s t x are.1 is)

pub no_news : (news : News) → news.shifts.items ≡ [] → AreNews [] [] news
no_news news none = record { shifts = subst (AreShifts (has news.names) [] []) (sym none) tt; none = λ all. refl }

-- no name of the unit stands elsewhere
abbrev pub nowhere : Shift
nowhere = record { front = 0; gone = 0; come = 0 }

itself : (noted : List ℕ → Bool) (s : Sight) → IsShift noted s s nowhere
itself noted s = record {
  ahead = [];
  lost = [];
  found = [];
  behind = s.names;
  path = refl;
  before = refl;
  now = refl;
  tags = Alike refl;
  first = refl;
  losses = refl;
  gains = refl;
  names = λ q e. absurd (true≢false (sym e));
}

pub same_more : (old new : News) (ss ts : List Sight) (s : Sight) → ((q : List ℕ) → has new.names q ≡ has old.names q) → new.shifts.items ≡ old.shifts.items ++ nowhere ∷ []
    → new.seen_as_before ≡ old.seen_as_before → AreNews ss ts old → AreNews (ss ++ s ∷ []) (ts ++ s ∷ []) new
same_more old new ss ts s names shifts seen are = record {
  shifts = subst (AreShifts (has new.names) (ss ++ s ∷ []) (ts ++ s ∷ [])) (sym shifts)
      (one_more (has old.names) (has new.names) (λ q e. names q ∙ e) ss ts old.shifts.items s s nowhere are.shifts (itself (has new.names) s));
  none = λ all. ap (λ xs. xs ++ s ∷ []) (are.none (sym seen ∙ all));
}

-- the set has all names that it had, and those of some exports
module _ (noted middle noted' : List ℕ → Bool) (gone come : List Export)
    (first : (q : List ℕ) → middle q ≡ (noted q || list_any (λ (e : Export). pointwise nat_eq e.name q) gone))
    (second : (q : List ℕ) → noted' q ≡ (middle q || list_any (λ (e : Export). pointwise nat_eq e.name q) come)) where
  some_kept : (a b c : Bool) → a ≡ true → ((a || b) || c) ≡ true
  some_kept true b c e = refl
  some_kept false b c e = absurd (true≢false (sym e))

  some_new : (a b c : Bool) → (b || c) ≡ true → ((a || b) || c) ≡ true
  some_new true b c e = refl
  some_new false b c e = e

  now_is : (q : List ℕ) → noted' q ≡ ((noted q || list_any (λ (e : Export). pointwise nat_eq e.name q) gone) || list_any (λ (e : Export). pointwise nat_eq e.name q) come)
  now_is q = second q ∙ ap (λ b. b || list_any (λ (e : Export). pointwise nat_eq e.name q) come) (first q)

  grown : (q : List ℕ) → noted q ≡ true → noted' q ≡ true
  grown q e = now_is q ∙ some_kept (noted q) (list_any (λ (e : Export). pointwise nat_eq e.name q) gone) (list_any (λ (e : Export). pointwise nat_eq e.name q) come) e

  have_all : (q : List ℕ) → (is_of q (map seen gone) || is_of q (map seen come)) ≡ true → noted' q ≡ true
  have_all q e =
      now_is q
      ∙ some_new (noted q) (list_any (λ (e : Export). pointwise nat_eq e.name q) gone) (list_any (λ (e : Export). pointwise nat_eq e.name q) come)
      ((λ i. sym (any_map (λ s. pointwise nat_eq s.name q) seen gone) i || sym (any_map (λ s. pointwise nat_eq s.name q) seen come) i) ∙ e)

  replaced_is : (front : ℕ) (path : List ℕ) (s t : Exports) (x : Shift) → AreReplaced s t front (map seen gone) (map seen come) → x ≡ record { front = front; gone = length gone; come = length come }
      → IsShift noted' (sight (record { path = path; exports = s })) (sight (record { path = path; exports = t })) x
  replaced_is front path s t x are is = record {
    ahead = are.ahead;
    lost = map seen gone;
    found = map seen come;
    behind = are.behind;
    path = refl;
    before = are.left;
    now = are.right;
    tags = are.known;
    first = are.first ∙ ap (λ (y : Shift). y.front) (sym is);
    losses = length-map gone seen ∙ ap (λ (y : Shift). y.gone) (sym is);
    gains = length-map come seen ∙ ap (λ (y : Shift). y.come) (sym is);
    names = have_all;
  }

pub replaced_more : (old new : News) (middle : List ℕ → Bool) (gone come : List Export) (front : ℕ) (x : Shift) (ss ts : List Sight) (path : List ℕ) (s t : Exports)
    → ((q : List ℕ) → middle q ≡ (has old.names q || list_any (λ (e : Export). pointwise nat_eq e.name q) gone))
    → ((q : List ℕ) → has new.names q ≡ (middle q || list_any (λ (e : Export). pointwise nat_eq e.name q) come))
    → x ≡ record { front = front; gone = length gone; come = length come } → new.shifts.items ≡ old.shifts.items ++ x ∷ [] → new.seen_as_before ≡ false
    → AreReplaced s t front (map seen gone) (map seen come) → AreNews ss ts old
    → AreNews (ss ++ sight (record { path = path; exports = s }) ∷ []) (ts ++ sight (record { path = path; exports = t }) ∷ []) new
replaced_more old new middle gone come front x ss ts path s t first second is shifts seen replaced are = record {
  shifts = subst (AreShifts (has new.names) (ss ++ sight (record { path = path; exports = s }) ∷ []) (ts ++ sight (record { path = path; exports = t }) ∷ [])) (sym shifts)
      (one_more (has old.names) (has new.names) (grown (has old.names) middle (has new.names) gone come first second) ss ts old.shifts.items _ _ x are.shifts
      (replaced_is (has old.names) middle (has new.names) gone come first second front path s t x replaced is));
  none = λ all. absurd (true≢false (sym all ∙ seen));
}
