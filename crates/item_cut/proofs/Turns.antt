-- What the cut's loop keeps: what is made and what comes of the rest are the items.
use Rattle.std.proofs.Common.{◌≡◌, refl, ap, sym, ◌∙◌, subst, ℕ, Bool, true, false, ◌+◌, ◌<◌, ◌≤◌, List, [], ◌∷◌, ◌++◌, length, arith, append_assoc, length-append, if◌then◌else◌}
use Rattle.tok_data.specs.declared.tokens.OutToken.{OutToken}
use Rattle.item_cut.specs.declared.progress.Progress.{Progress}
use Rattle.item_cut.specs.Items.{depth_from, depth_after, is_item, items, items_from}
use Rattle.item_cut.specs.Progress.{progress_of, after, ends}
use Rattle.item_cut.proofs.Fronts.{progress_on, ends_on}

pub record Cutting (all : List OutToken) (made : List (ℕ × ℕ)) (p : Progress) (start end : ℕ) (rest : List OutToken)
    : Type 0 where
  pub front : List OutToken
  pub kept : p ≡ progress_of front
  pub reached : end ≡ start + length front
  pub goes : made ++ items_from start front rest ≡ items all
  pub short : end + length rest ≤ 2000000

after_bound : (d : ℕ) → (text : List ℕ) → depth_after d text ≤ d + 1
unfolding depth_after
after_bound d text = grind arith

pub depth_bound : (d : ℕ) → (ts : List OutToken) → depth_from d ts ≤ d + length ts
depth_bound d [] = omega arith
depth_bound d (t ∷ ts) =
    let one : depth_after d t.spelling ≤ d + 1 = after_bound d t.spelling in
    let more : depth_from (depth_after d t.spelling) ts ≤ depth_after d t.spelling + length ts =
    depth_bound (depth_after d t.spelling) ts in
    omega arith

pub depth_of : (front : List OutToken) → (progress_of front).depth ≡ depth_from 0 front
unfolding progress_of
depth_of front = refl

pub is_within : (all : List OutToken) → (made : List (ℕ × ℕ)) → (p : Progress) → (start end : ℕ) → (t : OutToken)
    → (rest behind : List OutToken) → Cutting all made p start end rest → rest ≡ t ∷ behind → p.depth < 2000000
is_within all made p start end t rest behind c e =
    let same : p.depth ≡ depth_from 0 c.front = ap (λ q. q.depth) c.kept ∙ depth_of c.front in
    let bound : depth_from 0 c.front ≤ 0 + length c.front = depth_bound 0 c.front in
    let reached : end ≡ start + length c.front = c.reached in
    let short : end + length rest ≤ 2000000 = c.short in
    let more : length rest ≡ length (t ∷ behind) = ap length e in
    omega arith

pub cutting_starts : (all : List OutToken) → length all ≤ 2000000 → Cutting all [] (progress_of []) 0 0 all
cutting_starts all h = record { front = []; kept = refl; reached = refl; goes = refl; short = omega arith }

one_more : (front : List OutToken) → (t : OutToken) → length (front ++ t ∷ []) ≡ length front + 1
one_more front t = length-append front (t ∷ [])

items_goes_on : (start : ℕ) → (front : List OutToken) → (t : OutToken) → (rest : List OutToken)
    → is_item (front ++ t ∷ []) ≡ false
    → items_from start front (t ∷ rest) ≡ items_from start (front ++ t ∷ []) rest
items_goes_on start front t rest h =
    ap
    (λ b. if b then
    (start, start + length (front ++ t ∷ [])) ∷ items_from (start + length (front ++ t ∷ [])) [] rest
    else items_from start (front ++ t ∷ []) rest)
    h

items_ends : (start : ℕ) → (front : List OutToken) → (t : OutToken) → (rest : List OutToken)
    → is_item (front ++ t ∷ []) ≡ true
    → items_from start front (t ∷ rest)
    ≡ (start, start + length (front ++ t ∷ [])) ∷ items_from (start + length (front ++ t ∷ [])) [] rest
items_ends start front t rest h =
    ap
    (λ b. if b then
    (start, start + length (front ++ t ∷ [])) ∷ items_from (start + length (front ++ t ∷ [])) [] rest
    else items_from start (front ++ t ∷ []) rest)
    h

is_ended : (front : List OutToken) → (t : OutToken) → (p : Progress) → (b : Bool)
    → p ≡ progress_of front → ends (after p t.spelling) t.spelling ≡ b → is_item (front ++ t ∷ []) ≡ b
is_ended front t p b kept h =
    ends_on front t
    ∙ ap (λ q. ends q t.spelling) (progress_on front t ∙ ap (λ q. after q t.spelling) (sym kept))
    ∙ h

pub cutting_goes_on : (all : List OutToken) → (made : List (ℕ × ℕ)) → (p : Progress) → (start end : ℕ) → (t : OutToken) → (rest : List OutToken)
    → Cutting all made p start end (t ∷ rest) → ends (after p t.spelling) t.spelling ≡ false
    → Cutting all made (after p t.spelling) start (end + 1) rest
cutting_goes_on all made p start end t rest c h =
    let more = one_more c.front t in
    let reached = c.reached in
    let short = c.short in
    record {
      front = c.front ++ t ∷ [];
      kept = ap (λ q. after q t.spelling) c.kept ∙ sym (progress_on c.front t);
      reached = omega arith;
      goes = ap (λ xs. made ++ xs) (sym (items_goes_on start c.front t rest (is_ended c.front t p false c.kept h))) ∙ c.goes;
      short = omega arith;
    }

pub cutting_ends : (all : List OutToken) → (made : List (ℕ × ℕ)) → (p : Progress) → (start end : ℕ) → (t : OutToken) → (rest : List OutToken)
    → Cutting all made p start end (t ∷ rest) → ends (after p t.spelling) t.spelling ≡ true
    → Cutting all (made ++ (start, end + 1) ∷ []) (progress_of []) (end + 1) (end + 1) rest
cutting_ends all made p start end t rest c h =
    let more = one_more c.front t in
    let reached = c.reached in
    let short = c.short in
    let here : start + length (c.front ++ t ∷ []) ≡ end + 1 = omega arith in
    record {
      front = [];
      kept = refl;
      reached = omega arith;
      goes =
          append_assoc made ((start, end + 1) ∷ []) (items_from (end + 1) [] rest)
          ∙ ap (λ n. made ++ ((start, n) ∷ items_from n [] rest)) (sym here)
          ∙ ap (λ xs. made ++ xs) (sym (items_ends start c.front t rest (is_ended c.front t p true c.kept h)))
          ∙ c.goes;
      short = omega arith;
    }

-- the loop's turns, as its code makes them
pub turns_on : (all : List OutToken) → (made : List (ℕ × ℕ)) → (p q : Progress) → (start end : ℕ) → (t : OutToken)
    → (rest behind : List OutToken) → (text again : List ℕ) → (b : Bool)
    → Cutting all made p start end rest → rest ≡ t ∷ behind → text ≡ t.spelling → q ≡ after p text → again ≡ t.spelling
    → b ≡ ends q again → b ≡ false
    → Cutting all made q start (end + 1) behind
turns_on all made p q start end t rest behind text again b c e s h s' r f =
    let here : Cutting all made p start end (t ∷ behind) = subst (λ xs. Cutting all made p start end xs) e c in
    let was : q ≡ after p t.spelling = h ∙ ap (λ x. after p x) s in
    let told : ends (after p t.spelling) t.spelling ≡ false =
    ap (λ x. ends (after p t.spelling) x) (sym s') ∙ ap (λ x. ends x again) (sym was) ∙ sym r ∙ f in
    subst
    (λ x. Cutting all made x start (end + 1) behind)
    (sym was)
    (cutting_goes_on all made p start end t behind here told)

pub turns_over : (all : List OutToken) → (made more : List (ℕ × ℕ)) → (p q first : Progress) → (start end : ℕ) → (t : OutToken)
    → (rest behind : List OutToken) → (text again : List ℕ) → (b : Bool)
    → Cutting all made p start end rest → rest ≡ t ∷ behind → text ≡ t.spelling → q ≡ after p text → again ≡ t.spelling
    → b ≡ ends q again → b ≡ true → more ≡ made ++ (start, end + 1) ∷ [] → first ≡ progress_of []
    → Cutting all more first (end + 1) (end + 1) behind
turns_over all made more p q first start end t rest behind text again b c e s h s' r f m n =
    let here : Cutting all made p start end (t ∷ behind) = subst (λ xs. Cutting all made p start end xs) e c in
    let was : q ≡ after p t.spelling = h ∙ ap (λ x. after p x) s in
    let told : ends (after p t.spelling) t.spelling ≡ true =
    ap (λ x. ends (after p t.spelling) x) (sym s') ∙ ap (λ x. ends x again) (sym was) ∙ sym r ∙ f in
    subst
    (λ x. Cutting all x first (end + 1) (end + 1) behind)
    (sym m)
    (subst
    (λ x. Cutting all (made ++ (start, end + 1) ∷ []) x (end + 1) (end + 1) behind)
    (sym n)
    (cutting_ends all made p start end t behind here told))
