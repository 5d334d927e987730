-- What is kept while the `{` that opens the body is looked for.
use Rattle.std.proofs.Common.{◌≡◌, refl, ap, sym, ◌∙◌, ℕ, Bool, true, false, ◌+◌, ◌<◌, ◌≤◌, List, [], ◌∷◌, ◌++◌, length, arith, length-append, if◌then◌else◌}
use Rattle.tok_data.specs.declared.tokens.OutToken.{OutToken}
use Rattle.item_cut.specs.declared.progress.Progress.{Progress}
use Rattle.item_cut.specs.Items.{body_at, body_from, depth_from, opens_body}
use Rattle.item_cut.specs.Progress.{progress_of, after, opens}
use Rattle.item_cut.proofs.Fronts.{progress_on}
use Rattle.item_cut.proofs.Turns.{depth_bound, depth_of}

pub record Looking (all : List OutToken) (p : Progress) (at : ℕ) (rest : List OutToken) : Type 0 where
  pub front : List OutToken
  pub kept : p ≡ progress_of front
  pub reached : at ≡ length front
  pub goes : body_from front rest ≡ body_at all
  pub short : at + length rest ≤ 2000000

pub looking_starts : (all : List OutToken) (p : Progress) → length all ≤ 2000000 → p ≡ progress_of [] → Looking all p 0 all
looking_starts all p h e = record { front = []; kept = e; reached = refl; goes = refl; short = omega (arith, h) }

pub is_shallow : (all : List OutToken) (p : Progress) (at : ℕ) (t : OutToken) (rest behind : List OutToken) → Looking all p at rest → rest ≡ t ∷ behind → p.depth < 2000000
is_shallow all p at t rest behind l e =
    let same : p.depth ≡ depth_from 0 l.front = ap (λ q. q.depth) l.kept ∙ depth_of l.front in
    let bound : depth_from 0 l.front ≤ 0 + length l.front = depth_bound 0 l.front in
    let reached : at ≡ length l.front = l.reached in
    let short : at + length rest ≤ 2000000 = l.short in
    let more : length rest ≡ length (t ∷ behind) = ap length e in
    omega arith

opened : (front : List OutToken) (text : List ℕ) → opens (progress_of front) text ≡ opens_body front text
unfolding opens progress_of
opened front text = refl

-- whether it opens the body, as the code tests it
told : (p : Progress) (front : List OutToken) (t : OutToken) (text : List ℕ) (b c : Bool) → p ≡ progress_of front → text ≡ t.spelling → b ≡ opens p text → b ≡ c →
    opens_body front t.spelling ≡ c
told p front t text b c k s r h = sym (opened front t.spelling) ∙ ap (λ q. opens q t.spelling) (sym k) ∙ ap (λ x. opens p x) (sym s) ∙ sym r ∙ h

stops : (front : List OutToken) (t : OutToken) (behind : List OutToken) → opens_body front t.spelling ≡ true → body_from front (t ∷ behind) ≡ length front
stops front t behind h = ap (λ b. if b then length front else body_from (front ++ t ∷ []) behind) h

goes_on : (front : List OutToken) (t : OutToken) (behind : List OutToken) → opens_body front t.spelling ≡ false → body_from front (t ∷ behind) ≡ body_from (front ++ t ∷ []) behind
goes_on front t behind h = ap (λ b. if b then length front else body_from (front ++ t ∷ []) behind) h

module _ {all : List OutToken} {p : Progress} {at : ℕ} {t : OutToken} {rest behind : List OutToken} {text : List ℕ} {b : Bool} where
  pub looking_stops : Looking all p at rest → rest ≡ t ∷ behind → text ≡ t.spelling → b ≡ opens p text → b ≡ true → at ≡ body_at all
  looking_stops l e s r h =
      l.reached ∙ sym (stops l.front t behind (told p l.front t text b true l.kept s r h)) ∙ ap (λ xs. body_from l.front xs) (sym e) ∙ l.goes

  pub looking_turns : {q : Progress} {again : List ℕ} → Looking all p at rest → rest ≡ t ∷ behind → text ≡ t.spelling → b ≡ opens p text → b ≡ false →
      again ≡ t.spelling → q ≡ after p again → Looking all q (at + 1) behind
  looking_turns {q} {again} l e s r h a n =
      let reached : at ≡ length l.front = l.reached in
      let short : at + length rest ≤ 2000000 = l.short in
      let size : length rest ≡ length (t ∷ behind) = ap length e in
      let more : length (l.front ++ t ∷ []) ≡ length l.front + 1 = length-append l.front (t ∷ []) in
      record {
        front = l.front ++ t ∷ [];
        kept = n ∙ ap (λ x. after p x) a ∙ ap (λ x. after x t.spelling) l.kept ∙ sym (progress_on l.front t);
        reached = omega arith;
        goes = sym (goes_on l.front t behind (told p l.front t text b false l.kept s r h)) ∙ ap (λ xs. body_from l.front xs) (sym e) ∙ l.goes;
        short = omega arith;
      }

pub looking_ends : (all : List OutToken) (p : Progress) (at : ℕ) (rest : List OutToken) → Looking all p at rest → rest ≡ [] → at ≡ body_at all
looking_ends all p at rest l e = l.reached ∙ ap (λ xs. body_from l.front xs) (sym e) ∙ l.goes
