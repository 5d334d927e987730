-- A bound beyond the budget is never met, so expansion is the same under each.
use Rattle.std.proofs.Common.{◌≡◌, ℕ, zero, suc, ◌<◌, ◌≤◌, Bool, List, [], ◌∷◌, drop, refl, ap, sym, ◌∙◌, arith, ◌&&◌, not}
use Rattle.tok_data.specs.declared.sources.TokId.{TokId}
use Rattle.tok_data.specs.declared.tokens.OutToken.{OutToken}
use Rattle.macro_expand.specs.declared.types.Marked.{Marked}
use Rattle.macro_table.specs.declared.definition.MacroDef.{MacroDef}
use Rattle.macro_expand.specs.declared.types.Progress.{Progress}
use Rattle.macro_expand.specs.declared.types.Outcome.{Outcome}
use Rattle.macro_expand.specs.declared.operands.Operand.{Operand}
use Rattle.macro_expand.specs.declared.building.Building.{Building}
use Rattle.macro_expand.specs.declared.building.Part.{Part}
use Rattle.macro_expand.specs.Tokens.{is_paste, begins_paste}
use Rattle.macro_expand.specs.Ties.Building as build
use Rattle.macro_expand.specs.Substitution.{Expander}
use Rattle.macro_expand.specs.Expansion as spec
use Rattle.macro_expand.specs.Ties.Steps as steps
use Rattle.macro_expand.specs.Ties.Steps.{after}
use Rattle.macro_expand.specs.Expansion.{Found, Stays, Put, Replaced}
use Rattle.macro_expand.proofs.Cases.{if_both}
use Rattle.macro_expand.proofs.SubstitutionLemmas.{replaced_as}
use Rattle.macro_expand.proofs.Spending.{Keeps, Spends, found_spends, part_keeps, substituted_keeps}

-- two ways to expand give the same where fewer replacements are left
abbrev pub Agrees : (Expander) → (Expander) → ℕ → Type 0
Agrees f g most = (p : Progress) (ts : List Marked) → p.left < most → f p ts ≡ g p ts

pub operand_agrees : (f g : Expander) (most : ℕ) → Agrees f g most → (b : Building) (o : Operand) (raw : Bool)
    → b.progress.left < most → build.puts_operand f b o raw ≡ build.puts_operand g b o raw
operand_agrees f g most agree b o raw below =
    if_both (λ (x y : Building). x ≡ y) (o.given && not raw) _ _ _ _
    (λ _. ap (build.puts_outcome (build.space_of b o.space) b) (agree b.progress o.tokens below))
    (λ _. refl)

pub part_agrees : (f g : Expander) (most : ℕ) → Agrees f g most → (def : MacroDef) (args : List (List Marked))
    (site : TokId) (b : Building) (t : OutToken) (ts : List OutToken) → b.progress.left < most → build.part f def args
    site b t ts ≡ build.part g def args site b t ts
unfolding build.part
part_agrees f g most agree def args site b t ts below =
    if_both (λ (x y : Part). x ≡ y) (is_paste t) _ _ _ _
    (λ _. refl)
    (λ _. let o : Operand = build.operand def args t ts in
    ap (λ (x : Building). (let p : Part = record { built = x; more = o.more } in p))
    (operand_agrees f g most agree b o (begins_paste ts) below))

pub substituted_agrees : (f g : Expander) (most : ℕ) → Agrees f g most → Keeps f → (def : MacroDef)
    (args : List (List Marked)) (site : TokId) (skip : ℕ) (b : Building) (ts : List OutToken) → b.progress.left < most
    → build.substituted f def args site skip b ts ≡ build.substituted g def args site skip b ts
substituted_agrees f g most agree keeps def args site skip b [] below = refl
substituted_agrees f g most agree keeps def args site zero b (t ∷ ts) below =
    let first = part_agrees f g most agree def args site b t ts below in
    let fewer = part_keeps f keeps def args site b t ts in
    let part = build.part f def args site b t ts in
    substituted_agrees f g most agree keeps def args site part.more part.built ts (omega (arith, fewer, below))
    ∙ ap (λ (x : Part). build.substituted g def args site x.more x.built ts) first
substituted_agrees f g most agree keeps def args site (suc skip) b (t ∷ ts) below =
    substituted_agrees f g most agree keeps def args site skip b ts below

pub replaced_agrees : (f g : Expander) (most : ℕ) → Agrees f g most → Keeps f → (q : Progress) (t : Marked)
    (def : MacroDef) (args : List (List Marked)) (names : List (List ℕ)) (ts : List Marked) → q.left < most
    → steps.again_with f t names ts (steps.built f q t def args) ≡ steps.again_with g t names ts
    (steps.built g q t def args)
replaced_agrees f g most agree keeps q t def args names ts below =
    let built = steps.built f q t def args in
    let fewer = substituted_keeps f keeps def args t.token.site 0 (build.begun q t.token.space_before) def.body in
    agree built.progress (spec.spliced t names built.tokens built.space ts) (omega (arith, fewer, below))
    ∙ ap (steps.again_with g t names ts)
    (substituted_agrees f g most agree keeps def args t.token.site 0 (build.begun q t.token.space_before) def.body
    below)

pub goes_on_agrees : (f g : Expander) (most : ℕ) → Agrees f g most → Keeps f → (more more' : Progress → Outcome)
    → ((q : Progress) → q.left ≤ most → more q ≡ more' q) → (t : Marked) (ts : List Marked) (found : Found) → Spends
    most found → spec.goes_on f more t ts found ≡ spec.goes_on g more' t ts found
goes_on_agrees f g most agree keeps more more' same t ts (Stays q) spent = ap (spec.with_front (t ∷ [])) (same q spent)
goes_on_agrees f g most agree keeps more more' same t ts (Put q u) spent = agree q (u ∷ ts) spent
goes_on_agrees f g most agree keeps more more' same t ts (Replaced q def args names width) spent =
    replaced_as f q t def args names (drop width ts)
    ∙ replaced_agrees f g most agree keeps q t def args names (drop width ts) spent
    ∙ sym (replaced_as g q t def args names (drop width ts))

-- what holds where so many are left holds where fewer are
pub spends_more : (left most : ℕ) → left ≤ most → (found : Found) → Spends left found → Spends most found
spends_more left most below (Stays q) spent = omega (arith, below, spent)
spends_more left most below (Put q u) spent = omega (arith, below, spent)
spends_more left most below (Replaced q def args names width) spent = omega (arith, below, spent)

pub walked_agrees : (table : spec.Definitions) (lines : List (TokId × ℕ)) (f g : Expander) (most : ℕ) → Agrees f g
    most → Keeps f → (p : Progress) → p.left ≤ most → (ts : List Marked) → spec.walked table lines f p ts
    ≡ spec.walked table lines g p ts
walked_agrees table lines f g most agree keeps p below [] = refl
walked_agrees table lines f g most agree keeps p below (t ∷ ts) =
    goes_on_agrees f g most agree keeps (λ q. spec.walked table lines f q ts) (λ q. spec.walked table lines g q ts)
    (λ q h. walked_agrees table lines f g most agree keeps q h ts)
    t ts (spec.found table lines p t ts)
    (spends_more p.left most below (spec.found table lines p t ts) (found_spends table lines p t ts))

pub goes_on_keeps : (f : Expander) → Keeps f → (left : ℕ) (more : Progress → Outcome)
    → ((q : Progress) → (more q).progress.left ≤ q.left) → (t : Marked) (ts : List Marked) (found : Found) → Spends
    left found → (spec.goes_on f more t ts found).progress.left ≤ left
goes_on_keeps f keeps left more fewer t ts (Stays q) spent = omega (arith, fewer q, spent)
goes_on_keeps f keeps left more fewer t ts (Put q u) spent = omega (arith, keeps q (u ∷ ts), spent)
goes_on_keeps f keeps left more fewer t ts (Replaced q def args names width) spent =
    let built = steps.built f q t def args in
    let first = substituted_keeps f keeps def args t.token.site 0 (build.begun q t.token.space_before) def.body in
    let last = keeps built.progress (spec.spliced t names built.tokens built.space (drop width ts)) in
    rw (replaced_as f q t def args names (drop width ts)) (omega (arith, first, last, spent))

pub walked_keeps : (table : spec.Definitions) (lines : List (TokId × ℕ)) (f : Expander) → Keeps f → (ts : List Marked)
    (p : Progress) → (spec.walked table lines f p ts).progress.left ≤ p.left
walked_keeps table lines f keeps [] p = omega arith
walked_keeps table lines f keeps (t ∷ ts) p =
    goes_on_keeps f keeps p.left (λ q. spec.walked table lines f q ts) (walked_keeps table lines f keeps ts)
    t ts (spec.found table lines p t ts) (found_spends table lines p t ts)

pub bounded_keeps : (table : spec.Definitions) (lines : List (TokId × ℕ)) (n : ℕ) → Keeps (spec.bounded table lines n)
bounded_keeps table lines zero = λ p ts. omega arith
bounded_keeps table lines (suc n) = λ p ts. walked_keeps table lines (spec.bounded table lines n)
    (bounded_keeps table lines n) ts p

-- the bound doesn't matter
pub bounded_agrees : (table : spec.Definitions) (lines : List (TokId × ℕ)) (n m : ℕ) (p : Progress) (ts : List Marked)
    → p.left < n → p.left < m → spec.bounded table lines n p ts ≡ spec.bounded table lines m p ts
bounded_agrees table lines zero m p ts below below' = let no : ⊥ = omega (arith, below) in absurd no
bounded_agrees table lines (suc n) zero p ts below below' = let no : ⊥ = omega (arith, below') in absurd no
bounded_agrees table lines (suc n) (suc m) p ts below below' =
    walked_agrees table lines (spec.bounded table lines n) (spec.bounded table lines m) p.left
    (λ q us h. bounded_agrees table lines n m q us (omega (arith, h, below)) (omega (arith, h, below')))
    (bounded_keeps table lines n) p (omega arith) ts

pub expansion_is : (table : spec.Definitions) (lines : List (TokId × ℕ)) (n : ℕ) (p : Progress) (ts : List Marked)
    → p.left < n → spec.bounded table lines n p ts ≡ spec.expansion table lines p ts
unfolding spec.expansion
expansion_is table lines n p ts below = bounded_agrees table lines n (suc p.left) p ts below (omega arith)

pub expansion_keeps : (table : spec.Definitions) (lines : List (TokId × ℕ)) → Keeps (spec.expansion table lines)
unfolding spec.expansion
expansion_keeps table lines = λ p ts. bounded_keeps table lines (suc p.left) p ts

pub step_after : (f g : Expander) (most : ℕ) → Agrees f g most → Keeps f → (more : Progress → Outcome) (t : Marked)
    (ts : List Marked) → ((q : Progress) → q.left ≤ most → more q ≡ g q ts) → (found : Found) → Spends most found
    → spec.goes_on f more t ts found ≡ after g (steps.step_by g t ts found)
step_after f g most agree keeps more t ts same (Stays q) spent = ap (spec.with_front (t ∷ [])) (same q spent)
step_after f g most agree keeps more t ts same (Put q u) spent = agree q (u ∷ ts) spent
step_after f g most agree keeps more t ts same (Replaced q def args names width) spent =
    replaced_as f q t def args names (drop width ts)
    ∙ replaced_agrees f g most agree keeps q t def args names (drop width ts) spent

-- expansion is by steps
pub expansion_steps : (table : spec.Definitions) (lines : List (TokId × ℕ)) (p : Progress) (t : Marked)
    (ts : List Marked) → spec.expansion table lines p (t ∷ ts) ≡ after (spec.expansion table lines)
    (steps.step_by (spec.expansion table lines) t ts (spec.found table lines p t ts))
unfolding spec.expansion
expansion_steps table lines p t ts =
    step_after (spec.bounded table lines p.left) (spec.expansion table lines) p.left
    (λ q us h. expansion_is table lines p.left q us h)
    (bounded_keeps table lines p.left)
    (λ q. spec.walked table lines (spec.bounded table lines p.left) q ts) t ts
    (λ q h. expansion_is table lines (suc p.left) q ts (omega (arith, h)))
    (spec.found table lines p t ts) (found_spends table lines p t ts)
