-- The lines of sites as a map.
use Rattle.std.proofs.Common.{◌≡◌, rules, refl, sym, ap, ◌∙◌, ℕ, ◌==◌, ◌&&◌, List, [], ◌∷◌, ◌++◌, Bool, true, false, cond}
use Rattle.std.proofs.Common.{bytes_eq, Option, option_map}
use Rattle.std.specs.Bool.{Decides}
use Rattle.std.specs.Prelude.{Some, None, find}
use Rattle.tok_data.specs.declared.sources.TokId.{TokId}
use Rattle.tok_data.specs.contracts.sources.TokIdPartialEq.TheImpl as toks
use Rattle.macro_expand.specs.Expansion.{line_in}

abbrev is_at : TokId → TokId → Bool
is_at a b = a.at == b.at && bytes_eq a.file b.file

tok_decides : (a b : TokId) → Decides (toks.eq-value.it a b) (a ≡ b)
tok_decides a b = search rules

at_decides : (a b : TokId) → Decides (is_at a b) (a ≡ b)
at_decides a b = search rules

same_tests : (x y : Bool) (P : Type 0) → Decides x P → Decides y P → x ≡ y
same_tests true true P d e = refl
same_tests false false P d e = refl
same_tests true false P d e = sym (e.1 (d.0 refl))
same_tests false true P d e = d.1 (e.0 refl)

tok_at : (a b : TokId) → toks.eq-value.it a b ≡ is_at a b
tok_at a b = same_tests (toks.eq-value.it a b) (is_at a b) (a ≡ b) (tok_decides a b) (at_decides a b)

-- the line of a site, which another list may tell where this one doesn't
abbrev pub line_or : List (TokId × ℕ) → Option ℕ → TokId → Option ℕ
line_or [] o site = o
line_or (e ∷ es) o site = cond (is_at e.0 site) (Some e.1) (line_or es o site)

first_line : (b : Bool) (e : TokId × ℕ) (o : Option (TokId × ℕ)) → cond b (Some e.1) (option_map (λ x. x.1) o)
    ≡ option_map (λ x. x.1) (cond b (Some e) o)
first_line true e o = refl
first_line false e o = refl

pub line_or_none : (es : List (TokId × ℕ)) (site : TokId) → line_or es None site ≡ line_in es site
line_or_none [] site = refl
line_or_none (e ∷ es) site =
    ap (cond (is_at e.0 site) (Some e.1)) (line_or_none es site)
    ∙ first_line (is_at e.0 site) e (find (λ x. x.0.at == site.at && bytes_eq x.0.file site.file) es)

line_or_snoc : (es : List (TokId × ℕ)) (e : TokId × ℕ) (o : Option ℕ) (site : TokId)
    → line_or (es ++ e ∷ []) o site ≡ line_or es (cond (is_at e.0 site) (Some e.1) o) site
line_or_snoc [] e o site = refl
line_or_snoc (x ∷ xs) e o site = ap (cond (is_at x.0 site) (Some x.1)) (line_or_snoc xs e o site)

-- a site more from the end of the list
pub line_more : (all before : List (TokId × ℕ)) (e : TokId × ℕ) (key site : TokId) (o more : Option ℕ)
    → all ≡ before ++ e ∷ [] → key ≡ e.0 → more ≡ cond (toks.eq-value.it key site) (Some e.1) o
    → line_or before more site ≡ line_or all o site
line_more all before e key site o more all_is key_is is =
    ap (λ (x : Option ℕ). line_or before x site)
    (is ∙ ap (λ (b : Bool). cond b (Some e.1) o) (tok_at key site)
    ∙ ap (λ (k : TokId). cond (is_at k site) (Some e.1) o) key_is)
    ∙ sym (line_or_snoc before e o site)
    ∙ ap (λ (l : List (TokId × ℕ)). line_or l o site) (sym all_is)
