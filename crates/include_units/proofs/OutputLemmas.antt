-- Tokens that the output takes as they stand.
use Rattle.std.proofs.Common.{◌≡◌, ◌<◌, ◌≤◌, refl, sym, ap, ◌∙◌, subst, arith, ◌+◌, ◌-◌, Bool, true, false, not, ◌&&◌, ◌||◌, T, List, [], ◌∷◌, ◌++◌, length, codes, nat_lt, nat_le, if◌then◌else◌}
use Rattle.std.specs.List.{list_any}
use Rattle.std.proofs.lemmas.List.{append-nil, append_assoc, length-append}
use Rattle.tok_data.specs.declared.tokens.OutToken.{OutToken}
use Rattle.pp_cond.specs.Defined.{is_word}
use Rattle.include_units.specs.Made.{Made, with_fault}
use Rattle.include_units.specs.Runs.{is_stray, without_pragmas, opens_pragma, most_tokens, dropped, kept, with_token, with_output}
use Rattle.include_units.specs.Rooms.{is_odd, goes_whole}

neither : (a b : Bool) → (a || b) ≡ false → (a ≡ false) × (b ≡ false)
neither true b e = absurd (subst (λ x. T (not x)) (sym e) tt)
neither false b e = (refl, e)

both_so : (a b : Bool) → (a && not b) ≡ true → (a ≡ true) × (b ≡ false)
both_so false b e = absurd (subst T (sym e) tt)
both_so true true e = absurd (subst T (sym e) tt)
both_so true false e = (refl, refl)

whole_stays : (ts : List OutToken) → list_any is_odd ts ≡ false → without_pragmas 0 ts ≡ ts
whole_stays [] e = refl
whole_stays (t ∷ ts) e =
    let both = neither (is_odd t) (list_any is_odd ts) e in
    let here = neither (is_stray t.kind) (is_word (codes "_Pragma") t) both.0 in
    ap (λ b. if b && opens_pragma ts then without_pragmas 3 ts else t ∷ without_pragmas 0 ts) here.1
    ∙ ap (λ us. t ∷ us) (whole_stays ts both.1)

token_kept : (t : OutToken) (m : Made) → is_odd t ≡ false → length m.tokens < most_tokens → with_token t m ≡ record m { tokens = m.tokens ++ t ∷ [] }
token_kept t m e l =
    let h : nat_lt (length m.tokens) most_tokens ≡ true = grind (arith, l) in
    ap (λ b. if b then kept t m else dropped t m) h
    ∙ ap (λ b. record (if b then with_fault 103 t.site [] m else m) { tokens = m.tokens ++ t ∷ [] }) (neither (is_stray t.kind) (is_word (codes "_Pragma") t) e).0

all_kept : (ts : List OutToken) (m : Made) → list_any is_odd ts ≡ false → length ts ≤ most_tokens - length m.tokens → with_output ts m ≡ record m { tokens = m.tokens ++ ts }
all_kept [] m e l = ap (λ us. record m { tokens = us }) (sym (append-nil m.tokens))
all_kept (t ∷ ts) m e l =
    let both = neither (is_odd t) (list_any is_odd ts) e in
    let n : Made = record m { tokens = m.tokens ++ t ∷ [] } in
    let more : length (m.tokens ++ t ∷ []) ≡ length m.tokens + 1 = length-append m.tokens (t ∷ []) in
    let lt : length m.tokens < most_tokens = omega (arith, l) in
    let le : length ts ≤ most_tokens - length (m.tokens ++ t ∷ []) = omega (arith, l, more) in
    ap (with_output ts) (token_kept t m both.0 lt)
    ∙ all_kept ts n both.1 le
    ∙ ap (λ us. record m { tokens = us }) (append_assoc m.tokens (t ∷ []) ts)

pub whole_output : (ts : List OutToken) (m n : Made) → goes_whole ts m ≡ true → n ≡ record m { tokens = m.tokens ++ ts } → n ≡ with_output (without_pragmas 0 ts) m
unfolding goes_whole
whole_output ts m n g h =
    let both = both_so (nat_le (length ts) (most_tokens - length m.tokens)) (list_any is_odd ts) g in
    let fits : length ts ≤ most_tokens - length m.tokens = grind (arith, both.0) in
    h ∙ sym (all_kept ts m both.1 fits) ∙ ap (λ us. with_output us m) (sym (whole_stays ts both.1))
