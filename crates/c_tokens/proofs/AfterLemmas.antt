-- One logical character more from a place on.
use Rattle.std.proofs.Common.{◌≡◌, ℕ, zero, suc, ◌+◌, ◌≤◌, List, [], ◌∷◌, length, take, drop, refl, ap, sym, ◌∙◌, subst, arith, add-one}
use Rattle.std.proofs.lemmas.List.{length-drop, drop-drop}
use Rattle.c_tokens.specs.declared.logical.Read.{Read}
use Rattle.c_tokens.specs.Logical.{Character, codes_of, start_of, end_of}
use Rattle.c_tokens.specs.Reading.{rest, ahead, IsNext, IsAfter, read_character}

pub end_of_more : (at n : ℕ) (xs : List Character) (m : Character) (ms : List Character) → drop n xs ≡ m ∷ ms → end_of at (take (n + 1) xs) ≡ m.to
end_of_more at zero [] m ms e = cc e
end_of_more at zero (x ∷ xs) m ms e = ap (λ (ys : List Character). end_of at (take 1 ys)) e
end_of_more at (suc n) [] m ms e = cc e
end_of_more at (suc n) (x ∷ xs) m ms e = rw (add-one (suc n)) (rw (add-one n) at (end_of_more x.to n xs m ms e))

start_of_more : (n : ℕ) (xs : List Character) (m : Character) (ms : List Character) (here end : ℕ) → drop n xs ≡ m ∷ ms → start_of (take n xs) ≤ here → m.own ≤ end → here ≤ end → start_of (take (n + 1) xs) ≤ end
start_of_more zero [] m ms here end e first own on = cc e
start_of_more zero (x ∷ xs) m ms here end e first own on = subst (λ (ys : List Character). start_of (take 1 ys) ≤ end) (sym e) own
start_of_more (suc n) [] m ms here end e first own on = cc e
start_of_more (suc n) (x ∷ xs) m ms here end e first own on = rw (add-one (suc n)) (omega (arith, first, on))

start_of_joined : (n m : ℕ) (xs : List Character) (mid here : ℕ) → start_of (take n xs) ≤ mid → start_of (take m (drop n xs)) ≤ here → mid ≤ here → start_of (take (n + m) xs) ≤ here
start_of_joined zero m xs mid here first second on = let e : 0 + m ≡ m = omega arith in rw e second
start_of_joined (suc n) m [] mid here first second on = let e : suc n + m ≡ suc (n + m) = omega arith in rw e (omega arith)
start_of_joined (suc n) m (x ∷ xs) mid here first second on = let e : suc n + m ≡ suc (n + m) = omega arith in rw e (omega (arith, first, on))

pub after_begins : (text : List ℕ) (at : ℕ) → at ≤ length text → IsAfter text at 0 at
after_begins text at within = record { left = refl; ends = refl; enough = omega arith; begins = omega arith; starts = omega arith; within = within; boundary = λ _ first. first }

pub after_turns : (text : List ℕ) (at count here : ℕ) (r : Read) → IsAfter text at count here → IsNext text here r → IsAfter text at (count + 1) r.end
after_turns text at count here r after next =
    let cut : drop count (rest text at) ≡ read_character text here r ∷ rest text r.end = sym after.left ∙ next.first in
    record {
      left = sym (sym (drop-drop 1 count (rest text at)) ∙ ap (drop 1) cut);
      ends = sym (end_of_more at count (rest text at) _ _ cut);
      enough = omega (arith, length-drop count (rest text at), ap length cut);
      begins = omega (arith, after.begins, next.begins, next.goes_on);
      starts = start_of_more count (rest text at) _ _ here r.end cut after.starts (omega (arith, next.goes_on)) (omega (arith, next.begins, next.goes_on));
      within = next.within;
      boundary = λ utf8 first. next.boundary utf8 (after.boundary utf8 first);
    }

-- the codes that are read
pub ahead_next : (text : List ℕ) (here : ℕ) (r : Read) → IsNext text here r → ahead text here ≡ r.code ∷ ahead text r.end
ahead_next text here r next = rw next.code (ap codes_of next.first)

pub ahead_end : (text : List ℕ) (here : ℕ) → rest text here ≡ [] → ahead text here ≡ []
ahead_end text here none = ap codes_of none

end_of_joined : (at n m : ℕ) (xs : List Character) → end_of (end_of at (take n xs)) (take m (drop n xs)) ≡ end_of at (take (n + m) xs)
end_of_joined at zero m xs = ap (λ k. end_of at (take k xs)) (omega arith)
end_of_joined at (suc n) zero [] = let e : suc n + 0 ≡ suc (n + 0) = omega arith in rw e refl
end_of_joined at (suc n) (suc m) [] = let e : suc n + suc m ≡ suc (n + suc m) = omega arith in rw e refl
end_of_joined at (suc n) m (x ∷ xs) = let e : suc n + m ≡ suc (n + m) = omega arith in rw e (end_of_joined x.to n m xs)

-- characters from a place on, and more behind them
pub after_joins : (text : List ℕ) (at n mid m here : ℕ) → IsAfter text at n mid → IsAfter text mid m here → IsAfter text at (n + m) here
after_joins text at n mid m here first second =
    let e = first.left in
    record {
      left = second.left ∙ (ap (drop m) e ∙ drop-drop m n (rest text at));
      ends = second.ends ∙ (ap (λ k. end_of k (take m (rest text mid))) first.ends ∙ (ap (λ cs. end_of (end_of at (take n (rest text at))) (take m cs)) e ∙ end_of_joined at n m (rest text at)));
      enough = omega (arith, second.enough, ap length e, length-drop n (rest text at), first.enough);
      begins = omega (arith, first.begins, second.begins);
      starts = start_of_joined n m (rest text at) mid here first.starts (subst (λ (cs : List Character). start_of (take m cs) ≤ here) e second.starts) (omega (arith, second.begins));
      within = second.within;
      boundary = λ utf8 start. second.boundary utf8 (first.boundary utf8 start);
    }

codes_of_drop : (n : ℕ) (cs : List Character) → codes_of (drop n cs) ≡ drop n (codes_of cs)
codes_of_drop zero cs = refl
codes_of_drop (suc n) [] = refl
codes_of_drop (suc n) (c ∷ cs) = codes_of_drop n cs

pub length_codes_of : (cs : List Character) → length (codes_of cs) ≡ length cs
length_codes_of [] = refl
length_codes_of (c ∷ cs) = ap suc (length_codes_of cs)

-- what is ahead behind them
pub ahead_behind : (text : List ℕ) (at n here : ℕ) → IsAfter text at n here → ahead text here ≡ drop n (ahead text at)
ahead_behind text at n here after = ap codes_of after.left ∙ codes_of_drop n (rest text at)
