-- Lines and parts of a text, from the front.
use Rattle.std.proofs.Common.{◌≡◌, ◌≤◌, ◌-◌, refl, sym, ap, ◌∙◌, subst, arith, ℕ, suc, ◌+◌, Bool, true, false, List, [], ◌∷◌, ◌++◌, append_assoc, take, drop, not, cond}
use Rattle.tok_data.specs.declared.tokens.PpToken.{PpToken}
use Rattle.tok_data.specs.declared.tokens.OutToken.{OutToken}
use Rattle.macro_expand.specs.Tokens.{is_hash}
use Rattle.include_units.specs.Texts.{Part, Run, Directive, source_token, source_tokens, in_line, lines_from, before_run, before, parts_of, parts_from}
use Rattle.std.proofs.lemmas.List.{drop-drop}
use Rattle.include_units.specs.Fronts.{width, front_parts, run_parts, IsFurther}
use Rattle.include_units.specs.declared.texts.Front.{Front}

-- a line of the token and so many behind it, and the lines behind that
abbrev line : List ℕ → ℕ → PpToken → List PpToken → ℕ → List (List OutToken)
line name at t ts n = (source_token name at t ∷ source_tokens name (at + 1) (take n ts)) ∷ lines_from name (at + 1 + n) (drop n ts)

line_goes : (name : List ℕ) (at : ℕ) (t u : PpToken) (us : List PpToken) (w : ℕ) (b : Bool) →
    lines_from name (at + 1) (u ∷ us) ≡ line name (at + 1) u us w →
    in_line (source_token name at t) b (lines_from name (at + 1) (u ∷ us)) ≡ line name at t (u ∷ us) (cond (not b) (1 + w) 0)
line_goes name at t u us w true ih =
    let e : at + 1 ≡ at + 1 + 0 = omega arith in
    ap (λ k. (source_token name at t ∷ []) ∷ lines_from name k (u ∷ us)) e
line_goes name at t u us w false ih =
    let e : suc w ≡ 1 + w = omega arith in
    let f : at + 1 + 1 + w ≡ at + 1 + suc w = omega arith in
    subst (λ n. in_line (source_token name at t) false (lines_from name (at + 1) (u ∷ us)) ≡ line name at t (u ∷ us) n) e
    (ap (in_line (source_token name at t) false) ih
    ∙ ap (λ k. (source_token name at t ∷ source_token name (at + 1) u ∷ source_tokens name (at + 1 + 1) (take w us)) ∷ lines_from name k (drop w us)) f)

line_cut : (name : List ℕ) (at : ℕ) (t : PpToken) (ts : List PpToken) → lines_from name at (t ∷ ts) ≡ line name at t ts (width ts)
line_cut name at t [] = refl
line_cut name at t (u ∷ us) = line_goes name at t u us (width us) u.line_start (line_cut name (at + 1) u us)

parts_cut : (name : List ℕ) (at : ℕ) (t : PpToken) (ts : List PpToken) →
    parts_from name at (t ∷ ts)
    ≡ before (source_token name at t ∷ source_tokens name (at + 1) (take (width ts) ts)) (parts_from name (at + 1 + width ts) (drop (width ts) ts))
parts_cut name at t ts = ap parts_of (line_cut name at t ts)

by_hash : Bool → List ℕ → ℕ → PpToken → List PpToken → List Part
by_hash b name at t ts =
    cond b (Directive (source_token name at t) (source_tokens name (at + 1) (take (width ts) ts)) ∷ parts_from name (at + 1 + width ts) (drop (width ts) ts))
    (before_run (source_token name at t ∷ source_tokens name (at + 1) (take (width ts) ts)) (parts_from name (at + 1 + width ts) (drop (width ts) ts)))

hash_cut : (name : List ℕ) (at : ℕ) (t : PpToken) (ts : List PpToken) → parts_from name at (t ∷ ts) ≡ by_hash (is_hash (source_token name at t)) name at t ts
unfolding by_hash
hash_cut name at t ts = parts_cut name at t ts

directive_cut : (name : List ℕ) (at : ℕ) (t : PpToken) (ts : List PpToken) → is_hash (source_token name at t) ≡ true →
    parts_from name at (t ∷ ts)
    ≡ Directive (source_token name at t) (source_tokens name (at + 1) (take (width ts) ts)) ∷ parts_from name (at + 1 + width ts) (drop (width ts) ts)
unfolding by_hash
directive_cut name at t ts e = hash_cut name at t ts ∙ ap (λ b. by_hash b name at t ts) e

run_cut : (name : List ℕ) (at : ℕ) (t : PpToken) (ts : List PpToken) → is_hash (source_token name at t) ≡ false →
    parts_from name at (t ∷ ts)
    ≡ before_run (source_token name at t ∷ source_tokens name (at + 1) (take (width ts) ts)) (parts_from name (at + 1 + width ts) (drop (width ts) ts))
unfolding by_hash
run_cut name at t ts e = hash_cut name at t ts ∙ ap (λ b. by_hash b name at t ts) e

runs_join : (a b : List OutToken) (ps : List Part) → before_run a (before_run b ps) ≡ before_run (a ++ b) ps
runs_join a b [] = refl
runs_join a b (Run more ∷ ps) = ap (λ ts. Run ts ∷ ps) (sym (append_assoc a b more))
runs_join a b (Directive hash ts ∷ ps) = refl

-- what the first token begins, as it is read
pub directive_next : (name : List ℕ) (at : ℕ) (tokens : List PpToken) (t : PpToken) (ts : List PpToken) (first : OutToken) (f : Front) →
    tokens ≡ t ∷ ts → first ≡ source_token name at t → is_hash first ≡ true →
    f.part ≡ Directive first (source_tokens name (at + 1) (take (width ts) ts)) → f.at ≡ at + 1 + width ts → f.behind.now ≡ drop (width ts) ts →
    parts_from name at tokens ≡ front_parts name f
directive_next name at tokens t ts first f is one hash part number behind =
    ap (parts_from name at) is
    ∙ directive_cut name at t ts (sym (ap is_hash one) ∙ hash)
    ∙ ap (λ o. Directive o (source_tokens name (at + 1) (take (width ts) ts)) ∷ parts_from name (at + 1 + width ts) (drop (width ts) ts)) (sym one)
    ∙ ap (λ p. p ∷ parts_from name (at + 1 + width ts) (drop (width ts) ts)) (sym part)
    ∙ ap (λ n. f.part ∷ parts_from name n (drop (width ts) ts)) (sym number)
    ∙ ap (λ xs. f.part ∷ parts_from name f.at xs) (sym behind)

pub run_next : (name : List ℕ) (at : ℕ) (tokens : List PpToken) (t : PpToken) (ts : List PpToken) (first : OutToken) (f : Front) →
    tokens ≡ t ∷ ts → first ≡ source_token name at t → is_hash first ≡ false →
    run_parts name (at + 1) first ts ≡ front_parts name f → parts_from name at tokens ≡ front_parts name f
run_next name at tokens t ts first f is one hash h =
    ap (parts_from name at) is
    ∙ run_cut name at t ts (sym (ap is_hash one) ∙ hash)
    ∙ ap (λ o. run_parts name (at + 1) o ts) (sym one)
    ∙ h

pub run_begins : (name : List ℕ) (at : ℕ) (first : OutToken) (ts : List PpToken) (made : List OutToken) (number : ℕ) (behind : List PpToken) (ps : List Part) →
    made ≡ (first ∷ []) ++ source_tokens name at (take (width ts) ts) → number ≡ at + width ts → behind ≡ drop (width ts) ts →
    before_run made (parts_from name number behind) ≡ ps → run_parts name at first ts ≡ ps
run_begins name at first ts made number behind ps m n b h =
    ap (λ xs. before_run xs (parts_from name (at + width ts) (drop (width ts) ts))) (sym m)
    ∙ ap (λ k. before_run made (parts_from name k (drop (width ts) ts))) (sym n)
    ∙ ap (λ xs. before_run made (parts_from name number xs)) (sym b)
    ∙ h

-- a line that is no directive goes on with the run
pub run_turns : (name : List ℕ) (at : ℕ) (tokens : List PpToken) (t : PpToken) (ts : List PpToken) (first : OutToken) (made more : List OutToken) (number : ℕ) (behind : List PpToken) (ps : List Part) →
    tokens ≡ t ∷ ts → first ≡ source_token name at t → is_hash first ≡ false →
    more ≡ (made ++ first ∷ []) ++ source_tokens name (at + 1) (take (width ts) ts) → number ≡ at + 1 + width ts → behind ≡ drop (width ts) ts →
    before_run made (parts_from name at tokens) ≡ ps → before_run more (parts_from name number behind) ≡ ps
run_turns name at tokens t ts first made more number behind ps is one hash m n b h =
    ap (λ xs. before_run more (parts_from name number xs)) b
    ∙ ap (λ k. before_run more (parts_from name k (drop (width ts) ts))) n
    ∙ ap (λ xs. before_run xs (parts_from name (at + 1 + width ts) (drop (width ts) ts))) (m ∙ append_assoc made (first ∷ []) (source_tokens name (at + 1) (take (width ts) ts)))
    ∙ sym (runs_join made (first ∷ source_tokens name (at + 1) (take (width ts) ts)) (parts_from name (at + 1 + width ts) (drop (width ts) ts)))
    ∙ ap (λ o. before_run made (before_run (o ∷ source_tokens name (at + 1) (take (width ts) ts)) (parts_from name (at + 1 + width ts) (drop (width ts) ts)))) one
    ∙ ap (before_run made) (sym (run_cut name at t ts (sym (ap is_hash one) ∙ hash)))
    ∙ ap (λ xs. before_run made (parts_from name at xs)) (sym is)
    ∙ h

-- a directive ends it
pub run_stops : (name : List ℕ) (at : ℕ) (tokens : List PpToken) (t : PpToken) (ts : List PpToken) (first : OutToken) (made : List OutToken) (ps : List Part) (f : Front) →
    tokens ≡ t ∷ ts → first ≡ source_token name at t → is_hash first ≡ true → before_run made (parts_from name at tokens) ≡ ps →
    f.part ≡ Run made → f.at ≡ at → f.behind.now ≡ tokens → ps ≡ front_parts name f
run_stops name at tokens t ts first made ps f is one hash h part number behind =
    let e : is_hash (source_token name at t) ≡ true = sym (ap is_hash one) ∙ hash in
    sym h
    ∙ ap (λ xs. before_run made (parts_from name at xs)) is
    ∙ ap (before_run made) (directive_cut name at t ts e)
    ∙ ap (λ ps. Run made ∷ ps) (sym (directive_cut name at t ts e))
    ∙ ap (λ xs. Run made ∷ parts_from name at xs) (sym is)
    ∙ ap (λ p. p ∷ parts_from name at tokens) (sym part)
    ∙ ap (λ n. f.part ∷ parts_from name n tokens) (sym number)
    ∙ ap (λ xs. f.part ∷ parts_from name f.at xs) (sym behind)

-- and so does the end of the text
pub run_ends : (name : List ℕ) (at : ℕ) (tokens : List PpToken) (made : List OutToken) (ps : List Part) (f : Front) →
    tokens ≡ [] → before_run made (parts_from name at tokens) ≡ ps → f.part ≡ Run made → f.at ≡ at → f.behind.now ≡ tokens → ps ≡ front_parts name f
run_ends name at tokens made ps f is h part number behind =
    sym h
    ∙ ap (λ xs. before_run made (parts_from name at xs)) is
    ∙ ap (λ xs. Run made ∷ parts_from name at xs) (sym is)
    ∙ ap (λ p. p ∷ parts_from name at tokens) (sym part)
    ∙ ap (λ n. f.part ∷ parts_from name n tokens) (sym number)
    ∙ ap (λ xs. f.part ∷ parts_from name f.at xs) (sym behind)

-- ---- tokens behind others

pub further_here : (at : ℕ) (ts : List PpToken) → IsFurther at ts at ts
further_here at ts =
    let e : at - at ≡ 0 = omega arith in
    (omega arith, sym (ap (λ n. drop n ts) e))

pub further_step : (at w : ℕ) (ts : List PpToken) (at' : ℕ) (us : List PpToken) → at' ≡ at + w → us ≡ drop w ts → IsFurther at ts at' us
further_step at w ts at' us e d =
    let k : w ≡ at' - at = omega arith in
    (omega arith, d ∙ ap (λ n. drop n ts) k)

pub further_join : (a : ℕ) (ts : List PpToken) (b : ℕ) (us : List PpToken) (c : ℕ) (vs : List PpToken) → IsFurther a ts b us → IsFurther b us c vs → IsFurther a ts c vs
further_join a ts b us c vs h k =
    let p : a ≤ b = h.0 in
    let q : b ≤ c = k.0 in
    let e : (b - a) + (c - b) ≡ c - a = omega arith in
    (omega arith, k.1 ∙ ap (drop (c - b)) h.1 ∙ drop-drop (c - b) (b - a) ts ∙ ap (λ n. drop n ts) e)

further_cons : (at : ℕ) (all : List PpToken) (t : PpToken) (us : List PpToken) → all ≡ t ∷ us → IsFurther at all (at + 1) us
further_cons at all t us e = further_step at 1 all (at + 1) us refl (ap (drop 1) (sym e))

-- behind the line of a token
pub further_line : (at : ℕ) (ts : List PpToken) (n : ℕ) (here : List PpToken) (t : PpToken) (us : List PpToken) (w m : ℕ) (there : List PpToken) →
    IsFurther at ts n here → here ≡ t ∷ us → m ≡ n + 1 + w → there ≡ drop w us → IsFurther at ts m there
further_line at ts n here t us w m there h e i d =
    further_join at ts n here m there h (further_join n here (n + 1) us m there (further_cons n here t us e) (further_step (n + 1) w us m there i d))

-- behind a token and what is behind that
pub further_on : (at : ℕ) (all : List PpToken) (t : PpToken) (us : List PpToken) (m : ℕ) (there : List PpToken) →
    all ≡ t ∷ us → IsFurther (at + 1) us m there → IsFurther at all m there
further_on at all t us m there e h = further_join at all (at + 1) us m there (further_cons at all t us e) h

-- behind the rest of a line and what is behind that
pub further_run : (at w : ℕ) (ts : List PpToken) (n : ℕ) (here : List PpToken) (m : ℕ) (there : List PpToken) → n ≡ at + w → here ≡ drop w ts → IsFurther n here m there → IsFurther at ts m there
further_run at w ts n here m there i d h = further_join at ts n here m there (further_step at w ts n here i d) h

-- in the whole text
pub further_all : (all : List PpToken) (at m : ℕ) (there : List PpToken) → IsFurther at (drop at all) m there → there ≡ drop m all
further_all all at m there h =
    let p : at ≤ m = h.0 in
    let e : at + (m - at) ≡ m = omega arith in
    h.1 ∙ drop-drop (m - at) at all ∙ ap (λ n. drop n all) e

pub further_same : (at : ℕ) (ts : List PpToken) (n : ℕ) (here : List PpToken) (m : ℕ) (there : List PpToken) → IsFurther at ts n here → m ≡ n → there ≡ here → IsFurther at ts m there
further_same at ts n here m there h e d = subst (λ k. IsFurther at ts k there) (sym e) (subst (λ xs. IsFurther at ts n xs) (sym d) h)
