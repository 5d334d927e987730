-- What is asked text by text, against all units and tokens.
use Rattle.std.proofs.Common.{◌≡◌, ℕ, Bool, true, false, ◌&&◌, ◌||◌, List, [], ◌∷◌, refl, sym, ap, ◌∙◌}
use Rattle.std.specs.Prelude.{not, if◌then◌else◌}
use Rattle.std.specs.Cmp.Lexicographic.{bytes_decides}
use Rattle.std.specs.List.{filter, list_any}
use Rattle.tok_data.specs.declared.sources.TokId.{TokId}
use Rattle.scope_tables.specs.declared.entities.Occ.{Occ}
use Rattle.unit_index.specs.Files.{introduces_in}
use Rattle.unit_index.specs.Groups.{same_file, is_in}
use Rattle.unit_index.specs.Introduced.{brings, is_left}
use Rattle.unit_index.specs.Known.{Known}
use Rattle.scope_tables.specs.Occurrences.{same_tok, counts, is_at}
use Rattle.unit_index.specs.Occurrences.{occs_of}
use Rattle.unit_index.specs.References.{introduces, is_introduced, introduced, is_wanted}
use Rattle.unit_index.specs.Tokens.{is_outside}
use Rattle.unit_index.proofs.SharedLemmas.{any_filter, any_same, any_or, none_of}
use Rattle.unit_index.proofs.WalkLemmas.{tok_exact, both}

-- ---- one unit

split : (g a b : Bool) → ((g && a) || (g && b)) ≡ (g && (a || b))
split true a b = refl
split false a b = refl

of_files : (g : TokId → Bool) (fs : List (List ℕ)) (ts : List TokId) → list_any (λ f. list_any g (filter (is_in f) ts)) fs ≡ list_any (λ r. g r && list_any (same_file r.file) fs) ts
of_files g [] ts = sym (none_of g ts)
of_files g (f ∷ fs) ts =
    (λ i. any_filter g (is_in f) ts i || of_files g fs ts i)
    ∙ any_or (λ r. g r && is_in f r) (λ r. g r && list_any (same_file r.file) fs) ts
    ∙ any_same (λ r. (g r && is_in f r) || (g r && list_any (same_file r.file) fs)) (λ r. g r && list_any (same_file r.file) (f ∷ fs))
    (λ r. split (g r) (is_in f r) (list_any (same_file r.file) fs)) ts

any_implies : (p q : Occ → Bool) → ((o : Occ) → p o ≡ true → q o ≡ true) → (os : List Occ) → list_any p os ≡ true → list_any q os ≡ true
any_implies p q h [] e = e
any_implies p q h (o ∷ os) e = by (p o) refl (any_implies p q h os) e
  where
    or_true : (b : Bool) → b || true ≡ true
    or_true true = refl
    or_true false = refl

    by : (b : Bool) → p o ≡ b → (list_any p os ≡ true → list_any q os ≡ true) → (b || list_any p os) ≡ true → (q o || list_any q os) ≡ true
    by true is later f = ap (λ b. b || list_any q os) (h o is)
    by false is later f = ap (λ b. q o || b) (later f) ∙ or_true (q o)

in_its_text : (r : TokId) (o : Occ) → is_introduced r o ≡ true → introduces_in r.file o ≡ true
in_its_text r o e =
    let parts = both (introduces o.role) (is_at r o) e in
    let here = both (counts o.role) (same_tok o.tok r) parts.1 in
    let file : o.tok.file ≡ r.file = ap (λ t. t.file) ((tok_exact o.tok r).0 here.1) in
    (λ i. parts.0 i && (bytes_decides o.tok.file r.file).1 file i)

absorbed : (a b c : Bool) → (b ≡ true → c ≡ true) → (a && b) && c ≡ a && b
absorbed true true c h = h refl
absorbed true false c h = refl
absorbed false b c h = refl

pub by_files : (u : Known) (q : TokId) (fs : List (List ℕ)) (ts : List TokId) → ((f : List ℕ) → list_any (same_file f) fs ≡ list_any (introduces_in f) (occs_of u))
    → list_any (λ f. list_any (brings u q) (filter (is_in f) ts)) fs ≡ list_any (brings u q) ts
by_files u q fs ts files =
    of_files (brings u q) fs ts
    ∙ any_same (λ r. brings u q r && list_any (same_file r.file) fs) (brings u q)
    (λ r. absorbed (same_tok r q) (list_any (is_introduced r) (occs_of u)) (list_any (same_file r.file) fs)
    (λ e. files r.file ∙ any_implies (is_introduced r) (introduces_in r.file) (in_its_text r) (occs_of u) e)) ts

-- ---- all units

shared_head : (s a b m : Bool) → (s ≡ true → a ≡ b) → ((s && a) || (m && b)) ≡ ((s || m) && b)
shared_head true a b true h = ap (λ x. x || b) (h refl) ∙ twice b
  where
    twice : (b : Bool) → b || b ≡ b
    twice true = refl
    twice false = refl
shared_head true a b false h = ap (λ x. x || false) (h refl) ∙ alone b
  where
    alone : (b : Bool) → b || false ≡ b
    alone true = refl
    alone false = refl
shared_head false a b m h = refl

pub any_equal : (f : TokId → Bool) (q : TokId) (ts : List TokId) → list_any (λ r. same_tok r q && f r) ts ≡ (list_any (λ r. same_tok r q) ts && f q)
any_equal f q [] = refl
any_equal f q (r ∷ ts) =
    ap (λ b. (same_tok r q && f r) || b) (any_equal f q ts)
    ∙ shared_head (same_tok r q) (f r) (f q) (list_any (λ x. same_tok x q) ts) (λ e. ap f ((tok_exact r q).0 e))

any_const : {A : Type 0} (m : Bool) (f : A → Bool) (xs : List A) → list_any (λ x. m && f x) xs ≡ (m && list_any f xs)
any_const true f xs = refl
any_const false f [] = refl
any_const false f (x ∷ xs) = any_const false f xs

brought : (us : List Known) (q : TokId) (ts : List TokId) → list_any (λ u. list_any (brings u q) ts) us ≡ (list_any (λ r. same_tok r q) ts && introduced us q)
brought us q ts =
    any_same (λ u. list_any (brings u q) ts) (λ u. list_any (λ r. same_tok r q) ts && list_any (is_introduced q) (occs_of u))
    (λ u. any_equal (λ r. list_any (is_introduced r) (occs_of u)) q ts) us
    ∙ any_const (list_any (λ r. same_tok r q) ts) (λ u. list_any (is_introduced q) (occs_of u)) us

filter_same : (p p' : TokId → Bool) (ts : List TokId) → ((t : TokId) → list_any (λ r. same_tok r t) ts ≡ true → p t ≡ p' t) → filter p ts ≡ filter p' ts
filter_same p p' [] h = refl
filter_same p p' (t ∷ ts) h =
    (λ i. if h t (ap (λ b. b || list_any (λ r. same_tok r t) ts) ((tok_exact t t).1 refl)) i then t ∷ filter p ts else filter p ts)
    ∙ ap (λ xs. if p' t then t ∷ xs else xs) (filter_same p p' ts (λ x e. h x (ap (λ b. same_tok t x || b) e ∙ or_true (same_tok t x))))
  where
    or_true : (b : Bool) → b || true ≡ true
    or_true true = refl
    or_true false = refl

pub uses_left : (us : List Known) (ts : List TokId) (found : TokId → Bool) → ((q : TokId) → found q ≡ list_any (λ u. list_any (brings u q) ts) us)
    → filter (is_left found) ts ≡ filter (is_wanted us false) ts
uses_left us ts found has =
    filter_same (is_left found) (is_wanted us false) ts
    (λ t e. ap (λ b. is_outside t && not b) (has t ∙ brought us t ts ∙ ap (λ b. b && introduced us t) e))

and_true : (b : Bool) → b ≡ b && true
and_true true = refl
and_true false = refl

-- with declarations all outside the library
pub all_left : (us : List Known) (ts : List TokId) → filter is_outside ts ≡ filter (is_wanted us true) ts
all_left us [] = refl
all_left us (t ∷ ts) = (λ i. if and_true (is_outside t) i then t ∷ all_left us ts i else all_left us ts i)
