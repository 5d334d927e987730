-- Tokens that are put to others of their text.
use Rattle.std.proofs.Common.{◌≡◌, ℕ, ◌++◌, Bool, true, false, ◌||◌, List, [], ◌∷◌, refl, sym, ap, ◌∙◌, append_assoc}
use Rattle.std.proofs.lemmas.List.{append-nil}
use Rattle.std.specs.Prelude.{if◌then◌else◌}
use Rattle.std.specs.Cmp.Lexicographic.{bytes_decides}
use Rattle.std.specs.List.{filter, list_any}
use Rattle.tok_data.specs.declared.sources.TokId.{TokId}
use Rattle.unit_index.specs.Groups.{same_file, is_in}

more_by : (c : Bool) (file f : List ℕ) (old taken new : List ℕ → List TokId) (t : TokId) (list : List TokId) → same_file file f ≡ c
    → new f ≡ (if c then list else taken f) → taken f ≡ (if c then [] else old f) → list ≡ old file ++ t ∷ [] → new f ≡ old f ++ (if c then t ∷ [] else [])
more_by true file f old taken new t list same put took is = put ∙ is ∙ ap (λ g. old g ++ t ∷ []) ((bytes_decides file f).0 same)
more_by false file f old taken new t list same put took is = put ∙ took ∙ sym (append-nil (old f))

pub more : (file : List ℕ) (old taken new : List ℕ → List TokId) (t : TokId) (list : List TokId)
    → ((f : List ℕ) → new f ≡ (if same_file file f then list else taken f)) → ((f : List ℕ) → taken f ≡ (if same_file file f then [] else old f)) → list ≡ old file ++ t ∷ []
    → (f : List ℕ) → new f ≡ old f ++ (if same_file file f then t ∷ [] else [])
more file old taken new t list put took is f = more_by (same_file file f) file f old taken new t list refl (put f) (took f) is

turn_by : (c : Bool) (t : TokId) (rest : List TokId) → (if c then t ∷ [] else []) ++ rest ≡ (if c then t ∷ rest else rest)
turn_by true t rest = refl
turn_by false t rest = refl

pub group_turns : (f : List ℕ) (old new whole rest behind : List TokId) (t : TokId) → rest ≡ t ∷ behind → new ≡ old ++ (if is_in f t then t ∷ [] else [])
    → old ++ filter (is_in f) rest ≡ whole → new ++ filter (is_in f) behind ≡ whole
group_turns f old new whole rest behind t is added was =
    ap (λ xs. xs ++ filter (is_in f) behind) added ∙ append_assoc old (if is_in f t then t ∷ [] else []) (filter (is_in f) behind)
    ∙ ap (λ xs. old ++ xs) (turn_by (is_in f t) t (filter (is_in f) behind)) ∙ ap (λ xs. old ++ filter (is_in f) xs) (sym is) ∙ was

or_assoc : (a b c : Bool) → (a || b) || c ≡ a || (b || c)
or_assoc true b c = refl
or_assoc false b c = refl

-- one element more of what is tested
pub any_turns : {A : Type 0} (f : A → Bool) (old new whole : Bool) (x : A) (rest more : List A) → rest ≡ x ∷ more → new ≡ (old || f x) → (old || list_any f rest) ≡ whole → (new || list_any f more) ≡ whole
any_turns f old new whole x rest more is added was =
    ap (λ b. b || list_any f more) added ∙ or_assoc old (f x) (list_any f more) ∙ ap (λ xs. old || list_any f xs) (sym is) ∙ was

or_none : (b : Bool) → b || false ≡ b
or_none true = refl
or_none false = refl

pub any_ends : {A : Type 0} (f : A → Bool) (old whole : Bool) (rest : List A) → rest ≡ [] → (old || list_any f rest) ≡ whole → old ≡ whole
any_ends f old whole rest is was = sym (or_none old) ∙ ap (λ xs. old || list_any f xs) (sym is) ∙ was
