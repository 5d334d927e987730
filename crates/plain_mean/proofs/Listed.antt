-- The lists that are kept, file by file.
use Rattle.std.proofs.Common.{◌≡◌, ℕ, Bool, true, false, cond, ◌||◌, List, [], ◌∷◌, length, Option, Some, None, is_some, bytes_eq, refl, sym, ap, ◌∙◌, subst}
use Rattle.std.specs.List.{filter, list_any}
use Rattle.std.proofs.lemmas.Slice.Eq.{bytes_eq-Decides}
use Rattle.tok_data.specs.declared.faults.ShownFault.{ShownFault}
use Rattle.doc_texts.specs.Texts.{Texts, text_at}
use Rattle.plain_mean.specs.Given.{text_in}
use Rattle.plain_mean.specs.Shown.{falls_on, of_file, shown_by}
use Rattle.plain_mean.specs.Within.{AreWithin}
use Rattle.plain_mean.specs.declared.types.Shown.{Shown}

-- one more file in front: where the file is this one, it was put in, and the others stay
one_more : (f : List ℕ → List Shown) (q path : List ℕ) (is among : Bool) (old new : List Shown) → bytes_eq q path ≡ is →
    new ≡ cond is (f path) old → cond among (f q) new ≡ cond (is || among) (f q) old
one_more f q path true true old new e h = refl
one_more f q path true false old new e h = h ∙ ap f (sym ((bytes_eq-Decides q path).0 e))
one_more f q path false among old new e h = ap (cond among (f q)) h

pub listed_more : (f : List ℕ → List Shown) (q path : List ℕ) (rest : List (List ℕ)) (old new all : List Shown) →
    new ≡ cond (bytes_eq q path) (f path) old → cond (list_any (bytes_eq q) (path ∷ rest)) (f q) old ≡ all →
    cond (list_any (bytes_eq q) rest) (f q) new ≡ all
listed_more f q path rest old new all put is = one_more f q path (bytes_eq q path) (list_any (bytes_eq q) rest) old new refl put ∙ is

within_if : (limit : ℕ) (b : Bool) (xs old new : List Shown) → new ≡ cond b xs old → (b ≡ true → AreWithin limit xs) → AreWithin limit old → AreWithin limit new
within_if limit true xs old new is here there = subst (AreWithin limit) (sym is) (here refl)
within_if limit false xs old new is here there = subst (AreWithin limit) (sym is) there

pub within_more : (t : Texts) (q path : List ℕ) (xs old new : List Shown) → new ≡ cond (bytes_eq q path) xs old → AreWithin (length (text_in t path)) xs →
    AreWithin (length (text_in t q)) old → AreWithin (length (text_in t q)) new
within_more t q path xs old new is here there =
    within_if (length (text_in t q)) (bytes_eq q path) xs old new is (λ e. subst (λ p. AreWithin (length (text_in t p)) xs) (sym ((bytes_eq-Decides q path).0 e)) here) there

pub within_none : (limit : ℕ) (none : List Shown) → none ≡ [] → AreWithin limit none
within_none limit none is = subst (AreWithin limit) (sym is) tt

-- a file without a text shows nothing
of_none : (o : Option (List ℕ)) (faults : List ShownFault) (read : Bool) → cond (is_some o) (of_file o faults read) [] ≡ of_file o faults read
of_none None faults read = refl
of_none (Some text) faults read = refl

pub all_right : (t : Texts) (fs : List ShownFault) (rs : List (List ℕ)) (q : List ℕ) (among read : Bool) (faults : List ShownFault) (list : List Shown) →
    list ≡ cond among (of_file (text_at t q) faults read) [] → among ≡ is_some (text_at t q) →
    faults ≡ filter (falls_on q) fs → read ≡ list_any (bytes_eq q) rs → list ≡ shown_by t fs rs q
unfolding shown_by
all_right t fs rs q among read faults list is path found told =
    is ∙ ap (λ b. cond b (of_file (text_at t q) faults read) []) path ∙ of_none (text_at t q) faults read
    ∙ (λ i. of_file (text_at t q) (found i) (told i))
