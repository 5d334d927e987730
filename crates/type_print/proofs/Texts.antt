-- Words and pieces, joined.
use Rattle.std.proofs.Common.{◌≡◌, ℕ, List, [], ◌∷◌, ◌++◌, codes, refl, ap, sym, ◌∙◌, append_assoc}
use Rattle.type_data.specs.declared.qualifiers.Qual.{Qual}
use Rattle.type_print.specs.Names.{words, word_if, spaced}

spaced_more : (ws vs : List (List ℕ)) → spaced (ws ++ vs) ≡ spaced ws ++ spaced vs
spaced_more [] vs = refl
spaced_more (w ∷ ws) vs = ap (λ x. w ++ (codes " " ++ x)) (spaced_more ws vs) ∙ (ap (λ x. w ++ x) (sym (append_assoc (codes " ") (spaced ws) (spaced vs))) ∙ sym (append_assoc w (codes " " ++ spaced ws) (spaced vs)))

pub spaced_words : (start : List ℕ) (q : Qual)
    → ((start ++ spaced (word_if q.is_const (codes "const"))) ++ spaced (word_if q.is_restrict (codes "restrict"))) ++ spaced (word_if q.is_volatile (codes "volatile")) ≡ start ++ spaced (words q)
spaced_words start q =
    let c = word_if q.is_const (codes "const") in
    let r = word_if q.is_restrict (codes "restrict") in
    let v = word_if q.is_volatile (codes "volatile") in
    append_assoc (start ++ spaced c) (spaced r) (spaced v)
    ∙ (append_assoc start (spaced c) (spaced r ++ spaced v)
    ∙ ap (λ x. start ++ x) (sym (spaced_more c (r ++ v) ∙ ap (λ x. spaced c ++ x) (spaced_more r v))))
