-- A text's bytes are bytes.
use Rattle.std.proofs.Common.{◌≡◌, ℕ, ◌+◌, ◌/◌, ◌<◌, true, List, [], ◌∷◌, All, subst, ⊎_elim, arith}
use Rattle.std.specs.Prelude.{IsUtf8}
use Rattle.std.proofs.lemmas.Bool.{cond_both, and_parts, ltb-true}
use Rattle.std.proofs.lemmas.List.Elements.{All-nil, All-cons, All-append}
use Rattle.std.proofs.Math.Utf8.{scalar, scalars, encode, encodes, scalar_cases, next}
use Rattle.percent_encoding.proofs.PercentLemmas.{IsByte}

next_byte : (c : ℕ) → next c < 256
next_byte c = omega arith

below_last : (c : ℕ) → scalar c ≡ true → c < 1114112
below_last c is = ⊎_elim (λ low. omega arith) (λ high. omega arith) (scalar_cases c is)

one_next : (c : ℕ) → All IsByte (next c ∷ [])
one_next c = All-cons IsByte (next c) [] (next_byte c) (All-nil IsByte)

two_next : (c : ℕ) → All IsByte (next (c / 64) ∷ next c ∷ [])
two_next c = All-cons IsByte (next (c / 64)) (next c ∷ []) (next_byte (c / 64)) (one_next c)

three_next : (c : ℕ) → All IsByte (next (c / 4096) ∷ next (c / 64) ∷ next c ∷ [])
three_next c = All-cons IsByte (next (c / 4096)) (next (c / 64) ∷ next c ∷ []) (next_byte (c / 4096)) (two_next c)

encode_bytes : (c : ℕ) → c < 1114112 → All IsByte (encode c)
unfolding encode
encode_bytes c small =
    cond_both _ _ _ (All IsByte)
    (λ one. let below = ltb-true c 128 one in All-cons IsByte c [] (omega arith) (All-nil IsByte))
    (λ _. cond_both _ _ _ (All IsByte)
    (λ two. let below = ltb-true c 2048 two in All-cons IsByte (192 + c / 64) (next c ∷ []) (omega arith) (one_next c))
    (λ _. cond_both _ _ _ (All IsByte)
    (λ three. let below = ltb-true c 65536 three in All-cons IsByte (224 + c / 4096) (next (c / 64) ∷ next c ∷ []) (omega arith) (two_next c))
    (λ _. All-cons IsByte (240 + c / 262144) (next (c / 4096) ∷ next (c / 64) ∷ next c ∷ []) (omega arith) (three_next c))))

encodes_bytes : (cs : List ℕ) → scalars cs ≡ true → All IsByte (encodes cs)
encodes_bytes [] all = All-nil IsByte
encodes_bytes (c ∷ cs) all =
    let both = and_parts _ _ all in
    All-append IsByte (encode c) (encodes cs) (encode_bytes c (below_last c both.0)) (encodes_bytes cs both.1)

pub text_bytes : (text : List ℕ) → IsUtf8 text → All IsByte text
text_bytes text is = subst (All IsByte) is.1.1 (encodes_bytes is.0 is.1.0)
