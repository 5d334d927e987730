-- The bytes that a URI of a path escapes.
use Rattle.std.proofs.Common.{◌≡◌, ℕ, ◌≤◌, Bool, true, false, cond, not, List, [], ◌∷◌, ◌++◌, sym, refl, ◌∙◌, ⊎_elim, arith}
use Rattle.std.specs.Prelude.{flat_map, codes}
use Rattle.std.specs.Char.{is_ascii}
use Rattle.std.proofs.lemmas.Bool.{agree_below, agree_below_at, cases_lt, or_left}
use Rattle.std.proofs.lemmas.Bool.Decides.{nat_tests}
use Rattle.percent_encoding.specs.AsciiSet.{should_percent_encode}
use Rattle.percent_encoding.specs.Percent.{percent_encode, percent_encode_byte, encode_byte}
use Rattle.uri_paths.specs.declared.uri.TheConstants.{ESCAPED}
use Rattle.uri_paths.specs.Uris.{is_kept, escaped, uri_of_path}

ascii_kept : agree_below (should_percent_encode ESCAPED) (λ b. not (is_kept b)) 128 ≡ true
unfolding should_percent_encode
ascii_kept = refl

kept_large : (b : ℕ) → 128 ≤ b → not (is_kept b) ≡ true
kept_large b large = grind (arith, nat_tests)

encoded_large : (b : ℕ) → 128 ≤ b → should_percent_encode ESCAPED b ≡ true
unfolding should_percent_encode
encoded_large b large = or_left (not (is_ascii b)) _ (grind (arith, nat_tests))

-- the set has what the definition escapes
pub kept_agrees : (b : ℕ) → should_percent_encode ESCAPED b ≡ not (is_kept b)
kept_agrees b =
    ⊎_elim
    (λ small. agree_below_at (should_percent_encode ESCAPED) (λ b. not (is_kept b)) 128 b ascii_kept small)
    (λ large. encoded_large b large ∙ sym (kept_large b large))
    (cases_lt b 128)

flipped : (b : ℕ) (escape kept : Bool) → escape ≡ not kept → cond escape (percent_encode_byte b) (b ∷ []) ≡ cond kept (b ∷ []) (percent_encode_byte b)
flipped b true true e = cc
flipped b true false e = refl
flipped b false true e = refl
flipped b false false e = cc

pub encoded : (path : List ℕ) → percent_encode ESCAPED path ≡ flat_map escaped path
unfolding percent_encode
encoded [] = refl
encoded (b ∷ path) =
    (λ i. flipped b (should_percent_encode ESCAPED b) (is_kept b) (kept_agrees b) i ++ encoded_rest path i)
  where
    encoded_rest : (path : List ℕ) → flat_map (encode_byte ESCAPED) path ≡ flat_map escaped path
    encoded_rest [] = refl
    encoded_rest (b ∷ path) = (λ i. flipped b (should_percent_encode ESCAPED b) (is_kept b) (kept_agrees b) i ++ encoded_rest path i)

pub written : (path front text uri : List ℕ) → front ≡ codes "file://" → text ≡ percent_encode ESCAPED path → uri ≡ front ++ text → uri ≡ uri_of_path path
unfolding uri_of_path
written path front text uri begins are whole = whole ∙ (λ i. begins i ++ (are ∙ encoded path) i)
