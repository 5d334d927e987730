-- From the bytes of a decoded path to its text.
use Rattle.std.proofs.Common.{◌≡◌, ℕ, ◌==◌, true, false, cond, not, List, All, sym, ap, ◌∙◌, Some, None, Result, Ok, Err}
use Rattle.std.specs.Prelude.{IsUtf8, codes, bytes_eq}
use Rattle.std.specs.Str.{is_utf8}
use Rattle.std.specs.List.{list_any}
use Rattle.std.proofs.lemmas.Bool.{cond-true, cond-false, cond_both, and_left, and_right, and_from, false_from_ne_true, not_from_true, not_from_false}
use Rattle.std.proofs.lemmas.Str.{IsUtf8-from_is_utf8, is_utf8-from_IsUtf8}
use Rattle.uri_paths.specs.Named.{IsComponent}
use Rattle.uri_paths.specs.Parts.{parts}
use Rattle.percent_encoding.specs.Percent.{percent_decode}
use Rattle.url.specs.Parts as url
use Rattle.url.specs.Parser.{parse_url}
use Rattle.uri_paths.specs.declared.error.UriError.{UriError}
use Rattle.uri_paths.specs.declared.error.UriError.TheVariants.{NotFile, HasHost, NotText}
use Rattle.uri_paths.specs.Paths.{components, path_of_names}
use Rattle.uri_paths.specs.Uris.{has_dots, is_path_text, of_decoded, of_parts, of_parsed, path_of_uri}
use Rattle.uri_paths.proofs.Split.{parts_whole, names_left}

pub no_utf8 : (bytes : List ℕ) → (IsUtf8 bytes → ⊥) → is_path_text bytes ≡ false
unfolding is_path_text
no_utf8 bytes none = and_left _ _ (false_from_ne_true (is_utf8 bytes) (λ is. none (IsUtf8-from_is_utf8 bytes is)))

pub with_zero : (bytes : List ℕ) → list_any (λ b. b == 0) bytes ≡ true → is_path_text bytes ≡ false
unfolding is_path_text
with_zero bytes zero' = and_right _ _ (and_left _ _ (not_from_true _ zero'))

pub with_dots : (bytes : List ℕ) → has_dots bytes ≡ true → is_path_text bytes ≡ false
unfolding is_path_text
with_dots bytes dots = and_right (is_utf8 bytes) _ (and_right (not (list_any (λ b. b == 0) bytes)) _ (not_from_true _ dots))

pub path_text : (bytes : List ℕ) → IsUtf8 bytes → list_any (λ b. b == 0) bytes ≡ false → has_dots bytes ≡ false → is_path_text bytes ≡ true
unfolding is_path_text
path_text bytes is zero' dots =
    and_from _ _ (is_utf8-from_IsUtf8 bytes is) (and_from _ _ (not_from_false _ zero') (not_from_false _ dots))

-- the components of bytes without dots have names and no slash
pub undotted_components : (bytes : List ℕ) → has_dots bytes ≡ false → All IsComponent (components bytes)
unfolding components
undotted_components bytes dots = names_left (parts bytes) dots (parts_whole bytes)

-- ---- the path of a URL

pub named : (uri : List ℕ) (parsed : url.Parts) (answer : Result (List ℕ) UriError) → parse_url None uri ≡ Ok parsed → answer ≡ of_parts parsed → answer ≡ path_of_uri uri
named uri parsed answer parses is = is ∙ sym (ap of_parsed parses)

pub no_file : (parsed : url.Parts) (scheme : List ℕ) → scheme ≡ parsed.scheme → bytes_eq scheme (codes "file") ≡ false → Err NotFile ≡ of_parts parsed
unfolding of_parts
no_file parsed scheme lent other = sym (cond-true _ _ _ (not_from_false _ (ap (λ s. bytes_eq s (codes "file")) (sym lent) ∙ other)))

of_file : (parsed : url.Parts) (scheme : List ℕ) → scheme ≡ parsed.scheme → bytes_eq scheme (codes "file") ≡ true → of_parts parsed ≡ cond (url.has_host parsed) (Err HasHost) (of_decoded (percent_decode parsed.path))
unfolding of_parts
of_file parsed scheme lent file = cond-false _ _ _ (not_from_true _ (ap (λ s. bytes_eq s (codes "file")) (sym lent) ∙ file))

pub with_host : (parsed : url.Parts) (scheme : List ℕ) → scheme ≡ parsed.scheme → bytes_eq scheme (codes "file") ≡ true → url.has_host parsed ≡ true → Err HasHost ≡ of_parts parsed
with_host parsed scheme lent file host = sym (of_file parsed scheme lent file ∙ cond-true _ _ _ host)

pub decoded : (parsed : url.Parts) (scheme bytes : List ℕ) → scheme ≡ parsed.scheme → bytes_eq scheme (codes "file") ≡ true → url.has_host parsed ≡ false → bytes ≡ percent_decode parsed.path → of_parts parsed ≡ of_decoded bytes
decoded parsed scheme bytes lent file host are = of_file parsed scheme lent file ∙ cond-false _ _ _ host ∙ ap of_decoded (sym are)

-- what the bytes' path gives, where it was found and where it wasn't
pub found : (bytes path : List ℕ) → Some path ≡ cond (is_path_text bytes) (Some (path_of_names (components bytes))) None → Ok path ≡ of_decoded bytes
found bytes path = cond_both (is_path_text bytes) (Some (path_of_names (components bytes))) None (λ o. Some path ≡ o → Ok path ≡ of_decoded bytes)
    (λ is same. ap Ok (some_injective same) ∙ sym (cond-true _ _ _ is)) (λ no same. absurd (some_none same))
  where
    some_injective : {a b : List ℕ} → Some a ≡ Some b → a ≡ b
    some_injective same = cc

    some_none : {a : List ℕ} → Some a ≡ None → ⊥
    some_none same = cc

pub missed : (bytes : List ℕ) → None ≡ cond (is_path_text bytes) (Some (path_of_names (components bytes))) None → Err NotText ≡ of_decoded bytes
missed bytes = cond_both (is_path_text bytes) (Some (path_of_names (components bytes))) None (λ o. None ≡ o → Err NotText ≡ of_decoded bytes)
    (λ is same. absurd (some_none same)) (λ no same. sym (cond-false _ _ _ no))
  where
    some_none : {a : List ℕ} → None ≡ Some a → ⊥
    some_none same = cc
