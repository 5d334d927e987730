-- A path's URI names that path.
use Rattle.std.proofs.Common.{◌≡◌, ℕ, ◌<◌, ◌==◌, true, false, ◌||◌, List, [], ◌∷◌, ◌++◌, map, length, get_or, Some, None, Ok, All, sym, refl, ap, ◌∙◌, subst, inl, ⊎_elim, append-nil, arith}
use Rattle.std.specs.Prelude.{IsUtf8, codes}
use Rattle.std.specs.List.{list_any, list_all}
use Rattle.std.proofs.lemmas.Bool.{true≢false, cond-true, and_parts, or_from, not-true, or_parts, ne_eqb}
use Rattle.std.proofs.lemmas.Bool.Decides.{nat_tests}
use Rattle.std.proofs.lemmas.List.Elements.{All-nil, All-cons, All-head, All-tail, All-weaker, All-take, All-drop, All-get_or}
use Rattle.percent_encoding.specs.AsciiSet.{should_percent_encode}
use Rattle.percent_encoding.specs.Percent.{IsKept, percent_encode, percent_decode}
use Rattle.percent_encoding.proofs.PercentLemmas.{IsByte, All-percent_encode, percent_encode-nil, percent_encode-append, percent_encode_kept, round_trip}
use Rattle.url.specs.declared.sets.TheConstants.{PATH}
use Rattle.url.specs.declared.host.Host.TheVariants.{Domain}
use Rattle.url.specs.declared.scheme.SchemeType.TheVariants.{File}
use Rattle.url.specs.Scheme.{scheme_type}
use Rattle.url.specs.Path.{is_windows_drive_letter, IsSegment, join_segments, IsSegmentList}
use Rattle.url.specs.Parts.{Parts, serialize, IsValidHead, IsValid}
use Rattle.url.specs.Canonical.{IsCanonical, first_segment}
use Rattle.url.proofs.InputLemmas.{IsNot}
use Rattle.url.proofs.SetLemmas.{encoded_is_kept, kept_differs}
use Rattle.url.proofs.SetterLemmas.{empty_domain}
use Rattle.url.proofs.PathLemmas.{IsNoSlash, IsDots, dots_from_encoded, encoded_no_slash, root_only}
use Rattle.url.proofs.OnLiterals.{url_on_literals}
use Rattle.url.proofs.Theorems.{parse_url-serialize}
use Rattle.uri_paths.specs.declared.uri.TheConstants.{ESCAPED}
use Rattle.uri_paths.specs.Named.{IsComponent}
use Rattle.uri_paths.specs.Parts.{slash, parts, is_empty, is_here, is_up, is_name}
use Rattle.uri_paths.specs.Paths.{IsPath, components, spelled, path_of_names}
use Rattle.uri_paths.specs.Uris.{has_dots, of_decoded, of_parts, of_parsed, path_of_uri, uri_of_path}
use Rattle.uri_paths.proofs.Split.{IsOther}
use Rattle.uri_paths.proofs.Spelled.{path_cases, path_components, path_back}
use Rattle.uri_paths.proofs.Decoded.{path_text}
use Rattle.uri_paths.proofs.Escapes.{encoded}
use Rattle.uri_paths.proofs.Bytes.{text_bytes}

-- the URL of a path
abbrev parsed : List ℕ → Parts
parsed path = record {
  scheme = codes "file";
  username = [];
  password = [];
  host = Some (Domain []);
  port = None;
  path = percent_encode ESCAPED path;
  query = None;
  fragment = None;
}

spelled_url : (path : List ℕ) → serialize (parsed path) ≡ uri_of_path path
unfolding uri_of_path
spelled_url path = ap (λ t. codes "file://" ++ t) (append-nil (percent_encode ESCAPED path) ∙ encoded path)

-- ---- the segments of an escaped path

slash_kept : IsKept ESCAPED 47
unfolding should_percent_encode
slash_kept = refl

dot_kept : IsKept ESCAPED 46
unfolding should_percent_encode
dot_kept = refl

percent_escaped : IsKept ESCAPED 37 → ⊥
unfolding should_percent_encode
percent_escaped kept = true≢false kept

no_dots : (name : List ℕ) → is_name name ≡ true → IsDots name → ⊥
no_dots name named dots =
    ⊎_elim
    (λ here. true≢false (sym named ∙ ap is_name here))
    (λ up. true≢false (sym named ∙ ap is_name up))
    dots

-- what an escaped name has no slash of: `/` is in no name, and `\` is escaped
no_slashes : (name : List ℕ) → All IsOther name → All (λ b. IsKept ESCAPED b → IsNoSlash File b) name
no_slashes name whole = All-weaker IsOther (λ b. IsKept ESCAPED b → IsNoSlash File b) (λ b other kept. no_slash b other (ne_eqb b 92 (kept_differs ESCAPED 92 refl b kept))) name whole
  where
    no_slash : (b : ℕ) → (b == 47) ≡ false → (b == 92) ≡ false → IsNoSlash File b
    no_slash b slash backslash = rw (slash, backslash) refl

segment : (name : List ℕ) → IsComponent name → All IsByte name → IsSegment File (percent_encode ESCAPED name)
segment name is bytes = record {
  escaped = encoded_is_kept ESCAPED PATH refl refl name;
  whole = encoded_no_slash File ESCAPED name (no_slashes name is.whole);
  resolved = ⊎_elim (λ none. none) (λ dots. absurd (⊎_elim percent_escaped (no_dots name is.named) dots.1)) (dots_from_encoded ESCAPED name dot_kept bytes);
}

escaped_spelled : (names : List (List ℕ)) → percent_encode ESCAPED (spelled names) ≡ join_segments (map (percent_encode ESCAPED) names)
escaped_spelled [] = percent_encode-nil ESCAPED
escaped_spelled (name ∷ names) =
    percent_encode_kept ESCAPED 47 (name ++ spelled names) slash_kept
    ∙ ap (λ t. 47 ∷ t) (percent_encode-append ESCAPED name (spelled names) ∙ ap (λ t. percent_encode ESCAPED name ++ t) (escaped_spelled names))

segments : (names : List (List ℕ)) → All IsComponent names → All IsByte (spelled names) → All (IsSegment File) (map (percent_encode ESCAPED) names)
segments [] each bytes = All-nil (IsSegment File)
segments (name ∷ names) each bytes =
    let behind = All-tail IsByte 47 (name ++ spelled names) bytes in
    All-cons (IsSegment File) (percent_encode ESCAPED name) _ (segment name (All-head IsComponent name names each) (front name (spelled names) behind)) (segments names (All-tail IsComponent name names each) (back name (spelled names) behind))
  where
    front : (a b : List ℕ) → All IsByte (a ++ b) → All IsByte a
    front [] b all = All-nil IsByte
    front (x ∷ a) b all = All-cons IsByte x a (All-head IsByte x (a ++ b) all) (front a b (All-tail IsByte x (a ++ b) all))

    back : (a b : List ℕ) → All IsByte (a ++ b) → All IsByte b
    back [] b all = all
    back (x ∷ a) b all = back a b (All-tail IsByte x (a ++ b) all)

names_list : (names : List (List ℕ)) → All IsComponent names → All IsByte (path_of_names names) → IsSegmentList File (percent_encode ESCAPED (path_of_names names)) × (0 < length (percent_encode ESCAPED (path_of_names names)))
names_list [] each bytes =
    let root : percent_encode ESCAPED (codes "/") ≡ 47 ∷ [] = percent_encode_kept ESCAPED 47 [] slash_kept ∙ ap (λ t. 47 ∷ t) (percent_encode-nil ESCAPED) in
    (subst (IsSegmentList File) (sym root) (root_only File), subst (λ t. 0 < length t) (sym root) (omega arith))
names_list (name ∷ names) each bytes =
    let text = escaped_spelled (name ∷ names) in
    (record { segments = map (percent_encode ESCAPED) (name ∷ names); joined = text; each = segments (name ∷ names) each bytes }, subst (λ t. 0 < length t) (sym text) (omega arith))

path_list : (path : List ℕ) → IsPath path → All IsByte path → IsSegmentList File (percent_encode ESCAPED path) × (0 < length (percent_encode ESCAPED path))
path_list path is bytes =
    subst (λ p. IsSegmentList File (percent_encode ESCAPED p) × (0 < length (percent_encode ESCAPED p))) (path_back path is) (names_list (components path) (path_components path is) (subst (All IsByte) (sym (path_back path is)) bytes))

-- ---- the URL is valid, and the parser could have written it

head : (path : List ℕ) → IsValidHead (parsed path)
unfolding url_on_literals
head path = record {
  scheme = record { nonempty = omega arith; whole = refl; lower = refl };
  username = All-nil _;
  password = All-nil _;
  host = empty_domain;
  port = tt;
  bare = λ _. (refl, refl, refl);
}

valid : (path : List ℕ) → IsPath path → All IsByte path → IsValid (parsed path)
unfolding scheme_type
valid path is bytes =
    let list = path_list path is bytes in
    record { head = head path; path = inl (list.0, λ _. list.1); query = tt; fragment = tt }

-- no escaped text has a bar
no_bar : (path : List ℕ) → All (IsNot 124) (percent_encode ESCAPED path)
no_bar path = All-percent_encode (IsNot 124) ESCAPED path (λ b kept. kept_differs ESCAPED 124 refl b kept) (λ b escape same. absurd (grind (arith, nat_tests)))

drive : (segment : List ℕ) → All (IsNot 124) segment → is_windows_drive_letter segment ≡ true → get_or segment 1 0 ≡ 58
unfolding is_windows_drive_letter
drive segment none is =
    let inside : 1 < length segment = grind (arith, nat_tests) in
    let other = All-get_or (IsNot 124) segment 1 0 inside none in
    grind (arith, nat_tests)

canonical : (path : List ℕ) → IsCanonical (parsed path)
unfolding scheme_type
canonical path = record {
  host = λ e. cc;
  drive = drive (first_segment File (percent_encode ESCAPED path)) (All-take (IsNot 124) _ _ (All-drop (IsNot 124) 1 _ (no_bar path)));
}

-- ---- back

undotted : (names : List (List ℕ)) → list_all is_name names ≡ true → list_any (λ part. is_here part || is_up part) names ≡ false
undotted [] all = refl
undotted (name ∷ names) all =
    let both = and_parts _ _ all in
    or_from _ _ (or_parts (is_empty name) _ (not-true _ both.0)).1 (undotted names both.1)

path_undotted : (path : List ℕ) → IsPath path → has_dots path ≡ false
path_undotted path is =
    ⊎_elim (λ root. ap has_dots root) (λ rooted. ap has_dots rooted.begins ∙ undotted (parts rooted.behind) rooted.names) (path_cases path is)

named_parsed : (path : List ℕ) → of_parts (parsed path) ≡ of_decoded (percent_decode (percent_encode ESCAPED path))
unfolding of_parts
named_parsed path = refl

pub reads_back : (path : List ℕ) → IsPath path → IsUtf8 path → list_any (λ b. b == 0) path ≡ false → path_of_uri (uri_of_path path) ≡ Ok path
reads_back path is text zero' =
    let bytes = text_bytes path text in
    let parses = parse_url-serialize (parsed path) None (valid path is bytes) (canonical path) in
    let decodes = round_trip ESCAPED path refl bytes in
    ap path_of_uri (sym (spelled_url path)) ∙ ap of_parsed parses ∙ named_parsed path ∙ ap of_decoded decodes
    ∙ cond-true _ _ _ (path_text path text zero' (path_undotted path is)) ∙ ap Ok (path_back path is)
