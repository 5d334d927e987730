-- The text of the given definitions is short where these are.
use Rattle.std.proofs.Common.{◌≡◌, ◌≤◌, refl, sym, ap, ◌∙◌, subst, arith, T, ℕ, ◌+◌, ◌*◌, true, List, [], ◌∷◌, ◌++◌, length, length-append, sum_by, codes}
use Rattle.std.specs.List.{AllByRecursion}
use Rattle.std.proofs.lemmas.List.Elements.{All-from_recursion, recursion_from_All}
use Rattle.std.proofs.lemmas.List.Sums.{sum_by-cons}
use Rattle.c_tokens.specs.Languages.{is_identifier}
use Rattle.project_conf.specs.declared.options.Define.{Define}
use Rattle.project_conf.specs.declared.options.Define.TheVariants.{Set, Unset}
use Rattle.project_conf.specs.Defines.{AreUsable, name_of, size_of}
use Rattle.include_units.specs.Units.{given, set_line, unset_line, line_of, lines_of, command_text}

begins : (name : List ℕ) → is_identifier name ≡ true → 1 ≤ length name
begins [] e = absurd (subst T (sym e) tt)
begins (c ∷ cs) e = omega arith

set_length : (name text : List ℕ) → length (set_line name text) ≡ 8 + (length name + (1 + (length text + 1)))
set_length name text =
    length-append (codes "#define ") (name ++ (codes " " ++ (text ++ codes "\n")))
    ∙ ap (λ n. 8 + n) (length-append name (codes " " ++ (text ++ codes "\n"))
    ∙ ap (λ n. length name + n) (length-append (codes " ") (text ++ codes "\n") ∙ ap (λ n. 1 + n) (length-append text (codes "\n"))))

unset_length : (name : List ℕ) → length (unset_line name) ≡ 7 + (length name + 1)
unset_length name = length-append (codes "#undef ") (name ++ codes "\n") ∙ ap (λ n. 7 + n) (length-append name (codes "\n"))

one_short : (d : Define) → is_identifier (name_of d) ≡ true → length (line_of d) ≤ 11 * size_of d
one_short (Set name text) e =
    let b : 1 ≤ length name = begins name e in
    let l : length (set_line name text) ≡ 8 + (length name + (1 + (length text + 1))) = set_length name text in
    omega arith
one_short (Unset name) e =
    let b : 1 ≤ length name = begins name e in
    let l : length (unset_line name) ≡ 7 + (length name + 1) = unset_length name in
    omega arith

lines_short : (ds : List Define) → AllByRecursion (λ d. is_identifier (name_of d) ≡ true) ds → length (lines_of ds) ≤ 11 * sum_by size_of ds
lines_short [] h = omega arith
lines_short (d ∷ ds) h =
    let one : length (line_of d) ≤ 11 * size_of d = one_short d h.0 in
    let more : length (lines_of ds) ≤ 11 * sum_by size_of ds = lines_short ds h.1 in
    let both : length (line_of d ++ lines_of ds) ≡ length (line_of d) + length (lines_of ds) = length-append (line_of d) (lines_of ds) in
    let sum : sum_by size_of (d ∷ ds) ≡ size_of d + sum_by size_of ds = sum_by-cons size_of d ds in
    omega arith

given_length : length given ≡ 253
given_length = refl

pub short_command : (defines : List Define) → AreUsable 268435456 defines → length (command_text defines) ≤ 4290772992
short_command ds u =
    let lines : length (lines_of ds) ≤ 11 * sum_by size_of ds = lines_short ds (recursion_from_All (λ d. is_identifier (name_of d) ≡ true) ds u.names) in
    let size : sum_by size_of ds ≤ 268435456 = u.size in
    let all : length (given ++ lines_of ds) ≡ length given + length (lines_of ds) = length-append given (lines_of ds) in
    let front : length given ≡ 253 = given_length in
    omega arith

pub usable_none : (most : ℕ) → AreUsable most []
usable_none most = record {
  names = All-from_recursion (λ d. is_identifier (name_of d) ≡ true) [] tt;
  size = omega arith;
}

pub usable_more : (all : List Define) (first : Define) (behind : List Define) (most left : ℕ) → all ≡ first ∷ behind → is_identifier (name_of first) ≡ true →
    left + size_of first ≡ most → AreUsable left behind → AreUsable most all
usable_more all first behind most left e name size more =
    let sum : sum_by size_of (first ∷ behind) ≡ size_of first + sum_by size_of behind = sum_by-cons size_of first behind in
    let few : sum_by size_of behind ≤ left = more.size in
    let fits : sum_by size_of (first ∷ behind) ≤ most = omega arith in
    subst (AreUsable most) (sym e) (record {
      names = All-from_recursion (λ d. is_identifier (name_of d) ≡ true) (first ∷ behind) (name, recursion_from_All (λ d. is_identifier (name_of d) ≡ true) behind more.names);
      size = fits;
    })
