-- Text lines (ISO C11 6.10p4 to p7): a run of them is one list that is expanded.
use Rattle.std.specs.Prelude.{ℕ, zero, suc, ◌+◌, ◌-◌, ◌&&◌, nat_lt, Bool, true, false, List, [], ◌∷◌, ◌++◌, map, length, drop, count_by, nat_le, slice_get, Option, Some, None, if◌then◌else◌, codes}
use Rattle.std.specs.Option.{option_map_or}
use Rattle.tok_data.specs.declared.sources.TokId.{TokId}
use Rattle.tok_data.specs.declared.tokens.PpKind.{PpKind}
use Rattle.tok_data.specs.declared.tokens.PpKind.TheVariants.{Str, Stray}
use Rattle.tok_data.specs.declared.tokens.OutToken.{OutToken}
use Rattle.c_tokens.specs.declared.types.Places.{Places}
use Rattle.macro_expand.specs.declared.types.Expanded.{Expanded}
use Rattle.macro_expand.specs.Expansion.{expanded}
use Rattle.macro_expand.specs.Tokens.{is_mark}
use Rattle.pp_cond.specs.Defined.{is_word}
use Rattle.asking.specs.Asking.{Gives, asks_one, and_then}
use Rattle.include_units.specs.Files.{files, FromFiles, Lines}
use Rattle.include_units.specs.Texts.{Source, File, Own, Text}
use Rattle.include_units.specs.Made.{Made, definitions, with_fault}
use Rattle.include_units.specs.Literals.{all_open}
pub use Rattle.include_units.specs.Own.{own_places}

abbrev pub places_of : Source → FromFiles Places
places_of (File path) = asks_one {kind = files} (Lines path) (λ places. Gives places)
places_of (Own text) = Gives (own_places text)

-- a line's number, which has 32 bits
abbrev pub from_one : ℕ → ℕ
from_one n = if nat_lt n 4294967295 then n + 1 else n

-- where a token begins
abbrev pub start_of : List (ℕ × ℕ) → ℕ → ℕ
start_of places at = option_map_or (λ place. place.0) (slice_get places at) 0

-- the line, from 1, on which it begins
abbrev pub line_of : Places → ℕ → ℕ
line_of places at = from_one (count_by (λ front. nat_le front (start_of places.places at)) (drop 1 places.lines))

abbrev pub lines_by : Places → List OutToken → List (TokId × ℕ)
lines_by places ts = map (λ t. (t.site, line_of places t.site.at)) ts

abbrev pub lines_in : Source → List OutToken → FromFiles (List (TokId × ℕ))
lines_in source ts = and_then (places_of source) (λ places. Gives (lines_by places ts))

abbrev pub expand_again : Text → List OutToken → Made → FromFiles Expanded
expand_again text ts m =
    and_then (lines_in text.source ts) (λ lines. Gives (expanded (definitions m) lines m.left ts))

abbrev pub unless_asked : FromFiles Expanded → Expanded → Option TokId → FromFiles Expanded
unless_asked again e None = Gives e
unless_asked again e (Some site) = again

-- with no line known, and again with the lines of the text where one is wanted
abbrev pub expand_in : Text → List OutToken → Made → FromFiles Expanded
expand_in text ts m =
    let e : Expanded = expanded (definitions m) [] m.left ts in
    unless_asked (expand_again text ts m) e e.asked

abbrev pub with_expansion : Expanded → Made → Made
with_expansion e m = record m {
  faults = m.faults ++ e.faults;
  spelled = m.spelled ++ e.spelled;
  macros = m.macros ++ e.macros;
  left = m.left - e.used;
}

-- what is made of the tokens that are expanded
pub record Run : Type 0 where
  pub tokens : List OutToken
  pub made : Made

abbrev pub run : List OutToken → Made → Run
run ts m = record { tokens = ts; made = m }

abbrev pub expanded_run : Text → List OutToken → Made → FromFiles Run
expanded_run text ts m =
    and_then (expand_in text ts m) (λ e. Gives (run e.tokens (with_expansion e m)))

-- `( string-literal )` stands in front
abbrev pub is_string : PpKind → Bool
is_string Str = true
is_string _ = false

abbrev pub closes_pragma : List OutToken → Bool
closes_pragma [] = false
closes_pragma (t ∷ ts) = is_mark (codes ")") t

abbrev pub pragma_string : List OutToken → Bool
pragma_string [] = false
pragma_string (t ∷ ts) = is_string t.kind && closes_pragma ts

abbrev pub opens_pragma : List OutToken → Bool
opens_pragma [] = false
opens_pragma (t ∷ ts) = is_mark (codes "(") t && pragma_string ts

abbrev pub is_pragma : OutToken → List OutToken → Bool
is_pragma t ts = is_word (codes "_Pragma") t && opens_pragma ts

-- 6.10.9: the operator `_Pragma` is removed with its operand; some of the first tokens are removed already
abbrev pub without_pragmas : ℕ → List OutToken → List OutToken
without_pragmas skip [] = []
without_pragmas zero (t ∷ ts) = if is_pragma t ts then without_pragmas 3 ts else t ∷ without_pragmas 0 ts
without_pragmas (suc skip) (t ∷ ts) = without_pragmas skip ts

-- a stray character that is an output token (rule 103)
abbrev pub is_stray : PpKind → Bool
is_stray Stray = true
is_stray _ = false

-- a unit has so many output tokens at most; the first one behind them is rule 228
abbrev pub most_tokens : ℕ
most_tokens = 2000000

abbrev pub dropped : OutToken → Made → Made
dropped t m = if m.full then m else with_fault 228 t.site [] (record m { full = true })

abbrev pub kept : OutToken → Made → Made
kept t m = record (if is_stray t.kind then with_fault 103 t.site [] m else m) { tokens = m.tokens ++ t ∷ [] }

abbrev pub with_token : OutToken → Made → Made
with_token t m = if nat_lt (length m.tokens) most_tokens then kept t m else dropped t m

abbrev pub with_output : List OutToken → Made → Made
with_output [] m = m
with_output (t ∷ ts) m = with_output ts (with_token t m)

abbrev pub with_run : Run → Made
with_run r = with_output (without_pragmas 0 r.tokens) r.made

abbrev pub run_of : Text → List OutToken → Made → FromFiles Made
run_of text ts m = and_then (expanded_run text ts (all_open ts m)) (λ r. Gives (with_run r))
