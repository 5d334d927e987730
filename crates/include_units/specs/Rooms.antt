-- A run of text lines of whose expansion no more is kept than the output has room for.
use Rattle.std.specs.Prelude.{◌≡◌, ℕ, ◌+◌, ◌-◌, ◌&&◌, ◌||◌, not, nat_le, Bool, List, [], ◌∷◌, length, codes, Option, None, Some, is_some, if◌then◌else◌}
use Rattle.std.specs.List.{list_any}
use Rattle.tok_data.specs.declared.sources.TokId.{TokId}
use Rattle.tok_data.specs.declared.tokens.OutToken.{OutToken}
use Rattle.c_tokens.specs.declared.types.Places.{Places}
use Rattle.macro_expand.specs.declared.types.Within.{Within}
use Rattle.macro_expand.specs.Expansion.{expanded}
use Rattle.macro_expand.specs.Room.{within}
use Rattle.pp_cond.specs.Defined.{is_word}
use Rattle.asking.specs.Asking.{Gives, and_then}
use Rattle.asking.specs.LookUps.{Ends, look_up, run_by}
use Rattle.include_units.specs.declared.types.FileAnswer.{FileAnswer}
use Rattle.include_units.specs.Files.{files, FromFiles}
use Rattle.include_units.specs.Texts.{Source, Text}
use Rattle.include_units.specs.Made.{Made, definitions}
use Rattle.include_units.specs.Runs.{places_of, line_of, lines_in, most_tokens, is_stray}

-- the lines of tokens of a text, over these answers
abbrev pub AreLines : List (List ℕ × FileAnswer) → Source → List OutToken → List (TokId × ℕ) → Type 0
AreLines answers source ts lines = run_by (look_up files answers) (lines_in source ts) ≡ Ends lines

-- the lines of the tokens that spell `__LINE__`
abbrev pub few_lines : Places → List OutToken → List (TokId × ℕ)
few_lines places [] = []
few_lines places (t ∷ ts) =
    if is_word (codes "__LINE__") t then (t.site, line_of places t.site.at) ∷ few_lines places ts else few_lines places ts

abbrev pub few_lines_in : Source → List OutToken → FromFiles (List (TokId × ℕ))
few_lines_in source ts = and_then (places_of source) (λ places. Gives (few_lines places ts))

-- these lines, over these answers
abbrev pub AreFew : List (List ℕ × FileAnswer) → Source → List OutToken → List (TokId × ℕ) → Type 0
AreFew answers source ts lines = run_by (look_up files answers) (few_lines_in source ts) ≡ Ends lines

-- as many tokens as the output has room for, and one more, which tells that there are more
abbrev pub wanted : Made → ℕ
wanted m = (most_tokens - length m.tokens) + 1

abbrev pub within_again : Text → List OutToken → ℕ → Made → FromFiles Within
within_again text ts room m =
    and_then (lines_in text.source ts) (λ lines. Gives (within room (expanded (definitions m) lines m.left ts)))

abbrev pub unless_asked : FromFiles Within → Within → Option TokId → FromFiles Within
unless_asked again w None = Gives w
unless_asked again w (Some site) = again

abbrev pub within_in : Text → List OutToken → ℕ → Made → FromFiles Within
within_in text ts room m =
    let w : Within = within room (expanded (definitions m) [] m.left ts) in
    unless_asked (within_again text ts room m) w w.expanded.asked

-- tokens are left out behind what may begin a `_Pragma`
abbrev pub hides_pragma : Within → Bool
hides_pragma w = is_some w.left_out && list_any (is_word (codes "_Pragma")) w.expanded.tokens

-- a stray character, or what may begin a `_Pragma`
abbrev pub is_odd : OutToken → Bool
is_odd t = is_stray t.kind || is_word (codes "_Pragma") t

-- the output takes these tokens as they stand
unfoldable pub goes_whole : List OutToken → Made → Bool
goes_whole ts m = nat_le (length ts) (most_tokens - length m.tokens) && not (list_any is_odd ts)
