-- The tokens of a unit (ISO C11 5.1.1.2p1, 6.10): its texts, part by part, with the conditionals that are open.
use Rattle.std.specs.Prelude.{ℕ, zero, suc, ◌||◌, Bool, true, false, List, [], ◌∷◌, ◌++◌, length, Option, Some, None, is_some, if◌then◌else◌, codes}
use Rattle.std.specs.FinMap as map
use Rattle.tok_data.specs.declared.sources.TokId.{TokId}
use Rattle.tok_data.specs.declared.tokens.PpToken.{PpToken}
use Rattle.tok_data.specs.declared.tokens.OutToken.{OutToken}
use Rattle.project_conf.specs.declared.options.Define.{Define}
use Rattle.project_conf.specs.declared.options.Define.TheVariants.{Set, Unset}
use Rattle.project_conf.specs.declared.conf.UnitConf.{UnitConf}
use Rattle.pp_cond.specs.Defined.{is_ident, is_word}
use Rattle.asking.specs.Asking.{Gives, asks_one, and_then}
use Rattle.include_units.specs.declared.types.UnitTokens.{UnitTokens}
use Rattle.include_units.specs.declared.inclusion.Lead.{Lead}
use Rattle.include_units.specs.declared.inclusion.Lead.TheVariants.{On, Into}
use Rattle.include_units.specs.Files.{files, FromFiles}
use Rattle.include_units.specs.Files as file
use Rattle.include_units.specs.Texts.{Source, File, Own, Text, Part, Run, Directive, parts, token}
use Rattle.include_units.specs.Made.{Made, with_fault, with_read}
use Rattle.include_units.specs.Literals.{open_where}
use Rattle.include_units.specs.Runs.{run_of}
pub use Rattle.include_units.specs.Own.{own_tokens}
use Rattle.include_units.specs.Conditionals.{Open, Stand, is_taken, outer_taken, fault_where, if_group, ifdef_group, elif_group, else_group, endif_line, unclosed}
use Rattle.include_units.specs.Definitions.{define_line, undef_line, command}
use Rattle.include_units.specs.Inclusion.{Led, led, joined, include_line, whole_budget, spent}

-- `#error` (6.10.5) prints its tokens
abbrev pub error_line : OutToken → List OutToken → Made → Made
error_line directive ts m = with_fault 227 directive.site (joined ts) m

-- `#pragma once` has a file read once; other pragmas do nothing (6.10.6)
abbrev pub begins_once : List OutToken → Bool
begins_once [] = false
begins_once (t ∷ ts) = is_word (codes "once") t

abbrev pub once_in : Source → Made → Made
once_in (File path) m = record m { once = m.once ++ path ∷ [] }
once_in (Own text) m = m

abbrev pub pragma_line : Text → List OutToken → Made → Made
pragma_line text ts m = if begins_once ts then once_in text.source m else m

-- a directive that is no part of a conditional, in a group that is taken
unfoldable pub plain_line : Text → OutToken → List OutToken → Made → Made
plain_line text name ts m =
    if is_word (codes "define") name then define_line name ts m
    else (if is_word (codes "undef") name then undef_line name ts m
    else (if is_word (codes "error") name then error_line name ts m
    else (if is_word (codes "pragma") name then pragma_line text ts m
    else (if is_word (codes "line") name then m
    else with_fault 221 name.site [] m))))

unfoldable pub control_line : List (List ℕ) → Bool → Text → OutToken → List OutToken → Made → FromFiles Led
control_line folders deep text name ts m =
    if is_word (codes "include") name then include_line folders deep text name ts m
    else Gives (led On (plain_line text name ts m))

-- where a part of a text leads, with the conditionals that are open behind it, and what is made
pub record Walked : Type 0 where
  pub lead : Lead
  pub open_ones : List Open
  pub made : Made

abbrev pub walked : Lead → List Open → Made → Walked
walked lead os m = record { lead = lead; open_ones = os; made = m }

abbrev pub going_on : Stand → Walked
going_on s = walked On s.open_ones s.made

abbrev pub within_group : List Open → Led → Walked
within_group os l = walked l.lead os l.made

-- a directive by its name; of a group that isn't taken only those of conditionals are read
abbrev pub other_line : List (List ℕ) → Bool → Text → OutToken → List OutToken → List Open → Made → FromFiles Walked
other_line folders deep text name ts os m =
    if is_taken os then and_then (control_line folders deep text name ts m) (λ l. Gives (within_group os l))
    else Gives (walked On os m)

abbrev pub standing : FromFiles Stand → FromFiles Walked
standing asking = and_then asking (λ s. Gives (going_on s))

-- directives of conditionals that expand nothing
unfoldable pub is_group : OutToken → Bool
is_group name =
    if is_word (codes "ifdef") name then true
    else (if is_word (codes "ifndef") name then true
    else (if is_word (codes "else") name then true else is_word (codes "endif") name))

unfoldable pub group_line : OutToken → List OutToken → List Open → Made → Stand
group_line name ts os m =
    if is_word (codes "ifdef") name then ifdef_group name true ts os m
    else (if is_word (codes "ifndef") name then ifdef_group name false ts os m
    else (if is_word (codes "else") name then else_group name ts os m
    else endif_line name ts os m))

unfoldable pub named_line : List (List ℕ) → Bool → Text → OutToken → List OutToken → List Open → Made → FromFiles Walked
named_line folders deep text name ts os m =
    if is_word (codes "if") name then standing (if_group text name ts os m)
    else (if is_word (codes "elif") name then standing (elif_group text name ts os m)
    else (if is_group name then Gives (going_on (group_line name ts os m))
    else other_line folders deep text name ts os m))

-- the group in which a directive stands is taken; one that goes on with a conditional, or ends it, stands where that does
abbrev pub goes_on : OutToken → Bool
goes_on t = is_word (codes "elif") t || (is_word (codes "else") t || is_word (codes "endif") t)

abbrev pub stands_taken : OutToken → List Open → Bool
stands_taken t os = if goes_on t then outer_taken os else is_taken os

-- `#` alone is no directive (6.10.7); without a name it is rule 221
abbrev pub by_name : List (List ℕ) → Bool → Text → OutToken → OutToken → List OutToken → List Open → Made → FromFiles Walked
by_name folders deep text hash t ts os m =
    if is_ident t.kind then named_line folders deep text t ts os m
    else Gives (walked On os (fault_where (is_taken os) 221 hash.site m))

abbrev pub directive : List (List ℕ) → Bool → Text → OutToken → List OutToken → List Open → Made → FromFiles Walked
directive folders deep text hash [] os m = Gives (walked On os m)
directive folders deep text hash (t ∷ ts) os m =
    by_name folders deep text hash t ts os (open_where (stands_taken t os) (t ∷ ts) m)

abbrev pub text_lines : Text → List OutToken → List Open → Made → FromFiles Walked
text_lines text ts os m =
    if is_taken os then and_then (run_of text ts m) (λ n. Gives (walked On os n)) else Gives (walked On os m)

abbrev pub part : List (List ℕ) → Bool → Text → Part → List Open → Made → FromFiles Walked
part folders deep text (Run ts) os m = text_lines text ts os m
part folders deep text (Directive hash ts) os m = directive folders deep text hash ts os m

-- what reads the tokens of a text
abbrev pub Reader : Type 0
Reader = Text → List PpToken → Made → FromFiles Made

abbrev pub tokens_of : Source → FromFiles (List PpToken)
tokens_of (File path) = asks_one {kind = files} (file.Text path) (λ ts. Gives ts)
tokens_of (Own text) = Gives (own_tokens text)

-- a text is entered by a token
abbrev pub read_in : Source → Made → Made
read_in (File path) m = with_read path m
read_in (Own text) m = m

abbrev pub with_entry : List ℕ → TokId → Made → Made
with_entry name by m = record m { entered = m.entered ++ (record { file = name; by = by }) ∷ [] }

abbrev pub entering : Text → TokId → List PpToken → Made → Made
entering text by ts m = with_entry text.name by (spent (length ts) (read_in text.source m))

-- in a text at the greatest depth there is no reader, and no text is entered
abbrev pub enter : Option Reader → Lead → Made → FromFiles Made
enter reader On m = Gives m
enter None (Into text by) m = Gives m
enter (Some read) (Into text by) m = and_then (tokens_of text.source) (λ ts. read text ts (entering text by ts m))

-- a text from one of its parts on
abbrev pub walk : List (List ℕ) → Option Reader → Text → List Part → List Open → Made → FromFiles Made
walk folders reader text [] os m = Gives (unclosed os m)
walk folders reader text (p ∷ ps) os m =
    and_then (part folders (is_some reader) text p os m) (λ w.
    and_then (enter reader w.lead w.made) (λ n. walk folders reader text ps w.open_ones n))

-- a text in which texts are entered so deep at most
abbrev pub text_tokens : List (List ℕ) → ℕ → Reader
text_tokens folders zero text ts m = walk folders None text (parts text.name ts) [] m
text_tokens folders (suc depth) text ts m = walk folders (Some (text_tokens folders depth)) text (parts text.name ts) [] m

-- what reads the texts that are entered there
abbrev pub reader_at : List (List ℕ) → ℕ → Option Reader
reader_at folders zero = None
reader_at folders (suc depth) = Some (text_tokens folders depth)

abbrev pub is_deep : ℕ → Bool
is_deep zero = false
is_deep (suc depth) = true

abbrev pub greatest_depth : ℕ
greatest_depth = 200

-- the lines of `<command>`: those that each unit has, and its own definitions
abbrev pub given : List ℕ
given =
    codes "#define __STDC__ 1\n" ++ codes "#define __STDC_VERSION__ 201112L\n" ++ codes "#define __STDC_HOSTED__ 1\n"
    ++ codes "#define __STDC_NO_ATOMICS__ 1\n" ++ codes "#define __STDC_NO_COMPLEX__ 1\n"
    ++ codes "#define __STDC_NO_THREADS__ 1\n" ++ codes "#define __STDC_NO_VLA__ 1\n"
    ++ codes "#define __DATE__ \"Jan  1 1970\"\n" ++ codes "#define __TIME__ \"00:00:00\"\n"

abbrev pub set_line : List ℕ → List ℕ → List ℕ
set_line name text = codes "#define " ++ (name ++ (codes " " ++ (text ++ codes "\n")))

abbrev pub unset_line : List ℕ → List ℕ
unset_line name = codes "#undef " ++ (name ++ codes "\n")

abbrev pub line_of : Define → List ℕ
line_of (Set name text) = set_line name text
line_of (Unset name) = unset_line name

abbrev pub lines_of : List Define → List ℕ
lines_of [] = []
lines_of (d ∷ ds) = line_of d ++ lines_of ds

abbrev pub command_text : List Define → List ℕ
command_text defines = given ++ lines_of defines

-- 207: so many replacements may be made in a unit
abbrev pub most_replacements : ℕ
most_replacements = 4000000

-- the number that stands for the front of a text
abbrev pub front : ℕ
front = 4294967295

abbrev pub at_first : List ℕ → Made
at_first path = record {
  table = map.empty;
  tokens = [];
  faults = [];
  reads = path ∷ [];
  spelled = [];
  entered = (record { file = command; by = token path front }) ∷ [];
  macros = [];
  left = most_replacements;
  inclusion = whole_budget;
  exploded = false;
  once = [];
  libraries = [];
  full = false;
}

abbrev pub told : Made → UnitTokens
told m = record {
  tokens = m.tokens;
  faults = m.faults;
  reads = m.reads;
  spelled = m.spelled;
  entered = m.entered;
  macros = m.macros;
}

abbrev pub read_text : List (List ℕ) → Text → Made → FromFiles Made
read_text folders text m = and_then (tokens_of text.source) (λ ts. text_tokens folders greatest_depth text ts m)

abbrev pub command_of : List Define → Text
command_of defines = record { name = command; source = Own (command_text defines) }

abbrev pub file_of : List ℕ → Text
file_of path = record { name = path; source = File path }

-- `<command>`, and then the unit's own text
abbrev pub unit_tokens : UnitConf → FromFiles UnitTokens
unit_tokens conf =
    and_then (read_text conf.includes (command_of conf.defines) (at_first conf.file)) (λ m.
    and_then (read_text conf.includes (file_of conf.file) m) (λ n. Gives (told n)))
