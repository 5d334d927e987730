-- Inclusion (ISO C11 6.10.2): where an `#include` leads.
use Rattle.std.specs.Prelude.{ℕ, ◌-◌, ◌==◌, nat_lt, ◌&&◌, not, Bool, true, false, List, [], ◌∷◌, ◌++◌, length, Option, Some, None, if◌then◌else◌, bytes_eq, codes}
use Rattle.std.specs.List.{position_or_len, before_first, after_first}
use Rattle.tok_data.specs.declared.sources.TokId.{TokId}
use Rattle.tok_data.specs.declared.tokens.OutToken.{OutToken}
use Rattle.uri_paths.specs.Paths.{within, beside}
use Rattle.lib_texts.specs.Texts.{library}
use Rattle.asking.specs.Asking.{Gives, asks_one, and_then}
use Rattle.include_units.specs.declared.inclusion.Header.{Header}
use Rattle.include_units.specs.declared.inclusion.Lead.{Lead}
use Rattle.include_units.specs.declared.inclusion.Lead.TheVariants.{On, Into}
use Rattle.include_units.specs.Files.{files, FromFiles, Exists}
use Rattle.include_units.specs.Texts.{Source, File, Own, Text}
use Rattle.include_units.specs.Made.{Made, with_fault, is_one_of}
use Rattle.include_units.specs.Runs.{Run, expanded_run}
pub use Rattle.include_units.specs.Runs.{run}

-- the spellings of tokens, joined by a space where white space stood, but before the first
abbrev pub spaced : OutToken → List ℕ
spaced t = if t.space_before then codes " " ++ t.spelling else t.spelling

abbrev pub joined_more : List OutToken → List ℕ
joined_more [] = []
joined_more (t ∷ ts) = spaced t ++ joined_more ts

abbrev pub joined : List OutToken → List ℕ
joined [] = []
joined (t ∷ ts) = t.spelling ++ joined_more ts

-- a header name without its delimiters, and whether these are quotes
pub record Name : Type 0 where
  pub quoted : Bool
  pub text : List ℕ

abbrev pub name : Bool → List ℕ → Name
name quoted text = record { quoted = quoted; text = text }

abbrev pub name_of : Header → Name
name_of h = name h.quoted h.text.now

-- what stands before a delimiter, with nothing behind that
abbrev pub up_to : ℕ → List ℕ → Option (List ℕ)
up_to end text =
    if nat_lt (position_or_len (λ c. c == end) text) (length text) && (length (after_first (λ c. c == end) text) == 0)
    then Some (before_first (λ c. c == end) text)
    else None

abbrev pub unless_empty : Bool → Option (List ℕ) → Option Name
unless_empty quoted None = None
unless_empty quoted (Some []) = None
unless_empty quoted (Some (c ∷ cs)) = Some (name quoted (c ∷ cs))

-- 6.4.7p1: `<` h-chars `>` or `"` q-chars `"`
abbrev pub header_name : List ℕ → Option Name
header_name [] = None
header_name (c ∷ cs) =
    if c == 60 then unless_empty false (up_to 62 cs) else (if c == 34 then unless_empty true (up_to 34 cs) else None)

-- where a name is looked for, in order: a name that begins with `/` at that path alone, one in quotes beside the text
-- first, and each in the unit's folders
abbrev pub is_absolute : List ℕ → Bool
is_absolute [] = false
is_absolute (c ∷ cs) = c == 47

abbrev pub maybe : Option (List ℕ) → List (List ℕ)
maybe None = []
maybe (Some path) = path ∷ []

abbrev pub beside_text : Source → List ℕ → List (List ℕ)
beside_text (File path) text = maybe (beside path text)
beside_text (Own own) text = []

abbrev pub beside_where : Bool → Source → List ℕ → List (List ℕ)
beside_where true source text = beside_text source text
beside_where false source text = []

abbrev pub in_folders : List (List ℕ) → List ℕ → List (List ℕ)
in_folders [] text = []
in_folders (folder ∷ folders) text = maybe (within folder text) ++ in_folders folders text

abbrev pub from_root : List ℕ → Option (List ℕ)
from_root text = within (codes "/") text

abbrev pub candidates : List (List ℕ) → Source → Name → List (List ℕ)
candidates folders source name =
    if is_absolute name.text then maybe (from_root name.text)
    else beside_where name.quoted source name.text ++ in_folders folders name.text

-- the first of these paths at which a text is held
abbrev pub first_held : List (List ℕ) → FromFiles (Option (List ℕ))
first_held [] = Gives None
first_held (path ∷ paths) = asks_one {kind = files} (Exists path) (λ held. if held then Gives (Some path) else first_held paths)

-- `<stddef.h>` is the name of a library text
abbrev pub library_name : List ℕ → List ℕ
library_name name = (codes "<" ++ name) ++ codes ">"

-- Where a directive leads, and what is made: `Into` is a text that is entered, by this token.
pub record Led : Type 0 where
  pub lead : Lead
  pub made : Made

abbrev pub led : Lead → Made → Led
led lead m = record { lead = lead; made = m }

-- a text that is read once by `#pragma once` isn't entered again
abbrev pub lead_to_file : TokId → List ℕ → Made → Led
lead_to_file by path m =
    if is_one_of m.once path then led On m else led (Into (record { name = path; source = File path }) by) m

-- each library text is read once, but `assert.h` (7.2p1)
abbrev pub is_read : List ℕ → Made → Bool
is_read name m = is_one_of m.libraries name && not (bytes_eq name (codes "assert.h"))

abbrev pub lead_to_own : TokId → List ℕ → List ℕ → Made → Led
lead_to_own by name text m =
    if is_read name m then led On m
    else led (Into (record { name = library_name name; source = Own text }) by)
    (record m { libraries = m.libraries ++ name ∷ [] })

-- a name that is nowhere is rule 222, with its delimiters
abbrev pub lead_to_library : TokId → List ℕ → List ℕ → Option (List ℕ) → Made → Led
lead_to_library by whole name None m = led On (with_fault 222 by whole m)
lead_to_library by whole name (Some text) m = lead_to_own by name text m

abbrev pub library_of : List ℕ → Option (List ℕ)
library_of text = if is_absolute text then None else library text

abbrev pub lead_to : TokId → List ℕ → List ℕ → Option (List ℕ) → Made → Led
lead_to by whole text (Some path) m = lead_to_file by path m
lead_to by whole text None m = lead_to_library by whole text (library_of text) m

abbrev pub found_by : List (List ℕ) → Source → Name → FromFiles (Option (List ℕ))
found_by folders source name = first_held (candidates folders source name)

abbrev pub search : List (List ℕ) → Text → TokId → List ℕ → Name → Made → FromFiles Led
search folders text by whole name m =
    and_then (found_by folders text.source name) (λ found. Gives (lead_to by whole name.text found m))

-- the inclusion budget of a unit: an `#include` takes so much, and one more for each token of the text that it enters
abbrev pub whole_budget : ℕ
whole_budget = 16777216

abbrev pub one_inclusion : ℕ
one_inclusion = 64

abbrev pub spent : ℕ → Made → Made
spent n m = record m { inclusion = m.inclusion - n }

-- where too little of the budget is left, the first such line is rule 223, and no later one enters anything
abbrev pub exploded : TokId → Made → Made
exploded by m = if m.exploded then m else with_fault 223 by [] (record m { exploded = true })

abbrev pub is_exploded : Made → Bool
is_exploded m = if m.exploded then true else nat_lt m.inclusion one_inclusion

-- a text that is entered at the greatest depth enters none (rule 223); `deep` says that this one isn't
abbrev pub include_name : List (List ℕ) → Bool → Text → TokId → List ℕ → Name → Made → FromFiles Led
include_name folders deep text by whole name m =
    if is_exploded m then Gives (led On (exploded by m))
    else (if deep then search folders text by whole name (spent one_inclusion m)
    else Gives (led On (with_fault 223 by [] (spent one_inclusion m))))

abbrev pub include_by : List (List ℕ) → Bool → Text → OutToken → TokId → List ℕ → Option Name → Made → FromFiles Led
include_by folders deep text directive by whole None m = Gives (led On (with_fault 221 directive.site [] m))
include_by folders deep text directive by whole (Some name) m = include_name folders deep text by whole name m

abbrev pub include_run : List (List ℕ) → Bool → Text → OutToken → TokId → Run → FromFiles Led
include_run folders deep text directive by r =
    include_by folders deep text directive by (joined r.tokens) (header_name (joined r.tokens)) r.made

-- 6.10.2p4: the tokens behind `include` are expanded, a header name too, which no macro replaces
abbrev pub include_line : List (List ℕ) → Bool → Text → OutToken → List OutToken → Made → FromFiles Led
include_line folders deep text directive [] m = Gives (led On (with_fault 221 directive.site [] m))
include_line folders deep text directive (t ∷ ts) m =
    and_then (expanded_run text (t ∷ ts) m) (λ r. include_run folders deep text directive t.site r)
