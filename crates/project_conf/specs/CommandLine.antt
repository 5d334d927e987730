-- The command line, as the kit's `clap` reads it: three long options with one value each, at most once, and nothing else.
use Rattle.std.specs.Prelude.{ℕ, Bool, true, List, codes, pos, Option, Some}
use Rattle.clap.specs.Words.{App, Row, Rule, fault_of, first_of, matches_of, new_app, new_rule, with_rule}
use Rattle.clap.specs.Simple.{on_top}
use Rattle.clap.specs.Walk.{is_empty}
use Rattle.clap.specs.declared.builder.value_parser.ValueParser.TheVariants.{Signed}

-- an option that is given by its name, `--NAME VALUE` or `--NAME=VALUE`
abbrev pub option_rule : List ℕ → Rule
option_rule name = record (new_rule name) { long = Some name }

-- the number of units of a generated run: a number below 2^32
abbrev pub generate_rule : Rule
generate_rule = record (new_rule (codes "generate")) { long = Some (codes "generate"); parser = Some (Signed (pos 0) (pos 4294967295)) }

-- no word is the program's name, and help and version are off
abbrev pub with_settings : App → App
with_settings app = on_top (λ s. record s { no_binary_name = true; disable_help_flag = true; disable_version_flag = true }) app

unfoldable pub command_line : App
command_line = with_settings (with_rule (with_rule (with_rule (new_app (codes "c11ls")) (option_rule (codes "include"))) (option_rule (codes "define"))) generate_rule)

-- the words are taken
unfoldable pub are_taken : List (List ℕ) → Bool
are_taken words = is_empty (fault_of command_line words)

-- the values of words that are taken
unfoldable pub rows_in : List (List ℕ) → List Row
rows_in words = matches_of command_line words

-- the text that an option has
abbrev pub given : List ℕ → List Row → Option (List ℕ)
given name rows = first_of name rows
