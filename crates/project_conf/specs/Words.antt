-- What the words of the command line say.
use Rattle.std.specs.Prelude.{ℕ, ◌^◌, Bool, false, ◌&&◌, nat_le, nat_lt, List, [], map, String, string_bytes, codes, Option, Some, None, is_none, is_some, option_map, option_and_then, unwrap_or, if◌then◌else◌}
use Rattle.std.specs.Option.{option_map_or}
use Rattle.std.specs.Str.Parse.{digits_value, without_leading_plus}
use Rattle.std.specs.declared.alloc.Global.{Global}
use Rattle.clap.specs.Words.{Row}
use Rattle.clap.specs.ValueTests.{is_numeral}
use Rattle.project_conf.specs.declared.options.Define.{Define}
use Rattle.project_conf.specs.declared.options.Options.{Options}
use Rattle.project_conf.specs.CommandLine.{are_taken, rows_in, given}
use Rattle.project_conf.specs.Lists.{folders_listed, defines_listed}
use Rattle.project_conf.specs.Options.{no_options}

-- the words as texts
abbrev pub texts : List (String Global) → List (List ℕ)
texts words = map string_bytes words

-- ---- what each option says, None where that isn't in the grammar

abbrev pub folders_given : Option (List ℕ) → Option (List (List ℕ))
folders_given None = Some []
folders_given (Some list) = folders_listed list

abbrev pub defines_given : Option (List ℕ) → Option (List Define)
defines_given None = Some []
defines_given (Some list) = defines_listed list

-- digits, which may have a `+` in front, of a number below 2^32
abbrev pub number_by : List ℕ → Option ℕ
number_by digits = if is_numeral digits && nat_lt (digits_value 10 digits) (2 ^ 32) then Some (digits_value 10 digits) else None

unfoldable pub number_in : List ℕ → Option ℕ
number_in text = number_by (without_leading_plus text)

-- own limits
abbrev pub run_of : ℕ → Option (Option ℕ)
run_of n = if nat_le 1 n && nat_le n 512 then Some (Some n) else None

-- the number of units of a generated run, where one is asked for
abbrev pub run_given : Option (List ℕ) → Option (Option ℕ)
run_given None = Some None
run_given (Some text) = option_and_then run_of (number_in text)

-- ---- all of them

abbrev pub by_rows : List Row → Option Options
by_rows rows =
    option_and_then (λ includes.
    option_and_then (λ defines.
    option_map (λ generate. record { includes = includes; defines = defines; generate = generate })
    (run_given (given (codes "generate") rows)))
    (defines_given (given (codes "define") rows)))
    (folders_given (given (codes "include") rows))

-- the options that words say, None where they aren't in the grammar
unfoldable pub options_in : List (List ℕ) → Option Options
options_in words = if are_taken words then by_rows (rows_in words) else None

-- the words are in the grammar of the command line
abbrev pub are_grammatical : List (List ℕ) → Bool
are_grammatical words = is_some (options_in words)

-- they are, and ask for no generated run
abbrev pub serves : List (List ℕ) → Bool
serves words = option_map_or (λ options. is_none options.generate) (options_in words) false

-- the options that they give
abbrev pub options_of : List (List ℕ) → Options
options_of words = unwrap_or (options_in words) no_options
