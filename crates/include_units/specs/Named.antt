-- Texts of the server's own, by the names under which units read them.
use Rattle.std.specs.Prelude.{ℕ, Bool, List, Option, Some, option_map, bytes_eq, if◌then◌else◌}
use Rattle.std.specs.List.{find}
use Rattle.std.specs.Option.{option_and_then}
use Rattle.lib_texts.specs.Texts.{names}
use Rattle.project_conf.specs.declared.options.Define.{Define}
use Rattle.tok_data.specs.declared.tokens.PpToken.{PpToken}
use Rattle.include_units.specs.Definitions.{command}
use Rattle.include_units.specs.Inclusion.{library_name, library_of}
use Rattle.include_units.specs.Own.{own_tokens}
use Rattle.include_units.specs.Units.{command_text}

abbrev pub is_named : List ℕ → List ℕ → Bool
is_named name header = bytes_eq (library_name header) name

-- the text of the header that a unit reads under this name
unfoldable pub library_named : List ℕ → Option (List ℕ)
library_named name = option_and_then library_of (find (is_named name) names)

-- the tokens of `<command>`, which is a unit's own by its definitions, or of a library text
unfoldable pub tokens_named : List Define → List ℕ → Option (List PpToken)
tokens_named defines name = if bytes_eq name command then Some (own_tokens (command_text defines)) else option_map own_tokens (library_named name)
