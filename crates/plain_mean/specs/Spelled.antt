-- The marks of the tokens that `#` spelled in a unit (ISO C11 6.10.3.2). A mark denotes nothing: its anchor is the token itself, by the spelling that the text
-- had when the unit was told of it. So the marks follow from the answers that the unit got, as its tokens do.
use Rattle.std.specs.Prelude.{ℕ, List, [], map, Option, None, Some, slice_get, unwrap_or, if◌then◌else◌}
use Rattle.std.specs.List.{list_any}
use Rattle.asking.specs.LookUps.{Given}
use Rattle.include_units.specs.Files.{Question, Text, files, same}
use Rattle.include_units.specs.Named.{tokens_named}
use Rattle.project_conf.specs.declared.options.Define.{Define}
use Rattle.scope_tables.specs.declared.entities.Anchor.TheVariants as anchor
use Rattle.scope_tables.specs.declared.entities.Occ.{Occ}
use Rattle.scope_tables.specs.declared.entities.Role.TheVariants as role
use Rattle.tok_data.specs.declared.sources.TokId.{TokId}
use Rattle.tok_data.specs.declared.tokens.PpToken.{PpToken}

-- ---- the texts of a unit

-- the path of a text of the session, where its tokens were asked for
unfoldable pub told_path : List Question → List ℕ → Option (List ℕ)
told_path asked name = if list_any (same (Text name)) asked then Some name else None

-- the answer was its tokens
abbrev pub told_tokens : Given files → Option (List ℕ) → List PpToken
told_tokens given None = []
told_tokens given (Some path) = given (Text path)

-- the tokens of the text that the unit reads under a name: one of the server's own, or one of the session
abbrev pub tokens_read : Given files → List Define → List Question → List ℕ → List PpToken
tokens_read given defines asked name = unwrap_or (tokens_named defines name) (told_tokens given (told_path asked name))

-- ---- marks, over the tokens of each text

abbrev pub spelling_of : Option PpToken → List ℕ
spelling_of None = []
spelling_of (Some token) = token.spelling

abbrev pub marked : TokId → List ℕ → Occ
marked t spelling = record { tok = t; anchor = anchor.Made t spelling; role = role.Spelled }

abbrev pub mark_in : List PpToken → TokId → Occ
mark_in tokens t = marked t (spelling_of (slice_get tokens t.at))

abbrev pub mark : (List ℕ → List PpToken) → TokId → Occ
mark read t = mark_in (read t.file) t

abbrev pub spelled_marks : Given files → List Define → List Question → List TokId → List Occ
spelled_marks given defines asked spelled = map (mark (tokens_read given defines asked)) spelled
