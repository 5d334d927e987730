-- Numbers by which keys are told apart before they are compared. Nothing depends on which these are: keys that are the same have the same.
use Rattle.std.specs.Prelude.{ℕ, ◌+◌, ◌*◌, ◌%◌, List}
use Rattle.std.specs.Hash.FoldHasher.{initial, write}
use Rattle.tok_data.specs.declared.sources.TokId.{TokId}
use Rattle.scope_tables.specs.declared.entities.Anchor.{Anchor}
use Rattle.scope_tables.specs.declared.entities.Anchor.TheVariants as anchor
use Rattle.scope_tables.specs.declared.entities.Entity.{Entity}
use Rattle.scope_tables.specs.declared.entities.Occ.{Occ}

unfoldable pub text_code : List ℕ → ℕ
text_code text = (write initial text).state % 0x1_0000_0000

unfoldable pub token_code : TokId → ℕ
token_code t = (text_code t.file + (t.at * 0x9e37_79b1) % 0x1_0000_0000) % 0x1_0000_0000

unfoldable pub anchor_code : Anchor → ℕ
anchor_code (anchor.External name) = text_code name
anchor_code (anchor.Local tok) = token_code tok
anchor_code (anchor.Made tok name) = (token_code tok + text_code name) % 0x1_0000_0000
anchor_code (anchor.Macro name) = text_code name

abbrev pub by_token : Occ → ℕ
by_token o = token_code o.tok

abbrev pub by_anchor : Occ → ℕ
by_anchor o = anchor_code o.anchor

abbrev pub by_name : Entity → ℕ
by_name e = anchor_code e.anchor
