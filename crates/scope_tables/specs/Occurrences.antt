-- What an occurrence says of a token (ISO C11 6.2.1p1).
use Rattle.std.specs.Prelude.{Bool, true, false, ◌&&◌}
use Rattle.tok_data.specs.declared.sources.TokId.{TokId}
use Rattle.tok_data.specs.contracts.sources.TokIdPartialEq.TheImpl as toks
use Rattle.scope_tables.specs.declared.entities.Anchor.{Anchor}
use Rattle.scope_tables.specs.declared.entities.Occ.{Occ}
use Rattle.scope_tables.specs.declared.entities.Role.{Role}
use Rattle.scope_tables.specs.declared.entities.Role.TheVariants as role
use Rattle.scope_tables.specs.contracts.entities.AnchorPartialEq.TheImpl as anchors

abbrev pub same_tok : TokId → TokId → Bool
same_tok s t = toks.eq-value.it s t

abbrev pub same_anchor : Anchor → Anchor → Bool
same_anchor a b = anchors.eq-value.it a b

-- the other roles mark tokens that were made or spelled
abbrev pub counts : Role → Bool
counts role.Defines = true
counts role.Declares = true
counts role.Uses = true
counts role.Pasted = false
counts role.Spelled = false

-- the token denotes an entity there
abbrev pub is_at : TokId → Occ → Bool
is_at t o = counts o.role && same_tok o.tok t
