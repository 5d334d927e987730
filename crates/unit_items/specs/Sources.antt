-- What stands in an item, told by the tokens of the texts: an item names a token by its number in it, a unit by the text that spells it.
use Rattle.std.specs.Prelude.{ℕ, ◌+◌, List, Option, None, Some, option_map, bytes_eq, slice_get}
use Rattle.std.specs.List.{find}
use Rattle.scope_tables.specs.declared.entities.Anchor.{Anchor}
use Rattle.scope_tables.specs.declared.entities.Anchor.TheVariants as anchor
use Rattle.scope_tables.specs.declared.entities.Occ.{Occ}
use Rattle.scope_tables.specs.declared.entities.Role.{Role}
use Rattle.scope_tables.specs.declared.entities.Role.TheVariants as role
use Rattle.scope_tables.specs.Files.{text_of}
use Rattle.tok_data.specs.declared.sources.TokId.{TokId}
use Rattle.tok_data.specs.declared.tokens.OutToken.{OutToken}
use Rattle.tok_data.specs.declared.tokens.Spelt.{Spelt}
use Rattle.tok_data.specs.declared.tokens.Spelt.TheVariants as spelt
use Rattle.unit_items.specs.declared.items.Item.{Item}

-- where the item begins whose tokens are named by this text
unfoldable pub start_of : List Item → List ℕ → Option ℕ
start_of items file = option_map (λ item. item.start) (find (λ item. bytes_eq (text_of item.name) file) items)

abbrev pub behind : List OutToken → Option ℕ → ℕ → Option OutToken
behind tokens None at = None
behind tokens (Some start) at = slice_get tokens (start + at)

-- the output token that a token of an item is
abbrev pub output : List OutToken → List Item → TokId → Option OutToken
output tokens items tok = behind tokens (start_of items tok.file) tok.at

-- the token of a text that spells an output token, or on which it falls where it was made
abbrev pub spelt_or : Spelt → TokId → TokId
spelt_or (spelt.At tok) site = tok
spelt_or spelt.Made site = site

abbrev pub source : Option OutToken → TokId → TokId
source None tok = tok
source (Some t) tok = spelt_or t.spelt t.site

-- the anchor of what an output token declares first: that token, or for one that was made where it falls and its spelling
abbrev pub first_of : Spelt → OutToken → Anchor
first_of (spelt.At tok) t = anchor.Local tok
first_of spelt.Made t = anchor.Made t.site t.spelling

abbrev pub local : Option OutToken → TokId → Anchor
local None tok = anchor.Local tok
local (Some t) tok = first_of t.spelt t

abbrev pub anchored : List OutToken → List Item → Anchor → Anchor
anchored tokens items (anchor.External name) = anchor.External name
anchored tokens items (anchor.Local tok) = local (output tokens items tok) tok
anchored tokens items (anchor.Made tok name) = anchor.Made tok name
anchored tokens items (anchor.Macro name) = anchor.Macro name

-- a token that was made denotes where it falls (6.10.3.3)
abbrev pub role_by : Spelt → Role → Role
role_by (spelt.At tok) own = own
role_by spelt.Made own = role.Pasted

abbrev pub role_of : Option OutToken → Role → Role
role_of None own = own
role_of (Some t) own = role_by t.spelt own

abbrev pub occurrence : List OutToken → List Item → Occ → Occ
occurrence tokens items o = record {
  tok = source (output tokens items o.tok) o.tok;
  anchor = anchored tokens items o.anchor;
  role = role_of (output tokens items o.tok) o.role;
}
