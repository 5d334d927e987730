-- What a judgement reads, and doesn't change: the item, the text that its tokens are named by, the tokens that trees number, and the scopes
-- round what is judged. Trees number these tokens from 0 on; the first of them is the token `base` of the item.
use Rattle.std.specs.Prelude.{ℕ, ◌+◌, List}
use Rattle.tok_data.specs.declared.sources.TokId.{TokId}
use Rattle.scope_tables.specs.Levels.{Scope}
use Rattle.tok_data.specs.declared.tokens.OutToken.{OutToken}
use Rattle.type_data.specs.declared.names.ItemName.{ItemName}
use Rattle.type_data.specs.declared.names.TagId.{TagId}
use Rattle.elab_state.specs.Tokens.{token}

pub record Context : Type 0 where
  pub item : ItemName
  pub file : List ℕ
  pub tokens : List OutToken
  pub base : ℕ
  pub outside : List Scope

-- the number in the item of what trees number n
abbrev pub number : Context → ℕ → ℕ
number c n = c.base + n

abbrev pub own_token : Context → ℕ → TokId
own_token c n = token c.file (number c n)

-- a tag that the item declares first is told by its token there
abbrev pub own_tag : Context → ℕ → TagId
own_tag c n = record { item = c.item; at = number c n }
