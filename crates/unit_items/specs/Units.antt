-- A unit as far as its items tell their tokens: its output tokens and its items.
use Rattle.std.specs.Prelude.{List}
use Rattle.tok_data.specs.declared.tokens.OutToken.{OutToken}
use Rattle.unit_items.specs.declared.items.Item.{Item}

pub record Unit : Type 0 where
  pub tokens : List OutToken
  pub items : List Item
