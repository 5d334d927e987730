-- The items of a unit, in order: what their heads and their bodies mean.
use Rattle.std.specs.Prelude.{List}
use Rattle.scope_tables.specs.declared.meanings.BodyMeaning.{BodyMeaning}
use Rattle.scope_tables.specs.declared.meanings.HeadMeaning.{HeadMeaning}

pub record Items : Type 0 where
  pub heads : List HeadMeaning
  pub bodies : List BodyMeaning
