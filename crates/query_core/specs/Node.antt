-- The record of a key, as contracts see it.
use Rattle.std.specs.Prelude.{ℕ, Bool, List}

pub record Node (K V : Type 0) : Type 0 where
  pub key : K
  pub value : V
  -- the nodes that its run read, in the order of asking
  pub reads : List ℕ
  -- whether the key is an input
  pub input : Bool
  -- the revisions in which it was last verified, and in which its value last changed
  pub verified_at : ℕ
  pub changed_at : ℕ
