-- What there is to check of a function's body, a step each (ISO C11 6.8). Tokens are given by their numbers.
use Rattle.std.specs.Prelude.{ℕ, Option}
use Rattle.tree_data.specs.Trees.{Tree, Heading}
use Rattle.stmt_acts.specs.declared.acts.Within.{Within}

pub data Act : Type 0 where
  -- a block begins, and the innermost one ends (6.8.2p2, 6.8.4p3, 6.8.5p5)
  Enter : Act
  Leave : Act
  -- an expression that is evaluated for its side effects (6.8.3p2, 6.8.5.3)
  Evaluate : Tree → Act
  -- the condition of an `if` (6.8.4.1p1), and of a loop (6.8.5p2), behind its keyword
  If_test : ℕ → Tree → Act
  Loop_test : ℕ → Tree → Act
  -- a `switch` begins, behind its keyword, with the expression that controls it, and the innermost one ends (6.8.4.2)
  Switch_on : ℕ → Tree → Act
  End_switch : Act
  -- labels (6.8.1): behind `case`, at `default`, and a name
  Case_label : ℕ → Tree → Act
  Default_label : ℕ → Act
  Label : ℕ → Act
  -- jumps (6.8.6): the name of the label, and the keyword of each other one
  Goto : ℕ → Act
  Continue : ℕ → Within → Act
  Break : ℕ → Within → Act
  Return : ℕ → Option Tree → Act
  -- a declaration in a block (6.8.2), and in the first part of a `for` (6.8.5p3)
  Declare : Heading → Act
  Declare_in_for : Heading → Act
