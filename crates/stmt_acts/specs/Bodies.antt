-- Which steps a function's body takes, in the order of its tokens (ISO C11 6.8, 6.9.1). A block, a selection statement, an iteration
-- statement and each of their substatements is a block (6.8.2p2, 6.8.4p3, 6.8.5p5).
use Rattle.std.specs.Prelude.{ℕ, List, [], ◌∷◌, ◌++◌, Option, Some, None}
use Rattle.tree_data.specs.Trees.{Tree}
use Rattle.tree_data.specs.Statements.{Statement, Statement_of, Core, Block_of, Expression_of, Goto_of, Continue_of, Break_of, Return_of, Do_of, Lead, Label_of, Case_of, Default_label_of, If_of, If_else_of, Switch_of, While_of, For_of, For_declaring_of, Leads, No_leads, Lead_then, Item, Declared_of, Stated_of, Items, No_items, Item_then}
use Rattle.stmt_acts.specs.declared.acts.Within.{Within}
use Rattle.stmt_acts.specs.Acts.{Act, Enter, Leave, Evaluate, If_test, Loop_test, Switch_on, End_switch, Case_label, Default_label, Label, Goto, Continue, Break, Return, Declare, Declare_in_for}
use Rattle.stmt_acts.specs.Withins.{nowhere, looped, switched}

-- an expression and the condition of a loop, if they are there
abbrev pub evaluated : Option Tree → List Act
evaluated None = []
evaluated (Some t) = Evaluate t ∷ []

abbrev pub tested : ℕ → Option Tree → List Act
tested k None = []
tested k (Some t) = Loop_test k t ∷ []

-- what the statement is within that a lead stands in front of
abbrev pub inside : Within → Lead → Within
inside w (Label_of n c) = w
inside w (Case_of k t c) = w
inside w (Default_label_of k c) = w
inside w (If_of k o t c) = w
inside w (If_else_of k o t c s e) = w
inside w (Switch_of k o t c) = switched w
inside w (While_of k o t c) = looped w
inside w (For_of k o x m y n z c) = looped w
inside w (For_declaring_of k o d y n z c) = looped w

abbrev pub all_inside : Within → Leads → Within
all_inside w No_leads = w
all_inside w (Lead_then l ls) = all_inside (inside w l) ls

-- behind that statement
abbrev pub back : Lead → List Act
back (Label_of n c) = []
back (Case_of k t c) = []
back (Default_label_of k c) = []
back (If_of k o t c) = Leave ∷ Leave ∷ []
back (If_else_of k o t c s e) = Leave ∷ Leave ∷ []
back (Switch_of k o t c) = Leave ∷ End_switch ∷ Leave ∷ []
back (While_of k o t c) = Leave ∷ Leave ∷ []
back (For_of k o x m y n z c) = Leave ∷ Leave ∷ []
back (For_declaring_of k o d y n z c) = Leave ∷ Leave ∷ []

abbrev pub all_back : Leads → List Act
all_back No_leads = []
all_back (Lead_then l ls) = all_back ls ++ back l

abbrev mutual
  pub statement : Within → Statement → List Act
  statement w (Statement_of ls c) = all_front w ls ++ (core (all_inside w ls) c ++ all_back ls)

  pub all_front : Within → Leads → List Act
  all_front w No_leads = []
  all_front w (Lead_then l ls) = front w l ++ all_front (inside w l) ls

  -- in front of the statement that a lead stands in front of; between the two statements of an `if` one block ends and one begins
  pub front : Within → Lead → List Act
  front w (Label_of n c) = Label n ∷ []
  front w (Case_of k t c) = Case_label k t ∷ []
  front w (Default_label_of k c) = Default_label k ∷ []
  front w (If_of k o t c) = Enter ∷ If_test k t ∷ Enter ∷ []
  front w (If_else_of k o t c s e) = Enter ∷ If_test k t ∷ Enter ∷ (statement w s ++ (Leave ∷ Enter ∷ []))
  front w (Switch_of k o t c) = Enter ∷ Switch_on k t ∷ Enter ∷ []
  front w (While_of k o t c) = Enter ∷ Loop_test k t ∷ Enter ∷ []
  front w (For_of k o x m y n z c) = Enter ∷ (evaluated x ++ (tested k y ++ (evaluated z ++ (Enter ∷ []))))
  front w (For_declaring_of k o d y n z c) = Enter ∷ Declare_in_for d ∷ (tested k y ++ (evaluated z ++ (Enter ∷ [])))

  pub core : Within → Core → List Act
  core w (Block_of o is c) = Enter ∷ (items w is ++ (Leave ∷ []))
  core w (Expression_of e m) = evaluated e
  core w (Goto_of k n m) = Goto n ∷ []
  core w (Continue_of k m) = Continue k w ∷ []
  core w (Break_of k m) = Break k w ∷ []
  core w (Return_of k e m) = Return k e ∷ []
  core w (Do_of k s v o t c m) = Enter ∷ Enter ∷ (statement (looped w) s ++ (Leave ∷ Loop_test k t ∷ Leave ∷ []))

  pub items : Within → Items → List Act
  items w No_items = []
  items w (Item_then i is) = item w i ++ items w is

  pub item : Within → Item → List Act
  item w (Declared_of d) = Declare d ∷ []
  item w (Stated_of s) = statement w s

-- what stands between the braces of a block that nothing stands in front of
abbrev pub items_in_core : Core → Option Items
items_in_core (Block_of o is c) = Some is
items_in_core (Expression_of e m) = None
items_in_core (Goto_of k n m) = None
items_in_core (Continue_of k m) = None
items_in_core (Break_of k m) = None
items_in_core (Return_of k e m) = None
items_in_core (Do_of k s v o t c m) = None

abbrev pub items_in : Statement → Option Items
items_in (Statement_of No_leads c) = items_in_core c
items_in (Statement_of (Lead_then l ls) c) = None

abbrev pub body_by : Statement → Option Items → List Act
body_by s (Some is) = items nowhere is
body_by s None = statement nowhere s

-- the block of a function's body is the one in which its parameters are declared (6.2.1p4), so it is none of its own
abbrev pub body : Statement → List Act
body s = body_by s (items_in s)
