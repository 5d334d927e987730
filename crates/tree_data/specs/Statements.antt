-- Trees of statements, without addresses (ISO C11 6.8). A statement is what stands in front of it, and what ends it: each production in which a statement stands last is a lead,
-- and each other one a core. So labels, `else if`, and loops within one another without braces are one list.
use Rattle.std.specs.Prelude.{ℕ, Bool, true, false, ◌&&◌, List, [], ◌∷◌, Option}
use Rattle.tree_data.specs.Trees.{Tree, Heading}

mutual
  pub data Statement : Type 0 where
    Statement_of : Leads → Core → Statement

  -- `{ items }` (6.8.2); an expression, if there is one, and `;` (6.8.3); the jumps (6.8.6); `do statement while ( expression ) ;` (6.8.5)
  pub data Core : Type 0 where
    Block_of : ℕ → Items → ℕ → Core
    Expression_of : Option Tree → ℕ → Core
    Goto_of : ℕ → ℕ → ℕ → Core
    Continue_of : ℕ → ℕ → Core
    Break_of : ℕ → ℕ → Core
    Return_of : ℕ → Option Tree → ℕ → Core
    Do_of : ℕ → Statement → ℕ → ℕ → Tree → ℕ → ℕ → Core

  -- labels (6.8.1); `if` without an `else`, and `if` with one and the statement in front of it; `switch` (6.8.4); loops (6.8.5)
  pub data Lead : Type 0 where
    Label_of : ℕ → ℕ → Lead
    Case_of : ℕ → Tree → ℕ → Lead
    Default_label_of : ℕ → ℕ → Lead
    If_of : ℕ → ℕ → Tree → ℕ → Lead
    If_else_of : ℕ → ℕ → Tree → ℕ → Statement → ℕ → Lead
    Switch_of : ℕ → ℕ → Tree → ℕ → Lead
    While_of : ℕ → ℕ → Tree → ℕ → Lead
    For_of : ℕ → ℕ → Option Tree → ℕ → Option Tree → ℕ → Option Tree → ℕ → Lead
    For_declaring_of : ℕ → ℕ → Heading → Option Tree → ℕ → Option Tree → ℕ → Lead

  pub data Leads : Type 0 where
    No_leads : Leads
    Lead_then : Lead → Leads → Leads

  -- 6.8.2 block-item
  pub data Item : Type 0 where
    Declared_of : Heading → Item
    Stated_of : Statement → Item

  pub data Items : Type 0 where
    No_items : Items
    Item_then : Item → Items → Items

-- some in front of others
abbrev pub leads : List Lead → Leads → Leads
leads [] more = more
leads (l ∷ ls) more = Lead_then l (leads ls more)

abbrev pub items : List Item → Items
items [] = No_items
items (i ∷ is) = Item_then i (items is)

-- a statement with nothing in front of it, and one with more in front of it
abbrev pub bare : Core → Statement
bare c = Statement_of No_leads c

abbrev pub led : List Lead → Statement → Statement
led ls (Statement_of more c) = Statement_of (leads ls more) c

-- no `if` without an `else` is among the leads, so an `else` behind the statement is none of its own (6.8.4.1p3)
abbrev pub takes_no_else : Lead → Bool
takes_no_else (Label_of n c) = true
takes_no_else (Case_of k t c) = true
takes_no_else (Default_label_of k c) = true
takes_no_else (If_of k o t c) = false
takes_no_else (If_else_of k o t c s e) = true
takes_no_else (Switch_of k o t c) = true
takes_no_else (While_of k o t c) = true
takes_no_else (For_of k o x m y n z c) = true
takes_no_else (For_declaring_of k o d y n z c) = true

abbrev pub take_no_else : Leads → Bool
take_no_else No_leads = true
take_no_else (Lead_then l ls) = takes_no_else l && take_no_else ls

abbrev pub is_closed : Statement → Bool
is_closed (Statement_of ls c) = take_no_else ls
